-- One step of the walk of a path: the edge of a world for the next user.
use Rattle.std.proofs.Common.{◌≡◌, ◌∙◌, ℕ, ◌+◌, ◌-◌, ◌<◌, ◌^◌, Bool, true, ◌&&◌, List, [], ◌∷◌, ◌++◌, refl, ap, sym, suc, zero, arith, length, take, get_or, Option, Some, None}
use Rattle.std.specs.List.{list_all}
use Rattle.std.specs.Option.{option_map}
use Rattle.std.proofs.lemmas.Bool.{and_parts}
use Rattle.bdb_base.specs.Alternation.{alternates, begins_otherwise}
use Rattle.bdb_base.specs.Causes.{Rises, RoseBy}
use Rattle.bdb_base.specs.States.{deepest_suffix}
use Rattle.bdb_base.proofs.OptionLemmas.{none_is_some, same_some}
use Rattle.bdb_paths.proofs.SuffixLemmas.{suffixes_extend, deepest_is_suffix}
use Rattle.bdb_keep.specs.Tables.{Tables}
use Rattle.bdb_tables.specs.Codec.{HasAt}
use Rattle.bdb_tables.specs.InUse.{IsPair, depth_codec, edge_codec}
use Rattle.bdb_tables.specs.Names.{Names, depth_of, number_of, is_named}
use Rattle.bdb_tables.specs.States.{HoldsStates}
use Rattle.bdb_names.proofs.Ends.{no_own_end, ends_otherwise}
use Rattle.bdb_names.proofs.NameLemmas.{edge_at, edge_is, deep_number}
use Rattle.bdb_worlds.specs.Holding.{EndsAt, HoldSome, LeadsTo, StandsFor, Worlds}
use Rattle.bdb_worlds.proofs.ReadLemmas.{depth_read, edge_read}

-- ---- parts of a path

pub take_next : (w : List ℕ) (k : ℕ) → k < length w → take (k + 1) w ≡ take k w ++ get_or w k 0 ∷ []
take_next w k l = let e : k + 1 ≡ suc k = omega arith in ap (λ n. take n w) e ∙ by w k l
  where
    by : (w : List ℕ) (k : ℕ) → k < length w → take (suc k) w ≡ take k w ++ get_or w k 0 ∷ []
    by [] k l = absurd (omega arith)
    by (x ∷ w) zero l = refl
    by (x ∷ w) (suc k) l = ap (λ (z : List ℕ). x ∷ z) (by w k (omega arith))

pub all_at : (f : ℕ → Bool) (w : List ℕ) (k : ℕ) → k < length w → list_all f w ≡ true → f (get_or w k 0) ≡ true
all_at f [] k l h = absurd (omega arith)
all_at f (x ∷ w) zero l h = (and_parts (f x) (list_all f w) h).0
all_at f (x ∷ w) (suc k) l h = all_at f w k (omega arith) (and_parts (f x) (list_all f w) h).1

pub alternates_front : (a b : List ℕ) → alternates (a ++ b) ≡ true → alternates a ≡ true
alternates_front [] b h = refl
alternates_front (x ∷ []) b h = refl
alternates_front (x ∷ y ∷ a) b h =
    let k = and_parts (begins_otherwise x (y ∷ a)) (alternates (y ∷ a ++ b)) h in
    ap (λ c. c && alternates (y ∷ a)) k.0 ∙ alternates_front (y ∷ a) b k.1

pub alternates_take : (w : List ℕ) (k : ℕ) → alternates w ≡ true → alternates (take k w) ≡ true
alternates_take w zero h = refl
alternates_take [] (suc k) h = refl
alternates_take (x ∷ []) (suc zero) h = refl
alternates_take (x ∷ []) (suc (suc k)) h = refl
alternates_take (x ∷ y ∷ w) (suc zero) h = refl
alternates_take (x ∷ y ∷ w) (suc (suc k)) h =
    let p = and_parts (begins_otherwise x (y ∷ w)) (alternates (y ∷ w)) h in
    ap (λ c. c && alternates (y ∷ take k w)) p.0 ∙ alternates_take (y ∷ w) (suc k) p.1

-- ---- counts

pub rises_more : (k a b c : ℕ) → Rises k a b → RoseBy 1 b c → Rises (k + 1) a c
rises_more k a b c h r small =
    let low : b < 2 ^ 64 - 1 = omega arith in
    let e = h low in
    omega arith

-- ---- one step

-- the edge of the number that stands for the deepest end leads to that of the path with the user
pub step_found : (users : ℕ → Bool) (ns : Names) (t : Tables) (w : List ℕ) (m i : ℕ) (found : Option ℕ) → HoldsStates users ns t → number_of ns (deepest_suffix (is_named ns) w) ≡ Some m
    → users i ≡ true → alternates (w ++ i ∷ []) ≡ true → HasAt edge_codec t (m, i) found → found ≡ number_of ns (deepest_suffix (is_named ns) (w ++ i ∷ []))
step_found users ns t w m i found h at user apart has =
    let v = deepest_suffix (is_named ns) w in
    let fits : IsPair (m, i) = record { first = h.names.sized v m at; second = h.numbers i user } in
    edge_read t _ _ _ h.tables (m, i) fits found has ∙ edge_at users ns m i v (h.names.numbered v m at)
    ∙ edge_is users ns i v user (ends_otherwise i v w (deepest_is_suffix (is_named ns) w) (no_own_end w i apart))
    ∙ ap (number_of ns) (sym (suffixes_extend (is_named ns) h.names.prefixes w i))

-- the part of a path up to one more user
module _ (t : Tables) (path : List ℕ) (k wid : ℕ) (apart : alternates path ≡ true) (short : k < length path) (so_far : LeadsTo t path (take k path) wid) where
  step_is : (s : Worlds) → HoldsStates s.users s.names t → list_all s.users path ≡ true → (found : Option ℕ) → HasAt edge_codec t (wid, get_or path k 0) found
      → found ≡ number_of s.names (deepest_suffix (is_named s.names) (take (k + 1) path))
  step_is s h own found has =
      let part = take_next path k short in
      step_found s.users s.names t (take k path) wid (get_or path k 0) found h (so_far s h own) (all_at s.users path k short own)
      (ap alternates (sym part) ∙ alternates_take path (k + 1) apart) has
      ∙ ap (λ w. number_of s.names (deepest_suffix (is_named s.names) w)) (sym part)

  pub step_leads : (target : ℕ) → HasAt edge_codec t (wid, get_or path k 0) (Some target) → LeadsTo t path (take (k + 1) path) target
  step_leads target has s h own = sym (step_is s h own (Some target) has)

  pub step_there : HoldSome t path → HasAt edge_codec t (wid, get_or path k 0) None → ⊥
  step_there some has =
      let s = some.worlds in
      let n = deep_number s.names some.states.names (take (k + 1) path) in
      none_is_some n.0 (step_is s some.states some.own None has ∙ n.1)

pub walk_begins : (t : Tables) (path : List ℕ) → LeadsTo t path [] 0
walk_begins t path s h own = h.names.root

-- ---- the depth of the state that is found

module _ (t : Tables) (path : List ℕ) (wid : ℕ) (stands : StandsFor t path wid) where
  abbrev deepest : Worlds → List ℕ
  deepest s = deepest_suffix (is_named s.names) path

  depth_is : (s : Worlds) → HoldsStates s.users s.names t → list_all s.users path ≡ true → (found : Option ℕ) → HasAt depth_codec t wid found → found ≡ Some (length (deepest s))
  depth_is s h own found has =
      let n = stands s h own in
      depth_read t (depth_of s.names) _ _ h.tables wid (h.names.sized (deepest s) wid n) found has
      ∙ ap (option_map (λ (w : List ℕ). length w)) (h.names.numbered (deepest s) wid n)

  pub depth_there : HoldSome t path → HasAt depth_codec t wid None → ⊥
  depth_there some none = none_is_some (length (deepest some.worlds)) (depth_is some.worlds some.states some.own None none)

  pub ends_at_it : (depth : ℕ) → HasAt depth_codec t wid (Some depth) → EndsAt t path path (wid, depth)
  ends_at_it depth has s h own =
      let e = depth_is s h own (Some depth) has in
      record { number = stands s h own; depth = same_some depth (length (deepest s)) e }
