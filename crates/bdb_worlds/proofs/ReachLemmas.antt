-- The longest prefix of a path that is a state.
use Rattle.std.proofs.Common.{◌≡◌, ◌∙◌, ℕ, ◌+◌, ◌≤◌, ◌<◌, Bool, true, false, List, [], ◌∷◌, refl, ap, sym, subst, suc, zero, arith, length, take, get_or, Option, Some, None}
use Rattle.std.specs.List.{list_all}
use Rattle.std.proofs.lemmas.Bool.{false_from_ne_true}
use Rattle.bdb_base.specs.Alternation.{alternates}
use Rattle.bdb_base.specs.States.{deepest_suffix}
use Rattle.bdb_base.proofs.OptionLemmas.{none_is_some, same_some}
use Rattle.bdb_paths.proofs.SuffixLemmas.{deepest_of_member, deepest_is_suffix}
use Rattle.bdb_keep.specs.Tables.{Tables}
use Rattle.bdb_tables.specs.Codec.{HasAt}
use Rattle.bdb_tables.specs.InUse.{edge_codec, depth_codec}
use Rattle.bdb_tables.specs.Names.{number_of, is_named}
use Rattle.bdb_tables.specs.States.{HoldsStates}
use Rattle.bdb_names.proofs.Ends.{whole_end}
use Rattle.bdb_names.proofs.NameLemmas.{is_named_by, deep_number, depth_at}
use Rattle.bdb_worlds.specs.Holding.{Worlds, HoldSome}
use Rattle.bdb_worlds.specs.Reach.{ReachesState}
use Rattle.bdb_worlds.proofs.ReadLemmas.{depth_read}
use Rattle.bdb_worlds.proofs.WalkLemmas.{take_next, all_at, alternates_take, step_found}

-- so many users of a path are a state of this number
abbrev pub ReachedTo : Tables → List ℕ → ℕ → ℕ → Type 0
ReachedTo t path len wid = (s : Worlds) → HoldsStates s.users s.names t → list_all s.users path ≡ true → number_of s.names (take len path) ≡ Some wid

pub reach_begins : (t : Tables) (path : List ℕ) → ReachedTo t path 0 0
reach_begins t path s h own = h.names.root

length-take-next : (w : List ℕ) (k : ℕ) → k < length w → length (take (k + 1) w) ≡ k + 1
length-take-next w k l = let e : k + 1 ≡ suc k = omega arith in ap (λ n. length (take n w)) e ∙ by w k l ∙ sym e
  where
    by : (w : List ℕ) (k : ℕ) → k < length w → length (take (suc k) w) ≡ suc k
    by [] k l = absurd (omega arith)
    by (x ∷ w) zero l = refl
    by (x ∷ w) (suc k) l = ap (λ n. suc n) (by w k (omega arith))

module _ (t : Tables) (path : List ℕ) (len wid : ℕ) (apart : alternates path ≡ true) (short : len < length path) (so_far : ReachedTo t path len wid) where
  -- the edge for the next user leads to the deepest end of the prefix with that user
  module _ (s : Worlds) (h : HoldsStates s.users s.names t) (own : list_all s.users path ≡ true) where
    abbrev P : List ℕ → Bool
    P = is_named s.names

    abbrev w : List ℕ
    w = take (len + 1) path

    led_is : (found : Option ℕ) → HasAt edge_codec t (wid, get_or path len 0) found → found ≡ number_of s.names (deepest_suffix P w)
    led_is found has =
        let v = take len path in
        let at = so_far s h own in
        let part = take_next path len short in
        step_found s.users s.names t v wid (get_or path len 0) found h (ap (number_of s.names) (deepest_of_member P v (is_named_by s.names v wid at)) ∙ at)
        (all_at s.users path len short own) (ap alternates (sym part) ∙ alternates_take path (len + 1) apart) has
        ∙ ap (λ x. number_of s.names (deepest_suffix P x)) (sym part)

    -- the depth of the world there is the length of that end
    deep_is : (target : ℕ) → HasAt edge_codec t (wid, get_or path len 0) (Some target) → (found : Option ℕ) → HasAt depth_codec t target found → found ≡ Some (length (deepest_suffix P w))
    deep_is target has found deep =
        let number = sym (led_is (Some target) has) in
        depth_read t _ _ _ h.tables target (h.names.sized (deepest_suffix P w) target number) found deep
        ∙ depth_at s.names target (deepest_suffix P w) (h.names.numbered (deepest_suffix P w) target number)

    same_depth : (target : ℕ) → HasAt edge_codec t (wid, get_or path len 0) (Some target) → HasAt depth_codec t target (Some (len + 1)) → deepest_suffix P w ≡ w
    same_depth target has deep =
        let e = same_some (len + 1) (length (deepest_suffix P w)) (deep_is target has (Some (len + 1)) deep) in
        let l = length-take-next path len short in
        whole_end (deepest_suffix P w) w (deepest_is_suffix P w) (omega arith)

    not_named : (target depth : ℕ) → HasAt edge_codec t (wid, get_or path len 0) (Some target) → HasAt depth_codec t target (Some depth) → (depth ≡ len + 1 → ⊥) → P w ≡ false
    not_named target depth has deep other = false_from_ne_true (P w) (λ named.
        let e = same_some depth (length (deepest_suffix P w)) (deep_is target has (Some depth) deep) in
        let l = length-take-next path len short in
        let d = ap length (deepest_of_member P w named) in
        other (omega arith))

  pub reached_more : (target : ℕ) → HasAt edge_codec t (wid, get_or path len 0) (Some target) → (depth : ℕ) → HasAt depth_codec t target (Some depth) → depth ≡ len + 1 → ReachedTo t path (len + 1) target
  reached_more target has depth deep e s h own =
      ap (number_of s.names) (sym (same_depth s h own target has (subst (λ d. HasAt depth_codec t target (Some d)) e deep))) ∙ sym (led_is s h own (Some target) has)

  pub reach_ends : (target depth : ℕ) → HasAt edge_codec t (wid, get_or path len 0) (Some target) → HasAt depth_codec t target (Some depth) → (depth ≡ len + 1 → ⊥) → ReachesState t path len wid
  reach_ends target depth has deep other s h own = record {
    within = omega arith;
    number = so_far s h own;
    longest = λ l. let e : suc len ≡ len + 1 = omega arith in ap (λ k. is_named s.names (take k path)) e ∙ not_named s h own target depth has deep other;
  }

  pub edge_is_there : HoldSome t path → HasAt edge_codec t (wid, get_or path len 0) None → ⊥
  edge_is_there some has =
      let s = some.worlds in
      let n = deep_number s.names some.states.names (take (len + 1) path) in
      none_is_some n.0 (led_is s some.states some.own None has ∙ n.1)

  pub depth_is_there : HoldSome t path → (target : ℕ) → HasAt edge_codec t (wid, get_or path len 0) (Some target) → HasAt depth_codec t target None → ⊥
  depth_is_there some target has deep = none_is_some _ (deep_is some.worlds some.states some.own target has None deep)

pub reach_whole : (t : Tables) (path : List ℕ) (len wid : ℕ) → length path ≤ len → ReachedTo t path len wid → (n : ℕ) → n ≡ length path → ReachesState t path n wid
reach_whole t path len wid all so_far n e s h own = record {
  within = omega arith;
  number = ap (number_of s.names) (both path len n all (omega arith)) ∙ so_far s h own;
  longest = λ l. absurd (omega arith);
}
  where
    both : (w : List ℕ) (k n : ℕ) → length w ≤ k → length w ≤ n → take n w ≡ take k w
    both [] zero zero a b = refl
    both [] (suc k) zero a b = refl
    both [] zero (suc n) a b = refl
    both [] (suc k) (suc n) a b = refl
    both (x ∷ w) zero n a b = absurd (omega arith)
    both (x ∷ w) (suc k) zero a b = absurd (omega arith)
    both (x ∷ w) (suc k) (suc n) a b = ap (λ (z : List ℕ). x ∷ z) (both w k n (omega arith) (omega arith))
