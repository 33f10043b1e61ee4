-- Which states are needed, whichever states the tables hold.
use Rattle.std.proofs.Common.{◌≡◌, ◌∙◌, ℕ, ◌+◌, ◌<◌, Bool, true, false, nat_eq, List, [], ◌∷◌, ◌++◌, refl, ap, sym, subst, inl, inr, arith, length, Option, Some, None}
use Rattle.std.specs.Bool.{MatchBool}
use Rattle.std.specs.Option.{option_map}
use Rattle.std.specs.FinMap as map
use Rattle.std.proofs.lemmas.Bool.{false≢true, false_from_ne_true, eqb-true, eqb-false, cases_lt}
use Rattle.bdb_base.specs.States.{deepest_suffix}
use Rattle.bdb_base.proofs.OptionLemmas.{none_is_some, same_some}
use Rattle.bdb_paths.proofs.SuffixLemmas.{deepest_of_member, deepest_is_suffix}
use Rattle.bdb_keep.specs.Tables.{Tables}
use Rattle.bdb_key.specs.Bytes.{num_bytes}
use Rattle.bdb_key.specs.Grammar.{IsNum}
use Rattle.bdb_tables.specs.Codec.{HasAt, HasRow, place}
use Rattle.bdb_tables.specs.Explicit.{TellsExplicit}
use Rattle.bdb_tables.specs.InUse.{depth_codec, edge_codec}
use Rattle.bdb_tables.specs.InUseLaws.{number_rows_are_one}
use Rattle.bdb_tables.specs.Names.{path_of, number_of, is_named, depth_of, edge_of}
use Rattle.bdb_tables.specs.States.{HoldsStates}
use Rattle.bdb_names.proofs.Ends.{whole_end, length_more, no_own_end}
use Rattle.bdb_names.proofs.NameLemmas.{number_is, is_named_by, depth_at, edge_at, edge_is, edge_found}
use Rattle.bdb_names.proofs.NamedLemmas.{user_of_end}
use Rattle.bdb_worlds.specs.Holding.{Worlds}
use Rattle.bdb_worlds.specs.Owns.{IsNextEdge, HasNextEdge}
use Rattle.bdb_worlds.specs.Reach.{LeadsDeep, HasDeepTarget}
use Rattle.bdb_worlds.specs.Staying.{TellsDepth, HasLonger, TellsLonger, IsNeeded, by_row, by_longer, TellsNeeded}
use Rattle.bdb_worlds.proofs.ReadLemmas.{edge_read, depth_read}

-- ---- depths

one_depth : (t : Tables) (n a b : ℕ) → HasRow depth_codec t n a → HasRow depth_codec t n b → a ≡ b
one_depth t n a b h k =
    let e : num_bytes a ≡ num_bytes b = same_some (num_bytes a) (num_bytes b) (sym h.found ∙ k.found) in
    number_rows_are_one a b h.in_grammar k.in_grammar e

pub depth_told : (t : Tables) (n depth found : ℕ) → HasAt depth_codec t n (Some found) → TellsDepth t n depth (nat_eq found depth)
depth_told t n depth found has = by (nat_eq found depth) refl
  where
    by : (b : Bool) → nat_eq found depth ≡ b → MatchBool b (HasRow depth_codec t n depth) (HasRow depth_codec t n depth → ⊥)
    by true e = subst (HasRow depth_codec t n) (eqb-true found depth e) has
    by false e = λ row. eqb-false found depth e (one_depth t n found depth has row)

pub depth_none : (t : Tables) (n depth : ℕ) → HasAt depth_codec t n None → TellsDepth t n depth false
depth_none t n depth has row = none_is_some (num_bytes depth) (sym has ∙ row.found)

-- ---- the edge to a state one user longer

-- a state one user longer stands at an edge, and is as deep
pub record IsAtEdge (t : Tables) (n i deeper : ℕ) : Type 0 where
  pub user : IsNum i
  pub target : ℕ
  pub deep : LeadsDeep t n i deeper target

module _ (s : Worlds) (t : Tables) (h : HoldsStates s.users s.names t) (p : List ℕ) (n : ℕ) (number : number_of s.names p ≡ Some n) where
  own_path : path_of s.names n ≡ Some p
  own_path = h.names.numbered p n number

  own_size : IsNum n
  own_size = h.names.sized p n number

  pub longer_stands : (i : ℕ) → is_named s.names (p ++ i ∷ []) ≡ true → IsAtEdge t n i (length p + 1)
  longer_stands i named =
      let x = number_is s.names (p ++ i ∷ []) named in
      let user = user_of_end s.users p i (h.own (p ++ i ∷ []) named) in
      let size = h.names.sized (p ++ i ∷ []) x.0 x.1 in
      let edge : edge_of s.users s.names (n, i) ≡ Some x.0 =
      edge_at s.users s.names n i p own_path ∙ edge_is s.users s.names i p user (no_own_end p i (h.names.apart (p ++ i ∷ []) named))
      ∙ ap (number_of s.names) (deepest_of_member (is_named s.names) (p ++ i ∷ []) named) ∙ x.1 in
      let long = length_more p i in
      let deep : length (p ++ i ∷ []) ≡ length p + 1 = omega arith in
      let depth : depth_of s.names x.0 ≡ Some (length p + 1) = depth_at s.names x.0 (p ++ i ∷ []) (h.names.numbered (p ++ i ∷ []) x.0 x.1) ∙ ap Some deep in
      let short = h.names.short (p ++ i ∷ []) named in
      record {
        user = h.numbers i user;
        target = x.0;
        deep = record {
          edge = record { in_grammar = size; found = h.tables.edge.rows (n, i) (record { first = own_size; second = h.numbers i user }) ∙ ap (option_map num_bytes) edge };
          deep = record { in_grammar = omega arith; found = h.tables.depth.rows x.0 size ∙ ap (option_map num_bytes) depth };
        };
      }

  pub leads_longer : (i x : ℕ) → IsNum i → LeadsDeep t n i (length p + 1) x → is_named s.names (p ++ i ∷ []) ≡ true
  leads_longer i x fits leads =
      let edge : edge_of s.users s.names (n, i) ≡ Some x = sym (edge_read t _ _ _ h.tables (n, i) (record { first = own_size; second = fits }) (Some x) leads.edge) in
      let found = edge_found s.users s.names n i x edge in
      let front : found.front ≡ p = same_some found.front p (sym found.path ∙ own_path) in
      let end = deepest_suffix (is_named s.names) (p ++ i ∷ []) in
      let target : number_of s.names end ≡ Some x = ap (λ v. number_of s.names (deepest_suffix (is_named s.names) (v ++ i ∷ []))) (sym front) ∙ found.target in
      let size = leads.edge.in_grammar in
      let deep : length p + 1 ≡ length end = same_some (length p + 1) (length end)
      (depth_read t _ _ _ h.tables x size (Some (length p + 1)) leads.deep ∙ depth_at s.names x end (h.names.numbered end x target)) in
      let long = length_more p i in
      let whole : end ≡ p ++ i ∷ [] = whole_end end (p ++ i ∷ []) (deepest_is_suffix (is_named s.names) (p ++ i ∷ [])) (omega arith) in
      is_named_by s.names (p ++ i ∷ []) x (ap (number_of s.names) (sym whole) ∙ target)

-- ---- the edges of a state, one after the other

-- whichever states the tables hold, none is longer by a user below `low`
abbrev pub NoneLongerTo : Tables → ℕ → ℕ → ℕ → Type 0
NoneLongerTo t n deeper low = (s : Worlds) (p : List ℕ) → HoldsStates s.users s.names t → number_of s.names p ≡ Some n → length p + 1 ≡ deeper
    → (i : ℕ) → i < low → is_named s.names (p ++ i ∷ []) ≡ false

pub longer_begins : (t : Tables) (n deeper : ℕ) → NoneLongerTo t n deeper 0
longer_begins t n deeper s p h number deep i l = absurd (omega arith)

pub next_edge_at : (t u : Tables) (wid low : ℕ) (o q : Option (ℕ × ℕ)) → u ≡ t → o ≡ q → HasNextEdge u wid low o → HasNextEdge t wid low q
next_edge_at t u wid low o q e f h = subst (HasNextEdge t wid low) f (subst (λ x. HasNextEdge x wid low o) e h)

pub depth_then : (t u : Tables) (n depth : ℕ) (b c : Bool) → u ≡ t → b ≡ c → TellsDepth u n depth b → TellsDepth t n depth c
depth_then t u n depth b c e f h = subst (TellsDepth t n depth) f (subst (λ x. TellsDepth x n depth b) e h)

module _ (t : Tables) (n deeper low : ℕ) (so_far : NoneLongerTo t n deeper low) where
  pub longer_found : (edge : ℕ × ℕ) → IsNextEdge t n low edge → TellsDepth t edge.1 deeper true → TellsLonger t n deeper true
  longer_found edge next deep s p h number is = record {
    user = edge.0;
    named = leads_longer s t h p n number edge.0 edge.1 next.fits (record {
      edge = record { in_grammar = next.target_fits; found = next.there };
      deep = subst (HasRow depth_codec t edge.1) (sym is) deep;
    });
  }

  one_target : (i x y : ℕ) → HasRow edge_codec t (n, i) x → HasRow edge_codec t (n, i) y → x ≡ y
  one_target i x y a b = number_rows_are_one x y a.in_grammar b.in_grammar (same_some (num_bytes x) (num_bytes y) (sym a.found ∙ b.found))

  pub longer_more : (edge : ℕ × ℕ) (high : ℕ) → high ≡ edge.0 + 1 → IsNextEdge t n low edge → TellsDepth t edge.1 deeper false → NoneLongerTo t n deeper high
  longer_more edge high e next other s p h number is i l = elim (cases_lt i low) [
    | inl b ↦ so_far s p h number is i b
    | inr b ↦ false_from_ne_true (is_named s.names (p ++ i ∷ [])) (λ named.
        let at = longer_stands s t h p n number i named in
        elim (cases_lt i edge.0) [
          | inl c ↦ none_is_some (num_bytes at.target) (sym (next.least i b c) ∙ at.deep.edge.found)
          | inr c ↦
              let same : edge.0 ≡ i = omega arith in
              let row : HasRow edge_codec t (n, i) edge.1 = record { in_grammar = next.target_fits; found = ap (λ j. map.get t (place edge_codec (n, j))) (sym same) ∙ next.there } in
              let target : at.target ≡ edge.1 = one_target i at.target edge.1 at.deep.edge row in
              other (subst (HasRow depth_codec t edge.1) is (subst (λ x. HasRow depth_codec t x (length p + 1)) target at.deep.deep))
        ])
  ]

  pub longer_ends : HasNextEdge t n low None → TellsLonger t n deeper false
  longer_ends none s p h number is longer = elim (cases_lt longer.user low) [
    | inl b ↦ false≢true (sym (so_far s p h number is longer.user b) ∙ longer.named)
    | inr b ↦
        let at = longer_stands s t h p n number longer.user longer.named in
        none_is_some (num_bytes at.target) (sym (none longer.user b at.user) ∙ at.deep.edge.found)
  ]

-- ---- both

pub needed_by_row : (t : Tables) (n deeper : ℕ) → TellsExplicit t n true → TellsNeeded t n deeper true
needed_by_row t n deeper row s p h number is = by_row row

pub needed_is : (t u : Tables) (n deeper : ℕ) (b : Bool) → u ≡ t → TellsExplicit t n false → TellsLonger u n deeper b → TellsNeeded t n deeper b
needed_is t u n deeper b e none longer s p h number is =
    by b (subst (λ x. TellsLonger x n deeper b) e longer s p h number is)
  where
    by : (b : Bool) → MatchBool b (HasLonger s.names p) (HasLonger s.names p → ⊥) → MatchBool b (IsNeeded t s.names p n) (IsNeeded t s.names p n → ⊥)
    by true l = by_longer l
    by false l = λ x. not_needed l x
      where
        not_needed : (HasLonger s.names p → ⊥) → IsNeeded t s.names p n → ⊥
        not_needed l (by_row x) = none x
        not_needed l (by_longer x) = l x

-- ---- the edge to a world of some depth

pub deep_none : (t : Tables) (wid uid depth : ℕ) → HasAt edge_codec t (wid, uid) None → HasDeepTarget t wid uid depth None
deep_none t wid uid depth has target leads = none_is_some (num_bytes target) (sym has ∙ leads.edge.found)

pub deep_some : (t u : Tables) (wid uid depth target : ℕ) → u ≡ t → HasAt edge_codec t (wid, uid) (Some target) → TellsDepth u target depth true → HasDeepTarget t wid uid depth (Some target)
deep_some t u wid uid depth target e has deep = record { edge = has; deep = subst (λ x. TellsDepth x target depth true) e deep }

pub deep_other : (t u : Tables) (wid uid depth target : ℕ) → u ≡ t → HasAt edge_codec t (wid, uid) (Some target) → TellsDepth u target depth false → HasDeepTarget t wid uid depth None
deep_other t u wid uid depth target e has other x leads =
    let same : x ≡ target = number_rows_are_one x target leads.edge.in_grammar has.in_grammar (same_some (num_bytes x) (num_bytes target) (sym leads.edge.found ∙ has.found)) in
    subst (λ y. TellsDepth y target depth false) e other (subst (λ y. HasRow depth_codec t y depth) same leads.deep)
