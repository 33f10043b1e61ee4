-- An edge of each world for a new user, one world after the other.
use Rattle.std.proofs.Common.{◌≡◌, ◌∙◌, ℕ, ◌+◌, ◌≤◌, ◌<◌, Bool, true, false, ◌&&◌, nat_eq, nat_lt, cond, List, refl, ap, sym, subst, inl, inr, arith, length, Option, Some, None}
use Rattle.std.specs.Option.{option_map, is_some}
use Rattle.std.specs.Ordering.{is_le}
use Rattle.std.specs.FinMap as tables
use Rattle.std.proofs.lemmas.Bool.{cases_Bool, and_right, false≢true, cond-true, cond-false, eqb-true, eqb-false, lt-ltb, le-ltb, cases_lt}
use Rattle.bdb_base.proofs.Numbers.{number_le}
use Rattle.bdb_base.proofs.BoolLemmas.{and_true}
use Rattle.bdb_keep.specs.Tables.{Tables}
use Rattle.bdb_key.specs.Bytes.{num_bytes}
use Rattle.bdb_key.specs.Grammar.{IsNum}
use Rattle.bdb_tables.specs.Codec.{HasFirst, IsFirst, place}
use Rattle.bdb_tables.specs.InUse.{depth_codec}
use Rattle.bdb_tables.specs.Names.{path_of, depth_of, link_of, edge_of}
use Rattle.bdb_tables.specs.States.{HoldsStates, TablesAre}
use Rattle.bdb_names.specs.Drops.{with_one_user}
use Rattle.bdb_names.specs.Turned.{edge_set, with_edge}
use Rattle.bdb_names.proofs.NameLemmas.{edge_found}
use Rattle.bdb_names.proofs.TurnedLemmas.{edge_set_is, tables_same}
use Rattle.bdb_names.proofs.UserLemmas.{edges_with_user, own_with_user}
use Rattle.bdb_worlds.specs.Holding.{Worlds}
use Rattle.bdb_worlds.specs.UserEdges.{IsNextNumber, HasNextNumber, AddsUser}
use Rattle.bdb_worlds.proofs.ReadLemmas.{le_number, none_unless}

-- ---- the next number

abbrev pub number_from_low : ℕ → ℕ → Bool
number_from_low low key = is_le (depth_codec.key_cmp low key)

pub number_none : (t : Tables) (low : ℕ) → HasFirst depth_codec t (number_from_low low) None → HasNextNumber t low None
number_none t low none k l fits = none k fits (number_le low k l)

pub number_some : (t : Tables) (low key row : ℕ) → IsFirst depth_codec t (number_from_low low) key row → HasNextNumber t low (Some key)
number_some t low key row first = record {
  fits = first.in_grammar;
  from = le_number low key first.passes;
  there = ap is_some first.found.found;
  least = λ k l b. none_unless (tables.get t (place depth_codec k)) (λ found.
      let small = first.in_grammar in
      let e = le_number key k (first.least k (omega arith) (number_le low k l) found) in
      absurd (omega arith));
}

pub number_at : (t u : Tables) (low : ℕ) (o p : Option ℕ) → u ≡ t → o ≡ p → HasNextNumber u low o → HasNextNumber t low p
number_at t u low o p e f h = subst (HasNextNumber t low) f (subst (λ x. HasNextNumber x low o) e h)

-- ---- rows of depths

pub path_absent : (o : Option (List ℕ)) → option_map num_bytes (option_map (λ (w : List ℕ). length w) o) ≡ None → o ≡ None
path_absent None e = refl
path_absent (Some w) e = absurd cc

pub path_present : (o : Option (List ℕ)) → is_some (option_map num_bytes (option_map (λ (w : List ℕ). length w) o)) ≡ true → is_some o ≡ true
path_present None e = e
path_present (Some w) e = refl

-- ---- the loop

-- the edges for a user of the worlds with numbers below `low` lead to the empty path
abbrev edges_to : Worlds → ℕ → ℕ → ℕ × ℕ → Option ℕ
edges_to s uid low q = cond (nat_eq q.1 uid && nat_lt q.0 low) (option_map {U = ℕ} (λ (w : List ℕ). 0) (path_of s.names q.0)) (edge_of s.users s.names q)

abbrev pub UserAddedTo : Tables → Tables → ℕ → ℕ → Type 0
UserAddedTo t u uid low = (s : Worlds) → HoldsStates s.users s.names t → s.users uid ≡ false → TablesAre u (depth_of s.names) (link_of s.names) (edges_to s uid low)

pub user_begins : (t : Tables) (uid : ℕ) → UserAddedTo t t uid 0
user_begins t uid s h new =
    tables_same t (depth_of s.names) (link_of s.names) (edge_of s.users s.names) (depth_of s.names) (link_of s.names) (edges_to s uid 0) (λ k. refl) (λ k. refl)
    (λ q. sym (cond-false (nat_eq q.1 uid && nat_lt q.0 0) (option_map {U = ℕ} (λ (w : List ℕ). 0) (path_of s.names q.0)) (edge_of s.users s.names q)
    (and_right (nat_eq q.1 uid) (nat_lt q.0 0) (le-ltb q.0 0 (omega arith))))) h.tables

-- no world has an edge for the new user
no_edge : (s : Worlds) (uid k : ℕ) → s.users uid ≡ false → edge_of s.users s.names (k, uid) ≡ None
no_edge s uid k new = by (edge_of s.users s.names (k, uid)) refl
  where
    by : (o : Option ℕ) → edge_of s.users s.names (k, uid) ≡ o → edge_of s.users s.names (k, uid) ≡ None
    by None e = e
    by (Some x) e = absurd (false≢true (sym new ∙ (edge_found s.users s.names k uid x e).user))

module _ (t u : Tables) (uid low : ℕ) (user_fits : IsNum uid) (so_far : UserAddedTo t u uid low) where
  -- numbers from `low` on below the next one stand for no path
  gap : (s : Worlds) → HoldsStates s.users s.names t → s.users uid ≡ false → (k : ℕ) → IsNum k → tables.get u (place depth_codec k) ≡ None → path_of s.names k ≡ None
  gap s h new k fits gone = path_absent (path_of s.names k) (sym ((so_far s h new).depth.rows k fits) ∙ gone)

  pub user_more : (wid high : ℕ) → high ≡ wid + 1 → IsNextNumber u low wid → (v : Tables) → v ≡ edge_set u None (Some 0) (wid, uid) → UserAddedTo t v uid high
  user_more wid high e next v is s h new =
      let tables_now = so_far s h new in
      let old : edges_to s uid low (wid, uid) ≡ None =
      let f = next.from in
      cond-false (nat_eq uid uid && nat_lt wid low) (option_map {U = ℕ} (λ (w : List ℕ). 0) (path_of s.names wid)) (edge_of s.users s.names (wid, uid)) (and_right (nat_eq uid uid) (nat_lt wid low) (le-ltb wid low f)) ∙ no_edge s uid wid new in
      let there = path_present (path_of s.names wid) (ap is_some (sym (tables_now.depth.rows wid next.fits)) ∙ next.there) in
      subst (λ x. TablesAre x (depth_of s.names) (link_of s.names) (edges_to s uid high)) (sym is)
      (tables_same _ (depth_of s.names) (link_of s.names) (with_edge (edges_to s uid low) (wid, uid) (Some 0)) (depth_of s.names) (link_of s.names) (edges_to s uid high) (λ k. refl) (λ k. refl)
      (same_edges s h new there)
      (edge_set_is u (depth_of s.names) (link_of s.names) (edges_to s uid low) None (Some 0) (wid, uid) (record { first = next.fits; second = user_fits }) zero_fits old tables_now))
    where
      zero_fits : IsNum 0
      zero_fits = omega arith

      there_is : (o : Option (List ℕ)) → is_some o ≡ true → option_map {U = ℕ} (λ (w : List ℕ). 0) o ≡ Some 0
      there_is None x = absurd (false≢true x)
      there_is (Some w) x = refl

      -- at the user, by where the number stands
      at_user : (s : Worlds) → HoldsStates s.users s.names t → s.users uid ≡ false → is_some (path_of s.names wid) ≡ true → (k : ℕ)
          → cond (nat_eq k wid) (Some 0) (cond (nat_lt k low) (option_map {U = ℕ} (λ (w : List ℕ). 0) (path_of s.names k)) (edge_of s.users s.names (k, uid)))
          ≡ cond (nat_lt k high) (option_map {U = ℕ} (λ (w : List ℕ). 0) (path_of s.names k)) (edge_of s.users s.names (k, uid))
      at_user s h new there k =
          let at = option_map {U = ℕ} (λ (w : List ℕ). 0) (path_of s.names k) in
          let edge = edge_of s.users s.names (k, uid) in
          elim (cases_Bool (nat_eq k wid)) [
            | inl same ↦
                let is_wid = eqb-true k wid same in
                cond-true (nat_eq k wid) (Some 0) (cond (nat_lt k low) at edge) same ∙ sym (ap (λ j. option_map {U = ℕ} (λ (w : List ℕ). 0) (path_of s.names j)) is_wid ∙ there_is (path_of s.names wid) there)
                ∙ sym (cond-true (nat_lt k high) at edge (lt-ltb k high (omega arith)))
            | inr other ↦
                let d = eqb-false k wid other in
                cond-false (nat_eq k wid) (Some 0) (cond (nat_lt k low) at edge) other ∙ elim (cases_lt k low) [
                  | inl b ↦ let f = next.from in cond-true (nat_lt k low) at edge (lt-ltb k low b) ∙ sym (cond-true (nat_lt k high) at edge (lt-ltb k high (omega arith)))
                  | inr b ↦ cond-false (nat_lt k low) at edge (le-ltb k low b) ∙ elim (cases_lt k high) [
                    | inl c ↦
                        let lt : k < wid = omega (arith, d) in
                        let fits = next.fits in
                        no_edge s uid k new ∙ sym (cond-true (nat_lt k high) at edge (lt-ltb k high c) ∙ ap (option_map {U = ℕ} (λ (w : List ℕ). 0)) (gap s h new k (omega arith) (next.least k b lt)))
                    | inr c ↦ sym (cond-false (nat_lt k high) at edge (le-ltb k high c))
                  ]
                ]
          ]

      same_edges : (s : Worlds) → HoldsStates s.users s.names t → s.users uid ≡ false → is_some (path_of s.names wid) ≡ true → (q : ℕ × ℕ)
          → with_edge (edges_to s uid low) (wid, uid) (Some 0) q ≡ edges_to s uid high q
      same_edges s h new there q =
          let at = option_map {U = ℕ} (λ (w : List ℕ). 0) (path_of s.names q.0) in
          let edge = edge_of s.users s.names q in
          elim (cases_Bool (nat_eq q.1 uid)) [
            | inl same ↦
                ap (λ b. cond (nat_eq q.0 wid && b) (Some 0) (cond (b && nat_lt q.0 low) at edge)) same
                ∙ ap (λ b. cond b (Some 0) (cond (nat_lt q.0 low) at edge)) (and_true (nat_eq q.0 wid))
                ∙ ap (λ j. cond (nat_eq q.0 wid) (Some 0) (cond (nat_lt q.0 low) at (edge_of s.users s.names (q.0, j)))) (eqb-true q.1 uid same)
                ∙ at_user s h new there q.0
                ∙ ap (λ j. cond (nat_lt q.0 high) at (edge_of s.users s.names (q.0, j))) (sym (eqb-true q.1 uid same))
                ∙ sym (ap (λ b. cond (b && nat_lt q.0 high) at edge) same)
            | inr other ↦
                ap (λ b. cond (nat_eq q.0 wid && b) (Some 0) (cond (b && nat_lt q.0 low) at edge)) other
                ∙ ap (λ b. cond b (Some 0) edge) (and_right (nat_eq q.0 wid) false refl)
                ∙ sym (ap (λ b. cond (b && nat_lt q.0 high) at edge) other)
          ]

  pub user_ends : HasNextNumber u low None → AddsUser t u uid
  user_ends none s h new = record {
    names = h.names;
    numbers = λ i e. elim (cases_Bool (nat_eq i uid)) [
      | inl same ↦ subst IsNum (sym (eqb-true i uid same)) user_fits
      | inr other ↦ h.numbers i (sym (ap (λ b. or_of b (s.users i)) other) ∙ e)
    ];
    own = own_with_user s.users s.names h.names uid new h.own;
    tables = tables_same u (depth_of s.names) (link_of s.names) (edges_to s uid low) (depth_of s.names) (link_of s.names) (edge_of (with_one_user s.users uid) s.names) (λ k. refl) (λ k. refl)
        (λ q. all_below s h new q ∙ sym (edges_with_user s.users s.names h.names uid new h.own q.0 q.1)) (so_far s h new);
  }
    where
      or_of : Bool → Bool → Bool
      or_of true b = true
      or_of false b = b

      above : (s : Worlds) → HoldsStates s.users s.names t → s.users uid ≡ false → (k : ℕ) → low ≤ k → path_of s.names k ≡ None
      above s h new k l = by (path_of s.names k) refl
        where
          by : (o : Option (List ℕ)) → path_of s.names k ≡ o → path_of s.names k ≡ None
          by None e = e
          by (Some w) e = let fits = h.names.sized w k (h.names.named k w e) in gap s h new k fits (none k l fits)

      all_below : (s : Worlds) → HoldsStates s.users s.names t → s.users uid ≡ false → (q : ℕ × ℕ)
          → edges_to s uid low q ≡ cond (nat_eq q.1 uid) (option_map {U = ℕ} (λ (w : List ℕ). 0) (path_of s.names q.0)) (edge_of s.users s.names (q.0, q.1))
      all_below s h new q =
          let at = option_map {U = ℕ} (λ (w : List ℕ). 0) (path_of s.names q.0) in
          let edge = edge_of s.users s.names q in
          elim (cases_Bool (nat_eq q.1 uid)) [
            | inr other ↦ ap (λ b. cond (b && nat_lt q.0 low) at edge) other ∙ sym (cond-false (nat_eq q.1 uid) at edge other)
            | inl same ↦ ap (λ b. cond (b && nat_lt q.0 low) at edge) same ∙ elim (cases_lt q.0 low) [
              | inl b ↦ cond-true (nat_lt q.0 low) at edge (lt-ltb q.0 low b) ∙ sym (cond-true (nat_eq q.1 uid) at edge same)
              | inr b ↦
                  cond-false (nat_lt q.0 low) at edge (le-ltb q.0 low b) ∙ ap (λ j. edge_of s.users s.names (q.0, j)) (eqb-true q.1 uid same) ∙ no_edge s uid q.0 new
                  ∙ sym (cond-true (nat_eq q.1 uid) at edge same ∙ ap (option_map {U = ℕ} (λ (w : List ℕ). 0)) (above s h new q.0 b))
            ]
          ]
