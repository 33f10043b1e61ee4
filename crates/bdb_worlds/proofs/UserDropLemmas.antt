-- The edge of each world for a user goes, one world after the other.
use Rattle.std.proofs.Common.{◌≡◌, ◌∙◌, ℕ, ◌+◌, ◌*◌, ◌≤◌, ◌<◌, Bool, true, false, not, ◌&&◌, nat_eq, nat_lt, cond, List, [], ◌∷◌, ◌++◌, length, refl, ap, sym, subst, inl, inr, arith, Option, Some, None}
use Rattle.std.specs.Option.{is_some}
use Rattle.std.specs.List.{list_all}
use Rattle.std.specs.FinMap as tables
use Rattle.std.proofs.lemmas.Bool.{cases_Bool, cases_lt, and_parts, and_from, and_right, or_cases, false≢true, false_from_ne_true, cond-true, cond-false, eqb-true, eqb-false, eq-eqb, ne_eqb, lt-ltb, le-ltb, or_parts}
use Rattle.bdb_base.specs.Causes.{Rises, RoseBy, is_listed}
use Rattle.bdb_base.specs.Same.{same_path}
use Rattle.bdb_base.specs.SameLemmas.{same_path-Decides}
use Rattle.bdb_base.specs.Segments.{is_suffix}
use Rattle.bdb_base.specs.States.{edge_target}
use Rattle.bdb_base.proofs.OptionLemmas.{some_of}
use Rattle.bdb_base.proofs.Numbers.{differs_turned}
use Rattle.bdb_base.proofs.BoolLemmas.{and_true}
use Rattle.bdb_keep.specs.Seen.{Seen}
use Rattle.bdb_keep.specs.Tables.{Tables}
use Rattle.bdb_key.specs.Grammar.{IsNum}
use Rattle.bdb_tables.specs.Codec.{HasAt, place}
use Rattle.bdb_tables.specs.InUse.{depth_codec, edge_codec}
use Rattle.bdb_tables.specs.Names.{Names, AreNames, path_of, number_of, is_named, depth_of, link_of, edge_of}
use Rattle.bdb_tables.specs.States.{HoldsStates, TablesAre}
use Rattle.bdb_names.specs.Turned.{edge_set, same_edge, with_edge}
use Rattle.bdb_names.proofs.NameLemmas.{path_is_named, deep_number, edge_at, edge_at_none, edge_is}
use Rattle.bdb_names.proofs.TurnedLemmas.{edge_set_is, tables_same, same_edge_is}
use Rattle.bdb_worlds.specs.Bounds.{EndsWithin}
use Rattle.bdb_worlds.specs.Holding.{Worlds}
use Rattle.bdb_worlds.specs.UserEdges.{IsNextNumber, HasNextNumber, without_one_user, MayLeave, DropsUser, WritesDropped, ReadsWorlds, DropsEdge, edge_dropped, edge_writes}
use Rattle.bdb_worlds.proofs.OutsideLemmas.{SameButEdges, edges_itself, edge_alone}
use Rattle.bdb_worlds.proofs.ReadLemmas.{edge_read}
use Rattle.bdb_worlds.proofs.UserEdgeLemmas.{path_absent, path_present}
use Rattle.bdb_worlds.proofs.UserWriteLemmas.{below, none_below, below_more, below_ends, twice_none, twice_more, twice_all}

abbrev nothing : Option ℕ
nothing = None

-- ---- edges and paths without a user

-- a path that doesn't name a user doesn't end in him
not_last : (i : ℕ) (w : List ℕ) → is_listed i w ≡ false → is_suffix (i ∷ []) w ≡ false
not_last i [] f = refl
not_last i (j ∷ w) f =
    let p = or_parts (nat_eq i j) (is_listed i w) f in
    false_from_ne_true (is_suffix (i ∷ []) (j ∷ w)) (λ t. elim (or_cases (same_path (i ∷ []) (j ∷ w)) (is_suffix (i ∷ []) w) t) [
      | inl e ↦ let is : i ≡ j = head_is i j w ((same_path-Decides (i ∷ []) (j ∷ w)).0 e) in false≢true (sym p.0 ∙ eq-eqb i j is)
      | inr e ↦ false≢true (sym (not_last i w p.1) ∙ e)
    ])
  where
    head_is : (i j : ℕ) (w : List ℕ) → i ∷ [] ≡ j ∷ w → i ≡ j
    head_is i j w e = cc

none_either : (b : Bool) → cond b nothing nothing ≡ nothing
none_either true = refl
none_either false = refl

module _ (users : ℕ → Bool) (ns : Names) (uid : ℕ) where
  abbrev less : ℕ → Bool
  less = without_one_user users uid

  edges_without_user : (k j : ℕ) → edge_of less ns (k, j) ≡ cond (nat_eq j uid) nothing (edge_of users ns (k, j))
  edges_without_user k j = by (path_of ns k) refl
    where
      by : (o : Option (List ℕ)) → path_of ns k ≡ o → edge_of less ns (k, j) ≡ cond (nat_eq j uid) nothing (edge_of users ns (k, j))
      by None e = edge_at_none less ns k j e ∙ sym (ap (λ o. cond (nat_eq j uid) nothing o) (edge_at_none users ns k j e) ∙ none_either (nat_eq j uid))
      by (Some w) e =
          let led = number_of ns (edge_target (is_named ns) w j) in
          let edge = edge_of users ns (k, j) in
          edge_at less ns k j w e ∙ elim (cases_Bool (nat_eq j uid)) [
            | inl t ↦ ap (λ b. cond ((not b && users j) && not (is_suffix (j ∷ []) w)) led nothing) t ∙ sym (cond-true (nat_eq j uid) nothing edge t)
            | inr f ↦
                ap (λ b. cond ((not b && users j) && not (is_suffix (j ∷ []) w)) led nothing) f
                ∙ sym (cond-false (nat_eq j uid) nothing edge f ∙ edge_at users ns k j w e)
          ]

  own_without_user : (w : List ℕ) → list_all users w ≡ true → is_listed uid w ≡ false → list_all less w ≡ true
  own_without_user [] h f = refl
  own_without_user (i ∷ w) h f =
      let u = and_parts (users i) (list_all users w) h in
      let p = or_parts (nat_eq uid i) (is_listed uid w) f in
      and_from (less i) (list_all less w) (and_from (not (nat_eq i uid)) (users i) (ap not (differs_turned uid i p.0)) u.0) (own_without_user w u.1 p.1)

  -- a world whose path doesn't name a user has an edge for him
  edge_for_user : AreNames ns → users uid ≡ true → (k : ℕ) (w : List ℕ) → path_of ns k ≡ Some w → is_listed uid w ≡ false → is_some (edge_of users ns (k, uid)) ≡ true
  edge_for_user names user k w e f =
      let deep = deep_number ns names (w ++ uid ∷ []) in
      ap is_some (edge_at users ns k uid w e ∙ edge_is users ns uid w user (not_last uid w f) ∙ deep.1)

-- ---- an edge that goes

-- edges without the one at a key that has none
none_there : (e : ℕ × ℕ → Option ℕ) (k q : ℕ × ℕ) → e k ≡ None → e q ≡ with_edge e k nothing q
none_there e k q gone = elim (cases_Bool (same_edge q k)) [
  | inl t ↦ ap e (same_edge_is q k t) ∙ gone ∙ sym (cond-true (same_edge q k) nothing (e q) t)
  | inr f ↦ sym (cond-false (same_edge q k) nothing (e q) f)
]

edge_dropped_is : (t : Tables) (d l : ℕ → Option ℕ) (e : ℕ × ℕ → Option ℕ) (o : Option ℕ) (k : ℕ × ℕ) → IsNum k.0 → IsNum k.1 → e k ≡ o → TablesAre t d l e
    → TablesAre (edge_dropped t o k) d l (with_edge e k nothing)
edge_dropped_is t d l e None k first second was h = tables_same t d l e d l (with_edge e k nothing) (λ _. refl) (λ _. refl) (λ q. none_there e k q was) h
edge_dropped_is t d l e (Some n) k first second was h = edge_set_is t d l e (Some n) None k (record { first = first; second = second }) tt was h

dropped_alone : (t : Tables) (o : Option ℕ) (k : ℕ × ℕ) → SameButEdges t (edge_dropped t o k)
dropped_alone t None k = edges_itself t
dropped_alone t (Some n) k = edge_alone t (Some n) None k

pub edge_alone_dropped : (u : Tables) (mid now : Seen) (k : ℕ × ℕ) → mid.kept ≡ u → DropsEdge mid now k → SameButEdges u now.kept
edge_alone_dropped u mid now k same d = subst (λ x. SameButEdges x now.kept) same (subst (SameButEdges mid.kept) (sym d.made) (dropped_alone mid.kept d.edge k))

no_write : (a b : ℕ) → b ≡ a → Rises 0 a b
no_write a b e less = omega arith

pub edge_absent : (old mid : Seen) (k : ℕ × ℕ) (o : Option ℕ) → o ≡ None → mid.kept ≡ old.kept → mid.writes ≡ old.writes → HasAt edge_codec old.kept k o → DropsEdge old mid k
edge_absent old mid k o none kept writes found = record { edge = None; found = subst (HasAt edge_codec old.kept k) none found; made = kept; count = no_write old.writes mid.writes writes }

pub edge_present : (old mid now : Seen) (k : ℕ × ℕ) (o : Option ℕ) (n : ℕ) → o ≡ Some n → mid.kept ≡ old.kept → mid.writes ≡ old.writes → HasAt edge_codec old.kept k o
    → now.kept ≡ edge_set mid.kept (Some n) None k → Rises 2 mid.writes now.writes → DropsEdge old now k
edge_present old mid now k o n some kept writes found made count = record {
  edge = Some n;
  found = subst (HasAt edge_codec old.kept k) some found;
  made = made ∙ ap (λ x. edge_set x (Some n) None k) kept;
  count = subst (λ a. Rises 2 a now.writes) writes count;
}

-- ---- the loop

-- the edges for a user of the worlds with numbers below `low` are gone
abbrev edges_past : Worlds → ℕ → ℕ → ℕ × ℕ → Option ℕ
edges_past s uid low q = cond (nat_eq q.1 uid && nat_lt q.0 low) nothing (edge_of s.users s.names q)

abbrev pub UserDroppedTo : Tables → Tables → ℕ → ℕ → Type 0
UserDroppedTo t u uid low = (s : Worlds) → HoldsStates s.users s.names t → TablesAre u (depth_of s.names) (link_of s.names) (edges_past s uid low)

pub drop_begins : (t : Tables) (uid : ℕ) → UserDroppedTo t t uid 0
drop_begins t uid s h =
    tables_same t (depth_of s.names) (link_of s.names) (edge_of s.users s.names) (depth_of s.names) (link_of s.names) (edges_past s uid 0) (λ k. refl) (λ k. refl)
    (λ q. sym (cond-false (nat_eq q.1 uid && nat_lt q.0 0) nothing (edge_of s.users s.names q) (and_right (nat_eq q.1 uid) (nat_lt q.0 0) (le-ltb q.0 0 (omega arith))))) h.tables

module _ (t u : Tables) (uid low : ℕ) (user_fits : IsNum uid) (so_far : UserDroppedTo t u uid low) where
  -- numbers from `low` on below the next one stand for no path, and have no edge
  gap : (s : Worlds) → HoldsStates s.users s.names t → (k : ℕ) → IsNum k → tables.get u (place depth_codec k) ≡ None → edge_of s.users s.names (k, uid) ≡ None
  gap s h k fits gone = edge_at_none s.users s.names k uid (path_absent (path_of s.names k) (sym ((so_far s h).depth.rows k fits) ∙ gone))

  module _ (wid high : ℕ) (is : high ≡ wid + 1) (next : IsNextNumber u low wid) where
    -- the edge of the next world is still there
    still : (s : Worlds) → edges_past s uid low (wid, uid) ≡ edge_of s.users s.names (wid, uid)
    still s =
        let f = next.from in
        cond-false (nat_eq uid uid && nat_lt wid low) nothing (edge_of s.users s.names (wid, uid)) (and_right (nat_eq uid uid) (nat_lt wid low) (le-ltb wid low f))

    -- at the user, below the next number and it
    gone_under : (s : Worlds) → HoldsStates s.users s.names t → (k : ℕ) → k < high
        → cond (nat_eq k wid) nothing (cond (nat_lt k low) nothing (edge_of s.users s.names (k, uid))) ≡ None
    gone_under s h k under =
        let edge = edge_of s.users s.names (k, uid) in
        elim (cases_Bool (nat_eq k wid)) [
          | inl same ↦ cond-true (nat_eq k wid) nothing (cond (nat_lt k low) nothing edge) same
          | inr other ↦
              let d = eqb-false k wid other in
              let lt : k < wid = omega (arith, d) in
              let fits = next.fits in
              cond-false (nat_eq k wid) nothing (cond (nat_lt k low) nothing edge) other ∙ elim (cases_lt k low) [
                | inl b ↦ cond-true (nat_lt k low) nothing edge (lt-ltb k low b)
                | inr b ↦ cond-false (nat_lt k low) nothing edge (le-ltb k low b) ∙ gap s h k (omega arith) (next.least k b lt)
              ]
        ]

    -- at the user, above it
    stays_over : (s : Worlds) (k : ℕ) → high ≤ k
        → cond (nat_eq k wid) nothing (cond (nat_lt k low) nothing (edge_of s.users s.names (k, uid))) ≡ edge_of s.users s.names (k, uid)
    stays_over s k over =
        let edge = edge_of s.users s.names (k, uid) in
        let f = next.from in
        let past : low ≤ k = omega arith in
        let apart : wid < k = omega arith in
        cond-false (nat_eq k wid) nothing (cond (nat_lt k low) nothing edge) (not_equal k wid apart) ∙ cond-false (nat_lt k low) nothing edge (le-ltb k low past)
      where
        not_equal : (a b : ℕ) → b < a → nat_eq a b ≡ false
        not_equal a b l = ne_eqb a b (λ e. omega arith)

    at_user : (s : Worlds) → HoldsStates s.users s.names t → (k : ℕ)
        → cond (nat_eq k wid) nothing (cond (nat_lt k low) nothing (edge_of s.users s.names (k, uid))) ≡ cond (nat_lt k high) nothing (edge_of s.users s.names (k, uid))
    at_user s h k =
        let edge = edge_of s.users s.names (k, uid) in
        elim (cases_lt k high) [
          | inl b ↦ gone_under s h k b ∙ sym (cond-true (nat_lt k high) nothing edge (lt-ltb k high b))
          | inr b ↦ stays_over s k b ∙ sym (cond-false (nat_lt k high) nothing edge (le-ltb k high b))
        ]

    same_edges : (s : Worlds) → HoldsStates s.users s.names t → (q : ℕ × ℕ) → with_edge (edges_past s uid low) (wid, uid) nothing q ≡ edges_past s uid high q
    same_edges s h q =
        let edge = edge_of s.users s.names q in
        elim (cases_Bool (nat_eq q.1 uid)) [
          | inl same ↦
              ap (λ b. cond (nat_eq q.0 wid && b) nothing (cond (b && nat_lt q.0 low) nothing edge)) same
              ∙ ap (λ b. cond b nothing (cond (nat_lt q.0 low) nothing edge)) (and_true (nat_eq q.0 wid))
              ∙ ap (λ j. cond (nat_eq q.0 wid) nothing (cond (nat_lt q.0 low) nothing (edge_of s.users s.names (q.0, j)))) (eqb-true q.1 uid same)
              ∙ at_user s h q.0
              ∙ ap (λ j. cond (nat_lt q.0 high) nothing (edge_of s.users s.names (q.0, j))) (sym (eqb-true q.1 uid same))
              ∙ sym (ap (λ b. cond (b && nat_lt q.0 high) nothing edge) same)
          | inr other ↦
              ap (λ b. cond (nat_eq q.0 wid && b) nothing (cond (b && nat_lt q.0 low) nothing edge)) other
              ∙ ap (λ b. cond b nothing edge) (and_right (nat_eq q.0 wid) false refl)
              ∙ sym (ap (λ b. cond (b && nat_lt q.0 high) nothing edge) other)
        ]

    module _ (mid now : Seen) (same : mid.kept ≡ u) (d : DropsEdge mid now (wid, uid)) where
      -- what was found is the edge of the world
      found_here : (s : Worlds) → HoldsStates s.users s.names t → d.edge ≡ edges_past s uid low (wid, uid)
      found_here s h =
          edge_read u (depth_of s.names) (link_of s.names) (edges_past s uid low) (so_far s h) (wid, uid) (record { first = next.fits; second = user_fits }) d.edge
          (subst (λ x. HasAt edge_codec x (wid, uid) d.edge) same d.found)

      pub drop_more : UserDroppedTo t now.kept uid high
      drop_more s h =
          let made : now.kept ≡ edge_dropped u d.edge (wid, uid) = d.made ∙ ap (λ x. edge_dropped x d.edge (wid, uid)) same in
          subst (λ x. TablesAre x (depth_of s.names) (link_of s.names) (edges_past s uid high)) (sym made)
          (tables_same (edge_dropped u d.edge (wid, uid)) (depth_of s.names) (link_of s.names) (with_edge (edges_past s uid low) (wid, uid) nothing) (depth_of s.names) (link_of s.names) (edges_past s uid high)
          (λ k. refl) (λ k. refl) (same_edges s h)
          (edge_dropped_is u (depth_of s.names) (link_of s.names) (edges_past s uid low) d.edge (wid, uid) next.fits user_fits (sym (found_here s h)) (so_far s h)))

      -- the world had an edge, which took two writes
      two_written : (s : Worlds) → HoldsStates s.users s.names t → MayLeave s uid → Rises 2 mid.writes now.writes
      two_written s h leaves =
          let w = some_of (path_of s.names wid) (path_present (path_of s.names wid) (ap is_some (sym ((so_far s h).depth.rows wid next.fits)) ∙ next.there)) in
          let unnamed = leaves.unnamed w.0 (path_is_named s.names h.names wid w.0 w.1) in
          let there : is_some d.edge ≡ true = ap is_some (found_here s h ∙ still s) ∙ edge_for_user s.users s.names uid h.names leaves.user wid w.0 w.1 unnamed in
          subst (λ n. Rises n mid.writes now.writes) (two_for d.edge there) d.count
        where
          two_for : (o : Option ℕ) → is_some o ≡ true → edge_writes o ≡ 2
          two_for None e = absurd (false≢true e)
          two_for (Some n) e = refl

  pub drop_ends : HasNextNumber u low None → DropsUser t u uid
  drop_ends none s h unnamed = record {
    names = h.names;
    numbers = λ i e. h.numbers i (and_parts (not (nat_eq i uid)) (s.users i) e).1;
    own = λ w n. own_without_user s.users s.names uid w (h.own w n) (unnamed w n);
    tables = tables_same u (depth_of s.names) (link_of s.names) (edges_past s uid low) (depth_of s.names) (link_of s.names) (edge_of (without_one_user s.users uid) s.names) (λ k. refl) (λ k. refl)
        (λ q. all_past s h q ∙ sym (edges_without_user s.users s.names uid q.0 q.1)) (so_far s h);
  }
    where
      above : (s : Worlds) → HoldsStates s.users s.names t → (k : ℕ) → low ≤ k → edge_of s.users s.names (k, uid) ≡ None
      above s h k l = by (path_of s.names k) refl
        where
          by : (o : Option (List ℕ)) → path_of s.names k ≡ o → edge_of s.users s.names (k, uid) ≡ None
          by None e = edge_at_none s.users s.names k uid e
          by (Some w) e = let fits = h.names.sized w k (h.names.named k w e) in gap s h k fits (none k l fits)

      all_past : (s : Worlds) → HoldsStates s.users s.names t → (q : ℕ × ℕ) → edges_past s uid low q ≡ cond (nat_eq q.1 uid) nothing (edge_of s.users s.names (q.0, q.1))
      all_past s h q =
          let edge = edge_of s.users s.names q in
          elim (cases_Bool (nat_eq q.1 uid)) [
            | inr other ↦ ap (λ b. cond (b && nat_lt q.0 low) nothing edge) other ∙ sym (cond-false (nat_eq q.1 uid) nothing edge other)
            | inl same ↦ ap (λ b. cond (b && nat_lt q.0 low) nothing edge) same ∙ elim (cases_lt q.0 low) [
              | inl b ↦ cond-true (nat_lt q.0 low) nothing edge (lt-ltb q.0 low b) ∙ sym (cond-true (nat_eq q.1 uid) nothing edge same)
              | inr b ↦
                  cond-false (nat_lt q.0 low) nothing edge (le-ltb q.0 low b) ∙ ap (λ j. edge_of s.users s.names (q.0, j)) (eqb-true q.1 uid same) ∙ above s h q.0 b
                  ∙ sym (cond-true (nat_eq q.1 uid) nothing edge same)
            ]
          ]

-- ---- how many reads and writes were made

-- two writes were made for each world with a number below `low`
abbrev pub EdgesDropped : Seen → Seen → ℕ → ℕ → Type 0
EdgesDropped old new uid low = (s : Worlds) → HoldsStates s.users s.names old.kept → MayLeave s uid → Rises (2 * below low s.names.used) old.writes new.writes

-- no more than two reads were made for each world with a number below `low`
abbrev pub WorldsRead : Seen → Seen → ℕ → Type 0
WorldsRead old new low = (s : Worlds) → HoldsStates s.users s.names old.kept → EndsWithin (2 * below low s.names.used) old.reads new.reads

pub dropped_begin : (old : Seen) (uid : ℕ) → EdgesDropped old old uid 0
dropped_begin old uid s h leaves = twice_none (below 0 s.names.used) old.writes (none_below s.names.used)

none_read : (n a : ℕ) → EndsWithin n a a
none_read n a less = omega arith

pub read_begin : (old : Seen) → WorldsRead old old 0
read_begin old s h = none_read (2 * below 0 s.names.used) old.reads

pub within_one : (a b : ℕ) → RoseBy 1 a b → EndsWithin 1 a b
within_one a b rose less = omega arith

pub rises_one : (a b : ℕ) → RoseBy 1 a b → Rises 1 a b
rises_one a b rose less = omega arith

within_more : (n m a b c d : ℕ) → b ≤ c → c ≤ d → m ≡ n + 1 → EndsWithin (2 * n) a b → EndsWithin 1 b c → Rises 1 c d → EndsWithin (2 * m) a d
within_more n m a b c d bc cd e before one more less = let x = more less in let y = one (omega arith) in let z = before (omega arith) in omega arith

within_all : (n m a b c : ℕ) → b ≤ c → n ≡ m → EndsWithin (2 * n) a b → EndsWithin 1 b c → EndsWithin (2 * m + 1) a c
within_all n m a b c bc e before one less = let y = one less in let z = before (omega arith) in omega arith

module _ (old here : Seen) (uid low : ℕ) (user_fits : IsNum uid) (so_far : UserDroppedTo old.kept here.kept uid low) where
  module _ (mid now : Seen) (wid high : ℕ) (is : high ≡ wid + 1) (next : IsNextNumber here.kept low wid) where
    pub dropped_more : mid.kept ≡ here.kept → mid.writes ≡ here.writes → mid.writes ≤ now.writes → DropsEdge mid now (wid, uid) → EdgesDropped old here uid low → EdgesDropped old now uid high
    dropped_more kept writes le d before s h leaves =
        twice_more (below low s.names.used) (below high s.names.used) old.writes here.writes now.writes (subst (λ n. n ≤ now.writes) writes le)
        (below_more here.kept s.names h.names (so_far s h).depth low wid high is next) (before s h leaves)
        (subst (λ n. Rises 2 n now.writes) writes (two_written old.kept here.kept uid low user_fits so_far wid high is next mid now kept d s h leaves))

    pub read_more : here.reads ≤ mid.reads → mid.reads ≤ now.reads → EndsWithin 1 here.reads mid.reads → Rises 1 mid.reads now.reads → WorldsRead old here low → WorldsRead old now high
    read_more first second one more before s h =
        within_more (below low s.names.used) (below high s.names.used) old.reads here.reads mid.reads now.reads first second
        (below_more here.kept s.names h.names (so_far s h).depth low wid high is next) (before s h) one more

  pub dropped_end : (now : Seen) → now.writes ≡ here.writes → HasNextNumber here.kept low None → EdgesDropped old here uid low → WritesDropped old now uid
  dropped_end now writes none before s h leaves =
      subst (λ n. Rises (2 * length s.names.used) old.writes n) (sym writes)
      (twice_all (below low s.names.used) (length s.names.used) old.writes here.writes (below_ends here.kept s.names h.names (so_far s h).depth low none) (before s h leaves))

  pub read_end : (now : Seen) → here.reads ≤ now.reads → EndsWithin 1 here.reads now.reads → HasNextNumber here.kept low None → WorldsRead old here low → ReadsWorlds old now
  read_end now le one none before s h =
      within_all (below low s.names.used) (length s.names.used) old.reads here.reads now.reads le (below_ends here.kept s.names h.names (so_far s h).depth low none) (before s h) one
