-- A certificate depends on the statements near the path, and those stand at the states among its ends.
use Rattle.std.proofs.Common.{◌≡◌, ◌∙◌, ℕ, ◌+◌, Bool, true, false, ◌&&◌, List, [], ◌∷◌, refl, ap, sym, inl, inr, filter, map}
use Rattle.std.specs.List.{list_any, flat_map}
use Rattle.std.specs.Ordering.{is_eq}
use Rattle.std.proofs.lemmas.Bool.{and_parts, and_from, or_cases, or_left, or_right, false≢true}
use Rattle.bdb_base.specs.declared.kinds.Sign.{Sign}
use Rattle.bdb_base.specs.declared.kinds.Sign.TheVariants.{Plus, Minus}
use Rattle.bdb_base.specs.declared.kinds.Stmt.{Stmt}
use Rattle.bdb_base.specs.declared.tuple.Tuple.{Tuple}
use Rattle.bdb_base.specs.Clash.{clash, same_key}
use Rattle.bdb_base.specs.Order.{statement_cmp, tuple_cmp}
use Rattle.bdb_base.specs.OrderLemmas.{statement_exact}
use Rattle.bdb_base.specs.Same.{same_path, same_tuple, same_sign, same_statement}
use Rattle.bdb_base.specs.SameLemmas.{same_path-Decides, same_tuple-Decides, same_statement-Decides}
use Rattle.bdb_base.specs.Segments.{is_prefix, is_suffix}
use Rattle.bdb_base.specs.SortedSet.{sorted_set}
use Rattle.bdb_base.specs.States.{is_state}
use Rattle.bdb_base.specs.Worlds.{explicit, least_clash}
use Rattle.bdb_base.proofs.ClashLemmas.{same_key_turned}
use Rattle.bdb_base.proofs.FirstLemmas.{found_member, same_statement_itself}
use Rattle.bdb_base.proofs.SetLemmas.{filter_keeps_order, members_make_set, set_is_ascending, set_keeps_members}
use Rattle.bdb_base.proofs.WorldLemmas.{list_any_weaker, is_prefix_itself}
use Rattle.bdb_base.proofs.WorldRowsLemmas.{list_any-flat_map}
use Rattle.bdb_base.proofs.BoolLemmas.{same_tests}
use Rattle.bdb_base.proofs.FindLemmas.{list_any-filter, list_any-filter_same}
use Rattle.bdb_base.proofs.ListLemmas.{list_any_same}
use Rattle.bdb_update.proofs.ClashingLemmas.{clash_is_of_key}
use Rattle.bdb_why.specs.declared.kinds.Ground.{Ground}
use Rattle.bdb_why.specs.declared.kinds.Ground.TheVariants.{Nowhere}
use Rattle.bdb_why.specs.declared.kinds.Ruled.{Ruled}
use Rattle.bdb_why.specs.Certificates.{is_rival_near, rivals, ruled_of, considered, why_by}
use Rattle.bdb_why.specs.Ends.{ends, ends_in, is_at_an_end, near_at}
use Rattle.bdb_why.specs.Grounds.{ground_by, ground_from, ground_of}
use Rattle.bdb_why.specs.WhyLaws.{NearIsAtStates, WhyDependsOnNear}
use Rattle.bdb_why.proofs.RivalLemmas.{one_key, rival_clashes, rivals_all, same_key_itself}
use Rattle.bdb_why.proofs.FindLemmas.{find_kept, filter_kept, map_same_all}

-- a path is an end of itself
pub suffix_same : (v w : List ℕ) → same_path v w ≡ true → is_suffix v w ≡ true
suffix_same v [] e = e
suffix_same v (j ∷ w) e = or_left (same_path v (j ∷ w)) (is_suffix v w) e

-- ---- what a ground depends on

-- what a test of statements says of those that may decide at a path
abbrev pub KeepsNear : (ℕ → ℕ) → Tuple → (Stmt → Bool) → List ℕ → Type 0
KeepsNear keys t N v = (x : Stmt) → is_suffix x.path v ≡ true → same_key keys t x.tuple ≡ true → N x ≡ true

keeps_tail : (keys : ℕ → ℕ) (t : Tuple) (N : Stmt → Bool) (i : ℕ) (v : List ℕ) → KeepsNear keys t N (i ∷ v) → KeepsNear keys t N v
keeps_tail keys t N i v h x e k = h x (or_right (same_path x.path (i ∷ v)) (is_suffix x.path v) e) k

-- what clashes with a tuple of the key has the key
key_of_clash : (keys : ℕ → ℕ) (t u x : Tuple) (s r : Sign) → same_key keys t u ≡ true → clash keys u s x r ≡ true → same_key keys t x ≡ true
key_of_clash keys t u x s r k c = one_key keys u t x (same_key_turned keys u t ∙ k) (clash_is_of_key keys u x s r c)

explicit_near : (keys : ℕ → ℕ) (stmts : List Stmt) (t : Tuple) (N : Stmt → Bool) (v : List ℕ) (u : Tuple) (s : Sign) → KeepsNear keys t N v → same_key keys t u ≡ true
    → explicit (filter N stmts) v u s ≡ explicit stmts v u s
explicit_near keys stmts t N v u s h k = list_any-filter_same (λ x. same_path x.path v && (same_tuple x.tuple u && same_sign x.sign s)) N
    (λ x e.
    let m = and_parts (same_path x.path v) (same_tuple x.tuple u && same_sign x.sign s) e in
    let q = and_parts (same_tuple x.tuple u) (same_sign x.sign s) m.1 in
    h x (suffix_same x.path v m.0) (ap (same_key keys t) ((same_tuple-Decides x.tuple u).0 q.0) ∙ k)) stmts

least_near : (keys : ℕ → ℕ) (stmts : List Stmt) (t : Tuple) (N : Stmt → Bool) (v : List ℕ) (u : Tuple) (s : Sign) → KeepsNear keys t N v → same_key keys t u ≡ true
    → least_clash keys (filter N stmts) v u s ≡ least_clash keys stmts v u s
least_near keys stmts t N v u s h k = find_kept (λ x. same_path x.path v && clash keys u s x.tuple x.sign) N
    (λ x e.
    let m = and_parts (same_path x.path v) (clash keys u s x.tuple x.sign) e in
    h x (suffix_same x.path v m.0) (key_of_clash keys t u x.tuple s x.sign k m.1)) stmts

pub ground_near : (keys : ℕ → ℕ) (stmts : List Stmt) (t : Tuple) (N : Stmt → Bool) (n : ℕ) (v : List ℕ) (u : Tuple) (s : Sign) → KeepsNear keys t N v → same_key keys t u ≡ true
    → ground_from keys (filter N stmts) n v u s ≡ ground_from keys stmts n v u s
ground_near keys stmts t N n [] u s h k =
    ap (λ b. ground_by b (least_clash keys (filter N stmts) [] u s) n Nowhere) (explicit_near keys stmts t N [] u s h k)
    ∙ ap (λ o. ground_by (explicit stmts [] u s) o n Nowhere) (least_near keys stmts t N [] u s h k)
ground_near keys stmts t N n (i ∷ v) u s h k =
    let rest = ground_from keys (filter N stmts) (n + 1) v u s in
    ap (λ b. ground_by b (least_clash keys (filter N stmts) (i ∷ v) u s) n rest) (explicit_near keys stmts t N (i ∷ v) u s h k)
    ∙ ap (λ o. ground_by (explicit stmts (i ∷ v) u s) o n rest) (least_near keys stmts t N (i ∷ v) u s h k)
    ∙ ap (ground_by (explicit stmts (i ∷ v) u s) (least_clash keys stmts (i ∷ v) u s) n) (ground_near keys stmts t N (n + 1) v u s (keeps_tail keys t N i v h) k)

near_kept : (keys : ℕ → ℕ) (w : List ℕ) (t : Tuple) → KeepsNear keys t (is_at_an_end keys w t) w
near_kept keys w t x e k = and_from (is_suffix x.path w) (same_key keys t x.tuple) e k

rivals_near : (keys : ℕ → ℕ) (stmts : List Stmt) (w : List ℕ) (t : Tuple) → rivals keys (filter (is_at_an_end keys w t) stmts) w t ≡ rivals keys stmts w t
rivals_near keys stmts w t = ap (λ xs. sorted_set tuple_cmp (map (λ x. x.tuple) xs)) (filter_kept (is_rival_near keys w t) (is_at_an_end keys w t)
    (λ x e. and_from (is_suffix x.path w) (same_key keys t x.tuple) (and_parts (is_suffix x.path w) (same_sign x.sign Plus && clash keys t Plus x.tuple Plus) e).0
    (clash_is_of_key keys t x.tuple Plus Plus (rival_clashes keys w t x e))) stmts)

considered_near : (keys : ℕ → ℕ) (stmts : List Stmt) (w : List ℕ) (t : Tuple) (s : Sign) → considered keys (filter (is_at_an_end keys w t) stmts) w t s ≡ considered keys stmts w t s
considered_near keys stmts w t Plus = refl
considered_near keys stmts w t Minus =
    let near = filter (is_at_an_end keys w t) stmts in
    let same : (u : Tuple) → same_key keys t u ≡ true → ruled_of keys near w u ≡ ruled_of keys stmts w u =
    λ u k. ap (λ g. ruled u g) (ground_near keys stmts t (is_at_an_end keys w t) 0 w u Plus (near_kept keys w t) k) in
    ap (map (ruled_of keys near w)) (rivals_near keys stmts w t)
    ∙ map_same_all (ruled_of keys near w) (ruled_of keys stmts w) (same_key keys t) same (rivals keys stmts w t)
    (rivals_all keys stmts w t (same_key keys t) (λ u c. clash_is_of_key keys t u Plus Plus c))
  where
    ruled : Tuple → Ground → Ruled
    ruled u g = record { tuple = u; reason = g }

pub why_depends_on_near : WhyDependsOnNear
why_depends_on_near keys stmts w t s =
    let near = filter (is_at_an_end keys w t) stmts in
    ap (λ g. why_by g (considered keys near w t s)) (ground_near keys stmts t (is_at_an_end keys w t) 0 w t s (near_kept keys w t) (same_key_itself keys t))
    ∙ ap (why_by (ground_of keys stmts w t s)) (considered_near keys stmts w t s)

-- ---- the states among the ends

-- an end that passes
ends_found : (f : List ℕ → Bool) (w : List ℕ) → list_any f (ends w) ≡ true → (v : List ℕ) × (is_suffix v w ≡ true) × (f v ≡ true)
ends_found f [] e = elim (or_cases (f []) false e) [ inl a ↦ ([], refl, a) | inr b ↦ absurd (false≢true b) ]
ends_found f (i ∷ w) e = elim (or_cases (f (i ∷ w)) (list_any f (ends w)) e) [
  | inl a ↦ (i ∷ w, suffix_same (i ∷ w) (i ∷ w) ((same_path-Decides (i ∷ w) (i ∷ w)).1 refl), a)
  | inr b ↦ let k = ends_found f w b in (k.0, or_right (same_path k.0 (i ∷ w)) (is_suffix k.0 w) k.1, k.2)
]

ends_have : (f : List ℕ → Bool) (w v : List ℕ) → is_suffix v w ≡ true → f v ≡ true → list_any f (ends w) ≡ true
ends_have f [] v h e = or_left (f []) false (ap f (sym ((same_path-Decides v []).0 h)) ∙ e)
ends_have f (i ∷ w) v h e = elim (or_cases (same_path v (i ∷ w)) (is_suffix v w) h) [
  | inl a ↦ or_left (f (i ∷ w)) (list_any f (ends w)) (ap f (sym ((same_path-Decides v (i ∷ w)).0 a)) ∙ e)
  | inr b ↦ or_right (f (i ∷ w)) (list_any f (ends w)) (ends_have f w v b e)
]

-- the path of a statement is a state
pub path_is_state : (stmts : List Stmt) (v : List ℕ) (x : Stmt) → list_any (same_statement x) stmts ≡ true → x.path ≡ v → is_state stmts v ≡ true
path_is_state stmts [] x m e = refl
path_is_state stmts (i ∷ v) x m e = list_any_weaker (same_statement x) (λ y. is_prefix (i ∷ v) y.path)
    (λ y a. ap (λ u. is_prefix (i ∷ v) u) (ap (λ z. z.path) (sym ((same_statement-Decides x y).0 a)) ∙ e) ∙ is_prefix_itself (i ∷ v)) stmts m

-- a statement is one of those at this very path
abbrev is_here : (ℕ → ℕ) → Tuple → Stmt → List ℕ → Stmt → Bool
is_here keys t z v x = (same_path x.path v && same_key keys t x.tuple) && is_eq (statement_cmp x z)

module _ (keys : ℕ → ℕ) (stmts : List Stmt) (w : List ℕ) (t : Tuple) (z : Stmt) where
  abbrev at_state : List ℕ → Bool
  at_state v = is_state stmts v && list_any (is_here keys t z v) stmts

  abbrev near : Stmt → Bool
  near x = is_at_an_end keys w t x && is_eq (statement_cmp x z)

  here_is_near : (v : List ℕ) → is_suffix v w ≡ true → (x : Stmt) → is_here keys t z v x ≡ true → near x ≡ true
  here_is_near v h x e =
      let k = and_parts (same_path x.path v && same_key keys t x.tuple) (is_eq (statement_cmp x z)) e in
      let m = and_parts (same_path x.path v) (same_key keys t x.tuple) k.0 in
      and_from (is_at_an_end keys w t x) (is_eq (statement_cmp x z))
      (and_from (is_suffix x.path w) (same_key keys t x.tuple) (ap (λ u. is_suffix u w) ((same_path-Decides x.path v).0 m.0) ∙ h) m.1) k.1

  near_is_here : (x : Stmt) → near x ≡ true → is_here keys t z x.path x ≡ true
  near_is_here x e =
      let k = and_parts (is_at_an_end keys w t x) (is_eq (statement_cmp x z)) e in
      and_from (same_path x.path x.path && same_key keys t x.tuple) (is_eq (statement_cmp x z))
      (and_from (same_path x.path x.path) (same_key keys t x.tuple) ((same_path-Decides x.path x.path).1 refl) (and_parts (is_suffix x.path w) (same_key keys t x.tuple) k.0).1) k.1

  into_near : list_any at_state (ends w) ≡ true → list_any near stmts ≡ true
  into_near e =
      let v = ends_found at_state w e in
      list_any_weaker (is_here keys t z v.0) near (here_is_near v.0 v.1) stmts (and_parts (is_state stmts v.0) (list_any (is_here keys t z v.0) stmts) v.2).1

  from_near : list_any near stmts ≡ true → list_any at_state (ends w) ≡ true
  from_near e =
      let x = found_member same_statement same_statement_itself near stmts e in
      let k = and_parts (is_at_an_end keys w t x.0) (is_eq (statement_cmp x.0 z)) x.2 in
      ends_have at_state w x.0.path (and_parts (is_suffix x.0.path w) (same_key keys t x.0.tuple) k.0).0
      (and_from (is_state stmts x.0.path) (list_any (is_here keys t z x.0.path) stmts) (path_is_state stmts x.0.path x.0 x.1 refl)
      (list_any_weaker (same_statement x.0) (is_here keys t z x.0.path)
      (λ y a. ap (is_here keys t z x.0.path) (sym ((same_statement-Decides x.0 y).0 a)) ∙ near_is_here x.0 x.2) stmts x.1))

  pub near_members : list_any (λ v. is_state stmts v && list_any (is_here keys t z v) stmts) (ends w) ≡ list_any (λ x. is_at_an_end keys w t x && is_eq (statement_cmp x z)) stmts
  near_members = same_tests (list_any at_state (ends w)) (list_any near stmts) into_near from_near

pub near_is_at_states : NearIsAtStates
near_is_at_states keys stmts h w t =
    let found = flat_map (near_at keys stmts t) (ends_in (is_state stmts) w) in
    members_make_set statement_exact (sorted_set statement_cmp found) (filter (is_at_an_end keys w t) stmts)
    (set_is_ascending statement_exact found) (filter_keeps_order statement_exact (is_at_an_end keys w t) stmts h)
    (λ z. set_keeps_members statement_exact found z
    ∙ list_any-flat_map (λ y. is_eq (statement_cmp y z)) (near_at keys stmts t) (ends_in (is_state stmts) w)
    ∙ list_any_same (λ v. list_any (λ y. is_eq (statement_cmp y z)) (near_at keys stmts t v)) (λ v. list_any (is_here keys t z v) stmts)
    (λ v. list_any-filter (λ y. is_eq (statement_cmp y z)) (λ x. same_path x.path v && same_key keys t x.tuple) stmts) (ends_in (is_state stmts) w)
    ∙ list_any-filter (λ v. list_any (is_here keys t z v) stmts) (is_state stmts) (ends w)
    ∙ near_members keys stmts w t z
    ∙ sym (list_any-filter (λ y. is_eq (statement_cmp y z)) (is_at_an_end keys w t) stmts))
