-- The statements that the explicit rows say of the worlds whose paths name a user are those that name him.
use Rattle.std.proofs.Common.{◌≡◌, ◌∙◌, ℕ, Bool, true, false, ◌&&◌, cond, List, [], ◌∷◌, map, filter, refl, ap, sym, inl, inr}
use Rattle.std.specs.List.{flat_map, list_any, list_all}
use Rattle.std.specs.Ordering.{is_eq, is_lt, ordering_then}
use Rattle.std.proofs.lemmas.Bool.{and_parts, and_from, or_left, or_right, or_cases, false≢true}
use Rattle.bdb_base.specs.Bases.{stands}
use Rattle.bdb_base.specs.Changes.{names_user, statements_naming}
use Rattle.bdb_base.specs.Order.{path_cmp, sign_cmp, tuple_cmp, statement_cmp}
use Rattle.bdb_base.specs.OrderLemmas.{path_exact, statement_exact}
use Rattle.bdb_base.specs.Same.{same_path}
use Rattle.bdb_base.specs.SameLemmas.{same_path-Decides}
use Rattle.bdb_base.specs.Segments.{is_prefix}
use Rattle.bdb_base.specs.SortedSet.{ascending, is_member}
use Rattle.bdb_base.specs.States.{is_state, stated_prefixes, states_of}
use Rattle.bdb_base.specs.WorldRows.{has_row, row_tuple_cmp, same_row, world_of}
use Rattle.bdb_base.specs.Worlds.{IsConsistent, explicit}
use Rattle.bdb_base.specs.declared.kinds.Held.{Held}
use Rattle.bdb_base.specs.declared.kinds.Sign.{Sign}
use Rattle.bdb_base.specs.declared.kinds.Stmt.{Stmt}
use Rattle.bdb_base.specs.declared.tuple.Tuple.{Tuple}
use Rattle.bdb_base.proofs.ListLemmas.{list_all_weaker}
use Rattle.bdb_base.proofs.SetLemmas.{filter_keeps_order, is_eq-Equal, is_eq_itself, is_lt-Less, members_make_set, set_is_ascending}
use Rattle.bdb_base.proofs.UserLemmas.{member-filter}
use Rattle.bdb_base.proofs.WorldLemmas.{found_by, is_prefix_itself, list_any_weaker, stands_is_explicit, explicit_is_stated}
use Rattle.bdb_base.proofs.WorldRowsLemmas.{list_all-flat_map, list_any-flat_map, rows_are_the_world, same_row_from, same_row_tells, tuples_stand_once}
use Rattle.bdb_base.proofs.BoolLemmas.{same_tests}
use Rattle.bdb_paths.proofs.StateLemmas.{list_has_states}
use Rattle.bdb_stored.proofs.TreeLemmas.{ascending_append}
use Rattle.bdb_leaving.specs.Naming.{naming_at, said, said_by_world}

-- ---- what the explicit rows of one world say

module _ (w : List ℕ) where
  -- rows in order say statements in order
  less_said : (a b : Held) → is_lt (row_tuple_cmp a b) ≡ true → is_lt (statement_cmp (said w a) (said w b)) ≡ true
  less_said a b e =
      ap (λ r. is_lt (ordering_then r (ordering_then (tuple_cmp a.tuple b.tuple) (sign_cmp a.sign b.sign)))) (is_eq-Equal (path_cmp w w) (is_eq_itself path_exact w))
      ∙ ap (λ r. is_lt (ordering_then r (sign_cmp a.sign b.sign))) (is_lt-Less (tuple_cmp a.tuple b.tuple) e)

  said_above : (a : Held) (hs : List Held) → list_all (λ h. is_lt (row_tuple_cmp a h)) hs ≡ true → list_all (λ x. is_lt (statement_cmp (said w a) x)) (said_by_world w hs) ≡ true
  said_above a [] e = refl
  said_above a (h ∷ hs) e =
      let k = and_parts (is_lt (row_tuple_cmp a h)) (list_all (λ g. is_lt (row_tuple_cmp a g)) hs) e in
      by h.explicit (less_said a h k.0) (said_above a hs k.1)
    where
      by : (b : Bool) → is_lt (statement_cmp (said w a) (said w h)) ≡ true → list_all (λ x. is_lt (statement_cmp (said w a) x)) (said_by_world w hs) ≡ true
          → list_all (λ x. is_lt (statement_cmp (said w a) x)) (map (said w) (cond b (h ∷ filter (λ g. g.explicit) hs) (filter (λ g. g.explicit) hs))) ≡ true
      by true p q = and_from (is_lt (statement_cmp (said w a) (said w h))) (list_all (λ x. is_lt (statement_cmp (said w a) x)) (said_by_world w hs)) p q
      by false p q = q

  said_ascend : (hs : List Held) → ascending row_tuple_cmp hs ≡ true → ascending statement_cmp (said_by_world w hs) ≡ true
  said_ascend [] e = refl
  said_ascend (h ∷ hs) e =
      let k = and_parts (list_all (λ g. is_lt (row_tuple_cmp h g)) hs) (ascending row_tuple_cmp hs) e in
      by h.explicit (said_above h hs k.0) (said_ascend hs k.1)
    where
      by : (b : Bool) → list_all (λ x. is_lt (statement_cmp (said w h) x)) (said_by_world w hs) ≡ true → ascending statement_cmp (said_by_world w hs) ≡ true
          → ascending statement_cmp (map (said w) (cond b (h ∷ filter (λ g. g.explicit) hs) (filter (λ g. g.explicit) hs))) ≡ true
      by true p q = and_from (list_all (λ x. is_lt (statement_cmp (said w h) x)) (said_by_world w hs)) (ascending statement_cmp (said_by_world w hs)) p q
      by false p q = q

  -- all are of the path
  said_own : (hs : List Held) → list_all (λ x. same_path x.path w) (said_by_world w hs) ≡ true
  said_own [] = refl
  said_own (h ∷ hs) = by h.explicit (said_own hs)
    where
      by : (b : Bool) → list_all (λ x. same_path x.path w) (said_by_world w hs) ≡ true → list_all (λ x. same_path x.path w) (map (said w) (cond b (h ∷ filter (λ g. g.explicit) hs) (filter (λ g. g.explicit) hs))) ≡ true
      by true p = and_from (same_path w w) (list_all (λ x. same_path x.path w) (said_by_world w hs)) ((same_path-Decides w w).1 refl) p
      by false p = p

  -- what is said is said by an explicit row
  said_by : (hs : List Held) (x : Stmt) → is_member statement_cmp (said_by_world w hs) x ≡ true → (h : Held) × (has_row hs h ≡ true) × (h.explicit ≡ true) × (said w h ≡ x)
  said_by [] x e = absurd (false≢true e)
  said_by (h ∷ hs) x e = by (λ f. let r = said_by hs x f in (r.0, or_right (same_row r.0 h) (has_row hs r.0) r.1, r.2, r.3)) h.explicit refl e
    where
      by : (is_member statement_cmp (said_by_world w hs) x ≡ true → (g : Held) × (has_row (h ∷ hs) g ≡ true) × (g.explicit ≡ true) × (said w g ≡ x)) → (b : Bool) → h.explicit ≡ b
          → is_member statement_cmp (map (said w) (cond b (h ∷ filter (λ g. g.explicit) hs) (filter (λ g. g.explicit) hs))) x ≡ true
          → (g : Held) × (has_row (h ∷ hs) g ≡ true) × (g.explicit ≡ true) × (said w g ≡ x)
      by later false k f = later f
      by later true k f = elim (or_cases (is_eq (statement_cmp (said w h) x)) (is_member statement_cmp (said_by_world w hs) x) f) [
        | inl s ↦ (h, or_left (same_row h h) (has_row hs h) (same_row_from h h refl refl refl), k, statement_exact.exact (said w h) x (is_eq-Equal (statement_cmp (said w h) x) s))
        | inr s ↦ later s
      ]

  -- what an explicit row says is said
  said_there : (hs : List Held) (x : Stmt) (g : Held) → has_row hs g ≡ true → g.explicit ≡ true → said w g ≡ x → is_member statement_cmp (said_by_world w hs) x ≡ true
  said_there [] x g e f is = absurd (false≢true e)
  said_there (h ∷ hs) x g e f is = elim (or_cases (same_row g h) (has_row hs g) e) [
    | inl s ↦
        let k = same_row_tells g h s in
        here h.explicit (sym k.2 ∙ f) (ap (λ (y : Stmt). is_eq (statement_cmp y x)) (same_said h g (sym k.0) (sym k.1) ∙ is) ∙ is_eq_itself statement_exact x)
    | inr s ↦ later h.explicit (said_there hs x g s f is)
  ]
    where
      made : Sign → Tuple → Stmt
      made s u = record { path = w; sign = s; tuple = u }

      same_said : (a b : Held) → a.tuple ≡ b.tuple → a.sign ≡ b.sign → said w a ≡ said w b
      same_said a b p q = ap (λ u. made a.sign u) p ∙ ap (λ s. made s b.tuple) q

      here : (b : Bool) → b ≡ true → is_eq (statement_cmp (said w h) x) ≡ true → is_member statement_cmp (map (said w) (cond b (h ∷ filter (λ g. g.explicit) hs) (filter (λ g. g.explicit) hs))) x ≡ true
      here true k p = or_left (is_eq (statement_cmp (said w h) x)) (is_member statement_cmp (said_by_world w hs) x) p
      here false k p = absurd (false≢true k)

      later : (b : Bool) → is_member statement_cmp (said_by_world w hs) x ≡ true → is_member statement_cmp (map (said w) (cond b (h ∷ filter (λ g. g.explicit) hs) (filter (λ g. g.explicit) hs))) x ≡ true
      later true p = or_right (is_eq (statement_cmp (said w h) x)) (is_member statement_cmp (said_by_world w hs) x) p
      later false p = p

-- ---- lists of statements path by path

module _ (f : List ℕ → List Stmt) (up : (w : List ℕ) → ascending statement_cmp (f w) ≡ true) (own : (w : List ℕ) → list_all (λ x. same_path x.path w) (f w) ≡ true) where
  less_by_path : (w v : List ℕ) (x y : Stmt) → x.path ≡ w → y.path ≡ v → is_lt (path_cmp w v) ≡ true → is_lt (statement_cmp x y) ≡ true
  less_by_path w v x y p q l =
      ap (λ r. is_lt (ordering_then r (ordering_then (tuple_cmp x.tuple y.tuple) (sign_cmp x.sign y.sign))))
      (ap (λ z. path_cmp z y.path) p ∙ ap (path_cmp w) q ∙ is_lt-Less (path_cmp w v) l)

  pub paths_ascend : (ws : List (List ℕ)) → ascending path_cmp ws ≡ true → ascending statement_cmp (flat_map f ws) ≡ true
  paths_ascend [] e = refl
  paths_ascend (w ∷ ws) e =
      let k = and_parts (list_all (λ v. is_lt (path_cmp w v)) ws) (ascending path_cmp ws) e in
      ascending_append statement_cmp (f w) (flat_map f ws) (up w) (paths_ascend ws k.1)
      (list_all_weaker (λ x. same_path x.path w) (λ x. list_all (λ y. is_lt (statement_cmp x y)) (flat_map f ws)) (λ x p.
      list_all-flat_map (λ v. is_lt (path_cmp w v)) (λ y. is_lt (statement_cmp x y)) f (λ v l.
      list_all_weaker (λ y. same_path y.path v) (λ y. is_lt (statement_cmp x y)) (λ y q.
      less_by_path w v x y ((same_path-Decides x.path w).0 p) ((same_path-Decides y.path v).0 q) l) (f v) (own v)) ws k.0) (f w) (own w))

-- the path of a statement is a state
stated_state : (stmts : List Stmt) (x : Stmt) → stands stmts x ≡ true → is_state stmts x.path ≡ true
stated_state stmts x e = by x.path refl
  where
    by : (w : List ℕ) → x.path ≡ w → is_state stmts w ≡ true
    by [] p = refl
    by (i ∷ w) p = list_any_weaker (λ y. is_eq (statement_cmp y x)) (λ y. is_prefix (i ∷ w) y.path)
        (λ y k. ap (λ (z : Stmt). is_prefix (i ∷ w) z.path) (statement_exact.exact y x (is_eq-Equal (statement_cmp y x) k)) ∙ ap (is_prefix (i ∷ w)) p ∙ is_prefix_itself (i ∷ w)) stmts e

-- ---- all together

module _ (keys : ℕ → ℕ) (stmts : List Stmt) (uid : ℕ) (consistent : IsConsistent keys stmts) where
  abbrev at : List ℕ → List Stmt
  at w = naming_at keys stmts uid w

  at_ascends : (w : List ℕ) → ascending statement_cmp (at w) ≡ true
  at_ascends w = by (names_user uid w) (said_ascend w (world_of keys stmts w) (tuples_stand_once keys stmts consistent w))
    where
      by : (b : Bool) → ascending statement_cmp (said_by_world w (world_of keys stmts w)) ≡ true → ascending statement_cmp (cond b (said_by_world w (world_of keys stmts w)) []) ≡ true
      by true p = p
      by false p = refl

  at_own : (w : List ℕ) → list_all (λ x. same_path x.path w) (at w) ≡ true
  at_own w = by (names_user uid w) (said_own w (world_of keys stmts w))
    where
      by : (b : Bool) → list_all (λ x. same_path x.path w) (said_by_world w (world_of keys stmts w)) ≡ true → list_all (λ x. same_path x.path w) (cond b (said_by_world w (world_of keys stmts w)) []) ≡ true
      by true p = p
      by false p = refl

  -- what the rows of a world say stands, and names the user
  at_stands : (w : List ℕ) (x : Stmt) → is_member statement_cmp (at w) x ≡ true → (stands stmts x && names_user uid x.path) ≡ true
  at_stands w x e = by (names_user uid w) refl e
    where
      by : (b : Bool) → names_user uid w ≡ b → is_member statement_cmp (cond b (said_by_world w (world_of keys stmts w)) []) x ≡ true → (stands stmts x && names_user uid x.path) ≡ true
      by false n f = absurd (false≢true f)
      by true n f =
          let h = said_by w (world_of keys stmts w) x f in
          let t = (rows_are_the_world keys stmts w h.0).0 h.1 in
          let there : stands stmts (said w h.0) ≡ true = stands_is_explicit stmts (said w h.0) ∙ sym t.1 ∙ h.2 in
          and_from (stands stmts x) (names_user uid x.path) (ap (stands stmts) (sym h.3) ∙ there) (ap (λ (y : Stmt). names_user uid y.path) (sym h.3) ∙ n)

  -- and all that stand and name him are said there
  at_says : (w : List ℕ) (x : Stmt) → stands stmts x ≡ true → names_user uid x.path ≡ true → w ≡ x.path → is_member statement_cmp (at w) x ≡ true
  at_says w x e n p =
      let said_so : explicit stmts w x.tuple x.sign ≡ true = ap (λ v. explicit stmts v x.tuple x.sign) p ∙ sym (stands_is_explicit stmts x) ∙ e in
      let h : Held = record { tuple = x.tuple; sign = x.sign; explicit = explicit stmts w x.tuple x.sign } in
      let row = (rows_are_the_world keys stmts w h).1 (explicit_is_stated keys stmts w x.tuple x.sign said_so, refl) in
      by (names_user uid w) (ap (names_user uid) p ∙ n) (said_there w (world_of keys stmts w) x h row said_so (ap (λ v. at_path v) p))
    where
      at_path : List ℕ → Stmt
      at_path v = record { path = v; sign = x.sign; tuple = x.tuple }

      by : (b : Bool) → b ≡ true → is_member statement_cmp (said_by_world w (world_of keys stmts w)) x ≡ true → is_member statement_cmp (cond b (said_by_world w (world_of keys stmts w)) []) x ≡ true
      by true k f = f
      by false k f = absurd (false≢true k)

  member_gathered : (x : Stmt) → is_member statement_cmp (flat_map at (states_of stmts)) x ≡ (stands stmts x && names_user uid x.path)
  member_gathered x =
      let p : Stmt → Bool = λ y. is_eq (statement_cmp y x) in
      list_any-flat_map p at (states_of stmts) ∙ same_tests (list_any (λ w. list_any p (at w)) (states_of stmts)) (stands stmts x && names_user uid x.path)
      (λ e. let found = found_by (λ w. list_any p (at w)) (states_of stmts) e in at_stands found.0 x found.1)
      (λ e.
      let k = and_parts (stands stmts x) (names_user uid x.path) e in
      list_any_weaker (λ w. is_eq (path_cmp w x.path)) (λ w. list_any p (at w))
      (λ w q. at_says w x k.0 k.1 (path_exact.exact w x.path (is_eq-Equal (path_cmp w x.path) q))) (states_of stmts)
      (list_has_states stmts x.path ∙ stated_state stmts x k.0))

  pub gathered_are_named : ascending statement_cmp stmts ≡ true → flat_map at (states_of stmts) ≡ statements_naming uid stmts
  gathered_are_named up =
      members_make_set statement_exact (flat_map at (states_of stmts)) (statements_naming uid stmts)
      (paths_ascend at at_ascends at_own (states_of stmts) (set_is_ascending path_exact (stated_prefixes stmts)))
      (filter_keeps_order statement_exact (λ x. names_user uid x.path) stmts up)
      (λ x. member_gathered x ∙ sym (member-filter statement_exact (λ y. names_user uid y.path) stmts x))
