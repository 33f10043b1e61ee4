-- Statements counted path by path, and the explicit rows of a path's world.
use Rattle.std.proofs.Common.{◌≡◌, ◌∙◌, ℕ, ◌+◌, Bool, true, false, ◌||◌, cond, List, [], ◌∷◌, length, map, filter, refl, ap, sym, inl, inr, arith}
use Rattle.std.specs.Prelude.{sum_by}
use Rattle.std.specs.List.{list_any, list_all}
use Rattle.std.specs.Ordering.{is_eq, is_lt, ordering_then}
use Rattle.std.proofs.lemmas.Bool.{cases_Bool, and_parts, and_from, or_left, or_right, or_cases, false≢true, cond-true, or_parts}
use Rattle.std.proofs.lemmas.List.{length-map}
use Rattle.std.proofs.lemmas.List.Sums.{sum_by-cons}
use Rattle.bdb_base.specs.Order.{path_cmp, sign_cmp, tuple_cmp, statement_cmp}
use Rattle.bdb_base.specs.OrderLemmas.{is_eq_path_cmp, is_eq_statement_cmp, statement_exact, path_exact}
use Rattle.bdb_base.specs.Same.{same_path, same_statement}
use Rattle.bdb_base.specs.SameLemmas.{same_path-Decides, same_statement-Decides}
use Rattle.bdb_base.specs.Segments.{is_prefix}
use Rattle.bdb_base.specs.SortedSet.{ascending, is_member}
use Rattle.bdb_base.specs.States.{is_state, states_of}
use Rattle.bdb_base.specs.WorldRows.{has_row, row_tuple_cmp, same_row, world_of}
use Rattle.bdb_base.specs.Worlds.{IsConsistent, explicit}
use Rattle.bdb_base.specs.declared.kinds.Held.{Held}
use Rattle.bdb_base.specs.declared.kinds.Sign.{Sign}
use Rattle.bdb_base.specs.declared.kinds.Stmt.{Stmt}
use Rattle.bdb_base.specs.declared.tuple.Tuple.{Tuple}
use Rattle.bdb_base.proofs.FirstLemmas.{explicit_statement, statement_explicit}
use Rattle.bdb_base.proofs.SetLemmas.{is_eq-Equal, is_eq_itself, is_lt-Less, filter_keeps_order, members_make_set}
use Rattle.bdb_base.proofs.WorldRowsLemmas.{rows_are_the_world, same_row_tells, same_row_from, tuples_stand_once}
use Rattle.bdb_base.proofs.WorldLemmas.{is_prefix_itself, explicit_is_stated}
use Rattle.bdb_base.proofs.BoolLemmas.{same_tests}
use Rattle.bdb_paths.proofs.StateLemmas.{list_has_states}
use Rattle.bdb_stored.specs.Counting.{explicit_rows}
use Rattle.bdb_stored.proofs.ItemLemmas.{AreApart}

-- ---- statements by path

-- the statements of a path
abbrev pub at_path : List Stmt → List ℕ → List Stmt
at_path stmts w = filter (λ x. same_path x.path w) stmts

-- one where a path is another
is_one : List ℕ → List ℕ → ℕ
is_one p w = cond (same_path p w) 1 0

sum_zeros : (f : List ℕ → ℕ) (ws : List (List ℕ)) → ((w : List ℕ) → f w ≡ 0) → sum_by f ws ≡ 0
sum_zeros f [] h = refl
sum_zeros f (w ∷ ws) h = let a = sum_by-cons f w ws in let b = h w in let c = sum_zeros f ws h in omega arith

sum_added : (f g h : List ℕ → ℕ) (ws : List (List ℕ)) → ((w : List ℕ) → f w ≡ g w + h w) → sum_by f ws ≡ sum_by g ws + sum_by h ws
sum_added f g h [] e = refl
sum_added f g h (w ∷ ws) e =
    let a = sum_by-cons f w ws in
    let b = sum_by-cons g w ws in
    let c = sum_by-cons h w ws in
    let d = e w in
    let i = sum_added f g h ws e in
    omega arith

turned : (a b : List ℕ) → is_eq (path_cmp a b) ≡ same_path b a
turned a b = is_eq_path_cmp a b ∙ same_tests (same_path a b) (same_path b a)
    (λ e. (same_path-Decides b a).1 (sym ((same_path-Decides a b).0 e))) (λ e. (same_path-Decides a b).1 (sym ((same_path-Decides b a).0 e)))

no_ones : (p : List ℕ) (ws : List (List ℕ)) → is_member path_cmp ws p ≡ false → sum_by (is_one p) ws ≡ 0
unfolding is_one
no_ones p [] h = refl
no_ones p (w ∷ ws) h =
    let k = or_parts (is_eq (path_cmp w p)) (is_member path_cmp ws p) h in
    let a = sum_by-cons (is_one p) w ws in
    let b : is_one p w ≡ 0 = ap (λ c. cond c 1 0) (sym (turned w p) ∙ k.0) in
    let c = no_ones p ws k.1 in
    omega arith

one_one : (p : List ℕ) (ws : List (List ℕ)) → AreApart path_cmp ws → is_member path_cmp ws p ≡ true → sum_by (is_one p) ws ≡ 1
unfolding is_one
one_one p [] d h = absurd (false≢true h)
one_one p (w ∷ ws) d h = elim (cases_Bool (is_eq (path_cmp w p))) [
  | inl e ↦
      let same : w ≡ p = path_exact.exact w p (is_eq-Equal (path_cmp w p) e) in
      let a = sum_by-cons (is_one p) w ws in
      let b : is_one p w ≡ 1 = ap (λ c. cond c 1 0) (sym (turned w p) ∙ e) in
      let c = no_ones p ws (ap (is_member path_cmp ws) (sym same) ∙ d.0) in
      omega arith
  | inr e ↦
      let a = sum_by-cons (is_one p) w ws in
      let b : is_one p w ≡ 0 = ap (λ c. cond c 1 0) (sym (turned w p) ∙ e) in
      let c = one_one p ws d.1 (rest (is_eq (path_cmp w p)) (is_member path_cmp ws p) e h) in
      omega arith
]
  where
    rest : (a b : Bool) → a ≡ false → (a || b) ≡ true → b ≡ true
    rest true b e f = absurd (false≢true (sym e))
    rest false b e f = f

-- the statements are as many as those of each of some paths together, among which are all theirs
pub sum_of_paths : (ws : List (List ℕ)) → AreApart path_cmp ws → (xs : List Stmt) → list_all (λ x. is_member path_cmp ws x.path) xs ≡ true → sum_by (λ w. length (at_path xs w)) ws ≡ length xs
unfolding is_one
sum_of_paths ws d [] h = sum_zeros (λ w. length (at_path [] w)) ws (λ w. refl)
sum_of_paths ws d (x ∷ xs) h =
    let k = and_parts (is_member path_cmp ws x.path) (list_all (λ y. is_member path_cmp ws y.path) xs) h in
    let a = sum_added (λ w. length (at_path (x ∷ xs) w)) (is_one x.path) (λ w. length (at_path xs w)) ws (λ w. by (same_path x.path w) (at_path xs w)) in
    let b = one_one x.path ws d k.0 in
    let c = sum_of_paths ws d xs k.1 in
    omega arith
  where
    by : (b : Bool) (ys : List Stmt) → length (cond b (x ∷ ys) ys) ≡ cond b 1 0 + length ys
    by true ys = omega arith
    by false ys = omega arith

-- ---- explicit rows are statements

-- the statement that a row of a path says
said : List ℕ → Held → Stmt
said w h = record { path = w; sign = h.sign; tuple = h.tuple }

abbrev is_explicit : Held → Bool
is_explicit h = h.explicit

module _ (w : List ℕ) where
  -- rows in order say statements in order
  less_said : (a b : Held) → is_lt (row_tuple_cmp a b) ≡ true → is_lt (statement_cmp (said w a) (said w b)) ≡ true
  unfolding said
  less_said a b e =
      ap (λ r. is_lt (ordering_then r (ordering_then (tuple_cmp a.tuple b.tuple) (sign_cmp a.sign b.sign)))) (is_eq-Equal (path_cmp w w) (is_eq_itself path_exact w))
      ∙ ap (λ r. is_lt (ordering_then r (sign_cmp a.sign b.sign))) (is_lt-Less (tuple_cmp a.tuple b.tuple) e)

  said_above : (a : Held) (hs : List Held) → list_all (λ h. is_lt (row_tuple_cmp a h)) hs ≡ true → list_all (λ x. is_lt (statement_cmp (said w a) x)) (map (said w) (filter is_explicit hs)) ≡ true
  said_above a [] e = refl
  said_above a (h ∷ hs) e =
      let k = and_parts (is_lt (row_tuple_cmp a h)) (list_all (λ g. is_lt (row_tuple_cmp a g)) hs) e in
      by h.explicit (less_said a h k.0) (said_above a hs k.1)
    where
      by : (b : Bool) → is_lt (statement_cmp (said w a) (said w h)) ≡ true → list_all (λ x. is_lt (statement_cmp (said w a) x)) (map (said w) (filter is_explicit hs)) ≡ true
          → list_all (λ x. is_lt (statement_cmp (said w a) x)) (map (said w) (cond b (h ∷ filter is_explicit hs) (filter is_explicit hs))) ≡ true
      by true p q = and_from (is_lt (statement_cmp (said w a) (said w h))) (list_all (λ x. is_lt (statement_cmp (said w a) x)) (map (said w) (filter is_explicit hs))) p q
      by false p q = q

  said_ascend : (hs : List Held) → ascending row_tuple_cmp hs ≡ true → ascending statement_cmp (map (said w) (filter is_explicit hs)) ≡ true
  said_ascend [] e = refl
  said_ascend (h ∷ hs) e =
      let k = and_parts (list_all (λ g. is_lt (row_tuple_cmp h g)) hs) (ascending row_tuple_cmp hs) e in
      by h.explicit (said_above h hs k.0) (said_ascend hs k.1)
    where
      by : (b : Bool) → list_all (λ x. is_lt (statement_cmp (said w h) x)) (map (said w) (filter is_explicit hs)) ≡ true → ascending statement_cmp (map (said w) (filter is_explicit hs)) ≡ true
          → ascending statement_cmp (map (said w) (cond b (h ∷ filter is_explicit hs) (filter is_explicit hs))) ≡ true
      by true p q = and_from (list_all (λ x. is_lt (statement_cmp (said w h) x)) (map (said w) (filter is_explicit hs))) (ascending statement_cmp (map (said w) (filter is_explicit hs))) p q
      by false p q = q

  -- what is said is said by an explicit row
  said_by : (hs : List Held) (x : Stmt) → is_member statement_cmp (map (said w) (filter is_explicit hs)) x ≡ true → (h : Held) × (has_row hs h ≡ true) × (h.explicit ≡ true) × (said w h ≡ x)
  said_by [] x e = absurd (false≢true e)
  said_by (h ∷ hs) x e = by (λ f. let r = said_by hs x f in (r.0, or_right (same_row r.0 h) (has_row hs r.0) r.1, r.2, r.3)) h.explicit refl e
    where
      by : (is_member statement_cmp (map (said w) (filter is_explicit hs)) x ≡ true → (g : Held) × (has_row (h ∷ hs) g ≡ true) × (g.explicit ≡ true) × (said w g ≡ x)) → (b : Bool) → h.explicit ≡ b → is_member statement_cmp (map (said w) (cond b (h ∷ filter is_explicit hs) (filter is_explicit hs))) x ≡ true
          → (g : Held) × (has_row (h ∷ hs) g ≡ true) × (g.explicit ≡ true) × (said w g ≡ x)
      by later false k f = later f
      by later true k f = elim (or_cases (is_eq (statement_cmp (said w h) x)) (is_member statement_cmp (map (said w) (filter is_explicit hs)) x) f) [
        | inl s ↦ (h, or_left (same_row h h) (has_row hs h) (same_row_from h h refl refl refl), k, statement_exact.exact (said w h) x (is_eq-Equal (statement_cmp (said w h) x) s))
        | inr s ↦ later s
      ]

  -- what an explicit row says is said
  said_there : (hs : List Held) (g : Held) → has_row hs g ≡ true → g.explicit ≡ true → is_member statement_cmp (map (said w) (filter is_explicit hs)) (said w g) ≡ true
  unfolding said
  said_there [] g e f = absurd (false≢true e)
  said_there (h ∷ hs) g e f = elim (or_cases (same_row g h) (has_row hs g) e) [
    | inl s ↦
        let k = same_row_tells g h s in
        here h.explicit (sym k.2 ∙ f) (ap (λ (x : Stmt). is_eq (statement_cmp (said w h) x)) (same_said g h k.0 k.1) ∙ is_eq_itself statement_exact (said w h))
    | inr s ↦ later h.explicit (said_there hs g s f)
  ]
    where
      made : Sign → Tuple → Stmt
      made s u = record { path = w; sign = s; tuple = u }

      same_said : (a b : Held) → a.tuple ≡ b.tuple → a.sign ≡ b.sign → said w a ≡ said w b
      same_said a b p q = ap (λ u. made a.sign u) p ∙ ap (λ s. made s b.tuple) q

      here : (b : Bool) → b ≡ true → is_eq (statement_cmp (said w h) (said w g)) ≡ true → is_member statement_cmp (map (said w) (cond b (h ∷ filter is_explicit hs) (filter is_explicit hs))) (said w g) ≡ true
      here true k p = or_left (is_eq (statement_cmp (said w h) (said w g))) (is_member statement_cmp (map (said w) (filter is_explicit hs)) (said w g)) p
      here false k p = absurd (false≢true k)

      later : (b : Bool) → is_member statement_cmp (map (said w) (filter is_explicit hs)) (said w g) ≡ true → is_member statement_cmp (map (said w) (cond b (h ∷ filter is_explicit hs) (filter is_explicit hs))) (said w g) ≡ true
      later true p = or_right (is_eq (statement_cmp (said w h) (said w g))) (is_member statement_cmp (map (said w) (filter is_explicit hs)) (said w g)) p
      later false p = p

-- members of the statements of a path
at_path_member : (stmts : List Stmt) (w : List ℕ) (x : Stmt) → is_member statement_cmp (at_path stmts w) x ≡ true → (is_member statement_cmp stmts x ≡ true) × (x.path ≡ w)
at_path_member [] w x e = absurd (false≢true e)
at_path_member (y ∷ ys) w x e = by (λ f. let r = at_path_member ys w x f in (or_right (is_eq (statement_cmp y x)) (is_member statement_cmp ys x) r.0, r.1)) (same_path y.path w) refl e
  where
    by : (is_member statement_cmp (at_path ys w) x ≡ true → (is_member statement_cmp (y ∷ ys) x ≡ true) × (x.path ≡ w)) → (b : Bool) → same_path y.path w ≡ b → is_member statement_cmp (cond b (y ∷ at_path ys w) (at_path ys w)) x ≡ true → (is_member statement_cmp (y ∷ ys) x ≡ true) × (x.path ≡ w)
    by later false k f = later f
    by later true k f = elim (or_cases (is_eq (statement_cmp y x)) (is_member statement_cmp (at_path ys w) x) f) [
      | inl s ↦ (or_left (is_eq (statement_cmp y x)) (is_member statement_cmp ys x) s, ap (λ (z : Stmt). z.path) (sym (statement_exact.exact y x (is_eq-Equal (statement_cmp y x) s))) ∙ (same_path-Decides y.path w).0 k)
      | inr s ↦ later s
    ]

member_at_path : (stmts : List Stmt) (w : List ℕ) (x : Stmt) → is_member statement_cmp stmts x ≡ true → x.path ≡ w → is_member statement_cmp (at_path stmts w) x ≡ true
member_at_path [] w x e p = absurd (false≢true e)
member_at_path (y ∷ ys) w x e p = elim (or_cases (is_eq (statement_cmp y x)) (is_member statement_cmp ys x) e) [
  | inl s ↦
      let same : y ≡ x = statement_exact.exact y x (is_eq-Equal (statement_cmp y x) s) in
      ap (λ zs. is_member statement_cmp zs x) (cond-true (same_path y.path w) (y ∷ at_path ys w) (at_path ys w) ((same_path-Decides y.path w).1 (ap (λ (z : Stmt). z.path) same ∙ p)))
      ∙ or_left (is_eq (statement_cmp y x)) (is_member statement_cmp (at_path ys w) x) s
  | inr s ↦ later (same_path y.path w) (member_at_path ys w x s p)
]
  where
    later : (b : Bool) → is_member statement_cmp (at_path ys w) x ≡ true → is_member statement_cmp (cond b (y ∷ at_path ys w) (at_path ys w)) x ≡ true
    later true f = or_right (is_eq (statement_cmp y x)) (is_member statement_cmp (at_path ys w) x) f
    later false f = f

listed_same : (xs : List Stmt) (x : Stmt) → is_member statement_cmp xs x ≡ list_any (same_statement x) xs
listed_same [] x = refl
listed_same (y ∷ ys) x = ap (λ b. b || is_member statement_cmp ys x) (is_eq_statement_cmp y x ∙ same_tests (same_statement y x) (same_statement x y)
    (λ e. (same_statement-Decides x y).1 (sym ((same_statement-Decides y x).0 e))) (λ e. (same_statement-Decides y x).1 (sym ((same_statement-Decides x y).0 e))))
    ∙ ap (λ b. same_statement x y || b) (listed_same ys x)

-- the explicit rows of a path's world are as many as the statements of the path
pub explicit_are_statements : (keys : ℕ → ℕ) (stmts : List Stmt) → ascending statement_cmp stmts ≡ true → IsConsistent keys stmts → (w : List ℕ) → explicit_rows (world_of keys stmts w) ≡ length (at_path stmts w)
unfolding said
explicit_are_statements keys stmts sorted c w =
    let rows = world_of keys stmts w in
    sym (length-map (filter is_explicit rows) (said w))
    ∙ ap (λ (xs : List Stmt). length xs)
    (members_make_set statement_exact (map (said w) (filter is_explicit rows)) (at_path stmts w) (said_ascend w rows (tuples_stand_once keys stmts c w))
    (filter_keeps_order statement_exact (λ x. same_path x.path w) stmts sorted) (λ x.
    same_tests (is_member statement_cmp (map (said w) (filter is_explicit rows)) x) (is_member statement_cmp (at_path stmts w) x)
    (λ e.
    let h = said_by w rows x e in
    let t = (rows_are_the_world keys stmts w h.0).0 h.1 in
    let y = explicit_statement stmts w h.0.tuple h.0.sign (sym t.1 ∙ h.2) in
    let same : y.0 ≡ x = one_statement y.0 (said w h.0) y.2 y.3 y.4 ∙ h.3 in
    member_at_path stmts w x (listed_same stmts x ∙ ap (λ z. list_any (same_statement z) stmts) (sym same) ∙ y.1) (ap (λ (z : Stmt). z.path) (sym same) ∙ y.2))
    (λ e.
    let m = at_path_member stmts w x e in
    let is = statement_explicit stmts w x (sym (listed_same stmts x) ∙ m.0) m.1 in
    let h : Held = record { tuple = x.tuple; sign = x.sign; explicit = explicit stmts w x.tuple x.sign } in
    let row = (rows_are_the_world keys stmts w h).1 (explicit_is_stated keys stmts w x.tuple x.sign is, refl) in
    ap (is_member statement_cmp (map (said w) (filter is_explicit rows))) (one_statement x (said w h) m.1 refl refl) ∙ said_there w rows h row is)))
  where
    made : List ℕ → Sign → Tuple → Stmt
    made p g u = record { path = p; sign = g; tuple = u }

    one_statement : (y z : Stmt) → y.path ≡ z.path → y.tuple ≡ z.tuple → y.sign ≡ z.sign → y ≡ z
    one_statement y z e f g = ap (λ p. made p y.sign y.tuple) e ∙ ap (λ k. made z.path k y.tuple) g ∙ ap (λ u. made z.path z.sign u) f

-- ---- the paths of statements are states

pub paths_are_members : (all xs : List Stmt) → ((p : Stmt → Bool) → list_any p xs ≡ true → list_any p all ≡ true) → list_all (λ x. is_member path_cmp (states_of all) x.path) xs ≡ true
paths_are_members all [] k = refl
paths_are_members all (x ∷ xs) k =
    and_from (is_member path_cmp (states_of all) x.path) (list_all (λ y. is_member path_cmp (states_of all) y.path) xs)
    (list_has_states all x.path ∙ state x.path refl)
    (paths_are_members all xs (λ p e. k p (or_right (p x) (list_any p xs) e)))
  where
    state : (w : List ℕ) → x.path ≡ w → is_state all w ≡ true
    state [] e = refl
    state (i ∷ w) e = k (λ y. is_prefix (i ∷ w) y.path) (or_left (is_prefix (i ∷ w) x.path) (list_any (λ y. is_prefix (i ∷ w) y.path) xs) (ap (is_prefix (i ∷ w)) e ∙ is_prefix_itself (i ∷ w)))
