-- The states are the prefixes of the statements' paths, and so they are counted.
use Rattle.std.proofs.Common.{◌≡◌, ◌∙◌, ℕ, ◌+◌, ◌≤◌, ◌<◌, Bool, true, false, not, ◌&&◌, ◌||◌, nat_eq, nat_lt, List, [], ◌∷◌, ◌++◌, refl, ap, sym, inl, inr, suc, arith, filter, length, map, take, drop, get_or}
use Prim.Native.Nat.{zero}
use Rattle.std.specs.List.{list_any}
use Rattle.std.specs.Ordering.{is_eq}
use Rattle.std.proofs.lemmas.Bool.{cases_Bool, and_parts, and_from, and_right, or_left, false≢true, false_from_ne_true, not-true, not_from_false, lt-ltb, eqb-true, eq-eqb}
use Rattle.std.proofs.lemmas.Bool.Decides.{nat_tests}
use Rattle.std.proofs.lemmas.List.{take_more, take_all, length-take-le}
use Rattle.std.proofs.lemmas.List.Folds.{list_any-append}
use Rattle.bdb_base.specs.declared.kinds.Stmt.{Stmt}
use Rattle.bdb_base.specs.Bases.{distinct_count, with_statement, world_count}
use Rattle.bdb_base.specs.Order.{path_cmp}
use Rattle.bdb_base.specs.OrderLemmas.{path_exact, is_eq_path_cmp, statement_exact}
use Rattle.bdb_base.specs.Same.{same_path}
use Rattle.bdb_base.specs.SameLemmas.{same_path-Decides}
use Rattle.bdb_base.specs.Segments.{is_prefix}
use Rattle.bdb_base.specs.SortedSet.{ascending, is_member, put_in}
use Rattle.bdb_base.specs.States.{is_state, prefixes, stated_prefixes, states_of}
use Rattle.bdb_base.proofs.ClashLemmas.{turned}
use Rattle.bdb_base.proofs.CountLemmas.{list_any-map, one_unless, distinct_count-same, put_all_count}
use Rattle.bdb_base.proofs.ListLemmas.{filter_kept_one, filter_dropped_one, or_swap, or_false, list_any_same, filter_same, list_any_under}
use Rattle.bdb_base.proofs.SegmentLemmas.{is_prefix_begins, length-prefix, is_prefix_shorter}
use Rattle.bdb_base.proofs.SetLemmas.{list_any-put_in, loop_makes_set, members_make_set, put_adds_member, set_is_ascending, set_keeps_members}
use Rattle.bdb_base.proofs.WorldLemmas.{list_any_weaker}
use Rattle.bdb_base.proofs.WorldRowsLemmas.{list_any-flat_map}
use Rattle.bdb_paths.specs.PathLaws.{ListHasStates, StatesHavePrefixes, StatesAreCounted, PutMakesStates, PutCountsWorlds}

-- ---- tests of lists

pub path_turned : (v w : List ℕ) → same_path v w ≡ same_path w v
path_turned = turned same_path same_path-Decides

-- a path is a member of a list where it is the same as an item
pub member_is_same : (xs : List (List ℕ)) (w : List ℕ) → is_member path_cmp xs w ≡ list_any (same_path w) xs
member_is_same xs w = list_any_same (λ y. is_eq (path_cmp y w)) (same_path w) (λ y. is_eq_path_cmp y w ∙ path_turned y w) xs

-- ---- prefixes

pub prefix_is_listed : (w p : List ℕ) → list_any (same_path w) (prefixes p) ≡ is_prefix w p
prefix_is_listed [] [] = refl
prefix_is_listed [] (j ∷ p) = refl
prefix_is_listed (i ∷ w) [] = refl
prefix_is_listed (i ∷ w) (j ∷ p) = list_any-map (same_path (i ∷ w)) (λ q. j ∷ q) (prefixes p)
    ∙ list_any_under (nat_eq i j) (same_path w) (prefixes p) ∙ ap (λ b. nat_eq i j && b) (prefix_is_listed w p)

pub state_is_listed : (stmts : List Stmt) (w : List ℕ) → list_any (same_path w) (stated_prefixes stmts) ≡ is_state stmts w
state_is_listed stmts [] = refl
state_is_listed stmts (i ∷ w) = list_any-flat_map (same_path (i ∷ w)) (λ x. prefixes x.path) stmts
    ∙ list_any_same (λ x. list_any (same_path (i ∷ w)) (prefixes x.path)) (λ x. is_prefix (i ∷ w) x.path) (λ x. prefix_is_listed (i ∷ w) x.path) stmts

pub list_has_states : ListHasStates
list_has_states stmts w = set_keeps_members path_exact (stated_prefixes stmts) w ∙ member_is_same (stated_prefixes stmts) w ∙ state_is_listed stmts w

pub states_have_prefixes : StatesHavePrefixes
states_have_prefixes stmts [] q h = refl
states_have_prefixes stmts (i ∷ p) q h = list_any_weaker (λ x. is_prefix ((i ∷ p) ++ q) x.path) (λ x. is_prefix (i ∷ p) x.path) (λ x k. is_prefix_shorter (i ∷ p) q x.path k) stmts h

-- ---- counting

pub states_are_counted : StatesAreCounted
states_are_counted stmts = ap length (sym (loop_makes_set path_exact (stated_prefixes stmts))) ∙ put_all_count same_path same_path-Decides path_exact (stated_prefixes stmts)

pub put_makes_states : PutMakesStates
put_makes_states stmts s [] = refl
put_makes_states stmts s (i ∷ w) = list_any-put_in statement_exact (λ x. is_prefix (i ∷ w) x.path) stmts s

-- no item is among the later ones
abbrev differ : List (List ℕ) → Bool
differ [] = true
differ (p ∷ ps) = not (list_any (same_path p) ps) && differ ps

differ-map : (i : ℕ) (ps : List (List ℕ)) → differ ps ≡ true → differ (map (λ p. i ∷ p) ps) ≡ true
differ-map i [] h = refl
differ-map i (p ∷ ps) h =
    let k = and_parts (not (list_any (same_path p) ps)) (differ ps) h in
    and_from (not (list_any (same_path (i ∷ p)) (map (λ q. i ∷ q) ps))) (differ (map (λ q. i ∷ q) ps))
    (not_from_false (list_any (same_path (i ∷ p)) (map (λ q. i ∷ q) ps)) (list_any-map (same_path (i ∷ p)) (λ q. i ∷ q) ps
    ∙ list_any_under (nat_eq i i) (same_path p) ps ∙ and_right (nat_eq i i) (list_any (same_path p) ps) (not-true (list_any (same_path p) ps) k.0)))
    (differ-map i ps k.1)

prefixes_differ : (w : List ℕ) → differ (prefixes w) ≡ true
prefixes_differ [] = refl
prefixes_differ (i ∷ w) = and_from (not (list_any (same_path []) (map (λ p. i ∷ p) (prefixes w)))) (differ (map (λ p. i ∷ p) (prefixes w)))
    (not_from_false (list_any (same_path []) (map (λ p. i ∷ p) (prefixes w))) (list_any-map (same_path []) (λ p. i ∷ p) (prefixes w) ∙ none (prefixes w)))
    (differ-map i (prefixes w) (prefixes_differ w))
  where
    none : (ps : List (List ℕ)) → list_any (λ p. false) ps ≡ false
    none [] = refl
    none (p ∷ ps) = none ps

-- the items of a list that are not in another
abbrev missing : List (List ℕ) → List (List ℕ) → List (List ℕ)
missing ps qs = filter (λ p. not (list_any (same_path p) qs)) ps

-- different items in front of a list add to its count those that it has not
count_front : (ps qs : List (List ℕ)) → differ ps ≡ true → distinct_count same_path (ps ++ qs) ≡ length (missing ps qs) + distinct_count same_path qs
count_front [] qs h = omega arith
count_front (p ∷ ps) qs h =
    let k = and_parts (not (list_any (same_path p) ps)) (differ ps) h in
    let ih = count_front ps qs k.1 in
    let a : list_any (same_path p) (ps ++ qs) ≡ list_any (same_path p) qs = list_any-append (same_path p) ps qs
    ∙ ap (λ b. b || list_any (same_path p) qs) (not-true (list_any (same_path p) ps) k.0) in
    let b : one_unless (list_any (same_path p) (ps ++ qs)) ≡ one_unless (list_any (same_path p) qs) = ap one_unless a in
    elim (cases_Bool (list_any (same_path p) qs)) [
      | inl e ↦
          let d : missing (p ∷ ps) qs ≡ missing ps qs = filter_dropped_one (λ q. not (list_any (same_path q) qs)) p ps (ap not e) in
          let l : length (missing (p ∷ ps) qs) ≡ length (missing ps qs) = ap length d in
          let u : one_unless (list_any (same_path p) qs) ≡ 0 = ap one_unless e in
          omega arith
      | inr e ↦
          let d : missing (p ∷ ps) qs ≡ p ∷ missing ps qs = filter_kept_one (λ q. not (list_any (same_path q) qs)) p ps (ap not e) in
          let l : length (missing (p ∷ ps) qs) ≡ suc (length (missing ps qs)) = ap length d in
          let u : one_unless (list_any (same_path p) qs) ≡ 1 = ap one_unless e in
          omega arith
    ]

pub put_counts_worlds : PutCountsWorlds
put_counts_worlds stmts s =
    distinct_count-same same_path same_path-Decides (stated_prefixes (with_statement stmts s)) (prefixes s.path ++ stated_prefixes stmts)
    (λ w. state_is_listed (with_statement stmts s) w ∙ put_makes_states stmts s w
    ∙ ap (λ b. b || is_state stmts w) (sym (prefix_is_listed w s.path)) ∙ ap (λ b. list_any (same_path w) (prefixes s.path) || b) (sym (state_is_listed stmts w))
    ∙ sym (list_any-append (same_path w) (prefixes s.path) (stated_prefixes stmts)))
    ∙ count_front (prefixes s.path) (stated_prefixes stmts) (prefixes_differ s.path)
    ∙ ap (λ ps. length ps + world_count stmts)
    (filter_same (λ p. not (list_any (same_path p) (stated_prefixes stmts))) (λ p. not (is_state stmts p)) (λ p. ap not (state_is_listed stmts p)) (prefixes s.path))

-- ---- the steps of the loops

prefix_taken : (n : ℕ) (p : List ℕ) → is_prefix (take n p) p ≡ true
prefix_taken zero p = refl
prefix_taken (suc n) [] = refl
prefix_taken (suc n) (i ∷ p) = and_from (nat_eq i i) (is_prefix (take n p) p) (eq-eqb i i refl) (prefix_taken n p)

up_to : (m n : ℕ) → (nat_eq m n || nat_lt m n) ≡ nat_lt m (n + 1)
up_to m n = grind (arith, nat_tests)

-- a prefix is the one of its length
prefix_by_length : (p w : List ℕ) (n : ℕ) → n ≤ length p → is_prefix w p ≡ true → same_path (take n p) w ≡ nat_eq (length w) n
prefix_by_length p w n l h =
    let e : w ≡ take (length w) p = (same_path-Decides w (take (length w) p)).0 (sym (is_prefix_begins w p) ∙ h) in
    elim (cases_Bool (nat_eq (length w) n)) [
      | inl t ↦ (same_path-Decides (take n p) w).1 (ap (λ m. take m p) (sym (eqb-true (length w) n t)) ∙ sym e) ∙ sym t
      | inr f ↦ false_from_ne_true (same_path (take n p) w)
          (λ s. false≢true (sym f ∙ eq-eqb (length w) n (sym (ap length ((same_path-Decides (take n p) w).0 s)) ∙ length-take-le n p l))) ∙ sym f
    ]

prefix_next : (p w : List ℕ) (n : ℕ) → n ≤ length p → (same_path (take n p) w || (is_prefix w p && nat_lt (length w) n)) ≡ (is_prefix w p && nat_lt (length w) (n + 1))
prefix_next p w n l = elim (cases_Bool (is_prefix w p)) [
  | inl e ↦ ap (λ b. same_path (take n p) w || (b && nat_lt (length w) n)) e ∙ ap (λ b. b || nat_lt (length w) n) (prefix_by_length p w n l e)
      ∙ up_to (length w) n ∙ ap (λ b. b && nat_lt (length w) (n + 1)) (sym e)
  | inr e ↦
      let apart : same_path (take n p) w ≡ false = false_from_ne_true (same_path (take n p) w)
      (λ s. false≢true (sym e ∙ ap (λ v. is_prefix v p) (sym ((same_path-Decides (take n p) w).0 s)) ∙ prefix_taken n p)) in
      ap (λ b. b || (is_prefix w p && nat_lt (length w) n)) apart ∙ ap (λ b. b && nat_lt (length w) n) e ∙ ap (λ b. b && nat_lt (length w) (n + 1)) (sym e)
]

pub next_prefix : (p : List ℕ) (n : ℕ) (old now new : List (List ℕ)) → n ≤ length p → new ≡ put_in path_cmp now (take n p)
    → ((w : List ℕ) → is_member path_cmp now w ≡ (is_member path_cmp old w || (is_prefix w p && nat_lt (length w) n)))
    → (w : List ℕ) → is_member path_cmp new w ≡ (is_member path_cmp old w || (is_prefix w p && nat_lt (length w) (n + 1)))
next_prefix p n old now new l e h w =
    ap (λ xs. is_member path_cmp xs w) e ∙ put_adds_member path_exact now (take n p) w
    ∙ ap (λ b. b || is_member path_cmp now w) (is_eq_path_cmp (take n p) w) ∙ ap (λ b. same_path (take n p) w || b) (h w)
    ∙ or_swap (same_path (take n p) w) (is_member path_cmp old w) (is_prefix w p && nat_lt (length w) n)
    ∙ ap (λ b. is_member path_cmp old w || b) (prefix_next p w n l)

pub last_prefix : (p : List ℕ) (n : ℕ) (old now new : List (List ℕ)) → n ≡ length p → new ≡ put_in path_cmp now p
    → ((w : List ℕ) → is_member path_cmp now w ≡ (is_member path_cmp old w || (is_prefix w p && nat_lt (length w) n)))
    → (w : List ℕ) → is_member path_cmp new w ≡ (is_member path_cmp old w || is_prefix w p)
last_prefix p n old now new l e h w =
    next_prefix p n old now new (omega arith) (e ∙ ap (put_in path_cmp now) (sym (take_all n p (omega arith)))) h w
    ∙ ap (λ b. is_member path_cmp old w || b) whole
  where
    whole : (is_prefix w p && nat_lt (length w) (n + 1)) ≡ is_prefix w p
    whole = elim (cases_Bool (is_prefix w p)) [
      | inl t ↦ let k = length-prefix w p t in and_from (is_prefix w p) (nat_lt (length w) (n + 1)) t (lt-ltb (length w) (n + 1) (omega arith)) ∙ sym t
      | inr f ↦ ap (λ b. b && nat_lt (length w) (n + 1)) f ∙ sym f
    ]

-- the states with one more statement behind
state_push : (xs : List Stmt) (x : Stmt) (w : List ℕ) → is_state (xs ++ x ∷ []) w ≡ (is_state xs w || is_prefix w x.path)
state_push xs x [] = refl
state_push xs x (i ∷ w) = list_any-append (λ y. is_prefix (i ∷ w) y.path) xs (x ∷ []) ∙ ap (λ b. is_state xs (i ∷ w) || b) (or_false (is_prefix (i ∷ w) x.path))

pub next_states : (xs : List Stmt) (i : ℕ) (x : Stmt) (now new : List (List ℕ)) → i < length xs → x ≡ get_or xs i x
    → ((w : List ℕ) → is_member path_cmp now w ≡ is_state (take i xs) w)
    → ((w : List ℕ) → is_member path_cmp new w ≡ (is_member path_cmp now w || is_prefix w x.path))
    → (w : List ℕ) → is_member path_cmp new w ≡ is_state (take (i + 1) xs) w
next_states xs i x now new l is h n w =
    n w ∙ ap (λ b. b || is_prefix w x.path) (h w) ∙ sym (state_push (take i xs) x w)
    ∙ ap (λ y. is_state (take i xs ++ y ∷ []) w) is ∙ ap (λ ys. is_state ys w) (sym (take_more xs i x l))

prefix_splits : (w p : List ℕ) → is_prefix w p ≡ true → p ≡ w ++ drop (length w) p
prefix_splits [] p h = refl
prefix_splits (i ∷ w) [] h = absurd (false≢true h)
prefix_splits (i ∷ w) (j ∷ p) h =
    let k = and_parts (nat_eq i j) (is_prefix w p) h in
    ap (λ n. n ∷ p) (sym (eqb-true i j k.0)) ∙ ap (λ q. i ∷ q) (prefix_splits w p k.1)

-- a statement of a state adds none
pub same_states : (xs : List Stmt) (i : ℕ) (x : Stmt) (now : List (List ℕ)) → i < length xs → x ≡ get_or xs i x
    → ((w : List ℕ) → is_member path_cmp now w ≡ is_state (take i xs) w) → is_member path_cmp now x.path ≡ true
    → (w : List ℕ) → is_member path_cmp now w ≡ is_state (take (i + 1) xs) w
same_states xs i x now l is h m = next_states xs i x now now l is h nothing_new
  where
    nothing_new : (w : List ℕ) → is_member path_cmp now w ≡ (is_member path_cmp now w || is_prefix w x.path)
    nothing_new w = elim (cases_Bool (is_prefix w x.path)) [
      | inl t ↦
          let here : is_member path_cmp now w ≡ true = h w ∙ states_have_prefixes (take i xs) w (drop (length w) x.path)
          (ap (is_state (take i xs)) (sym (prefix_splits w x.path t)) ∙ sym (h x.path) ∙ m) in
          here ∙ sym (or_left (is_member path_cmp now w) (is_prefix w x.path) here)
      | inr f ↦ sym (ap (λ b. is_member path_cmp now w || b) f ∙ or_false (is_member path_cmp now w))
    ]

pub all_states : (xs : List Stmt) (i : ℕ) (now : List (List ℕ)) → length xs ≤ i → ascending path_cmp now ≡ true
    → ((w : List ℕ) → is_member path_cmp now w ≡ is_state (take i xs) w) → now ≡ states_of xs
all_states xs i now l s h = members_make_set path_exact now (states_of xs) s (set_is_ascending path_exact (stated_prefixes xs))
    (λ w. h w ∙ ap (λ ys. is_state ys w) (take_all i xs l) ∙ sym (list_has_states xs w))
