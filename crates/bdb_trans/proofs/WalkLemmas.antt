-- A walk comes to the deepest state at the end of its path, exactly where the path has no equal neighbours.
use Rattle.std.proofs.Common.{◌≡◌, ◌∙◌, ℕ, Bool, true, false, not, ◌&&◌, ◌||◌, nat_eq, List, [], ◌∷◌, ◌++◌, Option, None, Some, inl, inr, refl, ap, sym, subst, append_assoc}
use Rattle.std.specs.List.{list_all}
use Rattle.std.specs.Option.{option_map, option_and_then}
use Rattle.std.proofs.lemmas.Bool.{cases_Bool, cond-true, cond-false, and_parts}
use Rattle.bdb_base.specs.declared.tuple.Tuple.{Tuple}
use Rattle.bdb_base.specs.declared.kinds.Who.{Who}
use Rattle.bdb_base.specs.declared.kinds.Who.TheVariants.{User, Of}
use Rattle.bdb_base.specs.Alternation.{alternates}
use Rattle.bdb_base.specs.Bases.{Contents, is_user}
use Rattle.bdb_base.specs.Safety.{fixed_differ, begins_with_another}
use Rattle.bdb_base.specs.Segments.{is_suffix}
use Rattle.bdb_base.specs.States.{is_state, deepest_suffix}
use Rattle.bdb_base.proofs.BoolLemmas.{and_false}
use Rattle.bdb_base.proofs.SegmentLemmas.{empty_differs}
use Rattle.bdb_base.proofs.Numbers.{differs_turned}
use Rattle.bdb_paths.proofs.StateLemmas.{states_have_prefixes}
use Rattle.bdb_paths.proofs.SuffixLemmas.{deepest_is_member, suffixes_extend}
use Rattle.bdb_queries.specs.Slots.{uid_of, path_of}
use Rattle.bdb_queries.proofs.FoundLemmas.{option_map_some}
use Rattle.bdb_queries.proofs.RangeLemmas.{and_then_some}
use Rattle.bdb_plan.specs.declared.step.Step.{Step}
use Rattle.bdb_plan.specs.declared.step.Step.TheVariants as step
use Rattle.bdb_plan.specs.Holding.{differ, world_if, world_after, world_at_end}
use Rattle.bdb_plan.specs.PlanOf.{differ_from, walk_from, walk_of}
use Rattle.bdb_plan.specs.Shown.{Shows}
use Rattle.bdb_plan.specs.Sight.{Sight}
use Rattle.bdb_trans.proofs.StepLemmas.{IsTest, end_append, both_tests, first_test}

-- ---- ends of paths

one_user : (b : Bool) → ((b && true) || false) ≡ b
one_user true = refl
one_user false = refl

last_user : (q : List ℕ) (i j : ℕ) → is_suffix (j ∷ []) (q ++ i ∷ []) ≡ nat_eq j i
last_user [] i j = one_user (nat_eq j i)
last_user (k ∷ q) i j =
    ap (λ b. (nat_eq j k && b) || is_suffix (j ∷ []) (q ++ i ∷ [])) (empty_differs q i)
    ∙ ap (λ b. b || is_suffix (j ∷ []) (q ++ i ∷ [])) (and_false (nat_eq j k)) ∙ last_user q i j

-- the deepest suffix of a path that ends in one user does not end in another
ends_otherwise : (P : List ℕ → Bool) (q : List ℕ) (i j : ℕ) → nat_eq j i ≡ false → is_suffix (j ∷ []) (deepest_suffix P (q ++ i ∷ [])) ≡ false
ends_otherwise P [] i j h = elim (cases_Bool (P (i ∷ []))) [
  | inl k ↦ ap (is_suffix (j ∷ [])) (cond-true (P (i ∷ [])) (i ∷ []) [] k) ∙ last_user [] i j ∙ h
  | inr k ↦ ap (is_suffix (j ∷ [])) (cond-false (P (i ∷ [])) (i ∷ []) [] k)
]
ends_otherwise P (k ∷ q) i j h = elim (cases_Bool (P (k ∷ (q ++ i ∷ [])))) [
  | inl m ↦ ap (is_suffix (j ∷ [])) (cond-true (P (k ∷ (q ++ i ∷ []))) (k ∷ (q ++ i ∷ [])) (deepest_suffix P (q ++ i ∷ [])) m) ∙ last_user (k ∷ q) i j ∙ h
  | inr m ↦ ap (is_suffix (j ∷ [])) (cond-false (P (k ∷ (q ++ i ∷ []))) (k ∷ (q ++ i ∷ [])) (deepest_suffix P (q ++ i ∷ [])) m) ∙ ends_otherwise P q i j h
]

-- ---- paths of slots

-- the first user of a path, and the rest
pub path_parts : (zs : List (Option Tuple)) (who : Who) (whos : List Who) (w : List ℕ) → path_of zs (who ∷ whos) ≡ Some w
    → (j : ℕ) × (v : List ℕ) × (uid_of zs who ≡ Some j) × (path_of zs whos ≡ Some v) × (j ∷ v ≡ w)
path_parts zs who whos w e =
    let k = and_then_some (λ uid. option_map (λ u. uid ∷ u) (path_of zs whos)) (uid_of zs who) w e in
    let m = option_map_some (λ u. k.0 ∷ u) (path_of zs whos) w k.2 in
    (k.0, m.0, k.1, m.1, m.2)

-- two elements are apart exactly where their users differ
apart : (sight : Sight) (zs : List (Option Tuple)) (n item i j : ℕ) (before who : Who) (whos : List Who) → uid_of zs before ≡ Some i → uid_of zs who ≡ Some j
    → fixed_differ (before ∷ who ∷ whos) ≡ true → IsTest sight zs n (differ_from item (Some before) who) (not (nat_eq i j)) n
apart sight zs n item i j (User a) (User c) whos d e f =
    let same : a ≡ i = cc in
    let other : c ≡ j = cc in
    let k = (and_parts (begins_with_another a (User c ∷ whos)) (fixed_differ (User c ∷ whos)) f).0 in
    let t : not (nat_eq i j) ≡ true = ap (λ x. not (nat_eq x j)) (sym same) ∙ ap (λ x. not (nat_eq a x)) (sym other) ∙ k in
    ap (λ b. world_if b n) (sym t)
apart sight zs n item i j (User a) (Of c) whos d e f =
    let same : world_after sight zs n (step.Differ item (User a) (Of c)) ≡ world_if (not (nat_eq i j)) n =
    ap (λ o. world_if (differ (uid_of zs (User a)) o) n) e ∙ ap (λ o. world_if (differ o (Some j)) n) d in
    ap (option_and_then (λ m. Some m)) same ∙ stays (not (nat_eq i j)) n
  where
    stays : (t : Bool) (n : ℕ) → option_and_then (λ m. Some m) (world_if t n) ≡ world_if t n
    stays true n = refl
    stays false n = refl
apart sight zs n item i j (Of a) who whos d e f =
    let same : world_after sight zs n (step.Differ item (Of a) who) ≡ world_if (not (nat_eq i j)) n =
    ap (λ o. world_if (differ (uid_of zs (Of a)) o) n) e ∙ ap (λ o. world_if (differ o (Some j)) n) d in
    ap (option_and_then (λ m. Some m)) same ∙ stays (not (nat_eq i j)) n
  where
    stays : (t : Bool) (n : ℕ) → option_and_then (λ m. Some m) (world_if t n) ≡ world_if t n
    stays true n = refl
    stays false n = refl

fixed_rest : (before who : Who) (whos : List Who) → fixed_differ (before ∷ who ∷ whos) ≡ true → fixed_differ (who ∷ whos) ≡ true
fixed_rest (User a) who whos f = (and_parts (begins_with_another a (who ∷ whos)) (fixed_differ (who ∷ whos)) f).1
fixed_rest (Of a) who whos f = f

-- an edge that leads on
edge_on : (b : Contents) (sight : Sight) (number : List ℕ → ℕ) → Shows b sight number → (zs : List (Option Tuple)) (u : List ℕ) (item j : ℕ) (who : Who) → uid_of zs who ≡ Some j
    → is_user b.catalog.users j ≡ true → is_state b.stmts u ≡ true → is_suffix (j ∷ []) u ≡ false
    → world_after sight zs (number u) (step.Edge item who) ≡ world_if true (number (deepest_suffix (is_state b.stmts) (u ++ j ∷ [])))
edge_on b sight number s zs u item j who e user state ends = ap (option_and_then (sight.edge (number u))) e ∙ s.edges u j state user ends

-- a walk goes on
walk_on : (b : Contents) (sight : Sight) (number : List ℕ → ℕ) → Shows b sight number → (zs : List (Option Tuple)) (item : ℕ) (q : List ℕ) (i : ℕ) (before : Who) (whos : List Who) (w : List ℕ)
    → uid_of zs before ≡ Some i → path_of zs whos ≡ Some w → list_all (is_user b.catalog.users) w ≡ true → fixed_differ (before ∷ whos) ≡ true
    → IsTest sight zs (number (deepest_suffix (is_state b.stmts) (q ++ i ∷ []))) (walk_from item (Some before) whos) (alternates (i ∷ w)) (number (deepest_suffix (is_state b.stmts) (q ++ i ∷ w)))
walk_on b sight number s zs item q i before [] w d e u f =
    let none : [] ≡ w = cc in
    subst (λ v. IsTest sight zs (number (deepest_suffix (is_state b.stmts) (q ++ i ∷ []))) [] (alternates (i ∷ v)) (number (deepest_suffix (is_state b.stmts) (q ++ i ∷ v)))) none refl
walk_on b sight number s zs item q i before (who ∷ whos) w d e u f =
    let P = is_state b.stmts in
    let parts = path_parts zs who whos w e in
    let j = parts.0 in
    let v = parts.1 in
    let all = and_parts (is_user b.catalog.users j) (list_all (is_user b.catalog.users) v) (ap (list_all (is_user b.catalog.users)) parts.4 ∙ u) in
    let here = number (deepest_suffix P (q ++ i ∷ [])) in
    let there = number (deepest_suffix P ((q ++ i ∷ []) ++ j ∷ [])) in
    let end = number (deepest_suffix P (q ++ i ∷ j ∷ v)) in
    let first = apart sight zs here item i j before who whos d parts.2 f in
    let rest : IsTest sight zs there (walk_from item (Some who) whos) (alternates (j ∷ v)) end =
    subst (λ x. IsTest sight zs there (walk_from item (Some who) whos) (alternates (j ∷ v)) (number (deepest_suffix P x))) (append_assoc q (i ∷ []) (j ∷ v))
    (walk_on b sight number s zs item (q ++ i ∷ []) j who whos v parts.2 parts.3 all.1 (fixed_rest before who whos f)) in
    subst (λ x. IsTest sight zs here (walk_from item (Some before) (who ∷ whos)) (alternates (i ∷ x)) (number (deepest_suffix P (q ++ i ∷ x)))) parts.4
    (elim (cases_Bool (nat_eq i j)) [
      | inl k ↦
          let no : not (nat_eq i j) ≡ false = ap not k in
          subst (λ t. IsTest sight zs here (walk_from item (Some before) (who ∷ whos)) (t && alternates (j ∷ v)) end) (sym no)
          (both_false here end (differ_from item (Some before) who) (step.Edge item who ∷ walk_from item (Some who) whos) (alternates (j ∷ v)) (first ∙ ap (λ t. world_if t here) no))
      | inr k ↦
          let extends : deepest_suffix P (deepest_suffix P (q ++ i ∷ []) ++ j ∷ []) ≡ deepest_suffix P ((q ++ i ∷ []) ++ j ∷ []) = sym (suffixes_extend P (states_have_prefixes b.stmts) (q ++ i ∷ []) j) in
          let edge : world_after sight zs here (step.Edge item who) ≡ world_if true there =
          edge_on b sight number s zs (deepest_suffix P (q ++ i ∷ [])) item j who parts.2 all.0 (deepest_is_member P (q ++ i ∷ []) refl) (ends_otherwise P q i j (differs_turned i j k)) ∙ ap (λ x. Some (number x)) extends in
          both_tests sight zs here here end (differ_from item (Some before) who) (step.Edge item who ∷ walk_from item (Some who) whos) (not (nat_eq i j)) (alternates (j ∷ v)) first
          (first_test sight zs here there end (step.Edge item who) (walk_from item (Some who) whos) true (alternates (j ∷ v)) edge rest)
    ])
  where
    both_false : (n m : ℕ) (xs ys : List Step) (t : Bool) → world_at_end sight zs n xs ≡ None → IsTest sight zs n (xs ++ ys) (false && t) m
    both_false n m xs ys t h = end_append sight zs n xs ys ∙ ap (option_and_then (λ k. world_at_end sight zs k ys)) h

-- a walk comes to the deepest state, exactly where the path has no equal neighbours
pub walk_comes : (b : Contents) (sight : Sight) (number : List ℕ → ℕ) → Shows b sight number → (zs : List (Option Tuple)) (item n : ℕ) (path : List Who) (w : List ℕ)
    → path_of zs path ≡ Some w → list_all (is_user b.catalog.users) w ≡ true → fixed_differ path ≡ true
    → IsTest sight zs n (walk_of item path) (alternates w) (number (deepest_suffix (is_state b.stmts) w))
walk_comes b sight number s zs item n [] w e u f =
    let none : [] ≡ w = cc in
    subst (λ v. IsTest sight zs n (walk_of item []) (alternates v) (number (deepest_suffix (is_state b.stmts) v))) none (ap Some (sym s.root))
walk_comes b sight number s zs item n (who ∷ whos) w e u f =
    let P = is_state b.stmts in
    let parts = path_parts zs who whos w e in
    let j = parts.0 in
    let v = parts.1 in
    let all = and_parts (is_user b.catalog.users j) (list_all (is_user b.catalog.users) v) (ap (list_all (is_user b.catalog.users)) parts.4 ∙ u) in
    let edge = edge_on b sight number s zs [] item j who parts.2 all.0 refl refl in
    let here : world_after sight zs 0 (step.Edge item who) ≡ world_if true (number (deepest_suffix P (j ∷ []))) = ap (λ k. world_after sight zs k (step.Edge item who)) (sym s.root) ∙ edge in
    let rest = walk_on b sight number s zs item [] j who whos v parts.2 parts.3 all.1 f in
    subst (λ x. IsTest sight zs n (walk_of item (who ∷ whos)) (alternates x) (number (deepest_suffix P x))) parts.4
    (first_test sight zs 0 (number (deepest_suffix P (j ∷ []))) (number (deepest_suffix P (j ∷ v))) (step.Edge item who) (walk_from item (Some who) whos) true (alternates (j ∷ v)) here rest)
