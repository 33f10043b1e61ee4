-- Running steps: up to a choice, for each choice, and to the end.
use Rattle.std.proofs.Common.{◌≡◌, ◌∙◌, ℕ, ◌+◌, ◌≤◌, ◌<◌, List, [], ◌∷◌, ◌++◌, length, drop, get_or, reverse, refl, ap, sym, subst, arith}
use Rattle.std.specs.List.{flat_map, sum_by}
use Rattle.std.proofs.lemmas.List.{drop_more, reverse-append}
use Rattle.std.proofs.lemmas.List.Sums.{sum_by-cons}
use Rattle.bdb_base.specs.Order.{row_cmp}
use Rattle.bdb_base.specs.OrderLemmas.{row_exact}
use Rattle.bdb_base.proofs.SetLemmas.{loop_makes_set}
use Rattle.bdb_base.specs.SortedSet.{sorted_set}
use Rattle.bdb_base.specs.declared.kinds.Ref.{Ref}
use Rattle.bdb_base.specs.declared.kinds.Value.{Value}
use Rattle.bdb_base.specs.declared.tuple.Tuple.{Tuple}
use Rattle.bdb_queries.specs.Collected.{Collected, with_rows}
use Rattle.bdb_queries.specs.Limits.{up_to}
use Rattle.bdb_queries.proofs.CollectedLemmas.{collected_rows, with_rows_append}
use Rattle.bdb_plan.specs.Running.{Reached, with_slot, rows_from}
use Rattle.bdb_plan.specs.Sight.{Sight}
use Rattle.bdb_plan.specs.declared.step.Step.{Step}
use Rattle.bdb_exec.specs.Keys.{choices_before, after_before}
use Rattle.bdb_exec.specs.LookUps.{looks_from, choice_looks, decided_looks}
use Rattle.bdb_exec.proofs.KeyLemmas.{some_choices, choice_before, looks_before}

-- the rows of all steps are those of the choices at one of them
pub rows_of_choice : (sight : Sight) (taken : List Ref) (steps : List Step) (start s : Reached) (i item : ℕ) (x : Step) (pool : List Tuple) → i < length steps → x ≡ get_or steps i x
    → some_choices item pool ≡ choices_before sight s x (drop (i + 1) steps) → rows_from sight taken (drop i steps) s ≡ rows_from sight taken steps start
    → rows_from sight taken steps start ≡ flat_map (λ t. rows_from sight taken (drop (i + 1) steps) (with_slot s item t)) pool
rows_of_choice sight taken steps start s i item x pool lt at chosen inv =
    sym inv ∙ ap (λ ys. rows_from sight taken ys s) (drop_more steps i x lt)
    ∙ ap (λ y. rows_from sight taken (y ∷ drop (i + 1) steps) s) (sym at)
    ∙ choice_before sight taken s x (drop (i + 1) steps) item pool chosen

-- and so are the reads
pub looks_of_choice : (sight : Sight) (steps : List Step) (start s : Reached) (i item : ℕ) (x : Step) (pool : List Tuple) (old now new : ℕ) → i < length steps → x ≡ get_or steps i x
    → some_choices item pool ≡ choices_before sight s x (drop (i + 1) steps) → now + looks_from sight (drop i steps) s ≤ old + looks_from sight steps start
    → new ≤ now + choice_looks sight s x (drop (i + 1) steps)
    → new + sum_by (λ t. looks_from sight (drop (i + 1) steps) (with_slot s item t)) pool ≤ old + looks_from sight steps start
looks_of_choice sight steps start s i item x pool old now new lt at chosen inv own =
    let rest = drop (i + 1) steps in
    let all : looks_from sight (drop i steps) s ≡ choice_looks sight s x rest + decided_looks sight s x + sum_by (looks_from sight rest) (after_before sight s x rest) =
    ap (λ ys. looks_from sight ys s) (drop_more steps i x lt) ∙ ap (λ y. looks_from sight (y ∷ rest) s) (sym at) in
    let same = looks_before sight s x rest item pool chosen in
    omega (arith, all, same, inv, own)

-- ---- tuples that are left, the next of them at the end

turned : (left more : List Tuple) (x : Tuple) → left ≡ more ++ x ∷ [] → reverse left ≡ x ∷ reverse more
turned left more x e = ap reverse e ∙ reverse-append more (x ∷ [])

-- after one more tuple the rows of those that are left still make the whole
pub rows_after_turn : (F : Tuple → List (List Value)) (f g whole : Collected) (left more : List Tuple) (x : Tuple) → left ≡ more ++ x ∷ [] → g ≡ with_rows f (F x)
    → with_rows f (flat_map F (reverse left)) ≡ whole → with_rows g (flat_map F (reverse more)) ≡ whole
rows_after_turn F f g whole left more x e next inv =
    ap (λ h. with_rows h (flat_map F (reverse more))) next
    ∙ sym (with_rows_append f (F x) (flat_map F (reverse more)))
    ∙ ap (λ ys. with_rows f (flat_map F ys)) (sym (turned left more x e))
    ∙ inv

-- and the reads are still few enough
pub looks_after_turn : (G : Tuple → ℕ) (left more : List Tuple) (x : Tuple) (now new whole : ℕ) → left ≡ more ++ x ∷ [] → now + sum_by G (reverse left) ≤ whole → new ≤ now + G x
    → new + sum_by G (reverse more) ≤ whole
looks_after_turn G left more x now new whole e inv step =
    let split : sum_by G (reverse left) ≡ G x + sum_by G (reverse more) = ap (sum_by G) (turned left more x e) ∙ sum_by-cons G x (reverse more) in
    omega (arith, split, inv, step)

-- where none is left
pub rows_at_end : (F : Tuple → List (List Value)) (f whole : Collected) (left : List Tuple) → left ≡ [] → with_rows f (flat_map F (reverse left)) ≡ whole → f ≡ whole
rows_at_end F f whole left e inv = sym (ap (λ xs. with_rows f (flat_map F (reverse xs))) e) ∙ inv

pub looks_at_end : (G : Tuple → ℕ) (left : List Tuple) (now whole : ℕ) → now + sum_by G (reverse left) ≤ whole → now ≤ whole
looks_at_end G left now whole inv = omega (arith, inv)

-- with the last one
pub none_left : {X : Type 0} (xs : List X) → length xs ≡ 0 → xs ≡ []
none_left [] e = refl
none_left (x ∷ xs) e = absurd (omega (arith, e))

pub rows_of_last : (F : Tuple → List (List Value)) (f g whole : Collected) (left more : List Tuple) (x : Tuple) → left ≡ more ++ x ∷ [] → more ≡ [] → (rows : List (List Value)) → g ≡ with_rows f rows → rows ≡ F x
    → with_rows f (flat_map F (reverse left)) ≡ whole → g ≡ whole
rows_of_last F f g whole left more x e none rows made is inv = rows_at_end F g whole more none (rows_after_turn F f g whole left more x e (made ∙ ap (with_rows f) is) inv)

pub looks_of_last : (G : Tuple → ℕ) (left more : List Tuple) (x : Tuple) (now new whole : ℕ) → left ≡ more ++ x ∷ [] → (looks : ℕ) → new ≤ now + looks → looks ≡ G x → now + sum_by G (reverse left) ≤ whole → new ≤ whole
looks_of_last G left more x now new whole e looks step is inv = looks_at_end G more new whole (looks_after_turn G left more x now new whole e inv (subst (λ n. new ≤ now + n) is step))

-- the rows collected are the set of those found
pub rows_collected : (most : ℕ) (rows : List (List Value)) → up_to most (with_rows (record { rows = []; most = most }) rows).rows ≡ up_to most (sorted_set row_cmp rows)
rows_collected most rows = collected_rows most [] rows ∙ ap (up_to most) (loop_makes_set row_exact rows)
