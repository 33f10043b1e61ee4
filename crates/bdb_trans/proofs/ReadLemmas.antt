-- How often the plan of a query reads.
use Rattle.std.proofs.Common.{◌≡◌, ◌∙◌, ℕ, zero, suc, ◌+◌, ◌*◌, ◌^◌, ◌≤◌, ◌<◌, Bool, true, false, ◌&&◌, ◌||◌, cond, nat_eq, nat_lt, List, [], ◌∷◌, ◌++◌, Option, None, Some, inl, inr, refl, ap, sym, subst, length, map, slice_set, arith}
use Rattle.std.specs.List.{list_all, list_any, sum_by, slice_get, AllByRecursion}
use Rattle.std.specs.Option.{option_map, option_and_then, is_some}
use Rattle.std.proofs.lemmas.Bool.{false≢true, cases_Bool, or_cases, or_left, or_right, and_parts, and_from, eqb-true}
use Rattle.std.proofs.lemmas.Bool.Decides.{Decides-eqb, nat_tests}
use Rattle.std.proofs.lemmas.List.{append_assoc, length-replicate}
use Rattle.std.proofs.lemmas.List.Sums.{sum_by-cons}
use Rattle.std.proofs.lemmas.Nat.{mul-le}
use Rattle.bdb_base.specs.Alternation.{alternates}
use Rattle.bdb_base.specs.Bases.{Contents, is_user}
use Rattle.bdb_base.specs.Queries.{option_list, columns_at}
use Rattle.bdb_base.specs.Same.{same_tuple}
use Rattle.bdb_base.specs.SameLemmas.{same_tuple-Decides}
use Rattle.bdb_base.specs.Safety.{item_fits, who_fits, fixed_differ, is_users_item}
use Rattle.bdb_base.specs.States.{is_state, deepest_suffix}
use Rattle.bdb_base.specs.declared.kinds.ColDef.{ColDef}
use Rattle.bdb_base.specs.declared.kinds.Cond.{Cond}
use Rattle.bdb_base.specs.declared.kinds.Item.{Item}
use Rattle.bdb_base.specs.declared.kinds.Item.TheVariants.{Users, Rel}
use Rattle.bdb_base.specs.declared.kinds.Operand.{Operand}
use Rattle.bdb_base.specs.declared.kinds.Query.{Query}
use Rattle.bdb_base.specs.declared.kinds.Ref.{Ref}
use Rattle.bdb_base.specs.declared.kinds.Sign.{Sign}
use Rattle.bdb_base.specs.declared.kinds.Sign.TheVariants.{Plus, Minus}
use Rattle.bdb_base.specs.declared.kinds.UserSlot.{UserSlot}
use Rattle.bdb_base.specs.declared.kinds.UserSlot.TheVariants.{Live, Gone}
use Rattle.bdb_base.specs.declared.kinds.Value.{Value}
use Rattle.bdb_base.specs.declared.kinds.Who.{Who}
use Rattle.bdb_base.specs.declared.kinds.Who.TheVariants.{User, Of}
use Rattle.bdb_base.specs.declared.tuple.Tuple.{Tuple}
use Rattle.bdb_base.proofs.ListLemmas.{length_map}
use Rattle.bdb_queries.specs.Slots.{slot_at, known_operand, must_hold, uid_of, path_of, user_tuple, user_tuples}
use Rattle.bdb_queries.proofs.UserLemmas.{user_of_test}
use Rattle.bdb_plan.specs.Fitness.{is_among}
use Rattle.bdb_plan.specs.Holding.{differ, world_if, world_after, world_at_end}
use Rattle.bdb_plan.specs.PlanOf.{differ_from, walk_from, walk_of, bind_of, binds_from, due, item_steps, steps_from, order_of, places, plan_steps}
use Rattle.bdb_plan.specs.Running.{Reached, with_world, with_slot, with_value, plus_tuples, reached_if, after, own_reads, reads_from, start_of, denied}
use Rattle.bdb_plan.specs.Shown.{Shows}
use Rattle.bdb_plan.specs.Sight.{Sight}
use Rattle.bdb_plan.specs.Sources.{source_of}
use Rattle.bdb_plan.specs.declared.step.Step.{Step}
use Rattle.bdb_plan.specs.declared.step.Step.TheVariants as step
use Rattle.bdb_plan.proofs.StandLemmas.{slot_set, slot_other}
use Rattle.bdb_trans.specs.Bounds.{factor, product_of, AreSmall, OrdersReadFew, PlanReadsAreBounded}
use Rattle.bdb_trans.specs.Orders.{who_among, Needs, OrderFits}
use Rattle.bdb_trans.proofs.FitLemmas.{path_fits, written_order}
use Rattle.bdb_trans.proofs.StepLemmas.{end_append}
use Rattle.bdb_trans.proofs.WalkLemmas.{walk_comes}

-- ---- steps at which nothing is chosen, and that leave what is chosen

module _ (sight : Sight) where
  -- steps read so often at most, and then go on from the world that they come to
  abbrev Costs : ℕ → List Step → Type 0
  Costs d xs = (rest : List Step) (s : Reached) (C : ℕ) → ((n : ℕ) → world_at_end sight s.slots s.world xs ≡ Some n → reads_from sight rest (with_world s n) ≤ C) → reads_from sight (xs ++ rest) s ≤ d + C

  costs_none : Costs 0 []
  costs_none rest s C f = add_none (reads_from sight rest s) C (f s.world refl)
    where
      add_none : (n C : ℕ) → n ≤ C → n ≤ 0 + C
      add_none n C le = omega arith

  ends_then : (s : Reached) (xs ys : List Step) (n k : ℕ) → world_at_end sight s.slots s.world xs ≡ Some n → world_at_end sight s.slots n ys ≡ Some k → world_at_end sight s.slots s.world (xs ++ ys) ≡ Some k
  ends_then s xs ys n k e g = end_append sight s.slots s.world xs ys ∙ ap (option_and_then (λ j. world_at_end sight s.slots j ys)) e ∙ g

  costs_both : (d e : ℕ) (xs ys : List Step) → Costs d xs → Costs e ys → Costs (d + e) (xs ++ ys)
  costs_both d e xs ys f g rest s C h =
      let one = f (ys ++ rest) s (e + C) (λ n a. g rest (with_world s n) C (λ k c. h k (ends_then s xs ys n k a c))) in
      let same : reads_from sight ((xs ++ ys) ++ rest) s ≡ reads_from sight (xs ++ (ys ++ rest)) s = ap (λ zs. reads_from sight zs s) (append_assoc xs ys rest) in
      omega (arith, one, same)

  costs_one : (d : ℕ) (x : Step) → ((s : Reached) → after sight s x ≡ option_list (option_map (with_world s) (world_after sight s.slots s.world x))) → ((s : Reached) → own_reads sight s x ≡ d) → Costs d (x ∷ [])
  costs_one d x leads own rest s C h = by (world_after sight s.slots s.world x) refl
    where
      by : (o : Option ℕ) → world_after sight s.slots s.world x ≡ o → reads_from sight (x ∷ rest) s ≤ d + C
      by None e =
          let none : sum_by (reads_from sight rest) (after sight s x) ≡ 0 = ap (sum_by (reads_from sight rest)) (leads s ∙ ap (λ o. option_list (option_map (with_world s) o)) e) in
          let mine = own s in
          omega (arith, none, mine)
      by (Some n) e =
          let one : sum_by (reads_from sight rest) (after sight s x) ≡ reads_from sight rest (with_world s n) =
          ap (sum_by (reads_from sight rest)) (leads s ∙ ap (λ o. option_list (option_map (with_world s) o)) e) ∙ sum_by-cons (reads_from sight rest) (with_world s n) [] ∙ add_none (reads_from sight rest (with_world s n)) in
          let mine = own s in
          let more = h n (ap (option_and_then (λ k. Some k)) e) in
          omega (arith, one, mine, more)
        where
          add_none : (k : ℕ) → k + sum_by (reads_from sight rest) [] ≡ k
          add_none k = omega arith

  tested : (t : Bool) (s : Reached) → reached_if t s ≡ option_map (with_world s) (world_if t s.world)
  tested true s = refl
  tested false s = refl

  costs_start : (item : ℕ) → Costs 0 (step.Start item ∷ [])
  costs_start item = costs_one 0 (step.Start item) (λ s. refl) (λ s. refl)

  costs_edge : (item : ℕ) (who : Who) → Costs 1 (step.Edge item who ∷ [])
  costs_edge item who = costs_one 1 (step.Edge item who) (λ s. refl) (λ s. refl)

  costs_differ : (item : ℕ) (left right : Who) → Costs 0 (step.Differ item left right ∷ [])
  costs_differ item left right = costs_one 0 (step.Differ item left right) (λ s. ap option_list (tested (differ (uid_of s.slots left) (uid_of s.slots right)) s)) (λ s. refl)

  costs_test : (c : Cond) → Costs 0 (step.Test c ∷ [])
  costs_test c = costs_one 0 (step.Test c) (λ s. ap option_list (tested (must_hold s.slots c) s)) (λ s. refl)

  costs_tests : (cs : List Cond) → Costs 0 (map step.Test cs)
  costs_tests [] = costs_none
  costs_tests (c ∷ cs) = costs_both 0 0 (step.Test c ∷ []) (map step.Test cs) (costs_test c) (costs_tests cs)

  costs_apart : (item : ℕ) (before : Option Who) (who : Who) → Costs 0 (differ_from item before who)
  costs_apart item None who = costs_none
  costs_apart item (Some (User i)) (User j) = costs_none
  costs_apart item (Some (User i)) (Of k) = costs_differ item (User i) (Of k)
  costs_apart item (Some (Of k)) who = costs_differ item (Of k) who

  costs_walk : (item : ℕ) (before : Option Who) (path : List Who) → Costs (length path) (walk_from item before path)
  costs_walk item before [] = costs_none
  costs_walk item before (who ∷ path) = λ rest s C h.
      let one = costs_both 0 (1 + length path) (differ_from item before who) (step.Edge item who ∷ walk_from item (Some who) path) (costs_apart item before who)
      (costs_both 1 (length path) (step.Edge item who ∷ []) (walk_from item (Some who) path) (costs_edge item who) (costs_walk item (Some who) path)) rest s C h in
      omega (arith, one)

  costs_path : (item : ℕ) (path : List Who) → Costs (length path) (walk_of item path)
  costs_path item path = λ rest s C h.
      let one = costs_both 0 (length path) (step.Start item ∷ []) (walk_from item None path) (costs_start item) (costs_walk item None path) rest s C h in
      omega (arith, one)

-- ---- sums

sum_within : {X : Type 0} (F : X → ℕ) (xs : List X) (C : ℕ) → AllByRecursion (λ x. F x ≤ C) xs → sum_by F xs ≤ length xs * C
sum_within F [] C h = omega arith
sum_within F (x ∷ xs) C h =
    let rest = sum_within F xs C h.1 in
    let whole = sum_by-cons F x xs in
    let more = times_more (length xs) C in
    omega (arith, rest, whole, more, h.0)
  where
    times_more : (n C : ℕ) → suc n * C ≡ C + n * C
    times_more n C = grind arith

all_of : {X : Type 0} (P : X → Type 0) (xs : List X) → ((x : X) → P x) → AllByRecursion P xs
all_of P [] f = tt
all_of P (x ∷ xs) f = (f x, all_of P xs f)

all_mapped : {X Y : Type 0} (P : Y → Type 0) (Q : X → Type 0) (g : X → Y) (xs : List X) → ((x : X) → Q x → P (g x)) → AllByRecursion Q xs → AllByRecursion P (map g xs)
all_mapped P Q g [] f h = tt
all_mapped P Q g (x ∷ xs) f h = (f x h.0, all_mapped P Q g xs f h.1)

fewer_plus : (rows : List (Tuple × Sign)) → length (plus_tuples rows) ≤ length rows
fewer_plus [] = omega arith
fewer_plus ((u, Plus) ∷ rows) = let rest = fewer_plus rows in omega (arith, rest)
fewer_plus ((u, Minus) ∷ rows) = let rest = fewer_plus rows in omega (arith, rest)

-- ---- numbers

grows : (a C P : ℕ) → C ≤ P → a * C ≤ a * P
grows a C P h = mul-le a C a P (omega arith) h

users_bound : (n v u C P : ℕ) → n ≤ u → v ≤ n → C ≤ P → 1 ≤ P → (n + 1) + v * C ≤ (2 * u + 8) * P
users_bound n v u C P le less h one =
    let a : v * C ≤ u * P = mul-le v C u P (omega arith) h in
    let b : (u + 8) * 1 ≤ (u + 8) * P = grows (u + 8) 1 P one in
    let c : (2 * u + 8) * P ≡ u * P + (u + 8) * P = grind arith in
    omega (arith, a, b, c, le)

plus_bound : (d r m C P : ℕ) → r ≤ m → C ≤ P → 1 ≤ P → d + ((2 * r + 2) + r * C) ≤ (d + 3 * m + 8) * P
plus_bound d r m C P le h one =
    let a : r * C ≤ m * P = mul-le r C m P le h in
    let b : (d + 2 * m + 8) * 1 ≤ (d + 2 * m + 8) * P = grows (d + 2 * m + 8) 1 P one in
    let c : (d + 3 * m + 8) * P ≡ m * P + (d + 2 * m + 8) * P = grind arith in
    omega (arith, a, b, c, le)

minus_bound : (d r m C P : ℕ) → r ≤ m → C ≤ P → 1 ≤ P → d + ((r + 3) + C) ≤ (d + 3 * m + 8) * P
minus_bound d r m C P le h one =
    let b : (d + 3 * m + 7) * 1 ≤ (d + 3 * m + 7) * P = grows (d + 3 * m + 7) 1 P one in
    let c : (d + 3 * m + 8) * P ≡ P + (d + 3 * m + 7) * P = grind arith in
    omega (arith, b, c, le, h)

-- the product of the factors of the items that are not set yet, from a place on
left_of : ℕ → (ℕ → ℕ) → List ℕ → ℕ → List Item → ℕ
left_of users rows set at [] = 1
left_of users rows set at (item ∷ items) = cond (is_among set at) 1 (factor users rows at (Some item)) * left_of users rows set (at + 1) items

factor_some : (u : ℕ) (m : ℕ → ℕ) (at : ℕ) (item : Item) → 1 ≤ factor u m at (Some item)
factor_some u m at (Users alias) = omega arith
factor_some u m at (Rel alias rel sign path) = omega arith

left_some : (u : ℕ) (m : ℕ → ℕ) (set : List ℕ) (at : ℕ) (items : List Item) → 1 ≤ left_of u m set at items
unfolding left_of
left_some u m set at [] = omega arith
left_some u m set at (item ∷ items) = by (is_among set at) (left_some u m set (at + 1) items)
  where
    by : (t : Bool) → 1 ≤ left_of u m set (at + 1) items → 1 ≤ cond t 1 (factor u m at (Some item)) * left_of u m set (at + 1) items
    by true h = mul-le 1 1 1 (left_of u m set (at + 1) items) (omega arith) h
    by false h = mul-le 1 1 (factor u m at (Some item)) (left_of u m set (at + 1) items) (factor_some u m at item) h

-- once one more item is set that stands before all of these, what is left is the same
left_before : (u : ℕ) (m : ℕ → ℕ) (set : List ℕ) (x at : ℕ) (items : List Item) → x < at → left_of u m (x ∷ set) at items ≡ left_of u m set at items
unfolding left_of
left_before u m set x at [] lt = refl
left_before u m set x at (item ∷ items) lt =
    ap (λ t. cond (t || is_among set at) 1 (factor u m at (Some item)) * left_of u m (x ∷ set) (at + 1) items) (apart x at lt)
    ∙ ap (λ n. cond (is_among set at) 1 (factor u m at (Some item)) * n) (left_before u m set x (at + 1) items (omega arith))
  where
    apart : (x at : ℕ) → x < at → nat_eq at x ≡ false
    apart x at lt = grind (arith, nat_tests)

-- an item that is set leaves its factor
left_one : (u : ℕ) (m : ℕ → ℕ) (set : List ℕ) (at k : ℕ) (items : List Item) (item : Item) → slice_get items k ≡ Some item → is_among set (at + k) ≡ false
    → left_of u m set at items ≡ factor u m (at + k) (Some item) * left_of u m ((at + k) ∷ set) at items
unfolding left_of
left_one u m set at k [] item e h = cc
left_one u m set at zero (x ∷ items) item e h =
    let is : x ≡ item = cc in
    let same : at + zero ≡ at = omega arith in
    let before : left_of u m (at ∷ set) (at + 1) items ≡ left_of u m set (at + 1) items = left_before u m set at (at + 1) items (omega arith) in
    let new : is_among set at ≡ false = ap (is_among set) (sym same) ∙ h in
    subst (λ n. left_of u m set at (x ∷ items) ≡ factor u m n (Some item) * left_of u m (n ∷ set) at (x ∷ items)) (sym same)
    (ap (λ t. cond t 1 (factor u m at (Some x)) * left_of u m set (at + 1) items) new
    ∙ ap (λ i. factor u m at (Some i) * left_of u m set (at + 1) items) is
    ∙ ap (λ n. factor u m at (Some item) * n) (sym before)
    ∙ ap (λ n. factor u m at (Some item) * n) (once (left_of u m (at ∷ set) (at + 1) items))
    ∙ ap (λ t. factor u m at (Some item) * (cond (t || is_among set at) 1 (factor u m at (Some x)) * left_of u m (at ∷ set) (at + 1) items)) (sym ((Decides-eqb at at).1 refl)))
  where
    once : (n : ℕ) → n ≡ 1 * n
    once n = grind arith
left_one u m set at (suc k) (x ∷ items) item e h =
    let same : (at + 1) + k ≡ at + suc k = omega arith in
    let rest = left_one u m set (at + 1) k items item e (ap (is_among set) same ∙ h) in
    let here : left_of u m set (at + 1) items ≡ factor u m (at + suc k) (Some item) * left_of u m ((at + suc k) ∷ set) (at + 1) items =
    subst (λ n. left_of u m set (at + 1) items ≡ factor u m n (Some item) * left_of u m (n ∷ set) (at + 1) items) same rest in
    ap (λ n. cond (is_among set at) 1 (factor u m at (Some x)) * n) here
    ∙ moved (cond (is_among set at) 1 (factor u m at (Some x))) (factor u m (at + suc k) (Some item)) (left_of u m ((at + suc k) ∷ set) (at + 1) items)
    ∙ ap (λ t. factor u m (at + suc k) (Some item) * (cond (t || is_among set at) 1 (factor u m at (Some x)) * left_of u m ((at + suc k) ∷ set) (at + 1) items)) (sym (other at k))
  where
    moved : (a b c : ℕ) → a * (b * c) ≡ b * (a * c)
    moved a b c = grind arith

    other : (at k : ℕ) → nat_eq at (at + suc k) ≡ false
    other at k = grind (arith, nat_tests)

-- while none is set, all are left
none_set : (u : ℕ) (m : ℕ → ℕ) (at : ℕ) (items : List Item) → left_of u m [] at items ≡ product_of u m at items
unfolding left_of
none_set u m at [] = refl
none_set u m at (item ∷ items) = ap (λ n. factor u m at (Some item) * n) (none_set u m (at + 1) items)

-- ---- what is chosen for users

-- what holds of each tuple that is found among some holds of all of them
each_tuple : (P : Tuple → Type 0) (ts : List Tuple) → ((t : Tuple) → list_any (λ x. same_tuple x t) ts ≡ true → P t) → AllByRecursion P ts
each_tuple P [] f = tt
each_tuple P (t ∷ ts) f =
    (f t (or_left (same_tuple t t) (list_any (λ x. same_tuple x t) ts) ((same_tuple-Decides t t).1 refl)), each_tuple P ts (λ u e. f u (or_right (same_tuple t u) (list_any (λ x. same_tuple x u) ts) e)))

-- live users are no more than places
fewer_tuples : (uid : ℕ) (users : List UserSlot) → length (user_tuples uid users) ≤ length users
fewer_tuples uid [] = omega arith
fewer_tuples uid (Live name ∷ users) = let rest = fewer_tuples (suc uid) users in omega (arith, rest)
fewer_tuples uid (Gone ∷ users) = let rest = fewer_tuples (suc uid) users in omega (arith, rest)

module _ (b : Contents) (sight : Sight) (number : List ℕ → ℕ) (q : Query) (shows : Shows b sight number) (fits : list_all (item_fits b.catalog q.items) q.items ≡ true) where
  -- a tuple is that of a user
  abbrev IsUser : Tuple → Type 0
  IsUser t = (uid : ℕ) × (name : List ℕ) × (is_user b.catalog.users uid ≡ true) × (t ≡ user_tuple uid name)

  sight_users : AllByRecursion IsUser sight.users
  sight_users = subst (AllByRecursion IsUser) (sym shows.users) (each_tuple IsUser (user_tuples 1 b.catalog.users) (λ t e. let u = user_of_test b.catalog.users t e in (u.0, u.1, u.2, u.4)))

  -- no more users are seen than there are places
  fewer_users : length sight.users ≤ sight.places
  fewer_users =
      let users : length sight.users ≡ length (user_tuples 1 b.catalog.users) = ap length shows.users in
      let places = shows.places in
      let fewer = fewer_tuples 1 b.catalog.users in
      omega (arith, users, places, fewer)

  -- each `Users` item that is set has a user
  record Good (set : List ℕ) (slots : List (Option Tuple)) : Type 0 where
    long : length slots ≡ length q.items
    users : (k : ℕ) → is_among set k ≡ true → is_users_item (slice_get q.items k) ≡ true → (t : Tuple) × (slot_at slots k ≡ Some t) × IsUser t

  set_long : (slots : List (Option Tuple)) (at : ℕ) (o : Option Tuple) → length (slice_set slots at o) ≡ length slots
  set_long [] at o = refl
  set_long (x ∷ slots) zero o = refl
  set_long (x ∷ slots) (suc at) o = ap suc (set_long slots at o)

  good_start : Good [] (start_of (length q.items)).slots
  good_start = record { long = length-replicate (length q.items) None; users = λ k e _. absurd (false≢true e) }

  -- with a tuple for an item that is no `Users` item
  good_other : (set : List ℕ) (slots : List (Option Tuple)) (at : ℕ) (t : Tuple) → is_users_item (slice_get q.items at) ≡ false → Good set slots → Good set (slice_set slots at (Some t))
  good_other set slots at t other g = record {
    long = set_long slots at (Some t) ∙ g.long;
    users = λ k e u.
        let h = g.users k e u in
        (h.0, slot_other slots at k t (apart k u) ∙ h.1, h.2);
  }
    where
      apart : (k : ℕ) → is_users_item (slice_get q.items k) ≡ true → nat_eq k at ≡ false
      apart k u = elim (cases_Bool (nat_eq k at)) [
        | inl e ↦ absurd (false≢true (sym other ∙ ap (λ i. is_users_item (slice_get q.items i)) (sym (eqb-true k at e)) ∙ u))
        | inr e ↦ e
      ]

  -- once such an item is set
  good_set : (set : List ℕ) (slots : List (Option Tuple)) (at : ℕ) → is_users_item (slice_get q.items at) ≡ false → Good set slots → Good (at ∷ set) slots
  good_set set slots at other g = record {
    long = g.long;
    users = λ k e u. elim (or_cases (nat_eq k at) (is_among set k) e) [
      | inl s ↦ absurd (false≢true (sym other ∙ ap (λ i. is_users_item (slice_get q.items i)) (sym (eqb-true k at s)) ∙ u))
      | inr s ↦ g.users k s u
    ];
  }

  -- with a user for a `Users` item
  good_user : (set : List ℕ) (slots : List (Option Tuple)) (at : ℕ) (t : Tuple) → at < length q.items → IsUser t → Good set slots → Good (at ∷ set) (slice_set slots at (Some t))
  good_user set slots at t lt user g = record {
    long = set_long slots at (Some t) ∙ g.long;
    users = λ k e u. elim (cases_Bool (nat_eq k at)) [
      | inl s ↦ (t, ap (slot_at (slice_set slots at (Some t))) (eqb-true k at s) ∙ slot_set slots at t (subst (λ n. at < n) (sym g.long) lt), user)
      | inr s ↦
          let h = g.users k (rest k s e) u in
          (h.0, slot_other slots at k t s ∙ h.1, h.2)
    ];
  }
    where
      rest : (k : ℕ) → nat_eq k at ≡ false → is_among (at ∷ set) k ≡ true → is_among set k ≡ true
      rest k s e = sym (ap (λ x. x || is_among set k) s) ∙ e

  -- the users of a path are known
  path_known : (set : List ℕ) (slots : List (Option Tuple)) → Good set slots → (path : List Who) → list_all (who_among set) path ≡ true → list_all (who_fits b.catalog.users q.items) path ≡ true
      → (w : List ℕ) × (path_of slots path ≡ Some w) × (list_all (is_user b.catalog.users) w ≡ true)
  path_known set slots g [] a f = ([], refl, refl)
  path_known set slots g (User i ∷ path) a f =
      let p = and_parts (is_user b.catalog.users i) (list_all (who_fits b.catalog.users q.items) path) f in
      let rest = path_known set slots g path a p.1 in
      (i ∷ rest.0, ap (option_map (λ w. i ∷ w)) rest.1, and_from (is_user b.catalog.users i) (list_all (is_user b.catalog.users) rest.0) p.0 rest.2)
  path_known set slots g (Of k ∷ path) a f =
      let c = and_parts (is_among set k) (list_all (who_among set) path) a in
      let p = and_parts (is_users_item (slice_get q.items k)) (list_all (who_fits b.catalog.users q.items) path) f in
      let rest = path_known set slots g path c.1 p.1 in
      let u = g.users k c.0 p.0 in
      let uid : uid_of slots (Of k) ≡ Some u.2.0 = ap (option_map (λ t. t.rel)) u.1 ∙ ap (λ (t : Tuple). Some t.rel) u.2.3 in (
        u.2.0 ∷ rest.0,
        ap (λ o. option_and_then (λ i. option_map (λ w. i ∷ w) (path_of slots path)) o) uid ∙ ap (option_map (λ w. u.2.0 ∷ w)) rest.1,
        and_from (is_user b.catalog.users u.2.0) (list_all (is_user b.catalog.users) rest.0) u.2.2 rest.2,
      )

  -- ---- binds

  binds_read : (set : List ℕ) (at : ℕ) → is_users_item (slice_get q.items at) ≡ false → (rest : List Step) (C : ℕ) → ((s : Reached) → Good set s.slots → reads_from sight rest s ≤ C)
      → (col : ℕ) (cols : List ColDef) (s : Reached) → Good set s.slots → reads_from sight (binds_from b.catalog.rels q at col cols ++ rest) s ≤ C
  binds_read set at other rest C h col [] s g = h s g
  binds_read set at other rest C h col (c ∷ cols) s g =
      subst (λ xs. reads_from sight xs s ≤ C) (sym (append_assoc (bind_of r (source_of b.catalog.rels q r)) (binds_from b.catalog.rels q at (col + 1) cols) rest))
      (by (λ s g. binds_read set at other rest C h (col + 1) cols s g) (source_of b.catalog.rels q r))
    where
      r : Ref
      r = record { item = at; col = col }

      more : List Step
      more = binds_from b.catalog.rels q at (col + 1) cols ++ rest

      by : ((s : Reached) → Good set s.slots → reads_from sight more s ≤ C) → (o : Option Operand) → reads_from sight (bind_of r o ++ more) s ≤ C
      by f None = f s g
      by f (Some o) = valued (known_operand s.slots o)
        where
          valued : (v : Option Value) → 0 + sum_by (reads_from sight more) (option_list (option_map (λ x. with_slot s at (with_value (slot_at s.slots at) x)) v)) ≤ C
          valued None = omega arith
          valued (Some x) =
              let next = with_slot s at (with_value (slot_at s.slots at) x) in
              let one = sum_by-cons (reads_from sight more) next [] in
              let bound = f next (good_other set s.slots at (with_value (slot_at s.slots at) x) other g) in
              omega (arith, one, bound)

  -- ---- items

  module _ (u : ℕ) (m : ℕ → ℕ) (few : sight.places ≤ u) (small : AreSmall b sight number q m) where
    -- the rest reads at most so often, once an item is set
    abbrev Then : List ℕ → List Step → ℕ → Type 0
    Then set rest C = (s : Reached) → Good set s.slots → reads_from sight rest s ≤ C

    tests_then : (set : List ℕ) (cs : List Cond) (rest : List Step) (C : ℕ) → Then set rest C → Then set ((map step.Test cs ++ []) ++ rest) C
    tests_then set cs rest C h s g =
        let both = costs_both sight 0 0 (map step.Test cs) [] (costs_tests sight cs) (costs_none sight) rest s C (λ n e. h (with_world s n) g) in
        omega (arith, both)

    users_read : (set : List ℕ) (at : ℕ) (cs : List Cond) (rest : List Step) (C P : ℕ) → at < length q.items → C ≤ P → 1 ≤ P → Then (at ∷ set) rest C → Then set ((step.User at ∷ (map step.Test cs ++ [])) ++ rest) ((2 * u + 8) * P)
    users_read set at cs rest C P lt le one h s g =
        let more : List Step = (map step.Test cs ++ []) ++ rest in
        let each = all_mapped (λ x. reads_from sight more x ≤ C) IsUser (with_slot s at) sight.users
        (λ t user. tests_then (at ∷ set) cs rest C h (with_slot s at t) (good_user set s.slots at t lt user g)) sight_users in
        let sum = sum_within (reads_from sight more) (map (with_slot s at) sight.users) C each in
        let many : length (map (with_slot s at) sight.users) * C ≡ length sight.users * C = ap (λ n. n * C) (length_map (with_slot s at) sight.users) in
        let bound = users_bound sight.places (length sight.users) u C P few fewer_users le one in
        omega (arith, sum, many, bound)

    -- where a walk comes to
    walk_world : (set : List ℕ) (s : Reached) → Good set s.slots → (at : ℕ) (alias : List ℕ) (rel : ℕ) (sign : Sign) (path : List Who) → slice_get q.items at ≡ Some (Rel alias rel sign path)
        → list_all (who_among set) path ≡ true → (n : ℕ) → world_at_end sight s.slots s.world (walk_of at path) ≡ Some n → length (sight.rows n rel) ≤ m at
    walk_world set s g at alias rel sign path is among n e =
        let f = and_parts (is_some (slice_get b.catalog.rels rel)) (list_all (who_fits b.catalog.users q.items) path && fixed_differ path) (path_fits b.catalog q.items fits at (Rel alias rel sign path) is) in
        let p = and_parts (list_all (who_fits b.catalog.users q.items) path) (fixed_differ path) f.1 in
        let w = path_known set s.slots g path among p.0 in
        by w.0 w.1 w.2 (alternates w.0) refl (sym (walk_comes b sight number shows s.slots at s.world path w.0 w.1 w.2 p.1) ∙ e)
      where
        by : (w : List ℕ) → path_of s.slots path ≡ Some w → list_all (is_user b.catalog.users) w ≡ true → (t : Bool) → alternates w ≡ t → world_if (alternates w) (number (deepest_suffix (is_state b.stmts) w)) ≡ Some n → length (sight.rows n rel) ≤ m at
        by w k users true a f =
            let same : number (deepest_suffix (is_state b.stmts) w) ≡ n = number_same (sym (ap (λ t. world_if t (number (deepest_suffix (is_state b.stmts) w))) a) ∙ f) in
            subst (λ x. length (sight.rows x rel) ≤ m at) same (small at alias rel sign path is s.slots w k users a)
          where
            number_same : {x y : ℕ} → Some x ≡ Some y → x ≡ y
            number_same e = cc
        by w k users false a f = absurd (no_number (sym (ap (λ t. world_if t (number (deepest_suffix (is_state b.stmts) w))) a) ∙ f))
          where
            no_number : {x : ℕ} → None ≡ Some x → ⊥
            no_number e = cc

    plus_read : (set : List ℕ) (at : ℕ) (alias : List ℕ) (rel : ℕ) (path : List Who) (cs : List Cond) (rest : List Step) (C P : ℕ) → slice_get q.items at ≡ Some (Rel alias rel Plus path) → list_all (who_among set) path ≡ true
        → C ≤ P → 1 ≤ P → Then (at ∷ set) rest C → Then set (((walk_of at path ++ (step.Pos at rel ∷ [])) ++ (map step.Test cs ++ [])) ++ rest) ((length path + 3 * m at + 8) * P)
    plus_read set at alias rel path cs rest C P is among le one h s g =
        let more : List Step = (map step.Test cs ++ []) ++ rest in
        let other : is_users_item (slice_get q.items at) ≡ false = ap is_users_item is in
        let shape : ((walk_of at path ++ (step.Pos at rel ∷ [])) ++ (map step.Test cs ++ [])) ++ rest ≡ walk_of at path ++ (step.Pos at rel ∷ more) =
        append_assoc (walk_of at path ++ (step.Pos at rel ∷ [])) (map step.Test cs ++ []) rest ∙ append_assoc (walk_of at path) (step.Pos at rel ∷ []) more in
        let D = (2 * m at + 2) + m at * C in
        let walk = costs_path sight at path (step.Pos at rel ∷ more) s D (λ n e. at_world n (walk_world set s g at alias rel Plus path is among n e) other) in
        let bound = plus_bound (length path) (m at) (m at) C P (omega arith) le one in
        subst (λ xs. reads_from sight xs s ≤ (length path + 3 * m at + 8) * P) (sym shape) (omega (arith, walk, bound))
      where
        at_world : (n : ℕ) → length (sight.rows n rel) ≤ m at → is_users_item (slice_get q.items at) ≡ false
            → reads_from sight (step.Pos at rel ∷ ((map step.Test cs ++ []) ++ rest)) (with_world s n) ≤ (2 * m at + 2) + m at * C
        at_world n rows other =
            let more : List Step = (map step.Test cs ++ []) ++ rest in
            let here = with_world s n in
            let pool = plus_tuples (sight.rows n rel) in
            let each = all_mapped (λ x. reads_from sight more x ≤ C) (λ _. Unit {0}) (with_slot here at) pool
            (λ t _. tests_then (at ∷ set) cs rest C h (with_slot here at t) (good_set set (with_slot here at t).slots at other (good_other set s.slots at t other g))) (all_of (λ _. Unit {0}) pool (λ _. tt)) in
            let sum = sum_within (reads_from sight more) (map (with_slot here at) pool) C each in
            let many : length (map (with_slot here at) pool) * C ≡ length pool * C = ap (λ k. k * C) (length_map (with_slot here at) pool) in
            let fewer : length pool * C ≤ m at * C = mul-le (length pool) C (m at) C (let f = fewer_plus (sight.rows n rel) in omega (arith, f, rows)) (omega arith) in
            omega (arith, sum, many, fewer, rows)

    minus_read : (set : List ℕ) (at : ℕ) (alias : List ℕ) (rel : ℕ) (path : List Who) (cs : List Cond) (rest : List Step) (C P : ℕ) → slice_get q.items at ≡ Some (Rel alias rel Minus path) → list_all (who_among set) path ≡ true
        → C ≤ P → 1 ≤ P → Then (at ∷ set) rest C
        → Then set ((binds_from b.catalog.rels q at 0 (columns_at b.catalog.rels rel) ++ (map step.Test cs ++ (walk_of at path ++ (step.Neg at rel ∷ [])))) ++ rest) ((length path + 3 * m at + 8) * P)
    minus_read set at alias rel path cs rest C P is among le one h s g =
        let binds = binds_from b.catalog.rels q at 0 (columns_at b.catalog.rels rel) in
        let last : List Step = walk_of at path ++ (step.Neg at rel ∷ rest) in
        let other : is_users_item (slice_get q.items at) ≡ false = ap is_users_item is in
        let shape : (binds ++ (map step.Test cs ++ (walk_of at path ++ (step.Neg at rel ∷ [])))) ++ rest ≡ binds ++ (map step.Test cs ++ last) =
        append_assoc binds (map step.Test cs ++ (walk_of at path ++ (step.Neg at rel ∷ []))) rest
        ∙ ap (λ (xs : List Step). binds ++ xs) (append_assoc (map step.Test cs) (walk_of at path ++ (step.Neg at rel ∷ [])) rest
        ∙ ap (λ (xs : List Step). map step.Test cs ++ xs) (append_assoc (walk_of at path) (step.Neg at rel ∷ []) rest)) in
        subst (λ xs. reads_from sight xs s ≤ (length path + 3 * m at + 8) * P) (sym shape)
        (binds_read set at other (map step.Test cs ++ last) ((length path + 3 * m at + 8) * P) (after_binds other) 0 (columns_at b.catalog.rels rel) s g)
      where
        at_world : is_users_item (slice_get q.items at) ≡ false → (z : Reached) → Good set z.slots → (n : ℕ) → length (sight.rows n rel) ≤ m at → reads_from sight (step.Neg at rel ∷ rest) (with_world z n) ≤ (m at + 3) + C
        at_world other z k n rows = by (slot_at z.slots at)
          where
            ends : (t : Tuple) (c : Bool) → sum_by (reads_from sight rest) (option_list (cond c (Some (with_slot (with_world z n) at t)) None)) ≤ C
            ends t true =
                let next = with_slot (with_world z n) at t in
                let one = sum_by-cons (reads_from sight rest) next [] in
                let bound = h next (good_set set next.slots at other (good_other set z.slots at t other k)) in
                omega (arith, one, bound)
            ends t false = omega arith

            by : (o : Option Tuple) → (0 + (length (sight.rows n rel) + 3)) + sum_by (reads_from sight rest) (option_list (denied sight.keys (sight.rows n rel) (with_world z n) at rel o)) ≤ (m at + 3) + C
            by None = omega (arith, rows)
            by (Some t) =
                let one = ends (record { rel = rel; vals = t.vals }) (Rattle.bdb_plan.specs.Sight.rows_deny sight.keys (sight.rows n rel) (record { rel = rel; vals = t.vals })) in
                omega (arith, one, rows)

        after_binds : is_users_item (slice_get q.items at) ≡ false → (z : Reached) → Good set z.slots → reads_from sight (map step.Test cs ++ (walk_of at path ++ (step.Neg at rel ∷ rest))) z ≤ (length path + 3 * m at + 8) * P
        after_binds other z k =
            let D = (m at + 3) + C in
            let all = costs_both sight 0 (length path) (map step.Test cs) (walk_of at path) (costs_tests sight cs) (costs_path sight at path) in
            let bound = minus_bound (length path) (m at) (m at) C P (omega arith) le one in
            let tests = costs_tests sight cs (walk_of at path ++ (step.Neg at rel ∷ rest)) z (length path + D)
            (λ n e. costs_path sight at path (step.Neg at rel ∷ rest) (with_world z n) D (λ j f. at_world other z k j (walk_world set (with_world z n) k at alias rel Minus path is among j f))) in
            omega (arith, tests, bound)

    -- ---- all items

    place_within : (items : List Item) (at : ℕ) (item : Item) → slice_get items at ≡ Some item → at < length items
    place_within [] at item e = absurd cc
    place_within (x ∷ items) zero item e = omega arith
    place_within (x ∷ items) (suc at) item e = let rest = place_within items at item e in omega arith

    order_reads : (order set : List ℕ) → OrderFits q set order → Then set (steps_from b.catalog.rels q set order) (left_of u m set 0 q.items)
    order_reads [] set f s g = omega arith
    order_reads (at ∷ order) set f s g =
        let item = f.0.0 in
        let is = f.0.1 in
        let C = left_of u m (at ∷ set) 0 q.items in
        let one = left_some u m (at ∷ set) 0 q.items in
        let rest = steps_from b.catalog.rels q (at ∷ set) order in
        let h : Then (at ∷ set) rest C = order_reads order (at ∷ set) f.1 in
        let from : 0 + at ≡ at = omega arith in
        let less : left_of u m set 0 q.items ≡ factor u m at (Some item) * C =
        subst (λ n. left_of u m set 0 q.items ≡ factor u m n (Some item) * left_of u m (n ∷ set) 0 q.items) from (left_one u m set 0 at q.items item is (ap (is_among set) from ∙ f.0.2)) in
        subst (λ n. reads_from sight (item_steps b.catalog.rels q set at (slice_get q.items at) ++ rest) s ≤ n) (sym less)
        (subst (λ o. reads_from sight (item_steps b.catalog.rels q set at o ++ rest) s ≤ factor u m at (Some item) * C) (sym is) (by item is f.0.3 C one rest h))
      where
        by : (item : Item) → slice_get q.items at ≡ Some item → Needs q set item → (C : ℕ) → 1 ≤ C → (rest : List Step) → Then (at ∷ set) rest C → reads_from sight (item_steps b.catalog.rels q set at (Some item) ++ rest) s ≤ factor u m at (Some item) * C
        by (Users alias) is needs C one rest h = users_read set at (due set at q.conds) rest C C (place_within q.items at (Users alias) is) (omega arith) one h s g
        by (Rel alias rel Plus path) is needs C one rest h = plus_read set at alias rel path (due set at q.conds) rest C C is needs (omega arith) one h s g
        by (Rel alias rel Minus path) is needs C one rest h = minus_read set at alias rel path (due set at q.conds) rest C C is needs.0 (omega arith) one h s g

-- ---- a whole plan

pub orders_read : OrdersReadFew
orders_read b sight number q order u m valid shows fits is few small =
    let k = and_parts (nat_lt (length q.items) (2 ^ 32)) _ fits in
    let items = (and_parts (list_all (item_fits b.catalog q.items) q.items) _ (and_parts (list_all (λ def. nat_lt (length def.cols) (2 ^ 32)) b.catalog.rels) _ k.1).1).0 in
    subst (λ n. reads_from sight (steps_from b.catalog.rels q [] order) (start_of (length q.items)) ≤ n) (none_set u m 0 q.items)
    (order_reads b sight number q shows items u m few small order [] is.fits (start_of (length q.items)) (good_start b sight number q shows items))

pub plan_reads : PlanReadsAreBounded
unfolding plan_steps
plan_reads b sight number q u m valid shows fits few small = orders_read b sight number q (order_of q.items) u m valid shows fits (written_order b.catalog q fits) few small
