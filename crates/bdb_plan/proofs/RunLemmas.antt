-- Running a plan finds exactly the rows of choices for all items with which each step holds.
use Rattle.std.proofs.Common.{◌≡◌, ◌∙◌, ℕ, suc, ◌↔◌, Bool, true, false, ◌&&◌, ◌||◌, nat_eq, nat_lt, List, [], ◌∷◌, Option, None, Some, inl, inr, refl, ap, sym, subst, length, map, filter, replicate, cond}
use Prim.Native.Nat.{zero}
use Rattle.std.specs.List.{list_any, list_all, flat_map}
use Rattle.std.specs.Option.{option_map, option_and_then, is_some}
use Rattle.std.specs.Ordering.{is_eq}
use Rattle.std.proofs.lemmas.Bool.{false≢true, cond-true, or_cases, or_left, and_parts, and_from, eqb-true}
use Rattle.std.proofs.lemmas.Bool.Decides.{Decides-eqb}
use Rattle.bdb_base.specs.declared.kinds.Cond.{Cond}
use Rattle.bdb_base.specs.declared.kinds.Operand.{Operand}
use Rattle.bdb_base.specs.declared.kinds.Ref.{Ref}
use Rattle.bdb_base.specs.declared.kinds.Sign.{Sign}
use Rattle.bdb_base.specs.declared.kinds.Sign.TheVariants.{Plus}
use Rattle.bdb_base.specs.declared.kinds.Value.{Value}
use Rattle.bdb_base.specs.declared.tuple.Tuple.{Tuple}
use Rattle.bdb_base.specs.Conditions.{compare_so}
use Rattle.bdb_base.specs.Order.{row_cmp}
use Rattle.bdb_base.specs.OrderLemmas.{row_exact, value_exact}
use Rattle.bdb_base.specs.Queries.{option_list}
use Rattle.bdb_base.specs.Same.{same_tuple, same_sign, tuple_of}
use Rattle.bdb_base.specs.SameLemmas.{same_tuple-Decides}
use Rattle.bdb_base.specs.SortedSet.{is_member}
use Rattle.bdb_base.specs.Safety.{equality}
use Rattle.bdb_base.proofs.CountLemmas.{list_any-map}
use Rattle.bdb_base.proofs.SetLemmas.{is_eq-Equal, is_eq_itself, set_is_ascending, set_keeps_members}
use Rattle.bdb_base.proofs.WorldRowsLemmas.{list_any-flat_map}
use Rattle.bdb_base.proofs.FindLemmas.{list_any-filter}
use Rattle.bdb_base.proofs.ConditionLemmas.{equal_sides}
use Rattle.bdb_base.proofs.BoolLemmas.{or_true}
use Rattle.bdb_queries.specs.Slots.{slot_at, known, known_operand, must_hold, known_row, uid_of}
use Rattle.bdb_queries.proofs.FoundLemmas.{Found, found_with, option_map_some}
use Rattle.bdb_plan.specs.declared.step.Step.{Step}
use Rattle.bdb_plan.specs.declared.step.Step.TheVariants as step
use Rattle.bdb_plan.specs.Fitness.{PlanFields, SetSoFar, is_among, is_set, operand_is_set, who_is_set, is_new, comes_next, is_walked, is_whole, at_width, placed_if, with_user, with_walk, with_tuple, with_column, with_all_bound, placed_after, fits_from, at_first}
use Rattle.bdb_plan.specs.Holding.{differ, world_if, world_after, world_at_end, IsPlanRow}
use Rattle.bdb_plan.specs.PlanLaws.{MeaningIsChoices}
use Rattle.bdb_plan.specs.Running.{Reached, with_world, with_slot, plus_tuples, with_value, reached_if, denied, decided, choices, after, rows_from, start_of, meaning_of}
use Rattle.bdb_plan.specs.Sight.{Sight, is_user_of, has_signed, is_plus_row, rows_deny, is_denied}
use Rattle.bdb_plan.proofs.StandLemmas.{Stands, Above, above_itself, known_same, operand_same, UsersAreSet, who_same, is_new_tells, new_stands, new_below, new_above, before_of, next_stands, next_below, next_above, is_whole_tells, whole_stands, whole_below, whole_above}

-- ---- small facts

pub placed_tells : (t : Bool) (p p' : SetSoFar) → placed_if t p ≡ Some p' → (t ≡ true) × (p ≡ p')
placed_tells true p p' e = (refl, cc)
placed_tells false p p' e = cc

reached_tells : (t : Bool) (s s' : Reached) → reached_if t s ≡ Some s' → (t ≡ true) × (s ≡ s')
reached_tells true s s' e = (refl, cc)
reached_tells false s s' e = cc

world_tells : (t : Bool) (n m : ℕ) → world_if t n ≡ Some m → (t ≡ true) × (n ≡ m)
world_tells true n m e = (refl, cc)
world_tells false n m e = cc

world_is : (t : Bool) (n : ℕ) → t ≡ true → world_if t n ≡ Some n
world_is t n h = ap (λ x. world_if x n) h

any_option : {X Y : Type 0} (q : Y → Bool) (F : X → List Y) (o : Option X) → list_any q (flat_map F (option_list o)) ≡ true → (x : X) × (o ≡ Some x) × (list_any q (F x) ≡ true)
any_option q F None h = absurd (false≢true h)
any_option q F (Some x) h = (x, refl, by (list_any-flat_map q F (x ∷ [])))
  where
    by : list_any q (flat_map F (x ∷ [])) ≡ (list_any q (F x) || false) → list_any q (F x) ≡ true
    by e = elim (or_cases (list_any q (F x)) false (sym e ∙ h)) [ inl k ↦ k | inr k ↦ absurd (false≢true k) ]

option_any : {X Y : Type 0} (q : Y → Bool) (F : X → List Y) (o : Option X) (x : X) → o ≡ Some x → list_any q (F x) ≡ true → list_any q (flat_map F (option_list o)) ≡ true
option_any q F o x e h = ap (λ z. list_any q (flat_map F (option_list z))) e ∙ list_any-flat_map q F (x ∷ []) ∙ or_left (list_any q (F x)) false h

any_choice : {Y : Type 0} (q : Y → Bool) (F : Reached → List Y) (s : Reached) (item : ℕ) (pool : List Tuple) → list_any q (flat_map F (map (with_slot s item) pool)) ≡ true
    → (t : Tuple) × Found t pool × (list_any q (F (with_slot s item t)) ≡ true)
any_choice q F s item pool h =
    let e = list_any-flat_map q F (map (with_slot s item) pool) ∙ list_any-map (λ z. list_any q (F z)) (with_slot s item) pool in
    let found = found_with (λ t. list_any q (F (with_slot s item t))) pool (sym e ∙ h) in
    (found.0, found.2, found.1)

choice_any : {Y : Type 0} (q : Y → Bool) (F : Reached → List Y) (s : Reached) (item : ℕ) (pool : List Tuple) (t : Tuple) → list_any (λ u. same_tuple u t) pool ≡ true → list_any q (F (with_slot s item t)) ≡ true
    → list_any q (flat_map F (map (with_slot s item) pool)) ≡ true
choice_any q F s item pool t m h =
    let found = found_with (λ u. same_tuple u t) pool m in
    let same : found.0 ≡ t = (same_tuple-Decides found.0 t).0 found.1 in
    list_any-flat_map q F (map (with_slot s item) pool) ∙ list_any-map (λ z. list_any q (F z)) (with_slot s item) pool
    ∙ found.2 (λ u. list_any q (F (with_slot s item u))) (ap (λ u. list_any q (F (with_slot s item u))) same ∙ h)

-- a tuple is among those with plus exactly where its row is
plus_is_row : (rows : List (Tuple × Sign)) (t : Tuple) → list_any (λ u. same_tuple u t) (plus_tuples rows) ≡ has_signed rows t Plus
plus_is_row rows t =
    list_any-map (λ u. same_tuple u t) (λ x. x.0) (filter (λ x. same_sign x.1 Plus) rows)
    ∙ list_any-filter (λ x. same_tuple x.0 t) (λ x. same_sign x.1 Plus) rows ∙ turned rows
  where
    and_turned : (a b : Bool) → (a && b) ≡ (b && a)
    and_turned true true = refl
    and_turned true false = refl
    and_turned false true = refl
    and_turned false false = refl

    turned : (rows : List (Tuple × Sign)) → list_any (λ x. same_sign x.1 Plus && same_tuple x.0 t) rows ≡ list_any (λ x. same_tuple x.0 t && same_sign x.1 Plus) rows
    turned [] = refl
    turned (x ∷ xs) =
        ap (λ b. b || list_any (λ y. same_sign y.1 Plus && same_tuple y.0 t) xs) (and_turned (same_sign x.1 Plus) (same_tuple x.0 t))
        ∙ ap (λ b. (same_tuple x.0 t && same_sign x.1 Plus) || b) (turned xs)

-- ---- what the two readings share

abbrev StandsAt : ℕ → SetSoFar → List (Option Tuple) → Type 0
StandsAt n p slots = Stands n p.items p.bound slots

abbrev AboveAt : SetSoFar → List (Option Tuple) → List (Option Tuple) → Type 0
AboveAt p slots zs = Above p.items p.bound slots zs

-- a walk is that of an item, and something else holds
walked_tells : (p : SetSoFar) (item : ℕ) (t : Bool) → is_walked p.walk item && t ≡ true → t ≡ true
walked_tells p item t h = (and_parts (is_walked p.walk item) t h).1

-- the items for which a user is chosen stay set
users_stay : (n : ℕ) (w : ℕ → ℕ → Bool) (p p' : SetSoFar) (x : Step) → UsersAreSet p → placed_after n w p x ≡ Some p' → UsersAreSet p'
users_stay n w p p' x u e = by x e
  where
    same : (t : Bool) (r : SetSoFar) → placed_if t r ≡ Some p' → UsersAreSet r → UsersAreSet p'
    same t r e v = subst UsersAreSet (placed_tells t r p' e).1 v

    one_more : (item i : ℕ) → is_among p.users i ≡ true → (nat_eq i item || is_among p.items i) ≡ true
    one_more item i h = ap (λ b. nat_eq i item || b) (u i h) ∙ or_true (nat_eq i item)

    user : (item i : ℕ) → (nat_eq i item || is_among p.users i) ≡ true → (nat_eq i item || is_among p.items i) ≡ true
    user item i h = elim (or_cases (nat_eq i item) (is_among p.users i) h) [
      | inl k ↦ or_left (nat_eq i item) (is_among p.items i) k
      | inr k ↦ one_more item i k
    ]

    by : (x : Step) → placed_after n w p x ≡ Some p' → UsersAreSet p'
    by (step.User item) e = same (is_new n p item) (with_user p item) e (user item)
    by (step.Start item) e = same (nat_lt item n) (with_walk p item) e u
    by (step.Edge item who) e = same (is_walked p.walk item && who_is_set p who) p e u
    by (step.Differ item left right) e = same (is_walked p.walk item && (who_is_set p left && who_is_set p right)) p e u
    by (step.Pos item rel) e = same (is_walked p.walk item && is_new n p item) (with_tuple p item) e (one_more item)
    by (step.Bind item col right) e = same (operand_is_set p right && comes_next n p p.bound item col) (with_column p item col) e u
    by (step.Neg item rel) e = same (is_walked p.walk item && is_whole n w p p.bound item rel) (with_all_bound p item) e (one_more item)
    by (step.Test c) e = same (is_set p c.left && operand_is_set p c.right) p e u

test_same : (n : ℕ) (p : SetSoFar) (slots zs : List (Option Tuple)) → UsersAreSet p → StandsAt n p slots → AboveAt p slots zs → (c : Cond) → is_set p c.left && operand_is_set p c.right ≡ true → must_hold zs c ≡ must_hold slots c
test_same n p slots zs u s a c h =
    let k = and_parts (is_set p c.left) (operand_is_set p c.right) h in
    ap (λ x. compare_so c.cmp x (known_operand zs c.right)) (known_same n p slots zs u s a c.left k.0) ∙ ap (compare_so c.cmp (known slots c.left)) (operand_same n p slots zs u s a c.right k.1)

row_same : (n : ℕ) (p : SetSoFar) (slots zs : List (Option Tuple)) → UsersAreSet p → StandsAt n p slots → AboveAt p slots zs → (take : List Ref) → list_all (is_set p) take ≡ true → known_row zs take ≡ known_row slots take
row_same n p slots zs u s a [] h = refl
row_same n p slots zs u s a (r ∷ rs) h =
    let k = and_parts (is_set p r) (list_all (is_set p) rs) h in
    ap (λ o. option_and_then (λ v. option_map (λ vs. v ∷ vs) o) (known zs r)) (row_same n p slots zs u s a rs k.1)
    ∙ ap (option_and_then (λ v. option_map (λ vs. v ∷ vs) (known_row slots rs))) (known_same n p slots zs u s a r k.0)

equality_holds : (zs : List (Option Tuple)) (r : Ref) (o : Operand) (v : Value) → known zs r ≡ Some v → known_operand zs o ≡ Some v → must_hold zs (equality r o) ≡ true
equality_holds zs r o v a b = ap (λ x. compare_so (equality r o).cmp x (known_operand zs o)) a ∙ ap (compare_so (equality r o).cmp (Some v)) b ∙ is_eq_itself value_exact v

-- ---- from a run to choices for all items

-- a step of a run is one that holds of each choice above what it leads to
record Goes (sight : Sight) (n : ℕ) (p : SetSoFar) (s : Reached) (x : Step) (p' : SetSoFar) (s' : Reached) : Type 0 where
  stands : Stands n p'.items p'.bound s'.slots
  back : (zs : List (Option Tuple)) → Above p'.items p'.bound s'.slots zs → Above p.items p.bound s.slots zs × (world_after sight zs s.world x ≡ Some s'.world)

goes_plain : (sight : Sight) (n : ℕ) (p : SetSoFar) (s : Reached) (x : Step) (w : ℕ) → StandsAt n p s.slots
    → ((zs : List (Option Tuple)) → AboveAt p s.slots zs → world_after sight zs s.world x ≡ Some w) → Goes sight n p s x p (with_world s w)
goes_plain sight n p s x w st h = record { stands = st; back = λ zs a. (a, h zs a) }

goes_choice : (sight : Sight) (n : ℕ) (p : SetSoFar) (users : List ℕ) (s : Reached) (x : Step) (item : ℕ) (t : Tuple) → StandsAt n p s.slots → is_new n p item ≡ true
    → ((zs : List (Option Tuple)) → slot_at zs item ≡ Some t → world_after sight zs s.world x ≡ Some s.world)
    → Goes sight n p s x (record { users = users; items = item ∷ p.items; denied = p.denied; bound = p.bound; walk = p.walk }) (with_slot s item t)
goes_choice sight n p users s x item t st new h =
    let fresh = is_new_tells n p item new in
    record {
      stands = new_stands n p.items p.bound s.slots item t st fresh;
      back = λ zs a. let k = new_below n p.items p.bound s.slots zs item t st fresh a in (k.0, h zs k.1);
    }

goes_decided : (sight : Sight) (n : ℕ) (p p' : SetSoFar) (s s' : Reached) (x : Step) → UsersAreSet p → StandsAt n p s.slots → choices sight s x ≡ None → placed_after n (at_width sight.width) p x ≡ Some p' → decided sight s x ≡ Some s'
    → Goes sight n p s x p' s'
goes_decided sight n p p' s s' (step.User item) us st c f e = cc
goes_decided sight n p p' s s' (step.Pos item rel) us st c f e = cc
goes_decided sight n p p' s s' (step.Start item) us st c f e =
    let k = placed_tells (nat_lt item n) (with_walk p item) p' f in
    let d : with_world s 0 ≡ s' = cc in
    subst (λ y. Goes sight n p s (step.Start item) y s') k.1 (subst (Goes sight n p s (step.Start item) (with_walk p item)) d (record { stands = st; back = λ zs a. (a, refl) }))
goes_decided sight n p p' s s' (step.Edge item who) us st c f e =
    let k = placed_tells (is_walked p.walk item && who_is_set p who) p p' f in
    let there = walked_tells p item (who_is_set p who) k.0 in
    let w = option_map_some (with_world s) (option_and_then (sight.edge s.world) (uid_of s.slots who)) s' e in
    subst (λ y. Goes sight n p s (step.Edge item who) y s') k.1 (subst (Goes sight n p s (step.Edge item who) p) w.2
    (goes_plain sight n p s (step.Edge item who) w.0 st (λ zs a. ap (option_and_then (sight.edge s.world)) (who_same p s.slots zs us a who there) ∙ w.1)))
goes_decided sight n p p' s s' (step.Differ item left right) us st c f e =
    let k = placed_tells (is_walked p.walk item && (who_is_set p left && who_is_set p right)) p p' f in
    let m = and_parts (who_is_set p left) (who_is_set p right) (walked_tells p item (who_is_set p left && who_is_set p right) k.0) in
    let r = reached_tells (differ (uid_of s.slots left) (uid_of s.slots right)) s s' e in
    subst (λ y. Goes sight n p s (step.Differ item left right) y s') k.1 (subst (Goes sight n p s (step.Differ item left right) p) r.1
    (goes_plain sight n p s (step.Differ item left right) s.world st (λ zs a. world_is (differ (uid_of zs left) (uid_of zs right)) s.world
    (ap (λ o. differ o (uid_of zs right)) (who_same p s.slots zs us a left m.0) ∙ ap (differ (uid_of s.slots left)) (who_same p s.slots zs us a right m.1) ∙ r.0))))
goes_decided sight n p p' s s' (step.Test t) us st c f e =
    let k = placed_tells (is_set p t.left && operand_is_set p t.right) p p' f in
    let r = reached_tells (must_hold s.slots t) s s' e in
    subst (λ y. Goes sight n p s (step.Test t) y s') k.1 (subst (Goes sight n p s (step.Test t) p) r.1
    (goes_plain sight n p s (step.Test t) s.world st (λ zs a. world_is (must_hold zs t) s.world (test_same n p s.slots zs us st a t k.0 ∙ r.0))))
goes_decided sight n p p' s s' (step.Bind item col right) us st c f e =
    let k = placed_tells (operand_is_set p right && comes_next n p p.bound item col) (with_column p item col) p' f in
    let m = and_parts (operand_is_set p right) (comes_next n p p.bound item col) k.0 in
    let before = before_of n p s.slots item col st m.1 in
    let v = option_map_some (λ v. with_slot s item (with_value (slot_at s.slots item) v)) (known_operand s.slots right) s' e in
    let ref : Ref = record { item = item; col = col } in
    subst (λ y. Goes sight n p s (step.Bind item col right) y s') k.1 (subst (Goes sight n p s (step.Bind item col right) (with_column p item col)) v.2 (record {
      stands = next_stands n p.items p.bound s.slots item col v.0 st before;
      back = λ zs a.
          let b = next_below n p.items p.bound s.slots zs item col v.0 st before a in
          (b.0, world_is (must_hold zs (equality ref right)) s.world (equality_holds zs ref right v.0 b.1 (operand_same n p s.slots zs us st b.0 right m.0 ∙ v.1)));
    }))
goes_decided sight n p p' s s' (step.Neg item rel) us st c f e =
    let k = placed_tells (is_walked p.walk item && is_whole n (at_width sight.width) p p.bound item rel) (with_all_bound p item) p' f in
    let w = is_whole_tells n sight.width p s.slots item rel st (walked_tells p item (is_whole n (at_width sight.width) p p.bound item rel) k.0) in
    let u = tuple_of rel w.tuple.vals in
    let is : cond (rows_deny sight.keys (sight.rows s.world rel) u) (Some (with_slot s item u)) None ≡ Some s' =
    sym (ap (denied sight.keys (sight.rows s.world rel) s item rel) w.there) ∙ e in
    let r = denied_tells (rows_deny sight.keys (sight.rows s.world rel) u) (with_slot s item u) s' is in
    subst (λ y. Goes sight n p s (step.Neg item rel) y s') k.1 (subst (Goes sight n p s (step.Neg item rel) (with_all_bound p item)) r.1 (record {
      stands = whole_stands n p.items p.bound s.slots item rel (sight.width rel) w st;
      back = λ zs a.
          let b = whole_below n p.items p.bound s.slots zs item rel (sight.width rel) w st a in
          (b.0, world_is (is_denied sight s.world rel (slot_at zs item)) s.world (ap (is_denied sight s.world rel) b.1 ∙ denies_it u w.long r.0));
    }))
  where
    denied_tells : (t : Bool) (a b : Reached) → cond t (Some a) None ≡ Some b → (t ≡ true) × (a ≡ b)
    denied_tells true a b e = (refl, cc)
    denied_tells false a b e = cc

    denies_it : (u : Tuple) → length u.vals ≡ sight.width rel → rows_deny sight.keys (sight.rows s.world rel) u ≡ true → nat_eq rel rel && (nat_eq (length u.vals) (sight.width rel) && rows_deny sight.keys (sight.rows s.world rel) u) ≡ true
    denies_it u l h =
        and_from (nat_eq rel rel) (nat_eq (length u.vals) (sight.width rel) && rows_deny sight.keys (sight.rows s.world rel) u) ((Decides-eqb rel rel).1 refl)
        (and_from (nat_eq (length u.vals) (sight.width rel)) (rows_deny sight.keys (sight.rows s.world rel) u) ((Decides-eqb (length u.vals) (sight.width rel)).1 l) h)

-- a choice with which the steps hold, above what is chosen so far, and its row passes
record Sound (sight : Sight) (take : List Ref) (p : SetSoFar) (xs : List Step) (s : Reached) (q : List Value → Bool) : Type 0 where
  slots : List (Option Tuple)
  long : length slots ≡ length s.slots
  above : Above p.items p.bound s.slots slots
  hold : is_some (world_at_end sight slots s.world xs) ≡ true
  row : List Value
  gives : known_row slots take ≡ Some row
  passes : q row ≡ true

go_back : (sight : Sight) (n : ℕ) (take : List Ref) (p p' : SetSoFar) (s s' : Reached) (x : Step) (xs : List Step) (q : List Value → Bool) → StandsAt n p s.slots → Goes sight n p s x p' s' → Sound sight take p' xs s' q → Sound sight take p (x ∷ xs) s q
go_back sight n take p p' s s' x xs q st g h =
    let k = g.back h.slots h.above in
    record {
      slots = h.slots;
      long = h.long ∙ g.stands.long ∙ sym st.long;
      above = k.0;
      hold = ap (λ o. is_some (option_and_then (λ m. world_at_end sight h.slots m xs) o)) k.1 ∙ h.hold;
      row = h.row;
      gives = h.gives;
      passes = h.passes;
    }

-- what steps fit after one that fits
pub fits_one : (n : ℕ) (w : ℕ → ℕ → Bool) (take : List Ref) (o : Option SetSoFar) (xs : List Step) → fits_from n w take o xs ≡ true → (p' : SetSoFar) × (o ≡ Some p') × (fits_from n w take (Some p') xs ≡ true)
fits_one n w take None xs h = absurd (false≢true h)
fits_one n w take (Some p') xs h = (p', refl, h)

abbrev Runs : Sight → ℕ → List Ref → List Step → (List Value → Bool) → Type 0
Runs sight n take xs q = (p : SetSoFar) (s : Reached) → UsersAreSet p → fits_from n (at_width sight.width) take (Some p) xs ≡ true → Stands n p.items p.bound s.slots → list_any q (rows_from sight take xs s) ≡ true → Sound sight take p xs s q

run_decided : (sight : Sight) (n : ℕ) (take : List Ref) (x : Step) (xs : List Step) (q : List Value → Bool) → Runs sight n take xs q → (p p' : SetSoFar) (s : Reached) → UsersAreSet p → StandsAt n p s.slots → choices sight s x ≡ None
    → placed_after n (at_width sight.width) p x ≡ Some p' → fits_from n (at_width sight.width) take (Some p') xs ≡ true → list_any q (flat_map (rows_from sight take xs) (option_list (decided sight s x))) ≡ true
    → Sound sight take p (x ∷ xs) s q
run_decided sight n take x xs q rest p p' s us st c f g h =
    let m = any_option q (rows_from sight take xs) (decided sight s x) h in
    let goes = goes_decided sight n p p' s m.0 x us st c f m.1 in
    go_back sight n take p p' s m.0 x xs q st goes (rest p' m.0 (users_stay n (at_width sight.width) p p' x us f) g goes.stands m.2)

user_world : (sight : Sight) (n item : ℕ) (t : Tuple) → Found t sight.users → (zs : List (Option Tuple)) → slot_at zs item ≡ Some t → world_after sight zs n (step.User item) ≡ Some n
user_world sight n item t f zs e = world_is (is_user_of sight (slot_at zs item)) n (ap (is_user_of sight) e ∙ f (λ u. same_tuple u t) ((same_tuple-Decides t t).1 refl))

pos_world : (sight : Sight) (n item rel : ℕ) (t : Tuple) → Found t (plus_tuples (sight.rows n rel)) → (zs : List (Option Tuple)) → slot_at zs item ≡ Some t → world_after sight zs n (step.Pos item rel) ≡ Some n
pos_world sight n item rel t f zs e =
    world_is (is_plus_row (sight.rows n rel) (slot_at zs item)) n
    (ap (is_plus_row (sight.rows n rel)) e ∙ sym (plus_is_row (sight.rows n rel) t) ∙ f (λ u. same_tuple u t) ((same_tuple-Decides t t).1 refl))

run_sound : (sight : Sight) (n : ℕ) (take : List Ref) (xs : List Step) (q : List Value → Bool) → Runs sight n take xs q
run_sound sight n take [] q p s us f st h =
    by (known_row s.slots take) refl h
  where
    by : (o : Option (List Value)) → known_row s.slots take ≡ o → list_any q (option_list o) ≡ true → Sound sight take p [] s q
    by None e h = absurd (false≢true h)
    by (Some row) e h = record {
      slots = s.slots;
      long = refl;
      above = above_itself n p.items p.bound s.slots st;
      hold = refl;
      row = row;
      gives = e;
      passes = elim (or_cases (q row) false h) [ inl k ↦ k | inr k ↦ absurd (false≢true k) ];
    }
run_sound sight n take (step.User item ∷ xs) q p s us f st h =
    let g = fits_one n (at_width sight.width) take (placed_after n (at_width sight.width) p (step.User item)) xs f in
    let k = placed_tells (is_new n p item) (with_user p item) g.0 g.1 in
    let m = any_choice q (rows_from sight take xs) s item sight.users h in
    let goes = subst (λ y. Goes sight n p s (step.User item) y (with_slot s item m.0)) k.1 (goes_choice sight n p (item ∷ p.users) s (step.User item) item m.0 st k.0 (user_world sight s.world item m.0 m.1)) in
    go_back sight n take p g.0 s (with_slot s item m.0) (step.User item) xs q st goes
    (run_sound sight n take xs q g.0 (with_slot s item m.0) (users_stay n (at_width sight.width) p g.0 (step.User item) us g.1) g.2 goes.stands m.2)
run_sound sight n take (step.Pos item rel ∷ xs) q p s us f st h =
    let g = fits_one n (at_width sight.width) take (placed_after n (at_width sight.width) p (step.Pos item rel)) xs f in
    let k = placed_tells (is_walked p.walk item && is_new n p item) (with_tuple p item) g.0 g.1 in
    let m = any_choice q (rows_from sight take xs) s item (plus_tuples (sight.rows s.world rel)) h in
    let goes = subst (λ y. Goes sight n p s (step.Pos item rel) y (with_slot s item m.0)) k.1 (goes_choice sight n p p.users s (step.Pos item rel) item m.0 st (walked_tells p item (is_new n p item) k.0) (pos_world sight s.world item rel m.0 m.1)) in
    go_back sight n take p g.0 s (with_slot s item m.0) (step.Pos item rel) xs q st goes
    (run_sound sight n take xs q g.0 (with_slot s item m.0) (users_stay n (at_width sight.width) p g.0 (step.Pos item rel) us g.1) g.2 goes.stands m.2)
run_sound sight n take (step.Start item ∷ xs) q p s us f st h =
    let g = fits_one n (at_width sight.width) take (placed_after n (at_width sight.width) p (step.Start item)) xs f in
    run_decided sight n take (step.Start item) xs q (run_sound sight n take xs q) p g.0 s us st refl g.1 g.2 h
run_sound sight n take (step.Edge item who ∷ xs) q p s us f st h =
    let g = fits_one n (at_width sight.width) take (placed_after n (at_width sight.width) p (step.Edge item who)) xs f in
    run_decided sight n take (step.Edge item who) xs q (run_sound sight n take xs q) p g.0 s us st refl g.1 g.2 h
run_sound sight n take (step.Differ item left right ∷ xs) q p s us f st h =
    let g = fits_one n (at_width sight.width) take (placed_after n (at_width sight.width) p (step.Differ item left right)) xs f in
    run_decided sight n take (step.Differ item left right) xs q (run_sound sight n take xs q) p g.0 s us st refl g.1 g.2 h
run_sound sight n take (step.Bind item col right ∷ xs) q p s us f st h =
    let g = fits_one n (at_width sight.width) take (placed_after n (at_width sight.width) p (step.Bind item col right)) xs f in
    run_decided sight n take (step.Bind item col right) xs q (run_sound sight n take xs q) p g.0 s us st refl g.1 g.2 h
run_sound sight n take (step.Neg item rel ∷ xs) q p s us f st h =
    let g = fits_one n (at_width sight.width) take (placed_after n (at_width sight.width) p (step.Neg item rel)) xs f in
    run_decided sight n take (step.Neg item rel) xs q (run_sound sight n take xs q) p g.0 s us st refl g.1 g.2 h
run_sound sight n take (step.Test c ∷ xs) q p s us f st h =
    let g = fits_one n (at_width sight.width) take (placed_after n (at_width sight.width) p (step.Test c)) xs f in
    run_decided sight n take (step.Test c) xs q (run_sound sight n take xs q) p g.0 s us st refl g.1 g.2 h

-- ---- from choices for all items to a run

-- where a step leads that holds of a choice for all items
record Reaches (sight : Sight) (n : ℕ) (p' : SetSoFar) (s : Reached) (x : Step) (zs : List (Option Tuple)) (w : ℕ) : Type 0 where
  state : Reached
  world : state.world ≡ w
  stands : Stands n p'.items p'.bound state.slots
  above : Above p'.items p'.bound state.slots zs
  there : (F : Reached → List (List Value)) (q : List Value → Bool) → list_any q (F state) ≡ true → list_any q (flat_map F (after sight s x)) ≡ true

reaches_plain : (sight : Sight) (n : ℕ) (p : SetSoFar) (s : Reached) (x : Step) (zs : List (Option Tuple)) (w w' : ℕ) → StandsAt n p s.slots → AboveAt p s.slots zs → w ≡ w'
    → ((F : Reached → List (List Value)) (q : List Value → Bool) → list_any q (F (with_world s w)) ≡ true → list_any q (flat_map F (after sight s x)) ≡ true) → Reaches sight n p s x zs w'
reaches_plain sight n p s x zs w w' st a e h = record { state = with_world s w; world = e; stands = st; above = a; there = h }

reaches : (sight : Sight) (n : ℕ) (p p' : SetSoFar) (s : Reached) (x : Step) (zs : List (Option Tuple)) (w : ℕ) → UsersAreSet p → StandsAt n p s.slots → AboveAt p s.slots zs → placed_after n (at_width sight.width) p x ≡ Some p'
    → world_after sight zs s.world x ≡ Some w → Reaches sight n p' s x zs w
reaches sight n p p' s (step.User item) zs w us st a f e =
    let k = placed_tells (is_new n p item) (with_user p item) p' f in
    let fresh = is_new_tells n p item k.0 in
    let m = world_tells (is_user_of sight (slot_at zs item)) s.world w e in
    let t = tuple_there (slot_at zs item) m.0 in
    subst (λ y. Reaches sight n y s (step.User item) zs w) k.1 (record {
      state = with_slot s item t.0;
      world = m.1;
      stands = new_stands n p.items p.bound s.slots item t.0 st fresh;
      above = new_above n p.items p.bound s.slots zs item t.0 st fresh a t.1;
      there = λ F q h. choice_any q F s item sight.users t.0 t.2 h;
    })
  where
    tuple_there : (o : Option Tuple) → is_user_of sight o ≡ true → (t : Tuple) × (o ≡ Some t) × (list_any (λ u. same_tuple u t) sight.users ≡ true)
    tuple_there None h = absurd (false≢true h)
    tuple_there (Some t) h = (t, refl, h)
reaches sight n p p' s (step.Pos item rel) zs w us st a f e =
    let k = placed_tells (is_walked p.walk item && is_new n p item) (with_tuple p item) p' f in
    let fresh = is_new_tells n p item (walked_tells p item (is_new n p item) k.0) in
    let m = world_tells (is_plus_row (sight.rows s.world rel) (slot_at zs item)) s.world w e in
    let t = tuple_there (slot_at zs item) m.0 in
    subst (λ y. Reaches sight n y s (step.Pos item rel) zs w) k.1 (record {
      state = with_slot s item t.0;
      world = m.1;
      stands = new_stands n p.items p.bound s.slots item t.0 st fresh;
      above = new_above n p.items p.bound s.slots zs item t.0 st fresh a t.1;
      there = λ F q h. choice_any q F s item (plus_tuples (sight.rows s.world rel)) t.0 (plus_is_row (sight.rows s.world rel) t.0 ∙ t.2) h;
    })
  where
    tuple_there : (o : Option Tuple) → is_plus_row (sight.rows s.world rel) o ≡ true → (t : Tuple) × (o ≡ Some t) × (has_signed (sight.rows s.world rel) t Plus ≡ true)
    tuple_there None h = absurd (false≢true h)
    tuple_there (Some t) h = (t, refl, h)
reaches sight n p p' s (step.Start item) zs w us st a f e =
    let k = placed_tells (nat_lt item n) (with_walk p item) p' f in
    let m : 0 ≡ w = cc in
    subst (λ y. Reaches sight n y s (step.Start item) zs w) k.1 (record {
      state = with_world s 0;
      world = m;
      stands = st;
      above = a;
      there = λ F q h. option_any q F (Some (with_world s 0)) (with_world s 0) refl h;
    })
reaches sight n p p' s (step.Edge item who) zs w us st a f e =
    let k = placed_tells (is_walked p.walk item && who_is_set p who) p p' f in
    let there = walked_tells p item (who_is_set p who) k.0 in
    let m : option_and_then (sight.edge s.world) (uid_of s.slots who) ≡ Some w = ap (option_and_then (sight.edge s.world)) (sym (who_same p s.slots zs us a who there)) ∙ e in
    subst (λ y. Reaches sight n y s (step.Edge item who) zs w) k.1 (reaches_plain sight n p s (step.Edge item who) zs w w st a refl
    (λ F q h. option_any q F (option_map (with_world s) (option_and_then (sight.edge s.world) (uid_of s.slots who))) (with_world s w) (ap (option_map (with_world s)) m) h))
reaches sight n p p' s (step.Differ item left right) zs w us st a f e =
    let k = placed_tells (is_walked p.walk item && (who_is_set p left && who_is_set p right)) p p' f in
    let c = and_parts (who_is_set p left) (who_is_set p right) (walked_tells p item (who_is_set p left && who_is_set p right) k.0) in
    let m = world_tells (differ (uid_of zs left) (uid_of zs right)) s.world w e in
    let t : differ (uid_of s.slots left) (uid_of s.slots right) ≡ true =
    ap (λ o. differ o (uid_of s.slots right)) (sym (who_same p s.slots zs us a left c.0)) ∙ ap (differ (uid_of zs left)) (sym (who_same p s.slots zs us a right c.1)) ∙ m.0 in
    subst (λ y. Reaches sight n y s (step.Differ item left right) zs w) k.1 (reaches_plain sight n p s (step.Differ item left right) zs s.world w st a m.1
    (λ F q h. option_any q F (reached_if (differ (uid_of s.slots left) (uid_of s.slots right)) s) s (ap (λ b. reached_if b s) t) h))
reaches sight n p p' s (step.Test c) zs w us st a f e =
    let k = placed_tells (is_set p c.left && operand_is_set p c.right) p p' f in
    let m = world_tells (must_hold zs c) s.world w e in
    let t : must_hold s.slots c ≡ true = sym (test_same n p s.slots zs us st a c k.0) ∙ m.0 in
    subst (λ y. Reaches sight n y s (step.Test c) zs w) k.1 (reaches_plain sight n p s (step.Test c) zs s.world w st a m.1
    (λ F q h. option_any q F (reached_if (must_hold s.slots c) s) s (ap (λ b. reached_if b s) t) h))
reaches sight n p p' s (step.Bind item col right) zs w us st a f e =
    let ref : Ref = record { item = item; col = col } in
    let k = placed_tells (operand_is_set p right && comes_next n p p.bound item col) (with_column p item col) p' f in
    let c = and_parts (operand_is_set p right) (comes_next n p p.bound item col) k.0 in
    let before = before_of n p s.slots item col st c.1 in
    let m = world_tells (must_hold zs (equality ref right)) s.world w e in
    let sides = equal_sides (known zs ref) (known_operand zs right) m.0 in
    let v = sides.0 in
    let right_is : known_operand s.slots right ≡ Some v = sym (operand_same n p s.slots zs us st a right c.0) ∙ sides.2 in
    subst (λ y. Reaches sight n y s (step.Bind item col right) zs w) k.1 (record {
      state = with_slot s item (with_value (slot_at s.slots item) v);
      world = m.1;
      stands = next_stands n p.items p.bound s.slots item col v st before;
      above = next_above n p.items p.bound s.slots zs item col v st before a sides.1;
      there = λ F q h. option_any q F (option_map (λ v. with_slot s item (with_value (slot_at s.slots item) v)) (known_operand s.slots right)) (with_slot s item (with_value (slot_at s.slots item) v))
          (ap (option_map (λ v. with_slot s item (with_value (slot_at s.slots item) v))) right_is) h;
    })
reaches sight n p p' s (step.Neg item rel) zs w us st a f e =
    let k = placed_tells (is_walked p.walk item && is_whole n (at_width sight.width) p p.bound item rel) (with_all_bound p item) p' f in
    let whole = is_whole_tells n sight.width p s.slots item rel st (walked_tells p item (is_whole n (at_width sight.width) p p.bound item rel) k.0) in
    let u = tuple_of rel whole.tuple.vals in
    let m = world_tells (is_denied sight s.world rel (slot_at zs item)) s.world w e in
    let t = tuple_there (slot_at zs item) m.0 in
    let up = whole_above n p.items p.bound s.slots zs item rel (sight.width rel) whole t.0 st a t.1 t.2 t.3 in
    let deny : rows_deny sight.keys (sight.rows s.world rel) u ≡ true = ap (rows_deny sight.keys (sight.rows s.world rel)) (sym up.0) ∙ t.4 in
    let is : denied sight.keys (sight.rows s.world rel) s item rel (slot_at s.slots item) ≡ Some (with_slot s item u) =
    ap (denied sight.keys (sight.rows s.world rel) s item rel) whole.there ∙ cond-true (rows_deny sight.keys (sight.rows s.world rel) u) (Some (with_slot s item u)) None deny in
    subst (λ y. Reaches sight n y s (step.Neg item rel) zs w) k.1 (record {
      state = with_slot s item u;
      world = m.1;
      stands = whole_stands n p.items p.bound s.slots item rel (sight.width rel) whole st;
      above = up.1;
      there = λ F q h. option_any q F (denied sight.keys (sight.rows s.world rel) s item rel (slot_at s.slots item)) (with_slot s item u) is h;
    })
  where
    tuple_there : (o : Option Tuple) → is_denied sight s.world rel o ≡ true
        → (t : Tuple) × (o ≡ Some t) × (t.rel ≡ rel) × (length t.vals ≡ sight.width rel) × (rows_deny sight.keys (sight.rows s.world rel) t ≡ true)
    tuple_there None h = absurd (false≢true h)
    tuple_there (Some t) h =
        let k = and_parts (nat_eq t.rel rel) (nat_eq (length t.vals) (sight.width rel) && rows_deny sight.keys (sight.rows s.world rel) t) h in
        let m = and_parts (nat_eq (length t.vals) (sight.width rel)) (rows_deny sight.keys (sight.rows s.world rel) t) k.1 in
        (t, refl, eqb-true t.rel rel k.0, eqb-true (length t.vals) (sight.width rel) m.0, m.1)

end_of : (sight : Sight) (zs : List (Option Tuple)) (xs : List Step) (o : Option ℕ) → is_some (option_and_then (λ m. world_at_end sight zs m xs) o) ≡ true → (w : ℕ) × (o ≡ Some w) × (is_some (world_at_end sight zs w xs) ≡ true)
end_of sight zs xs None h = absurd (false≢true h)
end_of sight zs xs (Some w) h = (w, refl, h)

pub run_whole : (sight : Sight) (n : ℕ) (take : List Ref) (xs : List Step) (q : List Value → Bool) (zs : List (Option Tuple)) (row : List Value) → known_row zs take ≡ Some row → q row ≡ true
    → (p : SetSoFar) (s : Reached) → UsersAreSet p → fits_from n (at_width sight.width) take (Some p) xs ≡ true → Stands n p.items p.bound s.slots → Above p.items p.bound s.slots zs → is_some (world_at_end sight zs s.world xs) ≡ true
    → list_any q (rows_from sight take xs s) ≡ true
run_whole sight n take [] q zs row e g p s us f st a h =
    let is : known_row s.slots take ≡ Some row = sym (row_same n p s.slots zs us st a take f) ∙ e in
    ap (λ o. list_any q (option_list o)) is ∙ or_left (q row) false g
run_whole sight n take (x ∷ xs) q zs row e g p s us f st a h =
    let fit = fits_one n (at_width sight.width) take (placed_after n (at_width sight.width) p x) xs f in
    let end = end_of sight zs xs (world_after sight zs s.world x) h in
    let r = reaches sight n p fit.0 s x zs end.0 us st a fit.1 end.1 in
    r.there (rows_from sight take xs) q
    (run_whole sight n take xs q zs row e g fit.0 r.state (users_stay n (at_width sight.width) p fit.0 x us fit.1) fit.2 r.stands r.above (ap (λ w. is_some (world_at_end sight zs w xs)) r.world ∙ end.2))

-- ---- a whole run

get_none : (n i : ℕ) → slot_at (replicate n None) i ≡ None
get_none zero i = refl
get_none (suc n) zero = refl
get_none (suc n) (suc i) = get_none n i

long_none : (n : ℕ) → length (replicate {A = Option Tuple} n None) ≡ n
long_none zero = refl
long_none (suc n) = ap suc (long_none n)

nothing_stands : (n : ℕ) → Stands n [] None (replicate n None)
nothing_stands n = record { long = long_none n; empty = λ i a b. get_none n i; bound = tt }

-- a row comes of a run exactly where it is one of a choice for all items with which each step holds
pub meaning_is_choices : (sight : Sight) (p : PlanFields) → fits_from p.items (at_width sight.width) p.take (Some at_first) p.steps ≡ true → (row : List Value)
    → (is_member row_cmp (meaning_of sight p) row ≡ true) ↔ IsPlanRow sight p row
meaning_is_choices sight p f row =
    let q : List Value → Bool = λ x. is_eq (row_cmp x row) in
    let start = start_of p.items in
    let rows = rows_from sight p.take p.steps start in (
      (λ m.
          let r = run_sound sight p.items p.take p.steps q at_first start none_chosen f (nothing_stands p.items) (sym (set_keeps_members row_exact rows row) ∙ m) in
          let is : r.row ≡ row = row_exact.exact r.row row (is_eq-Equal (row_cmp r.row row) r.passes) in
          (r.slots, r.long ∙ long_none p.items, r.hold, r.gives ∙ ap Some is)),
      (λ (zs, long, hold, gives).
          set_keeps_members row_exact rows row
          ∙ run_whole sight p.items p.take p.steps q zs row gives (is_eq_itself row_exact row) at_first start none_chosen f (nothing_stands p.items) (record { chosen = λ i e. absurd (false≢true e); bound = tt }) hold),
    )
  where
    none_chosen : UsersAreSet at_first
    none_chosen i e = e

pub meaning_are_choices : MeaningIsChoices
meaning_are_choices sight p f = record {
  sorted = set_is_ascending row_exact (rows_from sight p.take p.steps (start_of p.items));
  members = meaning_is_choices sight p f;
}
