-- Rows that add nothing, what keys tell of steps, and what is remembered.
use Rattle.std.proofs.Common.{◌≡◌, ◌∙◌, ℕ, zero, suc, pos, ◌+◌, ◌-◌, Bool, true, false, not, ◌&&◌, ◌||◌, cond, nat_eq, List, [], ◌∷◌, ◌++◌, Option, Some, None, length, map, take, drop, get_or, slice_set, refl, ap, sym, subst, arith, append_assoc, take-append-drop, length-append, append-nil}
use Rattle.std.specs.List.{flat_map, list_all, slice_get, sum_by}
use Rattle.std.specs.Option.{option_map, option_and_then, unwrap_or}
use Rattle.std.specs.Ordering.{is_eq}
use Rattle.std.specs.declared.cmp.Ordering.{Ordering}
use Rattle.std.specs.declared.cmp.Ordering.TheVariants.{Less, Equal, Greater}
use Rattle.std.proofs.lemmas.Bool.{eqb-true, false≢true}
use Rattle.std.proofs.lemmas.Cmp.{tied_itself}
use Rattle.std.proofs.lemmas.List.{take_rest}
use Rattle.std.proofs.lemmas.List.Sums.{sum_by-cons}
use Rattle.bdb_base.specs.Order.{row_cmp}
use Rattle.bdb_base.specs.OrderLemmas.{row_exact}
use Rattle.bdb_base.specs.Queries.{option_list}
use Rattle.bdb_base.specs.Safety.{operand_columns}
use Rattle.bdb_base.specs.SortedSet.{put_at, put_in}
use Rattle.bdb_base.proofs.SetLemmas.{is_eq-Equal, less_from_greater, list_any-put_in}
use Rattle.bdb_base.proofs.ListLemmas.{list_all_weaker}
use Rattle.bdb_base.specs.declared.kinds.Cond.{Cond}
use Rattle.bdb_base.specs.declared.kinds.Operand.{Operand}
use Rattle.bdb_base.specs.declared.kinds.Operand.TheVariants.{Col, Lit}
use Rattle.bdb_base.specs.declared.kinds.Ref.{Ref}
use Rattle.bdb_base.specs.declared.kinds.Value.{Value}
use Rattle.bdb_base.specs.declared.kinds.Value.TheVariants.{Int}
use Rattle.bdb_base.specs.declared.kinds.Who.TheVariants.{User, Of}
use Rattle.bdb_base.specs.declared.tuple.Tuple.{Tuple}
use Rattle.bdb_queries.specs.Collected.{Collected, Values, has_room, with_row, with_rows}
use Rattle.bdb_base.specs.Conditions.{compare_so}
use Rattle.bdb_queries.specs.Slots.{slot_at, known, known_operand, known_row, must_hold}
use Rattle.bdb_queries.proofs.CollectedLemmas.{with_rows_full}
use Rattle.bdb_plan.specs.declared.step.Step.{Step}
use Rattle.bdb_plan.specs.declared.step.Step.TheVariants as step
use Rattle.bdb_plan.specs.Fitness.{PlanFields}
use Rattle.bdb_plan.specs.Holding.{differ}
use Rattle.bdb_plan.specs.Naming.{columns_named}
use Rattle.bdb_plan.specs.Running.{Reached, with_world, with_slot, plus_tuples, reached_if, rows_from}
use Rattle.bdb_plan.specs.Sight.{Sight}
use Rattle.bdb_exec.specs.LookUps.{looks_from}
use Rattle.bdb_exec.specs.SeenKeys.{needs_columns_alone, columns_needed, without, behind_tests, numbers_of, IsKey, is_seen, stands_by, stands_in, add_nothing, IsEnd, HasSeen}

-- ---- rows that stand there

stays : (xs : List Values) (x : Values) → stands_in xs x ≡ true → put_in row_cmp xs x ≡ xs
stays [] x h = absurd (false≢true h)
stays (y ∷ ys) x h = by (row_cmp y x) h (stays ys x)
  where
    by : (r : Ordering) → stands_by r (stands_in ys x) ≡ true → (stands_in ys x ≡ true → put_in row_cmp ys x ≡ ys) → put_at r y ys x (put_in row_cmp ys x) ≡ y ∷ ys
    by Less k rest = ap (λ (zs : List Values). y ∷ zs) (rest k)
    by Equal k rest = refl
    by Greater k rest = absurd (false≢true k)

stands_itself : (x : Values) (b : Bool) → stands_by (row_cmp x x) b ≡ true
stands_itself x b = ap (λ r. stands_by r b) (tied_itself row_exact.total x)

stands_then : (xs : List Values) (x : Values) → stands_in (put_in row_cmp xs x) x ≡ true
stands_then [] x = stands_itself x false
stands_then (y ∷ ys) x = by (row_cmp y x) refl (stands_then ys x)
  where
    by : (r : Ordering) → row_cmp y x ≡ r → stands_in (put_in row_cmp ys x) x ≡ true → stands_in (put_at r y ys x (put_in row_cmp ys x)) x ≡ true
    by Less e rest = ap (λ r. stands_by r (stands_in (put_in row_cmp ys x) x)) e ∙ rest
    by Equal e rest = ap (λ r. stands_by r (stands_in ys x)) e
    by Greater e rest = stands_itself x (stands_in (y ∷ ys) x)

stands_still : (xs : List Values) (q x : Values) → stands_in xs x ≡ true → stands_in (put_in row_cmp xs q) x ≡ true
stands_still [] q x h = absurd (false≢true h)
stands_still (y ∷ ys) q x h = by (row_cmp y q) refl (stands_still ys q x)
  where
    behind : (r : Ordering) → stands_by r (stands_in ys x) ≡ true → (stands_in ys x ≡ true → stands_in (put_in row_cmp ys q) x ≡ true) → stands_by r (stands_in (put_in row_cmp ys q) x) ≡ true
    behind Less k rest = rest k
    behind Equal k rest = refl
    behind Greater k rest = absurd (false≢true k)

    above : (r : Ordering) → row_cmp y x ≡ r → stands_by r (stands_in ys x) ≡ true → row_cmp q y ≡ Less → row_cmp q x ≡ Less
    above Less e k less = row_exact.total.trans q y x less e
    above Equal e k less = subst (λ z. row_cmp q z ≡ Less) (row_exact.exact y x e) less
    above Greater e k less = absurd (false≢true k)

    by : (r : Ordering) → row_cmp y q ≡ r → (stands_in ys x ≡ true → stands_in (put_in row_cmp ys q) x ≡ true) → stands_in (put_at r y ys q (put_in row_cmp ys q)) x ≡ true
    by Less e rest = behind (row_cmp y x) h rest
    by Equal e rest = h
    by Greater e rest = ap (λ r. stands_by r (stands_in (y ∷ ys) x)) (above (row_cmp y x) refl h (less_from_greater row_exact y q e)) ∙ h

-- ---- rows that add nothing

abbrev found_of : List Values → ℕ → Collected
found_of rows most = record { rows = rows; most = most }

or_right_holds : (a b : Bool) → b ≡ true → (a || b) ≡ true
or_right_holds true b h = refl
or_right_holds false b h = h

nothing_one_more : (f : Collected) (q : Values) (rows : List Values) → add_nothing f rows ≡ true → add_nothing (with_row f q) rows ≡ true
nothing_one_more f q rows h = by (has_room f) refl
  where
    by : (b : Bool) → has_room f ≡ b → add_nothing (cond b (record { rows = put_in row_cmp f.rows q; most = f.most }) f) rows ≡ true
    by true e = or_right_holds (not (has_room (record { rows = put_in row_cmp f.rows q; most = f.most }))) (list_all (stands_in (put_in row_cmp f.rows q)) rows)
        (list_all_weaker (stands_in f.rows) (stands_in (put_in row_cmp f.rows q)) (λ r k. stands_still f.rows q r k) rows
        (sym (ap (λ b. not b || list_all (stands_in f.rows) rows) e) ∙ h))
    by false e = h

pub nothing_still : (f : Collected) (more rows : List Values) → add_nothing f rows ≡ true → add_nothing (with_rows f more) rows ≡ true
nothing_still f [] rows h = h
nothing_still f (q ∷ more) rows h = nothing_still (with_row f q) more rows (nothing_one_more f q rows h)

one_then : (f : Collected) (x : Values) → add_nothing (with_row f x) (x ∷ []) ≡ true
one_then f x = by (has_room f) refl
  where
    by : (b : Bool) → has_room f ≡ b → add_nothing (cond b (record { rows = put_in row_cmp f.rows x; most = f.most }) f) (x ∷ []) ≡ true
    by true e = or_right_holds (not (has_room (record { rows = put_in row_cmp f.rows x; most = f.most }))) (stands_in (put_in row_cmp f.rows x) x && true) (ap (λ b. b && true) (stands_then f.rows x))
    by false e = ap (λ b. not b || list_all (stands_in f.rows) (x ∷ [])) e

both_nothing : (a b c : Bool) → (a || (b && true)) ≡ true → (a || c) ≡ true → (a || (b && c)) ≡ true
both_nothing true b c h g = refl
both_nothing false true c h g = g
both_nothing false false c h g = absurd (false≢true h)

-- rows that were put in add nothing once more
pub nothing_then : (f : Collected) (rows : List Values) → add_nothing (with_rows f rows) rows ≡ true
nothing_then f [] = or_right_holds (not (has_room f)) true refl
nothing_then f (x ∷ rows) =
    let end : Collected = with_rows (with_row f x) rows in
    both_nothing (not (has_room end)) (stands_in end.rows x) (list_all (stands_in end.rows) rows)
    (nothing_still (with_row f x) rows (x ∷ []) (one_then f x)) (nothing_then (with_row f x) rows)

all_stand : (f : Collected) (rows : List Values) → list_all (stands_in f.rows) rows ≡ true → with_rows f rows ≡ f
all_stand f [] h = refl
all_stand f (x ∷ rows) h = by (stands_in f.rows x) refl (all_stand f rows) h
  where
    one : stands_in f.rows x ≡ true → (b : Bool) → cond b (record { rows = put_in row_cmp f.rows x; most = f.most }) f ≡ f
    one e true = ap (λ (xs : List Values). found_of xs f.most) (stays f.rows x e)
    one e false = refl

    by : (b : Bool) → stands_in f.rows x ≡ b → (list_all (stands_in f.rows) rows ≡ true → with_rows f rows ≡ f) → (b && list_all (stands_in f.rows) rows) ≡ true → with_rows (with_row f x) rows ≡ f
    by true e rest k = ap (λ g. with_rows g rows) (one e (has_room f)) ∙ rest k
    by false e rest k = absurd (false≢true k)

-- where rows add nothing, they needn't be put in
pub nothing_added : (f : Collected) (rows : List Values) → add_nothing f rows ≡ true → f ≡ with_rows f rows
nothing_added f rows h = by (has_room f) refl h
  where
    by : (b : Bool) → has_room f ≡ b → (not b || list_all (stands_in f.rows) rows) ≡ true → f ≡ with_rows f rows
    by true e k = sym (all_stand f rows k)
    by false e k = sym (with_rows_full f rows e)

-- ---- lists and slots

head_same : {X : Type 0} {x y : X} {xs ys : List X} → x ∷ xs ≡ y ∷ ys → x ≡ y
head_same {X} {x} {y} {xs} {ys} e = ap (λ l. get_or l 0 x) e

tail_same : {X : Type 0} {x y : X} {xs ys : List X} → x ∷ xs ≡ y ∷ ys → xs ≡ ys
tail_same {X} {x} {y} {xs} {ys} e = ap (drop 1) e

ends_same : {X : Type 0} (a b x y : List X) → a ++ x ≡ b ++ y → length x ≡ length y → (a ≡ b) × (x ≡ y)
ends_same [] [] x y e n = (refl, e)
ends_same [] (c ∷ b) x y e n =
    let m = ap length e in
    let k = length-append b y in
    absurd (omega (arith, m, n, k))
ends_same (c ∷ a) [] x y e n =
    let m = ap length e in
    let k = length-append a x in
    absurd (omega (arith, m, n, k))
ends_same (c ∷ a) (d ∷ b) x y e n =
    let rest = ends_same a b x y (tail_same e) n in
    (ap (λ z. z ∷ a) (head_same e) ∙ ap (λ zs. d ∷ zs) rest.0, rest.1)

set_length : (a : List (Option Tuple)) (i : ℕ) (x : Option Tuple) → length (slice_set a i x) ≡ length a
set_length [] i x = refl
set_length (y ∷ a) zero x = refl
set_length (y ∷ a) (suc i) x = let e = set_length a i x in omega (arith, e)

set_point : (g : Option Tuple → Option Value) (a b : List (Option Tuple)) (i j : ℕ) (x : Option Tuple) → length a ≡ length b → g (slot_at a j) ≡ g (slot_at b j) → g (slot_at (slice_set a i x) j) ≡ g (slot_at (slice_set b i x) j)
set_point g [] [] i j x n e = e
set_point g [] (z ∷ b) i j x n e = absurd (omega (arith, n))
set_point g (y ∷ a) [] i j x n e = absurd (omega (arith, n))
set_point g (y ∷ a) (z ∷ b) zero zero x n e = refl
set_point g (y ∷ a) (z ∷ b) zero (suc j) x n e = e
set_point g (y ∷ a) (z ∷ b) (suc i) zero x n e = e
set_point g (y ∷ a) (z ∷ b) (suc i) (suc j) x n e = set_point g a b i j x (omega (arith, n)) e

-- the same is known of columns
abbrev Same : List (Option Tuple) → List (Option Tuple) → List Ref → Type 0
Same a b columns = map (known a) columns ≡ map (known b) columns

set_here : (g : Option Tuple → Option Value) (a b : List (Option Tuple)) (i : ℕ) (x : Option Tuple) → length a ≡ length b → g (slot_at (slice_set a i x) i) ≡ g (slot_at (slice_set b i x) i)
set_here g [] [] i x n = refl
set_here g [] (z ∷ b) i x n = absurd (omega (arith, n))
set_here g (y ∷ a) [] i x n = absurd (omega (arith, n))
set_here g (y ∷ a) (z ∷ b) zero x n = refl
set_here g (y ∷ a) (z ∷ b) (suc i) x n = set_here g a b i x (omega (arith, n))

-- what is chosen for an item needn't have been the same before
same_set : (a b : List (Option Tuple)) (item : ℕ) (t : Tuple) (columns : List Ref) → length a ≡ length b → Same a b (without item columns) → Same (slice_set a item (Some t)) (slice_set b item (Some t)) columns
same_set a b item t [] n e = refl
same_set a b item t (r ∷ rs) n e = by (nat_eq r.item item) refl (same_set a b item t rs n) e
  where
    both : known (slice_set a item (Some t)) r ≡ known (slice_set b item (Some t)) r → Same (slice_set a item (Some t)) (slice_set b item (Some t)) rs → Same (slice_set a item (Some t)) (slice_set b item (Some t)) (r ∷ rs)
    both one rest = ap (λ o. o ∷ map (known (slice_set a item (Some t))) rs) one ∙ ap (λ os. known (slice_set b item (Some t)) r ∷ os) rest

    by : (k : Bool) → nat_eq r.item item ≡ k → (Same a b (without item rs) → Same (slice_set a item (Some t)) (slice_set b item (Some t)) rs)
        → Same a b (cond (not k) (r ∷ without item rs) (without item rs)) → Same (slice_set a item (Some t)) (slice_set b item (Some t)) (r ∷ rs)
    by true k rest h =
        both (subst (λ j. option_and_then (λ u. slice_get u.vals r.col) (slot_at (slice_set a item (Some t)) j) ≡ option_and_then (λ u. slice_get u.vals r.col) (slot_at (slice_set b item (Some t)) j)) (sym (eqb-true r.item item k))
        (set_here (option_and_then (λ u. slice_get u.vals r.col)) a b item (Some t) n)) (rest h)
    by false k rest h = both (set_point (option_and_then (λ u. slice_get u.vals r.col)) a b item r.item (Some t) n (head_same h)) (rest (tail_same h))

same_parts : (a b : List (Option Tuple)) (xs ys : List Ref) → Same a b (xs ++ ys) → Same a b xs × Same a b ys
same_parts a b [] ys e = (refl, e)
same_parts a b (x ∷ xs) ys e =
    let rest = same_parts a b xs ys (tail_same e) in
    (ap (λ o. o ∷ map (known a) xs) (head_same e) ∙ ap (λ os. known b x ∷ os) rest.0, rest.1)

same_operand : (a b : List (Option Tuple)) (o : Operand) → Same a b (operand_columns o) → known_operand a o ≡ known_operand b o
same_operand a b (Col r) e = head_same e
same_operand a b (Lit v) e = refl

same_test : (a b : List (Option Tuple)) (c : Cond) → Same a b (columns_named (step.Test c)) → must_hold a c ≡ must_hold b c
same_test a b c e = ap (λ o. compare_so c.cmp o (known_operand a c.right)) (head_same e) ∙ ap (compare_so c.cmp (known b c.left)) (same_operand a b c.right (tail_same e))

same_row : (a b : List (Option Tuple)) (rs : List Ref) → Same a b rs → known_row a rs ≡ known_row b rs
same_row a b [] e = refl
same_row a b (r ∷ rs) e =
    ap (λ (o : Option (List Value)). option_and_then (λ v. option_map (λ vs. v ∷ vs) o) (known a r)) (same_row a b rs (tail_same e))
    ∙ ap (option_and_then (λ v. option_map (λ vs. v ∷ vs) (known_row b rs))) (head_same e)

nothing_is_row : (vs : List Value) → ◌≡◌ {A = Option (List Value)} None (Some vs) → ⊥
nothing_is_row vs e = cc

row_values : (a : List (Option Tuple)) (rs : List Ref) (vs : List Value) → known_row a rs ≡ Some vs → map (known a) rs ≡ map Some vs
row_values a [] vs e = ap (λ (o : Option (List Value)). map Some (unwrap_or o [])) e
row_values a (r ∷ rs) vs e = by (known a r) (known_row a rs) (row_values a rs) e
  where
    by : (k : Option Value) (o : Option (List Value)) → ((us : List Value) → o ≡ Some us → map (known a) rs ≡ map Some us) → option_and_then (λ v. option_map (λ ws. v ∷ ws) o) k ≡ Some vs → k ∷ map (known a) rs ≡ map Some vs
    by None o rest h = absurd (nothing_is_row vs h)
    by (Some v) None rest h = absurd (nothing_is_row vs h)
    by (Some v) (Some us) rest h = ap (λ (os : List (Option Value)). Some v ∷ os) (rest us refl) ∙ ap (λ (o : Option (List Value)). map Some (unwrap_or o [])) h

-- ---- what comes of steps that need columns alone

abbrev at : ℕ → List (Option Tuple) → Reached
at world slots = record { world = world; slots = slots }

same_pool : (F : Reached → List Values) (s z : Reached) (item : ℕ) (pool : List Tuple) → ((t : Tuple) → F (with_slot s item t) ≡ F (with_slot z item t)) → flat_map F (map (with_slot s item) pool) ≡ flat_map F (map (with_slot z item) pool)
same_pool F s z item [] h = refl
same_pool F s z item (t ∷ pool) h =
    ap (λ (x : List Values). x ++ flat_map F (map (with_slot s item) pool)) (h t)
    ∙ ap (λ (x : List Values). F (with_slot z item t) ++ x) (same_pool F s z item pool h)

same_led : (F : Reached → List Values) (s z : Reached) (o : Option ℕ) → ((w : ℕ) → F (with_world s w) ≡ F (with_world z w)) → flat_map F (option_list (option_map (with_world s) o)) ≡ flat_map F (option_list (option_map (with_world z) o))
same_led F s z None h = refl
same_led F s z (Some w) h = ap (λ (x : List Values). x ++ []) (h w)

same_tested : (F : Reached → List Values) (s z : Reached) (b : Bool) → F s ≡ F z → flat_map F (option_list (reached_if b s)) ≡ flat_map F (option_list (reached_if b z))
same_tested F s z true h = ap (λ (x : List Values). x ++ []) h
same_tested F s z false h = refl

module _ (sight : Sight) (taken : List Ref) where
  same_rows : (xs : List Step) (w : ℕ) (a b : List (Option Tuple)) → list_all needs_columns_alone xs ≡ true → length a ≡ length b → Same a b (columns_needed xs taken) → rows_from sight taken xs (at w a) ≡ rows_from sight taken xs (at w b)
  same_rows [] w a b alone n e = ap option_list (same_row a b taken e)
  same_rows (step.User item ∷ xs) w a b alone n e =
      same_pool (rows_from sight taken xs) (at w a) (at w b) item sight.users
      (λ t. same_rows xs w (slice_set a item (Some t)) (slice_set b item (Some t)) alone (set_length a item (Some t) ∙ n ∙ sym (set_length b item (Some t))) (same_set a b item t (columns_needed xs taken) n e))
  same_rows (step.Start item ∷ xs) w a b alone n e = ap (λ (x : List Values). x ++ []) (same_rows xs 0 a b alone n e)
  same_rows (step.Edge item (User uid) ∷ xs) w a b alone n e = same_led (rows_from sight taken xs) (at w a) (at w b) (sight.edge w uid) (λ v. same_rows xs v a b alone n e)
  same_rows (step.Edge item (Of i) ∷ xs) w a b alone n e = absurd (false≢true alone)
  same_rows (step.Differ item (User l) (User r) ∷ xs) w a b alone n e = same_tested (rows_from sight taken xs) (at w a) (at w b) (differ (Some l) (Some r)) (same_rows xs w a b alone n e)
  same_rows (step.Differ item (User l) (Of r) ∷ xs) w a b alone n e = absurd (false≢true alone)
  same_rows (step.Differ item (Of l) r ∷ xs) w a b alone n e = absurd (false≢true alone)
  same_rows (step.Pos item rel ∷ xs) w a b alone n e =
      same_pool (rows_from sight taken xs) (at w a) (at w b) item (plus_tuples (sight.rows w rel))
      (λ t. same_rows xs w (slice_set a item (Some t)) (slice_set b item (Some t)) alone (set_length a item (Some t) ∙ n ∙ sym (set_length b item (Some t))) (same_set a b item t (columns_needed xs taken) n e))
  same_rows (step.Bind item col right ∷ xs) w a b alone n e = absurd (false≢true alone)
  same_rows (step.Neg item rel ∷ xs) w a b alone n e = absurd (false≢true alone)
  same_rows (step.Test c ∷ xs) w a b alone n e =
      let parts = same_parts a b (columns_needed xs taken) (columns_named (step.Test c)) e in
      ap (λ t. flat_map (rows_from sight taken xs) (option_list (reached_if t (at w a)))) (same_test a b c parts.1)
      ∙ same_tested (rows_from sight taken xs) (at w a) (at w b) (must_hold b c) (same_rows xs w a b alone n parts.0)

-- ---- keys

abbrev told : Value → ℕ
told (Int (pos n)) = n
told _ = 0

abbrev told_at : ℕ → List Value → ℕ
told_at i l = told (get_or l i (Int (pos 0)))

-- where keys are one, so are the numbers in them, and what is known of the columns
key_parts : (xs ys : List Step) (taken : List Ref) (s z : Reached) (key : Values) → (a : IsKey xs taken s key) → (b : IsKey ys taken z key) → (a.values ≡ b.values) × (numbers_of (length xs) s ≡ numbers_of (length ys) z)
key_parts xs ys taken s z key a b = ends_same a.values b.values (numbers_of (length xs) s) (numbers_of (length ys) z) (sym a.key ∙ b.key) refl

same_key : (sight : Sight) (taken : List Ref) (xs : List Step) (s z : Reached) (key : Values) → IsKey xs taken s key → IsKey xs taken z key → rows_from sight taken xs s ≡ rows_from sight taken xs z
same_key sight taken xs s z key a b =
    let parts = key_parts xs xs taken s z key a b in
    let columns = columns_needed xs taken in
    let known_same : Same s.slots z.slots columns = row_values s.slots columns a.values a.known ∙ ap (λ (vs : List Value). map Some vs) parts.0 ∙ sym (row_values z.slots columns b.values b.known) in
    same_rows sight taken xs s.world s.slots z.slots a.alone (ap (told_at 2) parts.1) known_same
    ∙ ap (λ w. rows_from sight taken xs (at w z.slots)) (ap (told_at 1) parts.1)

same_steps : (whole xs ys : List Step) → IsEnd whole xs → IsEnd whole ys → length xs ≡ length ys → xs ≡ ys
same_steps whole xs ys a b n = (ends_same a.before b.before xs ys (sym a.whole ∙ b.whole) n).1

pub end_whole : (whole : List Step) → IsEnd whole whole
end_whole whole = record { before = []; whole = refl }

pub end_drop : (whole xs : List Step) (n : ℕ) → IsEnd whole xs → IsEnd whole (drop n xs)
end_drop whole xs n h = record {
  before = h.before ++ take n xs;
  whole = h.whole ∙ ap (λ ys. h.before ++ ys) (sym (take-append-drop n xs)) ∙ sym (append_assoc h.before (take n xs) (drop n xs));
}

pub end_part : (whole xs : List Step) (n : ℕ) → IsEnd whole xs → IsEnd whole (take (length xs - n) (drop n xs))
end_part whole xs n h = subst (IsEnd whole) (sym (take_rest xs n)) (end_drop whole xs n h)

-- ---- what is remembered

module _ (sight : Sight) (plan : PlanFields) where
  pub seen_none : (found : Collected) → HasSeen sight plan found []
  seen_none found xs s key end is has = absurd (false≢true has)

  -- more rows are found
  pub seen_still : (found : Collected) (keys : List Values) (more : List Values) → HasSeen sight plan found keys → HasSeen sight plan (with_rows found more) keys
  seen_still found keys more h xs s key end is has = nothing_still found more (rows_from sight plan.take xs s) (h xs s key end is has)

  -- one key more
  pub seen_more : (found : Collected) (keys : List Values) (xs : List Step) (s : Reached) (key : Values) → HasSeen sight plan found keys → IsEnd plan.steps xs → IsKey xs plan.take s key
      → add_nothing found (rows_from sight plan.take xs s) ≡ true → HasSeen sight plan found (put_in row_cmp keys key)
  seen_more found keys xs s key h end is nothing ys z other ends its has =
      by (is_eq (row_cmp other key)) refl (sym (list_any-put_in row_exact (λ k. is_eq (row_cmp other k)) keys key) ∙ has)
    where
      same : key ≡ other → add_nothing found (rows_from sight plan.take ys z) ≡ true
      same e =
          let it : IsKey xs plan.take s other = subst (IsKey xs plan.take s) e is in
          let steps : xs ≡ ys = same_steps plan.steps xs ys end ends (ap (told_at 0) (key_parts xs ys plan.take s z other it its).1) in
          let rows = same_key sight plan.take ys s z other (subst (λ zs. IsKey zs plan.take s other) steps it) its in
          ap (add_nothing found) (sym rows ∙ ap (λ zs. rows_from sight plan.take zs s) (sym steps)) ∙ nothing

      by : (b : Bool) → is_eq (row_cmp other key) ≡ b → (b || is_seen keys other) ≡ true → add_nothing found (rows_from sight plan.take ys z) ≡ true
      by true e k = same (sym (row_exact.exact other key (is_eq-Equal (row_cmp other key) e)))
      by false e k = h ys z other ends its k

-- ---- tests that steps begin with

abbrev pub rows_behind : Sight → List Ref → Option (List Step) → Reached → List Values
rows_behind sight taken None s = []
rows_behind sight taken (Some xs) s = rows_from sight taken xs s

abbrev pub looks_behind : Sight → Option (List Step) → Reached → ℕ
looks_behind sight None s = 0
looks_behind sight (Some xs) s = looks_from sight xs s

pub tested_rows : (sight : Sight) (taken : List Ref) (xs : List Step) (s : Reached) → rows_from sight taken xs s ≡ rows_behind sight taken (behind_tests s.slots xs) s
tested_rows sight taken [] s = refl
tested_rows sight taken (step.Test c ∷ xs) s = by (must_hold s.slots c) (tested_rows sight taken xs s)
  where
    by : (b : Bool) → rows_from sight taken xs s ≡ rows_behind sight taken (behind_tests s.slots xs) s
        → flat_map (rows_from sight taken xs) (option_list (reached_if b s)) ≡ rows_behind sight taken (cond b (behind_tests s.slots xs) None) s
    by true rest = append-nil (rows_from sight taken xs s) ∙ rest
    by false rest = refl
tested_rows sight taken (step.User a ∷ xs) s = refl
tested_rows sight taken (step.Start a ∷ xs) s = refl
tested_rows sight taken (step.Edge a b ∷ xs) s = refl
tested_rows sight taken (step.Differ a b d ∷ xs) s = refl
tested_rows sight taken (step.Pos a b ∷ xs) s = refl
tested_rows sight taken (step.Bind a b d ∷ xs) s = refl
tested_rows sight taken (step.Neg a b ∷ xs) s = refl

pub tested_looks : (sight : Sight) (xs : List Step) (s : Reached) → looks_from sight xs s ≡ looks_behind sight (behind_tests s.slots xs) s
tested_looks sight [] s = refl
tested_looks sight (step.Test c ∷ xs) s = by (must_hold s.slots c) (tested_looks sight xs s)
  where
    by : (b : Bool) → looks_from sight xs s ≡ looks_behind sight (behind_tests s.slots xs) s
        → 0 + 0 + sum_by (looks_from sight xs) (option_list (reached_if b s)) ≡ looks_behind sight (cond b (behind_tests s.slots xs) None) s
    by true rest = let one = sum_by-cons (looks_from sight xs) s [] in omega (arith, one, rest)
    by false rest = omega arith
tested_looks sight (step.User a ∷ xs) s = refl
tested_looks sight (step.Start a ∷ xs) s = refl
tested_looks sight (step.Edge a b ∷ xs) s = refl
tested_looks sight (step.Differ a b d ∷ xs) s = refl
tested_looks sight (step.Pos a b ∷ xs) s = refl
tested_looks sight (step.Bind a b d ∷ xs) s = refl
tested_looks sight (step.Neg a b ∷ xs) s = refl

-- what is left where the first tests hold
pub rest_rows : (sight : Sight) (taken : List Ref) (xs : List Step) (s : Reached) (n : ℕ) → Some (drop n xs) ≡ behind_tests s.slots xs → rows_from sight taken (drop n xs) s ≡ rows_from sight taken xs s
rest_rows sight taken xs s n e = ap (λ (o : Option (List Step)). rows_behind sight taken o s) e ∙ sym (tested_rows sight taken xs s)

pub rest_looks : (sight : Sight) (xs : List Step) (s : Reached) (n : ℕ) → Some (drop n xs) ≡ behind_tests s.slots xs → looks_from sight (drop n xs) s ≡ looks_from sight xs s
rest_looks sight xs s n e = ap (λ (o : Option (List Step)). looks_behind sight o s) e ∙ sym (tested_looks sight xs s)

-- no row comes where one of them doesn't
pub no_rows : (sight : Sight) (taken : List Ref) (xs : List Step) (s : Reached) → None ≡ behind_tests s.slots xs → [] ≡ rows_from sight taken xs s
no_rows sight taken xs s e = ap (λ (o : Option (List Step)). rows_behind sight taken o s) e ∙ sym (tested_rows sight taken xs s)
