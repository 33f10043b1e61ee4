-- The places of users: where one leaves, and what stays.
use Rattle.std.proofs.Common.{◌≡◌, ◌∙◌, ℕ, ◌+◌, ◌-◌, ◌<◌, ◌≤◌, Bool, true, false, not, ◌&&◌, ◌||◌, cond, List, [], ◌∷◌, ◌++◌, Option, Some, None, refl, ap, sym, inl, inr, suc, arith, filter, length, nat_eq, nat_lt, nat_le, slice_set}
use Prim.Native.Nat.{zero}
use Rattle.std.specs.List.{list_any, list_all, slice_get}
use Rattle.std.specs.Option.{option_and_then, is_some}
use Rattle.std.specs.declared.cmp.Ordering.{Ordering}
use Rattle.std.specs.Ordering.{is_eq}
use Rattle.std.proofs.lemmas.Bool.{cases_Bool, and_parts, and_from, and_left, and_right, or_parts, or_from, or_cases, cond-true, cond-false, false≢true, not-true, eqb-false, eqb-true, lt-ltb, ltb-true, not_from_false}
use Rattle.std.proofs.lemmas.List.{length-set}
use Rattle.std.proofs.lemmas.Option.{none-some, same_Some, slice_get_past}
use Rattle.bdb_base.specs.declared.kinds.Catalog.{Catalog}
use Rattle.bdb_base.specs.declared.kinds.Stmt.{Stmt}
use Rattle.bdb_base.specs.declared.kinds.UserSlot.{UserSlot}
use Rattle.bdb_base.specs.declared.kinds.UserSlot.TheVariants.{Live, Gone}
use Rattle.bdb_base.specs.Bases.{are_distinct, belongs, is_gone, is_left, is_plain, is_user, live_name, name_at, user_names, without_user}
use Rattle.bdb_base.specs.Changes.{names_user, without_statements_of}
use Rattle.bdb_base.specs.OrderLemmas.{statement_exact}
use Rattle.bdb_base.specs.Queries.{live_numbers, numbers_from, user_name}
use Rattle.bdb_base.specs.Same.{same_text}
use Rattle.bdb_base.specs.SameLemmas.{same_text-Decides}
use Rattle.bdb_base.specs.Segments.{is_prefix}
use Rattle.bdb_base.specs.SortedSet.{IsExactOrder, is_member}
use Rattle.bdb_base.specs.UserLaws.{DropUserIsValid, WhoLeavesIsGone, WhoIsGoneIsNoUser, GoneAfterUsersCome, GoneAfterUsersLeave, OthersAreUsers, OthersKeepNames, StandsWithoutUser, StatementsAreParted, StatesNameOthers, NameIsFree, NameIsGivenAgain, ComesBack, NumbersAreLive, NumbersAreCounted}
use Rattle.bdb_base.proofs.BaseLemmas.{add_user_is_valid, belongs_from, belongs_parts, filter_is_valid}
use Rattle.bdb_base.proofs.ClashLemmas.{turned}
use Rattle.bdb_base.proofs.ListLemmas.{filter_kept_one, filter_dropped_one, list_any-filter_none}
use Rattle.bdb_base.proofs.SetLemmas.{filter_keeps_order, is_eq-Equal}

-- ---- what a test leaves

-- what passes a test and stays passes what follows from both
pub list_all-filter_both : {X : Type 0} (p q r : X → Bool) → ((x : X) → p x ≡ true → q x ≡ true → r x ≡ true) → (xs : List X) → list_all p xs ≡ true → list_all r (filter q xs) ≡ true
list_all-filter_both p q r w [] h = refl
list_all-filter_both p q r w (x ∷ xs) h =
    let k = and_parts (p x) (list_all p xs) h in
    elim (cases_Bool (q x)) [
      | inl e ↦ ap (list_all r) (filter_kept_one q x xs e) ∙ and_from (r x) (list_all r (filter q xs)) (w x k.0 e) (list_all-filter_both p q r w xs k.1)
      | inr e ↦ ap (list_all r) (filter_dropped_one q x xs e) ∙ list_all-filter_both p q r w xs k.1
    ]

-- what passes a test and what does not are all
pub filters_are_all : {X : Type 0} (q : X → Bool) (xs : List X) → length (filter q xs) + length (filter (λ x. not (q x)) xs) ≡ length xs
filters_are_all q [] = omega arith
filters_are_all q (x ∷ xs) =
    let ih = filters_are_all q xs in
    elim (cases_Bool (q x)) [
      | inl e ↦
          let a = ap length (filter_kept_one q x xs e) in
          let b = ap length (filter_dropped_one (λ y. not (q y)) x xs (ap not e)) in
          omega arith
      | inr e ↦
          let a = ap length (filter_dropped_one q x xs e) in
          let b = ap length (filter_kept_one (λ y. not (q y)) x xs (ap not e)) in
          omega arith
    ]

kept_here : (a m b : Bool) → (a ≡ true → b ≡ true) → (a || (m && b)) ≡ ((a || m) && b)
kept_here true m b h = sym (h refl)
kept_here false m b h = refl

dropped_here : (a m b : Bool) → (a ≡ true → b ≡ false) → (m && b) ≡ ((a || m) && b)
dropped_here true m b h = and_right m b (h refl) ∙ sym (h refl)
dropped_here false m b h = refl

-- a member of what a test leaves is a member that passes it
pub member-filter : {X : Type 0} {R : X → X → Ordering} (o : IsExactOrder R) (q : X → Bool) (xs : List X) (z : X) → is_member R (filter q xs) z ≡ (is_member R xs z && q z)
member-filter {R = R} o q [] z = refl
member-filter {R = R} o q (x ∷ xs) z =
    let same : is_eq (R x z) ≡ true → q z ≡ q x = λ a. ap q (sym (o.exact x z (is_eq-Equal (R x z) a))) in
    elim (cases_Bool (q x)) [
      | inl e ↦ ap (λ l. is_member R l z) (filter_kept_one q x xs e) ∙ ap (λ b. is_eq (R x z) || b) (member-filter o q xs z)
          ∙ kept_here (is_eq (R x z)) (is_member R xs z) (q z) (λ a. same a ∙ e)
      | inr e ↦ ap (λ l. is_member R l z) (filter_dropped_one q x xs e) ∙ member-filter o q xs z
          ∙ dropped_here (is_eq (R x z)) (is_member R xs z) (q z) (λ a. same a ∙ e)
    ]

pub stands_without_user : StandsWithoutUser
stands_without_user stmts uid x = member-filter statement_exact (λ y. not (names_user uid y.path)) stmts x

pub statements_are_parted : StatementsAreParted
statements_are_parted stmts uid = filters_are_all (λ x. names_user uid x.path) stmts

-- ---- numbers and places

-- a place with a name is a live user's
pub lives_at : (users : List UserSlot) (at : ℕ) → is_some (name_at users at) ≡ true → (name : List ℕ) × (slice_get users at ≡ Some (Live name))
lives_at [] at h = absurd (false≢true h)
lives_at (Live name ∷ us) zero h = (name, refl)
lives_at (Gone ∷ us) zero h = absurd (false≢true h)
lives_at (u ∷ us) (suc at) h = lives_at us at h

pub named_at : (users : List UserSlot) (at : ℕ) (name : List ℕ) → name_at users at ≡ Some name → slice_get users at ≡ Some (Live name)
named_at [] at name e = absurd (none-some name e)
named_at (Live n ∷ us) zero name e = ap (λ m. Some (Live m)) (same_Some n name e)
named_at (Gone ∷ us) zero name e = absurd (none-some name e)
named_at (u ∷ us) (suc at) name e = named_at us at name e

-- a place that is there is one of the list
pub some_within : (users : List UserSlot) (at : ℕ) → is_some (slice_get users at) ≡ true → at < length users
some_within [] at h = absurd (false≢true h)
some_within (u ∷ us) zero h = omega arith
some_within (u ∷ us) (suc at) h = let k = some_within us at h in omega arith

there_since_named : (o : Option UserSlot) → is_some (option_and_then live_name o) ≡ true → is_some o ≡ true
there_since_named None h = h
there_since_named (Some s) h = refl

there_since_left : (o : Option UserSlot) → is_left o ≡ true → is_some o ≡ true
there_since_left None h = h
there_since_left (Some s) h = refl

pub user_above : (users : List UserSlot) (uid : ℕ) → is_user users uid ≡ true → 0 < uid
user_above users uid h = ltb-true 0 uid (and_parts (nat_lt 0 uid) (is_some (name_at users (uid - 1))) h).0

pub user_within : (users : List UserSlot) (uid : ℕ) → is_user users uid ≡ true → uid ≤ length users
user_within users uid h =
    let above = user_above users uid h in
    let within = some_within users (uid - 1) (there_since_named (slice_get users (uid - 1)) (and_parts (nat_lt 0 uid) (is_some (name_at users (uid - 1))) h).1) in
    omega arith

pub gone_above : (users : List UserSlot) (uid : ℕ) → is_gone users uid ≡ true → 0 < uid
gone_above users uid h = ltb-true 0 uid (and_parts (nat_lt 0 uid) (is_left (slice_get users (uid - 1))) h).0

pub gone_within : (users : List UserSlot) (uid : ℕ) → is_gone users uid ≡ true → uid ≤ length users
gone_within users uid h =
    let above = gone_above users uid h in
    let within = some_within users (uid - 1) (there_since_left (slice_get users (uid - 1)) (and_parts (nat_lt 0 uid) (is_left (slice_get users (uid - 1))) h).1) in
    omega arith

-- a user has a name, and the place that his number tells
pub user_lives : (users : List UserSlot) (uid : ℕ) → is_user users uid ≡ true → (name : List ℕ) × (slice_get users (uid - 1) ≡ Some (Live name))
user_lives users uid h = lives_at users (uid - 1) (and_parts (nat_lt 0 uid) (is_some (name_at users (uid - 1))) h).1

-- who has a name is a user, and it is the name at his place
pub name_found : (users : List UserSlot) (uid : ℕ) (name : List ℕ) → user_name users uid ≡ Some name → (is_user users uid ≡ true) × (name_at users (uid - 1) ≡ Some name)
name_found users uid name e = elim (cases_Bool (is_user users uid)) [
  | inl h ↦ (h, sym (cond-true (is_user users uid) (name_at users (uid - 1)) None h) ∙ e)
  | inr h ↦ absurd (none-some name (sym (cond-false (is_user users uid) (name_at users (uid - 1)) None h) ∙ e))
]

pub no_name_of_nobody : (users : List UserSlot) → user_name users 0 ≡ None
no_name_of_nobody users = refl

some_or_none : {X : Type 0} (o : Option X) → cond (is_some o) o None ≡ o
some_or_none None = refl
some_or_none (Some x) = refl

pub name_by_place : (users : List UserSlot) (uid : ℕ) → nat_lt 0 uid ≡ true → user_name users uid ≡ name_at users (uid - 1)
name_by_place users uid h =
    let name = name_at users (uid - 1) in
    ap (λ b. cond (b && is_some name) name None) h ∙ some_or_none name

-- ---- a place that is set

get_set : (users : List UserSlot) (at : ℕ) (slot s : UserSlot) → slice_get users at ≡ Some s → slice_get (slice_set users at slot) at ≡ Some slot
get_set [] at slot s e = absurd (none-some s e)
get_set (u ∷ us) zero slot s e = refl
get_set (u ∷ us) (suc at) slot s e = get_set us at slot s e

get_other : (users : List UserSlot) (at other : ℕ) (slot : UserSlot) → (other ≡ at → ⊥) → slice_get (slice_set users at slot) other ≡ slice_get users other
get_other [] at other slot n = refl
get_other (u ∷ us) zero zero slot n = absurd (n refl)
get_other (u ∷ us) zero (suc other) slot n = refl
get_other (u ∷ us) (suc at) zero slot n = refl
get_other (u ∷ us) (suc at) (suc other) slot n = get_other us at other slot (λ e. n (ap suc e))

set_back : (users : List UserSlot) (at : ℕ) (s : UserSlot) → slice_get users at ≡ Some s → slice_set (slice_set users at Gone) at s ≡ users
set_back [] at s e = refl
set_back (u ∷ us) zero s e = ap (λ t. t ∷ us) (sym (same_Some u s e))
set_back (u ∷ us) (suc at) s e = ap (λ l. u ∷ l) (set_back us at s e)

-- another user's name stays
name_elsewhere : (users : List UserSlot) (uid other : ℕ) → 0 < uid → 0 < other → (other ≡ uid → ⊥)
    → name_at (slice_set users (uid - 1) Gone) (other - 1) ≡ name_at users (other - 1)
name_elsewhere users uid other a b n = ap (option_and_then live_name) (get_other users (uid - 1) (other - 1) Gone (λ e. n (same_number e)))
  where
    same_number : (other - 1) ≡ (uid - 1) → other ≡ uid
    same_number e = omega arith

pub user_elsewhere : (users : List UserSlot) (uid other : ℕ) → 0 < uid → (other ≡ uid → ⊥) → is_user (slice_set users (uid - 1) Gone) other ≡ is_user users other
user_elsewhere users uid other a n =
    let now = name_at (slice_set users (uid - 1) Gone) (other - 1) in
    let old = name_at users (other - 1) in
    elim (cases_Bool (nat_lt 0 other)) [
      | inl p ↦ ap (λ m. nat_lt 0 other && is_some m) (name_elsewhere users uid other a (ltb-true 0 other p) n)
      | inr p ↦ and_left (nat_lt 0 other) (is_some now) p ∙ sym (and_left (nat_lt 0 other) (is_some old) p)
    ]

pub others_keep_names : OthersKeepNames
others_keep_names c uid other h n =
    let now = slice_set c.users (uid - 1) Gone in
    let above = user_above c.users uid h in
    let apart = eqb-false other uid n in
    elim (cases_Bool (nat_lt 0 other)) [
      | inl p ↦ ap (λ (m : Option (List ℕ)). cond (nat_lt 0 other && is_some m) m None) (name_elsewhere c.users uid other above (ltb-true 0 other p) apart)
      | inr p ↦ cond-false (is_user now other) (name_at now (other - 1)) None (and_left (nat_lt 0 other) (is_some (name_at now (other - 1))) p)
          ∙ sym (cond-false (is_user c.users other) (name_at c.users (other - 1)) None (and_left (nat_lt 0 other) (is_some (name_at c.users (other - 1))) p))
    ]

-- ---- who is gone

pub who_leaves_is_gone : WhoLeavesIsGone
who_leaves_is_gone c uid h =
    let k = and_parts (nat_lt 0 uid) (is_some (name_at c.users (uid - 1))) h in
    let lives = lives_at c.users (uid - 1) k.1 in
    let now = slice_set c.users (uid - 1) Gone in
    and_from (nat_lt 0 uid) (is_left (slice_get now (uid - 1))) k.0 (ap is_left (get_set c.users (uid - 1) Gone (Live lives.0) lives.1))

no_name : (o : Option UserSlot) → is_left o ≡ true → is_some (option_and_then live_name o) ≡ false
no_name None h = absurd (false≢true h)
no_name (Some (Live n)) h = absurd (false≢true h)
no_name (Some Gone) h = refl

pub who_is_gone_is_no_user : WhoIsGoneIsNoUser
who_is_gone_is_no_user users uid h = and_right (nat_lt 0 uid) (is_some (name_at users (uid - 1)))
    (no_name (slice_get users (uid - 1)) (and_parts (nat_lt 0 uid) (is_left (slice_get users (uid - 1))) h).1)

pub others_are_users : OthersAreUsers
others_are_users c uid other h =
    let now = slice_set c.users (uid - 1) Gone in
    elim (cases_Bool (nat_eq other uid)) [
      | inl e ↦
          ap (is_user now) (eqb-true other uid e) ∙ who_is_gone_is_no_user now uid (who_leaves_is_gone c uid h)
          ∙ ap (λ b. not b && is_user c.users other) (sym e)
      | inr e ↦
          user_elsewhere c.users uid other (user_above c.users uid h) (eqb-false other uid e)
          ∙ ap (λ b. not b && is_user c.users other) (sym e)
    ]

left_longer : (users more : List UserSlot) (at : ℕ) → is_left (slice_get users at) ≡ true → is_left (slice_get (users ++ more) at) ≡ true
left_longer [] more at h = absurd (false≢true h)
left_longer (u ∷ us) more zero h = h
left_longer (u ∷ us) more (suc at) h = left_longer us more at h

left_still : (users : List UserSlot) (at other : ℕ) → is_left (slice_get users at) ≡ true → is_left (slice_get (slice_set users other Gone) at) ≡ true
left_still [] at other h = h
left_still (u ∷ us) zero zero h = refl
left_still (u ∷ us) zero (suc other) h = h
left_still (u ∷ us) (suc at) zero h = h
left_still (u ∷ us) (suc at) (suc other) h = left_still us at other h

pub gone_after_users_come : GoneAfterUsersCome
gone_after_users_come c name uid h =
    let k = and_parts (nat_lt 0 uid) (is_left (slice_get c.users (uid - 1))) h in
    and_from (nat_lt 0 uid) (is_left (slice_get (c.users ++ Live name ∷ []) (uid - 1))) k.0 (left_longer c.users (Live name ∷ []) (uid - 1) k.1)

pub gone_after_users_leave : GoneAfterUsersLeave
gone_after_users_leave c other uid h =
    let k = and_parts (nat_lt 0 uid) (is_left (slice_get c.users (uid - 1))) h in
    and_from (nat_lt 0 uid) (is_left (slice_get (slice_set c.users (other - 1) Gone) (uid - 1))) k.0 (left_still c.users (uid - 1) (other - 1) k.1)

-- ---- the names that are left

names_still_none : (p : List ℕ → Bool) (users : List UserSlot) (at : ℕ) → list_any p (user_names users) ≡ false → list_any p (user_names (slice_set users at Gone)) ≡ false
names_still_none p [] at h = refl
names_still_none p (Live n ∷ us) zero h = (or_parts (p n) (list_any p (user_names us)) h).1
names_still_none p (Gone ∷ us) zero h = h
names_still_none p (Live n ∷ us) (suc at) h =
    let k = or_parts (p n) (list_any p (user_names us)) h in
    or_from (p n) (list_any p (user_names (slice_set us at Gone))) k.0 (names_still_none p us at k.1)
names_still_none p (Gone ∷ us) (suc at) h = names_still_none p us at h

names_still_all : (p : List ℕ → Bool) (users : List UserSlot) (at : ℕ) → list_all p (user_names users) ≡ true → list_all p (user_names (slice_set users at Gone)) ≡ true
names_still_all p [] at h = refl
names_still_all p (Live n ∷ us) zero h = (and_parts (p n) (list_all p (user_names us)) h).1
names_still_all p (Gone ∷ us) zero h = h
names_still_all p (Live n ∷ us) (suc at) h =
    let k = and_parts (p n) (list_all p (user_names us)) h in
    and_from (p n) (list_all p (user_names (slice_set us at Gone))) k.0 (names_still_all p us at k.1)
names_still_all p (Gone ∷ us) (suc at) h = names_still_all p us at h

names_still_differ : (users : List UserSlot) (at : ℕ) → are_distinct (user_names users) ≡ true → are_distinct (user_names (slice_set users at Gone)) ≡ true
names_still_differ [] at h = refl
names_still_differ (Live n ∷ us) zero h = (and_parts (not (list_any (same_text n) (user_names us))) (are_distinct (user_names us)) h).1
names_still_differ (Gone ∷ us) zero h = h
names_still_differ (Live n ∷ us) (suc at) h =
    let left = user_names (slice_set us at Gone) in
    let k = and_parts (not (list_any (same_text n) (user_names us))) (are_distinct (user_names us)) h in
    and_from (not (list_any (same_text n) left)) (are_distinct left)
    (ap not (names_still_none (same_text n) us at (not-true (list_any (same_text n) (user_names us)) k.0))) (names_still_differ us at k.1)
names_still_differ (Gone ∷ us) (suc at) h = names_still_differ us at h

-- a name that is at a place is none of which none is there
pub apart_from : (n name : List ℕ) (users : List UserSlot) (at : ℕ) → list_any (same_text n) (user_names users) ≡ false → slice_get users at ≡ Some (Live name) → same_text n name ≡ false
apart_from n name [] at h e = absurd (none-some (Live name) e)
apart_from n name (Live m ∷ us) zero h e =
    let s : m ≡ name = cc in
    ap (same_text n) (sym s) ∙ (or_parts (same_text n m) (list_any (same_text n) (user_names us)) h).0
apart_from n name (Gone ∷ us) zero h e = cc
apart_from n name (Live m ∷ us) (suc at) h e = apart_from n name us at (or_parts (same_text n m) (list_any (same_text n) (user_names us)) h).1 e
apart_from n name (Gone ∷ us) (suc at) h e = apart_from n name us at h e

name_goes : (users : List UserSlot) (at : ℕ) (name : List ℕ) → are_distinct (user_names users) ≡ true → slice_get users at ≡ Some (Live name)
    → list_any (same_text name) (user_names (slice_set users at Gone)) ≡ false
name_goes [] at name d e = absurd (none-some (Live name) e)
name_goes (Live n ∷ us) zero name d e =
    let s : n ≡ name = cc in
    let k = and_parts (not (list_any (same_text n) (user_names us))) (are_distinct (user_names us)) d in
    ap (λ m. list_any (same_text m) (user_names us)) (sym s) ∙ not-true (list_any (same_text n) (user_names us)) k.0
name_goes (Gone ∷ us) zero name d e = cc
name_goes (Live n ∷ us) (suc at) name d e =
    let k = and_parts (not (list_any (same_text n) (user_names us))) (are_distinct (user_names us)) d in
    let none = not-true (list_any (same_text n) (user_names us)) k.0 in
    or_from (same_text name n) (list_any (same_text name) (user_names (slice_set us at Gone)))
    (turned same_text same_text-Decides name n ∙ apart_from n name us at none e) (name_goes us at name k.1 e)
name_goes (Gone ∷ us) (suc at) name d e = name_goes us at name d e

pub name_is_free : NameIsFree
name_is_free c stmts uid name v e = name_goes c.users (uid - 1) name v.catalog.users_differ (named_at c.users (uid - 1) name (name_found c.users uid name e).1)

abbrev with_users : Catalog → List UserSlot → Catalog
with_users c users = record c { users = users }

pub comes_back : ComesBack
comes_back c uid name e = ap (with_users c) (set_back c.users (uid - 1) (Live name) (named_at c.users (uid - 1) name (name_found c.users uid name e).1))

-- ---- a valid base stays valid

users_still : (users : List UserSlot) (uid : ℕ) (w : List ℕ) → 0 < uid → list_all (is_user users) w ≡ true → names_user uid w ≡ false
    → list_all (is_user (slice_set users (uid - 1) Gone)) w ≡ true
users_still users uid [] above h n = refl
users_still users uid (i ∷ w) above h n =
    let now = slice_set users (uid - 1) Gone in
    let k = and_parts (is_user users i) (list_all (is_user users) w) h in
    let m = or_parts (nat_eq i uid) (names_user uid w) n in
    and_from (is_user now i) (list_all (is_user now) w)
    (user_elsewhere users uid i above (eqb-false i uid m.0) ∙ k.0) (users_still users uid w above k.1 m.1)

pub belongs_without_user : (c : Catalog) (uid : ℕ) (x : Stmt) → 0 < uid → belongs c x ≡ true → not (names_user uid x.path) ≡ true → belongs (without_user c uid) x ≡ true
belongs_without_user c uid x above h n =
    let b = belongs_parts c x h in
    belongs_from (without_user c uid) x (record {
      path = b.path;
      users = users_still c.users uid x.path above b.users (not-true (names_user uid x.path) n);
      tuple = b.tuple;
    })

pub drop_user_is_valid : DropUserIsValid
drop_user_is_valid c stmts uid v h =
    let above = user_above c.users uid h in
    let q : Stmt → Bool = λ x. not (names_user uid x.path) in
    let left = filter_is_valid c stmts q v.stmts (filter_keeps_order statement_exact q stmts v.stmts.sorted) in
    record {
      catalog = record {
        users_differ = names_still_differ c.users (uid - 1) v.catalog.users_differ;
        users_plain = names_still_all is_plain c.users (uid - 1) v.catalog.users_plain;
        few_users = ap (λ n. nat_le n 1024) (length-set c.users (uid - 1) Gone) ∙ v.catalog.few_users;
        rels_differ = v.catalog.rels_differ;
        rels_valid = v.catalog.rels_valid;
        few_rels = v.catalog.few_rels;
      };
      stmts = record {
        sorted = left.sorted;
        belong = list_all-filter_both (belongs c) q (belongs (without_user c uid)) (λ x b k. belongs_without_user c uid x above b k) stmts v.stmts.belong;
        no_clash = left.no_clash;
        few_stmts = left.few_stmts;
        few_tuples = left.few_tuples;
        few_worlds = left.few_worlds;
      };
    }

-- the name of a live user is plain where those of all are
pub plain_at : (users : List UserSlot) (at : ℕ) (name : List ℕ) → list_all is_plain (user_names users) ≡ true → slice_get users at ≡ Some (Live name) → is_plain name ≡ true
plain_at [] at name h e = absurd (none-some (Live name) e)
plain_at (Live n ∷ us) zero name h e =
    let s : n ≡ name = cc in
    ap is_plain (sym s) ∙ (and_parts (is_plain n) (list_all is_plain (user_names us)) h).0
plain_at (Gone ∷ us) zero name h e = cc
plain_at (Live n ∷ us) (suc at) name h e = plain_at us at name (and_parts (is_plain n) (list_all is_plain (user_names us)) h).1 e
plain_at (Gone ∷ us) (suc at) name h e = plain_at us at name h e

pub name_is_given_again : NameIsGivenAgain
name_is_given_again c stmts uid name v e room =
    let user = (name_found c.users uid name e).0 in
    let left = drop_user_is_valid c stmts uid v user in
    let named = named_at c.users (uid - 1) name (name_found c.users uid name e).1 in
    let l = length-set c.users (uid - 1) Gone in
    add_user_is_valid (without_user c uid) (without_statements_of uid stmts) name left
    (plain_at c.users (uid - 1) name v.catalog.users_plain named) (name_is_free c stmts uid name v e) (omega arith)

-- ---- no state names who left

all_left : (q : Stmt → Bool) (xs : List Stmt) → list_all q (filter q xs) ≡ true
all_left q [] = refl
all_left q (x ∷ xs) = elim (cases_Bool (q x)) [
  | inl e ↦ ap (list_all q) (filter_kept_one q x xs e) ∙ and_from (q x) (list_all q (filter q xs)) e (all_left q xs)
  | inr e ↦ ap (list_all q) (filter_dropped_one q x xs e) ∙ all_left q xs
]

-- the beginning of a path names no user whom the path does not name
pub prefix_names : (uid : ℕ) (p w : List ℕ) → is_prefix p w ≡ true → names_user uid w ≡ false → names_user uid p ≡ false
prefix_names uid [] w h n = refl
prefix_names uid (i ∷ p) [] h n = absurd (false≢true h)
prefix_names uid (i ∷ p) (j ∷ w) h n =
    let k = and_parts (nat_eq i j) (is_prefix p w) h in
    let m = or_parts (nat_eq j uid) (names_user uid w) n in
    or_from (nat_eq i uid) (names_user uid p) (ap (λ x. nat_eq x uid) (eqb-true i j k.0) ∙ m.0) (prefix_names uid p w k.1 m.1)

none_names : (uid : ℕ) (p : List ℕ) (xs : List Stmt) → list_all (λ x. not (names_user uid x.path)) xs ≡ true → list_any (λ x. is_prefix p x.path) xs ≡ true
    → names_user uid p ≡ false
none_names uid p [] h e = absurd (false≢true e)
none_names uid p (x ∷ xs) h e =
    let k = and_parts (not (names_user uid x.path)) (list_all (λ y. not (names_user uid y.path)) xs) h in
    elim (or_cases (is_prefix p x.path) (list_any (λ y. is_prefix p y.path) xs) e) [
      | inl a ↦ prefix_names uid p x.path a (not-true (names_user uid x.path) k.0)
      | inr b ↦ none_names uid p xs k.1 b
    ]

pub states_name_others : StatesNameOthers
states_name_others stmts uid [] h = refl
states_name_others stmts uid (i ∷ w) h =
    none_names uid (i ∷ w) (without_statements_of uid stmts) (all_left (λ x. not (names_user uid x.path)) stmts) h

-- ---- the numbers of users

-- a number is a user's exactly where its place has a name
pub user_at_place : (users : List UserSlot) (at : ℕ) → is_user users (1 + at) ≡ is_some (name_at users at)
user_at_place users at =
    let above : nat_lt 0 (1 + at) ≡ true = lt-ltb 0 (1 + at) (omega arith) in
    let place : (1 + at) - 1 ≡ at = omega arith in
    ap (λ b. b && is_some (name_at users ((1 + at) - 1))) above ∙ ap (λ i. is_some (name_at users i)) place

live_since : (q : ℕ → Bool) (n : ℕ) (users : List UserSlot) → ((at : ℕ) → q (n + at) ≡ is_some (name_at users at)) → filter q (numbers_from n users) ≡ live_numbers n users
live_since q n [] tells = refl
live_since q n (Live name ∷ us) tells =
    filter_kept_one q n (numbers_from (suc n) us) (ap q (sym (first n)) ∙ tells zero) ∙ ap (λ l. n ∷ l) (live_since q (suc n) us (λ at. ap q (later n at) ∙ tells (suc at)))
  where
    first : (n : ℕ) → n + zero ≡ n
    first n = omega arith

    later : (n at : ℕ) → suc n + at ≡ n + suc at
    later n at = omega arith
live_since q n (Gone ∷ us) tells =
    filter_dropped_one q n (numbers_from (suc n) us) (ap q (sym (first n)) ∙ tells zero) ∙ live_since q (suc n) us (λ at. ap q (later n at) ∙ tells (suc at))
  where
    first : (n : ℕ) → n + zero ≡ n
    first n = omega arith

    later : (n at : ℕ) → suc n + at ≡ n + suc at
    later n at = omega arith

pub numbers_are_live : NumbersAreLive
numbers_are_live users = live_since (is_user users) 1 users (user_at_place users)

pub length-live_numbers : (n : ℕ) (users : List UserSlot) → length (live_numbers n users) ≡ length (user_names users)
length-live_numbers n [] = refl
length-live_numbers n (Live name ∷ us) = ap suc (length-live_numbers (suc n) us)
length-live_numbers n (Gone ∷ us) = length-live_numbers (suc n) us

pub numbers_are_counted : NumbersAreCounted
numbers_are_counted users = ap length (numbers_are_live users) ∙ length-live_numbers 1 users

pub live_are_counted : (users : List UserSlot) → length (filter (λ s. is_some (live_name s)) users) ≡ length (user_names users)
live_are_counted [] = refl
live_are_counted (Live name ∷ us) = ap suc (live_are_counted us)
live_are_counted (Gone ∷ us) = live_are_counted us

-- ---- one user more

-- the next number is no user's yet
pub next_is_no_user : (users : List UserSlot) (uid : ℕ) → uid ≡ length users + 1 → is_user users uid ≡ false
next_is_no_user users uid e =
    and_right (nat_lt 0 uid) (is_some (name_at users (uid - 1))) (ap (λ o. is_some (option_and_then live_name o)) (slice_get_past users (uid - 1) (omega arith)))

pub name_at_end : (users : List UserSlot) (name : List ℕ) → name_at (users ++ Live name ∷ []) (length users) ≡ Some name
name_at_end [] name = refl
name_at_end (u ∷ us) name = name_at_end us name

name_at_longer : (users : List UserSlot) (name : List ℕ) (at : ℕ) → (at ≡ length users → ⊥) → name_at (users ++ Live name ∷ []) at ≡ name_at users at
name_at_longer [] name zero n = absurd (n refl)
name_at_longer [] name (suc at) n = refl
name_at_longer (u ∷ us) name zero n = refl
name_at_longer (u ∷ us) name (suc at) n = name_at_longer us name at (λ e. n (ap suc e))

-- a number is a user's with one more exactly where it is his, or was one's
pub user_or_new : (users : List UserSlot) (name : List ℕ) (uid other : ℕ) → uid ≡ length users + 1
    → (nat_eq other uid || is_user users other) ≡ is_user (users ++ Live name ∷ []) other
user_or_new users name uid other e =
    let more = users ++ Live name ∷ [] in
    elim (cases_Bool (nat_eq other uid)) [
      | inl t ↦
          let is : other ≡ length users + 1 = eqb-true other uid t ∙ e in
          let place : other - 1 ≡ length users = omega arith in
          ap (λ b. b || is_user users other) t
          ∙ sym (and_from (nat_lt 0 other) (is_some (name_at more (other - 1))) (lt-ltb 0 other (omega arith))
          (ap (λ i. is_some (name_at more i)) place ∙ ap is_some (name_at_end users name)))
      | inr f ↦
          ap (λ b. b || is_user users other) f ∙ elim (cases_Bool (nat_lt 0 other)) as (λ _. is_user users other ≡ is_user more other) [
            | inl p ↦
                let above = ltb-true 0 other p in
                ap (λ m. nat_lt 0 other && is_some m) (sym (name_at_longer users name (other - 1) (apart users uid other e above (eqb-false other uid f))))
            | inr z ↦ and_left (nat_lt 0 other) (is_some (name_at users (other - 1))) z ∙ sym (and_left (nat_lt 0 other) (is_some (name_at more (other - 1))) z)
          ]
    ]
  where
    apart : (users : List UserSlot) (uid other : ℕ) → uid ≡ length users + 1 → 0 < other → (other ≡ uid → ⊥) → other - 1 ≡ length users → ⊥
    apart users uid other e above n k = n (omega arith)

-- what a filter leaves of texts that stand once stands once
pub distinct_filter : (test : List ℕ → Bool) (ps : List (List ℕ)) → are_distinct ps ≡ true → are_distinct (filter test ps) ≡ true
distinct_filter test [] e = refl
distinct_filter test (p ∷ ps) e =
    let k = and_parts (not (list_any (same_text p) ps)) (are_distinct ps) e in
    let rest = distinct_filter test ps k.1 in
    elim (cases_Bool (test p)) [
      | inl c ↦ ap are_distinct (filter_kept_one test p ps c)
          ∙ and_from (not (list_any (same_text p) (filter test ps))) (are_distinct (filter test ps))
          (not_from_false (list_any (same_text p) (filter test ps)) (list_any-filter_none (same_text p) test ps (not-true (list_any (same_text p) ps) k.0))) rest
      | inr c ↦ ap are_distinct (filter_dropped_one test p ps c) ∙ rest
    ]
