-- What holds of finite sets as lists in strict order, over any exact order.
use Rattle.std.specs.Prelude.{◌≡◌, true, not, ◌&&◌, ◌||◌, List, []}
use Rattle.std.specs.declared.cmp.Ordering.{Ordering}
use Rattle.std.specs.Ordering.{is_eq}
use Rattle.bdb_base.specs.SortedSet.{is_member, ascending, put_in, taken_out, sorted_set, put_all}

-- two ascending lists with the same members are one list
abbrev pub MembersMakeSet : {X : Type 0} → (X → X → Ordering) → Type 0
MembersMakeSet {X} R = (xs ys : List X) → ascending R xs ≡ true → ascending R ys ≡ true → ((x : X) → is_member R xs x ≡ is_member R ys x) → xs ≡ ys

-- a list stays ascending where an item is put in
abbrev pub PutKeepsOrder : {X : Type 0} → (X → X → Ordering) → Type 0
PutKeepsOrder {X} R = (xs : List X) (x : X) → ascending R xs ≡ true → ascending R (put_in R xs x) ≡ true

-- a list stays ascending where an item is taken out
abbrev pub TakeKeepsOrder : {X : Type 0} → (X → X → Ordering) → Type 0
TakeKeepsOrder {X} R = (xs : List X) (x : X) → ascending R xs ≡ true → ascending R (taken_out R xs x) ≡ true

-- after a put the members are the item and those before
abbrev pub PutAddsMember : {X : Type 0} → (X → X → Ordering) → Type 0
PutAddsMember {X} R = (xs : List X) (x z : X) → is_member R (put_in R xs x) z ≡ (is_eq (R x z) || is_member R xs z)

-- after a take the members are those before without the item
abbrev pub TakeDropsMember : {X : Type 0} → (X → X → Ordering) → Type 0
TakeDropsMember {X} R = (xs : List X) (x z : X) → is_member R (taken_out R xs x) z ≡ (not (is_eq (R x z)) && is_member R xs z)

-- the set of a list is ascending
abbrev pub SetIsAscending : {X : Type 0} → (X → X → Ordering) → Type 0
SetIsAscending {X} R = (xs : List X) → ascending R (sorted_set R xs) ≡ true

-- the set of a list has the list's members
abbrev pub SetKeepsMembers : {X : Type 0} → (X → X → Ordering) → Type 0
SetKeepsMembers {X} R = (xs : List X) (z : X) → is_member R (sorted_set R xs) z ≡ is_member R xs z

-- a loop that puts each item in, the first one first, makes the set of the list
abbrev pub LoopMakesSet : {X : Type 0} → (X → X → Ordering) → Type 0
LoopMakesSet {X} R = (xs : List X) → put_all R [] xs ≡ sorted_set R xs
