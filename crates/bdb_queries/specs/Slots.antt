-- What is chosen so far for a query's items: for each item a tuple, or nothing yet. A chosen user stands as a tuple of its
-- number and name, with its number in place of a relation's.
use Rattle.std.specs.Prelude.{ℕ, Bool, suc, List, [], ◌∷◌, Option, Some, pos}
use Rattle.std.specs.List.{list_all, slice_get}
use Rattle.std.specs.Option.{option_map, option_and_then}
use Rattle.bdb_base.specs.declared.kinds.Cond.{Cond}
use Rattle.bdb_base.specs.declared.kinds.Operand.{Operand}
use Rattle.bdb_base.specs.declared.kinds.Operand.TheVariants.{Col, Lit}
use Rattle.bdb_base.specs.declared.kinds.Ref.{Ref}
use Rattle.bdb_base.specs.declared.kinds.UserSlot.{UserSlot}
use Rattle.bdb_base.specs.declared.kinds.UserSlot.TheVariants.{Live, Gone}
use Rattle.bdb_base.specs.declared.kinds.Value.{Value}
use Rattle.bdb_base.specs.declared.kinds.Value.TheVariants.{Int, Text}
use Rattle.bdb_base.specs.declared.kinds.Who.{Who}
use Rattle.bdb_base.specs.declared.kinds.Who.TheVariants.{User, Of}
use Rattle.bdb_base.specs.declared.tuple.Tuple.{Tuple}
use Rattle.bdb_base.specs.Conditions.{compare_so}

-- what is chosen for the item at a place
abbrev pub slot_at : List (Option Tuple) → ℕ → Option Tuple
slot_at slots at = option_and_then (λ s. s) (slice_get slots at)

-- the value of a column, where its item is chosen
abbrev pub known : List (Option Tuple) → Ref → Option Value
known slots r = option_and_then (λ t. slice_get t.vals r.col) (slot_at slots r.item)

-- the value of a comparison's right side, where it is known
abbrev pub known_operand : List (Option Tuple) → Operand → Option Value
known_operand slots (Col r) = known slots r
known_operand slots (Lit v) = Some v

-- a comparison is known to hold
abbrev pub must_hold : List (Option Tuple) → Cond → Bool
must_hold slots c = compare_so c.cmp (known slots c.left) (known_operand slots c.right)

-- all comparisons are known to hold
abbrev pub must_all_hold : List (Option Tuple) → List Cond → Bool
must_all_hold slots conds = list_all (must_hold slots) conds

-- the values of columns, where all are known
abbrev pub known_row : List (Option Tuple) → List Ref → Option (List Value)
known_row slots [] = Some []
known_row slots (r ∷ rs) = option_and_then (λ v. option_map (λ vs. v ∷ vs) (known_row slots rs)) (known slots r)

-- a user of a path: a fixed one, or the one chosen for a `Users` item
abbrev pub uid_of : List (Option Tuple) → Who → Option ℕ
uid_of slots (User uid) = Some uid
uid_of slots (Of item) = option_map (λ t. t.rel) (slot_at slots item)

-- a path with the chosen users put in, where all are chosen
abbrev pub path_of : List (Option Tuple) → List Who → Option (List ℕ)
path_of slots [] = Some []
path_of slots (who ∷ whos) = option_and_then (λ uid. option_map (λ w. uid ∷ w) (path_of slots whos)) (uid_of slots who)

-- a user as a tuple
abbrev pub user_tuple : ℕ → List ℕ → Tuple
user_tuple uid name = record { rel = uid; vals = Int (pos uid) ∷ Text name ∷ [] }

-- the live users as tuples, their places numbered from one number on
abbrev pub user_tuples : ℕ → List UserSlot → List Tuple
user_tuples uid [] = []
user_tuples uid (Live name ∷ users) = user_tuple uid name ∷ user_tuples (suc uid) users
user_tuples uid (Gone ∷ users) = user_tuples (suc uid) users
