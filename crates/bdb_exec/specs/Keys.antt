-- Which tuples the tests right behind a choice let through, and which first values of a tuple they ask for.
use Rattle.std.specs.Prelude.{ℕ, suc, Bool, true, not, ◌&&◌, nat_eq, nat_lt, cond, List, [], ◌∷◌, Option, Some, None, is_some, length, filter, take, slice_set}
use Prim.Native.Nat.{zero}
use Rattle.bdb_base.specs.Safety.{is_column, is_equality, same_column, first_there, column}
use Rattle.bdb_base.specs.Same.{same_values}
use Rattle.bdb_base.specs.declared.kinds.Cond.{Cond}
use Rattle.bdb_base.specs.declared.kinds.Operand.{Operand}
use Rattle.bdb_base.specs.declared.kinds.Operand.TheVariants.{Col, Lit}
use Rattle.bdb_base.specs.declared.kinds.Sign.{Sign}
use Rattle.bdb_base.specs.declared.kinds.Value.{Value}
use Rattle.bdb_base.specs.declared.tuple.Tuple.{Tuple}
use Rattle.bdb_queries.specs.Slots.{known, known_operand, must_hold}
use Rattle.bdb_plan.specs.Running.{Reached, choices, decided, with_choice}
use Rattle.bdb_plan.specs.Sight.{Sight}
use Rattle.bdb_plan.specs.declared.step.Step.{Step}
use Rattle.bdb_tables.specs.Prefixes.{led_by}
use Rattle.bdb_plan.specs.declared.step.Step.TheVariants as step

-- ---- tests

-- the tests that steps begin with hold
abbrev pub tests_hold : List (Option Tuple) → List Step → Bool
tests_hold slots [] = true
tests_hold slots (step.Test c ∷ xs) = must_hold slots c && tests_hold slots xs
tests_hold slots (_ ∷ xs) = true

-- the tests right behind a choice hold, once this tuple is chosen for the item
abbrev pub passes : List (Option Tuple) → ℕ → List Step → Tuple → Bool
passes slots item behind t = tests_hold (slice_set slots item (Some t)) behind

-- ---- what tests ask for

-- an operand is a column of another item or a literal
abbrev pub names_another : ℕ → Operand → Bool
names_another item (Col r) = not (nat_eq r.item item)
names_another item (Lit v) = true

-- a comparison says that an item's column, on its left, equals a column of another item or a literal
abbrev pub asks_on_left : ℕ → ℕ → Cond → Bool
asks_on_left item col c = is_equality c.cmp && (same_column (column item col) c.left && names_another item c.right)

-- a comparison says that a column of another item equals an item's column, on its right
abbrev pub asks_on_right : ℕ → ℕ → Cond → Bool
asks_on_right item col c = is_equality c.cmp && (is_column (column item col) c.right && not (nat_eq c.left.item item))

-- the value that a test asks for of an item's column, where it is known
abbrev pub value_of_test : List (Option Tuple) → ℕ → ℕ → Cond → Option Value
value_of_test slots item col c = cond (asks_on_left item col c) (known_operand slots c.right) (cond (asks_on_right item col c) (known slots c.left) None)

-- the value that the tests right behind a choice ask for of an item's column
abbrev pub value_behind : List (Option Tuple) → ℕ → List Step → ℕ → Option Value
value_behind slots item [] col = None
value_behind slots item (step.Test c ∷ xs) col = first_there (value_of_test slots item col c) (value_behind slots item xs col)
value_behind slots item (_ ∷ xs) col = None

-- ---- prefixes of keys

-- the values that are asked for of at most so many columns from one on, up to the first of which none is asked for
abbrev pub values_behind : List (Option Tuple) → ℕ → List Step → ℕ → ℕ → List Value
values_behind slots item behind zero col = []
values_behind slots item behind (suc most) col = led_by (value_behind slots item behind col) (values_behind slots item behind most (suc col))

-- the values that are asked for of the first columns of a key that has so many: as long a prefix of the key as there is
abbrev pub key_asked : ℕ → List (Option Tuple) → ℕ → List Step → List Value
key_asked n slots item behind = cond (nat_lt item (length slots)) (values_behind slots item behind n 0) []

-- a value is asked for of the first column
abbrev pub asks_for_key : List (Option Tuple) → ℕ → List Step → Bool
asks_for_key slots item behind = nat_lt item (length slots) && is_some (value_behind slots item behind 0)

-- a tuple's first values are these
abbrev pub begins_so : List Value → Tuple → Bool
begins_so vs t = same_values (take (length vs) t.vals) vs

-- the tuples whose first values are these
abbrev pub of_key : List Value → List Tuple → List Tuple
of_key vs pool = filter (begins_so vs) pool

-- the rows of those tuples
abbrev pub rows_of_key : List Value → List (Tuple × Sign) → List (Tuple × Sign)
rows_of_key vs rows = filter (λ x. begins_so vs x.0) rows

-- ---- choices

-- of what is chosen from, the tuples that the tests right behind let through
abbrev pub narrowed : Reached → List Step → Option (ℕ × List Tuple) → Option (ℕ × List Tuple)
narrowed s behind None = None
narrowed s behind (Some c) = Some (c.0, filter (passes s.slots c.0 behind) c.1)

-- what a step chooses from, where the steps behind it are these
abbrev pub choices_before : Sight → Reached → Step → List Step → Option (ℕ × List Tuple)
choices_before sight s x behind = narrowed s behind (choices sight s x)

-- where a step leads, but for choices that the tests right behind refuse
abbrev pub after_before : Sight → Reached → Step → List Step → List Reached
after_before sight s x behind = with_choice s (choices_before sight s x behind) (decided sight s x)
