-- Combinations of values for which the rest of a plan's steps was run already.
use Rattle.std.specs.Prelude.{◌≡◌, ℕ, Bool, true, false, not, ◌&&◌, ◌||◌, nat_eq, pos, cond, List, [], ◌∷◌, ◌++◌, Option, Some, None, length, filter}
use Rattle.std.specs.List.{list_any, list_all}
use Rattle.std.specs.declared.cmp.Ordering.{Ordering}
use Rattle.std.specs.declared.cmp.Ordering.TheVariants.{Less, Equal, Greater}
use Rattle.std.specs.Ordering.{is_eq}
use Rattle.bdb_base.specs.Order.{row_cmp}
use Rattle.bdb_base.specs.declared.kinds.Ref.{Ref}
use Rattle.bdb_base.specs.declared.kinds.Value.{Value}
use Rattle.bdb_base.specs.declared.kinds.Value.TheVariants.{Int}
use Rattle.bdb_base.specs.declared.kinds.Who.{Who}
use Rattle.bdb_base.specs.declared.kinds.Who.TheVariants.{User, Of}
use Rattle.bdb_base.specs.declared.tuple.Tuple.{Tuple}
use Rattle.bdb_queries.specs.Collected.{Collected, Values, has_room}
use Rattle.bdb_queries.specs.Slots.{known_row, must_hold}
use Rattle.bdb_plan.specs.declared.step.Step.{Step}
use Rattle.bdb_plan.specs.declared.step.Step.TheVariants as step
use Rattle.bdb_plan.specs.Fitness.{PlanFields}
use Rattle.bdb_plan.specs.Naming.{columns_named}
use Rattle.bdb_plan.specs.Running.{Reached, rows_from}
use Rattle.bdb_plan.specs.Sight.{Sight}

-- ---- which steps depend on columns alone

abbrev pub is_fixed : Who → Bool
is_fixed (User uid) = true
is_fixed (Of item) = false

-- what comes of a step depends on the world and on the values of columns: it sets no column and names no chosen user
abbrev pub needs_columns_alone : Step → Bool
needs_columns_alone (step.Edge item who) = is_fixed who
needs_columns_alone (step.Differ item left right) = is_fixed left && is_fixed right
needs_columns_alone (step.Bind item col right) = false
needs_columns_alone (step.Neg item rel) = false
needs_columns_alone _ = true

abbrev pub chooses : Step → Bool
chooses (step.User item) = true
chooses (step.Pos item rel) = true
chooses _ = false

-- of which steps it pays to know for which values they were run: more is chosen, and what comes of them depends on columns alone
abbrev pub are_remembered : List Step → Bool
are_remembered steps = list_any chooses steps && list_all needs_columns_alone steps

-- columns but those of an item
abbrev pub without : ℕ → List Ref → List Ref
without item columns = filter (λ r. not (nat_eq r.item item)) columns

-- the columns needed before a step, of those needed behind it: what is chosen there anew isn't, and what is compared there is
abbrev pub needed_before : Step → List Ref → List Ref
needed_before (step.User item) columns = without item columns
needed_before (step.Pos item rel) columns = without item columns
needed_before (step.Test c) columns = columns ++ columns_named (step.Test c)
needed_before _ columns = columns

-- the columns on which it depends what comes of steps
abbrev pub columns_needed : List Step → List Ref → List Ref
columns_needed [] take = take
columns_needed (x ∷ xs) take = needed_before x (columns_needed xs take)

-- what is behind the tests that steps begin with; none where one of them doesn't hold
abbrev pub behind_tests : List (Option Tuple) → List Step → Option (List Step)
behind_tests slots [] = Some []
behind_tests slots (step.Test c ∷ xs) = cond (must_hold slots c) (behind_tests slots xs) None
behind_tests slots (x ∷ xs) = Some (x ∷ xs)

-- ---- keys

abbrev pub numbers_of : ℕ → Reached → List Value
numbers_of left s = Int (pos left) ∷ Int (pos s.world) ∷ Int (pos (length s.slots)) ∷ []

-- On what it depends what comes of steps: the values of the columns, how many steps they are, the world, and how many items
-- there are.
pub record IsKey (steps : List Step) (take : List Ref) (s : Reached) (k : Values) : Type 0 where
  pub alone : list_all needs_columns_alone steps ≡ true
  pub values : List Value
  pub known : known_row s.slots (columns_needed steps take) ≡ Some values
  pub key : k ≡ values ++ numbers_of (length steps) s

abbrev pub is_seen : List Values → Values → Bool
is_seen keys key = list_any (λ k. is_eq (row_cmp key k)) keys

-- ---- rows that are found already

-- an item stands where a set would put it, by how the first one compares with it
abbrev pub stands_by : Ordering → Bool → Bool
stands_by Less rest = rest
stands_by Equal rest = true
stands_by Greater rest = false

abbrev pub stands_in : List Values → Values → Bool
stands_in [] row = false
stands_in (y ∷ ys) row = stands_by (row_cmp y row) (stands_in ys row)

-- more rows add nothing: there are too many already, or each of them stands there
abbrev pub add_nothing : Collected → List Values → Bool
add_nothing f rows = not (has_room f) || list_all (stands_in f.rows) rows

-- ---- what is remembered

-- steps are the last ones of others
pub record IsEnd (steps end : List Step) : Type 0 where
  pub before : List Step
  pub whole : steps ≡ before ++ end

-- where a key was seen, the steps that are left add nothing
abbrev pub HasSeen : Sight → PlanFields → Collected → List Values → Type 0
HasSeen sight plan found keys = (steps : List Step) (s : Reached) (key : Values) → IsEnd plan.steps steps → IsKey steps plan.take s key → is_seen keys key ≡ true → add_nothing found (rows_from sight plan.take steps s) ≡ true
