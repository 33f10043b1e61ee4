-- How a plan runs: step by step, each row chosen after the other.
use Rattle.std.specs.Prelude.{ℕ, ◌+◌, ◌*◌, List, [], ◌∷◌, ◌++◌, Option, Some, None, cond, Bool, length, map, filter, slice_set, replicate}
use Rattle.std.specs.List.{flat_map, sum_by}
use Rattle.std.specs.Option.{option_map, option_and_then}
use Rattle.bdb_base.specs.declared.kinds.Ref.{Ref}
use Rattle.bdb_base.specs.declared.kinds.Sign.{Sign}
use Rattle.bdb_base.specs.declared.kinds.Sign.TheVariants.{Plus}
use Rattle.bdb_base.specs.declared.kinds.Value.{Value}
use Rattle.bdb_base.specs.declared.tuple.Tuple.{Tuple}
use Rattle.bdb_base.specs.Order.{row_cmp}
use Rattle.bdb_base.specs.Queries.{option_list}
use Rattle.bdb_base.specs.Same.{same_sign, tuple_of}
use Rattle.bdb_base.specs.SortedSet.{sorted_set}
use Rattle.bdb_queries.specs.Slots.{slot_at, known_operand, must_hold, known_row, uid_of}
use Rattle.bdb_plan.specs.declared.step.Step.{Step}
use Rattle.bdb_plan.specs.declared.step.Step.TheVariants as step
use Rattle.bdb_plan.specs.Fitness.{PlanFields}
use Rattle.bdb_plan.specs.Holding.{differ}
use Rattle.bdb_plan.specs.Sight.{Sight, rows_deny}

-- how far a run has come: the world at which the last walk stands, and what is chosen for each item
pub record Reached : Type 0 where
  pub world : ℕ
  pub slots : List (Option Tuple)

abbrev pub with_world : Reached → ℕ → Reached
with_world s world = record { world = world; slots = s.slots }

abbrev pub with_slot : Reached → ℕ → Tuple → Reached
with_slot s item t = record { world = s.world; slots = slice_set s.slots item (Some t) }

-- the tuples that rows have with plus
abbrev pub plus_tuples : List (Tuple × Sign) → List Tuple
plus_tuples rows = map (λ x. x.0) (filter (λ x. same_sign x.1 Plus) rows)

-- what is bound of a tuple, with one more value; its relation comes with `Neg`
abbrev pub with_value : Option Tuple → Value → Tuple
with_value None v = tuple_of 0 (v ∷ [])
with_value (Some t) v = tuple_of t.rel (t.vals ++ v ∷ [])

abbrev pub reached_if : Bool → Reached → Option Reached
reached_if test s = cond test (Some s) None

-- with a tuple of the relation, where rows deny it
abbrev pub denied : (ℕ → ℕ) → List (Tuple × Sign) → Reached → ℕ → ℕ → Option Tuple → Option Reached
denied keys rows s item rel None = None
denied keys rows s item rel (Some t) = cond (rows_deny keys rows (tuple_of rel t.vals)) (Some (with_slot s item (tuple_of rel t.vals))) None

-- where a step leads at which nothing is chosen; none where it does not hold
abbrev pub decided : Sight → Reached → Step → Option Reached
decided sight s (step.User item) = None
decided sight s (step.Start item) = Some (with_world s 0)
decided sight s (step.Edge item who) = option_map (with_world s) (option_and_then (sight.edge s.world) (uid_of s.slots who))
decided sight s (step.Differ item left right) = reached_if (differ (uid_of s.slots left) (uid_of s.slots right)) s
decided sight s (step.Pos item rel) = None
decided sight s (step.Bind item col right) = option_map (λ v. with_slot s item (with_value (slot_at s.slots item) v)) (known_operand s.slots right)
decided sight s (step.Neg item rel) = denied sight.keys (sight.rows s.world rel) s item rel (slot_at s.slots item)
decided sight s (step.Test c) = reached_if (must_hold s.slots c) s

-- what a step chooses from, and for which item: `User` from the users, `Pos` from the tuples that the world has with plus
abbrev pub choices : Sight → Reached → Step → Option (ℕ × List Tuple)
choices sight s (step.User item) = Some (item, sight.users)
choices sight s (step.Pos item rel) = Some (item, plus_tuples (sight.rows s.world rel))
choices sight s _ = None

-- with each of the choices, or where no choice is
abbrev pub with_choice : Reached → Option (ℕ × List Tuple) → Option Reached → List Reached
with_choice s (Some c) next = map (with_slot s c.0) c.1
with_choice s None next = option_list next

-- where a step leads
abbrev pub after : Sight → Reached → Step → List Reached
after sight s x = with_choice s (choices sight s x) (decided sight s x)

-- the rows that come of steps
abbrev pub rows_from : Sight → List Ref → List Step → Reached → List (List Value)
rows_from sight take [] s = option_list (known_row s.slots take)
rows_from sight take (x ∷ xs) s = flat_map (rows_from sight take xs) (after sight s x)

-- nothing is chosen for any of so many items, and the walk is at the empty path
abbrev pub start_of : ℕ → Reached
start_of n = record { world = 0; slots = replicate n None }

-- what a plan means: the rows that come of its steps, in order, each once
abbrev pub meaning_of : Sight → PlanFields → List (List Value)
meaning_of sight p = sorted_set row_cmp (rows_from sight p.take p.steps (start_of p.items))

-- ---- reads

-- How often a step reads at most, to choose: of users once for each place, and once more; of a relation once for how long its
-- key is, twice for each row, and once more.
abbrev pub choice_reads : Sight → Reached → Step → ℕ
choice_reads sight s (step.User item) = sight.places + 1
choice_reads sight s (step.Pos item rel) = 2 * length (sight.rows s.world rel) + 2
choice_reads sight s _ = 0

-- How often a step reads at most at which nothing is chosen. To deny a tuple it reads how long the relation's key is, the
-- tuple's number, each row, and once more.
abbrev pub decided_reads : Sight → Reached → Step → ℕ
decided_reads sight s (step.Edge item who) = 1
decided_reads sight s (step.Neg item rel) = length (sight.rows s.world rel) + 3
decided_reads sight s _ = 0

abbrev pub own_reads : Sight → Reached → Step → ℕ
own_reads sight s x = choice_reads sight s x + decided_reads sight s x

-- how often steps read at most: the rest is run again for each choice
abbrev pub reads_from : Sight → List Step → Reached → ℕ
reads_from sight [] s = 0
reads_from sight (x ∷ xs) s = own_reads sight s x + sum_by (reads_from sight xs) (after sight s x)
