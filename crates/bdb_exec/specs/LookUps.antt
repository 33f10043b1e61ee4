-- How often an execution reads at most: of the prefix of a key that is asked for, only its rows; of what a test refuses,
-- nothing more.
use Rattle.std.specs.Prelude.{ℕ, ◌+◌, ◌*◌, List, [], ◌∷◌, Option, Some, None, length, take}
use Rattle.std.specs.List.{sum_by}
use Rattle.bdb_base.specs.declared.kinds.Sign.{Sign}
use Rattle.bdb_base.specs.declared.kinds.Value.{Value}
use Rattle.bdb_base.specs.declared.tuple.Tuple.{Tuple}
use Rattle.bdb_queries.specs.Slots.{slot_at}
use Rattle.bdb_plan.specs.Running.{Reached}
use Rattle.bdb_plan.specs.Sight.{Sight}
use Rattle.bdb_plan.specs.declared.step.Step.{Step}
use Rattle.bdb_plan.specs.declared.step.Step.TheVariants as step
use Rattle.bdb_exec.specs.Keys.{key_asked, rows_of_key, after_before}

-- How often is read at most to choose from rows: twice for each, and once more. Where first values are asked for, the rows are
-- those of these, and how long the relation's key is was read too.
abbrev pub pool_looks : List Value → List (Tuple × Sign) → ℕ
pool_looks [] rows = 2 * length rows + 1
pool_looks (v ∷ vs) rows = 2 * length (rows_of_key (v ∷ vs) rows) + 2

-- how often a step reads at most, to choose
abbrev pub choice_looks : Sight → Reached → Step → List Step → ℕ
choice_looks sight s (step.User item) behind = sight.places + 1
choice_looks sight s (step.Pos item rel) behind = pool_looks (key_asked (sight.keys rel) s.slots item behind) (sight.rows s.world rel)
choice_looks sight s _ behind = 0

-- How often is read at most to learn whether rows deny a tuple: once for each row of its key, which has so many values, and for
-- how many they are, the tuple's number and the end of the rows.
abbrev pub deny_looks : ℕ → List (Tuple × Sign) → Option Tuple → ℕ
deny_looks n rows None = 0
deny_looks n rows (Some t) = length (rows_of_key (take n t.vals) rows) + 3

-- how often a step reads at most at which nothing is chosen
abbrev pub decided_looks : Sight → Reached → Step → ℕ
decided_looks sight s (step.Edge item who) = 1
decided_looks sight s (step.Neg item rel) = deny_looks (sight.keys rel) (sight.rows s.world rel) (slot_at s.slots item)
decided_looks sight s _ = 0

abbrev pub own_looks : Sight → Reached → Step → List Step → ℕ
own_looks sight s x behind = choice_looks sight s x behind + decided_looks sight s x

-- how often steps read at most: the rest is run again for each choice that the tests right behind it let through
abbrev pub looks_from : Sight → List Step → Reached → ℕ
looks_from sight [] s = 0
looks_from sight (x ∷ xs) s = own_looks sight s x xs + sum_by (looks_from sight xs) (after_before sight s x xs)
