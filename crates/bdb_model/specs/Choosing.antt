-- The rows that come of choosing a tuple from each of some pools, one place after the other.
use Rattle.std.specs.Prelude.{ℕ, ◌+◌, List, [], ◌∷◌, Option, None, Some, cond, slice_set}
use Rattle.std.specs.List.{flat_map}
use Rattle.bdb_base.specs.declared.kinds.Cond.{Cond}
use Rattle.bdb_base.specs.declared.kinds.Value.{Value}
use Rattle.bdb_base.specs.declared.tuple.Tuple.{Tuple}
use Rattle.bdb_model.specs.Allowed.{may_all_hold}

-- A place without a pool stays as it is. Each tuple of a pool is tried; where no comparison is known to fail, the choice
-- goes on at the next place. `last` gives the rows of slots in which all is chosen.
abbrev pub chosen_rows : List Cond → (List (Option Tuple) → List (List Value)) → ℕ → List (Option (List Tuple)) → List (Option Tuple) → List (List Value)
chosen_rows conds last at [] slots = last slots
chosen_rows conds last at (None ∷ pools) slots = chosen_rows conds last (at + 1) pools slots
chosen_rows conds last at (Some pool ∷ pools) slots =
    flat_map (λ t. cond (may_all_hold (slice_set slots at (Some t)) conds) (chosen_rows conds last (at + 1) pools (slice_set slots at (Some t))) []) pool

-- the rows that come of one tuple at a place
abbrev pub rows_with : List Cond → (List (Option Tuple) → List (List Value)) → ℕ → List (Option (List Tuple)) → List (Option Tuple) → Tuple → List (List Value)
rows_with conds last at pools slots t = cond (may_all_hold (slice_set slots at (Some t)) conds) (chosen_rows conds last (at + 1) pools (slice_set slots at (Some t))) []
