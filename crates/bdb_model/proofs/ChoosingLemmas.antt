-- What comes of a choice that is allowed.
use Rattle.std.proofs.Common.{◌≡◌, ◌∙◌, ℕ, ◌+◌, true, List, [], ap, sym, Option, Some, slice_set}
use Rattle.std.proofs.lemmas.Bool.{cond-true}
use Rattle.bdb_base.specs.declared.kinds.Cond.{Cond}
use Rattle.bdb_base.specs.declared.kinds.Value.{Value}
use Rattle.bdb_base.specs.declared.tuple.Tuple.{Tuple}
use Rattle.bdb_model.specs.Allowed.{may_all_hold}
use Rattle.bdb_model.specs.Choosing.{chosen_rows, rows_with}

-- the rows that come of a tuple with which no comparison is known to fail
pub rows_with_allowed : (conds : List Cond) (last : List (Option Tuple) → List (List Value)) (at : ℕ) (pools : List (Option (List Tuple))) (slots next : List (Option Tuple)) (t : Tuple)
    → next ≡ slice_set slots at (Some t) → may_all_hold next conds ≡ true → chosen_rows conds last (at + 1) pools next ≡ rows_with conds last at pools slots t
rows_with_allowed conds last at pools slots next t e h =
    ap (chosen_rows conds last (at + 1) pools) e
    ∙ sym (cond-true (may_all_hold (slice_set slots at (Some t)) conds) (chosen_rows conds last (at + 1) pools (slice_set slots at (Some t))) []
    (ap (λ s. may_all_hold s conds) (sym e) ∙ h))
