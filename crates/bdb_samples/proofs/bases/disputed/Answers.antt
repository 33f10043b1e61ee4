use Rattle.std.proofs.Common.{rules}
use Rattle.bdb_canon.proofs.Samples.{disputed_is_valid}
use Rattle.bdb_samples.proofs.bases.disputed.Goals as goal

pub from_parts-requires : goal.from_parts-requires
from_parts-requires c = disputed_is_valid c.in_ok-catalog.catalog _ (search rules) (search rules)
