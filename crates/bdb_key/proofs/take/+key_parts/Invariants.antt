use Rattle.std.proofs.Common.{length}
use Rattle.bdb_key.proofs.take.+key_parts.Given as goal

abbrev pub decreases-key_parts : goal.decreases-key_parts
decreases-key_parts l = length l.shape.now
