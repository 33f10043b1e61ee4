use Rattle.std.proofs.Common.{length}
use Rattle.bdb_memory.proofs.bytes.+compare_words.Given as goal

abbrev pub decreases-compare_words : goal.decreases-compare_words
decreases-compare_words l = length l.a.now
