use Rattle.std.proofs.Common.{refl}
use Rattle.bdb_memory.proofs.OpeningLemmas.{last_of_words}
use Rattle.bdb_memory.proofs.opening.last_head.Goals as goal

pub returns-clause-last : goal.returns-clause-last
returns-clause-last c =
    last_of_words c.args.prefix.now _ refl c.filled_word.ensures.bytes c.filled_from.ensures.bytes c.filled_from-2.ensures.bytes c.filled_from-3.ensures.bytes
    c.filled_word.ensures.small c.filled_from.ensures.small c.filled_from-2.ensures.small c.filled_from-3.ensures.small
