use Rattle.std.proofs.Common.{refl}
use Rattle.bdb_memory.proofs.PlaceLemmas.{head_of_padded}
use Rattle.bdb_memory.proofs.head.Head.of_padded.Goals as goal

pub returns-clause-head : goal.returns-clause-head
returns-clause-head c =
    head_of_padded c.args.bytes.now _ c.args.count refl c.requires.count c.requires.zeros c.four_words-first.ensures.bytes c.four_words-first.ensures.first c.four_words-first.ensures.second c.four_words-first.ensures.third c.four_words-first.ensures.fourth
