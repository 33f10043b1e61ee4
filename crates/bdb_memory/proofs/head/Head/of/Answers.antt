use Rattle.std.proofs.Common.{rules}
use Rattle.bdb_memory.proofs.HeadsLemmas.{head_of_words, count_is}
use Rattle.bdb_memory.proofs.head.Head.of.Goals as goal

pub returns-clause-head : goal.returns-clause-head
returns-clause-head c =
    head_of_words c.args.key.now _ (count_is c.args.key.now _ (search rules)) c.four_words-first.ensures.bytes c.four_words-first.ensures.first c.four_words-first.ensures.second c.four_words-first.ensures.third c.four_words-first.ensures.fourth
