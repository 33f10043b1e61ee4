use Rattle.bdb_memory.proofs.WordLemmas.{words_apart}
use Rattle.bdb_memory.proofs.bytes.+compare_words.Goals as goal

pub returns-else-x-y : goal.returns-else-x-y
returns-else-x-y t c =
    words_apart c.args.a.now c.args.b.now c.in-Some-Some.more.now c.in-Some-Some.rest.now c.in-Some-Some.x c.in-Some-Some.y c.cmp.result
    c.in-Some-Some.ensures.front c.in-Some-Some.ensures'.front c.in-Some-Some.ensures.small c.in-Some-Some.ensures'.small c.if-x-y.false c.cmp.ensures
