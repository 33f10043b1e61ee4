use Rattle.bdb_return.proofs.NumberLemmas as numbers
use Rattle.bdb_return.proofs.numbers.next_relation.Goals as goal

pub returns-in-Ok-clause-next : goal.returns-in-Ok-clause-next
returns-in-Ok-clause-next g c = numbers.next_relation (g.K.Keeper.seen c.args.keeper.now).kept c.in-Ok.rel c.in-Ok.ensures.gap
