use Rattle.bdb_graph.proofs.TurningLemmas.{both_known, not_round}
use Rattle.bdb_graph.proofs.turning.both_turned.Goals as goal

pub returns-in-Ok-false-clause-both : goal.returns-in-Ok-false-clause-both
returns-in-Ok-false-clause-both g c = not_round (g.K.Keeper.seen c.args.keeper.now).kept c.args.tab c.args.other c.in-Ok-false.field-0 c.in-Ok-false.field-0-test c.in-Ok-false.ensures.turned

pub returns-in-Ok-clause-both : goal.returns-in-Ok-clause-both
returns-in-Ok-clause-both g c =
    let t = (g.K.Keeper.seen c.args.keeper.now).kept in
    both_known t (g.K.Keeper.seen c.are_turned.new.keeper).kept t c.args.tab c.args.other c.in-Ok-true.field-0 c.in-Ok.turned c.in-Ok-true.ensures.reading.kept c.in-Ok-true.field-0-test c.in-Ok-true.ensures.turned c.in-Ok.ensures.turned
