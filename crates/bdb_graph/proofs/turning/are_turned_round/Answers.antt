use Rattle.bdb_graph.proofs.TurningLemmas.{links_not_turned, round_known}
use Rattle.bdb_graph.proofs.turning.are_turned_round.Goals as goal

pub returns-in-Ok-false-clause-turned : goal.returns-in-Ok-false-clause-turned
returns-in-Ok-false-clause-turned g c = links_not_turned (g.K.Keeper.seen c.args.keeper.now).kept c.in-Ok-false.field-0 c.in-Ok-false.field-0-test c.in-Ok-false.ensures.both

pub returns-in-Ok-clause-turned : goal.returns-in-Ok-clause-turned
returns-in-Ok-clause-turned g c =
    let t = (g.K.Keeper.seen c.args.keeper.now).kept in
    round_known t (g.K.Keeper.seen c.both_turned.new.keeper).kept c.requires.grammar c.in-Ok-true.field-0 c.in-Ok.both c.in-Ok-true.ensures.reading.kept c.in-Ok-true.field-0-test c.in-Ok-true.ensures.both c.in-Ok.ensures.both
