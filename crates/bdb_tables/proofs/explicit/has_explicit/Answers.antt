use Rattle.bdb_tables.proofs.ExplicitLemmas.{count_tells}
use Rattle.bdb_tables.proofs.explicit.has_explicit.Goals as goal

pub returns-in-Ok-clause-explicit : goal.returns-in-Ok-clause-explicit
returns-in-Ok-clause-explicit g c =
    count_tells (g.K.Keeper.seen c.args.keeper.now).kept c.args.wid c.in-Ok.count (c.requires.grammar 11) c.ranges.wid.fits c.in-Ok.ensures.counted
