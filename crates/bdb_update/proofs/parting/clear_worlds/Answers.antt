use Rattle.std.proofs.Common.{refl}
use Rattle.bdb_tables.specs.declared.tab.TabError.TheVariants.{Fault}
use Rattle.bdb_update.proofs.ClearLemmas.{clearing_more, clearing_ends}
use Rattle.bdb_update.proofs.parting.clear_worlds.Goals as goal

pub loop-wid-preserved : goal.loop-wid-preserved
loop-wid-preserved g c =
    clearing_more (g.K.Keeper.seen c.args.keeper.now) (g.K.Keeper.seen c.loop-wid.keeper) (g.K.Keeper.seen c.clear_world.new.keeper) c.args.wids.now c.loop-wid.wid-index _ c.loop-wid.count c.in-Ok.rows
    _ Fault c.loop-wid.invariant c.loop-wid-test.true refl c.both-count.ensures c.in-Ok.ensures.cleared c.in-Ok.ensures.others c.in-Ok.ensures.tells c.in-Ok.ensures.writes c.in-Ok.ensures.grammar c.in-Ok.ensures.tuples c.in-Ok.ensures.changing

pub returns-clause-cleared : goal.returns-clause-cleared
returns-clause-cleared g c =
    clearing_ends (g.K.Keeper.seen c.args.keeper.now) (g.K.Keeper.seen c.loop-wid.keeper) c.args.wids.now c.loop-wid.wid-index _ c.loop-wid.invariant c.loop-wid-test.false
