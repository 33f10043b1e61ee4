use Rattle.std.proofs.Common.{refl}
use Rattle.bdb_tables.specs.declared.tab.TabError.TheVariants.{Fault}
use Rattle.bdb_update.proofs.FillLemmas.{filling_begins, has_link, filling_more, filling_ends}
use Rattle.bdb_update.proofs.filling.fill_worlds.Goals as goal

pub loop-wid-init : goal.loop-wid-init
loop-wid-init g c = filling_begins (g.K.Keeper.seen c.args.keeper.now) c.args.wids.now 0 refl c.requires.grammar c.requires.tuples

pub fill_world-requires-clause-linked : goal.fill_world-requires-clause-linked
fill_world-requires-clause-linked g c =
    has_link (g.K.Keeper.seen c.args.keeper.now) (g.K.Keeper.seen c.loop-wid.keeper) c.args.wids.now c.loop-wid.wid-index _ c.loop-wid.count c.loop-wid.invariant c.loop-wid-test.true refl c.requires.come

pub loop-wid-preserved : goal.loop-wid-preserved
loop-wid-preserved g c =
    filling_more (g.K.Keeper.seen c.args.keeper.now) (g.K.Keeper.seen c.loop-wid.keeper) (g.K.Keeper.seen c.fill_world.new.keeper) c.args.wids.now c.loop-wid.wid-index _ c.loop-wid.count c.in-Ok.rows
    c.both-count.result c.in-Ok.rows Fault c.loop-wid.invariant c.loop-wid-test.true refl c.in-Ok.ensures.filled c.in-Ok.ensures.tells c.in-Ok.ensures.others c.in-Ok.ensures.writes c.both-count.ensures
    c.in-Ok.ensures.grammar c.in-Ok.ensures.tuples c.in-Ok.ensures.changing

pub returns-clause-filled : goal.returns-clause-filled
returns-clause-filled g c =
    filling_ends (g.K.Keeper.seen c.args.keeper.now) (g.K.Keeper.seen c.loop-wid.keeper) c.args.wids.now c.loop-wid.wid-index c.loop-wid.count c.loop-wid.invariant c.loop-wid-test.false

pub returns-clause-counted : goal.returns-clause-counted
returns-clause-counted g c = λ s told h t a z x y. c.loop-wid.invariant.counted s told h t a z x y
