use Rattle.bdb_val.proofs.WorldLemmas.{read_is_world, read_within}
use Rattle.bdb_val.proofs.world_rows.world_at.Goals as goal

pub returns-in-Ok-in_order-clause-world : goal.returns-in-Ok-in_order-clause-world
returns-in-Ok-in_order-clause-world g c = read_is_world (g.K.Keeper.seen c.args.keeper.now).kept c.args.wid c.in-Ok.rows.items c.in-Ok-in_order.world.held c.ranges.wid.fits c.in-Ok.ensures.rows c.in-Ok-in_order.ensures

pub returns-in-Ok-in_order-clause-reads : goal.returns-in-Ok-in_order-clause-reads
returns-in-Ok-in_order-clause-reads g c =
    read_within (g.K.Keeper.seen c.args.keeper.now).reads (g.K.Keeper.seen c.read_world.new.keeper).reads c.in-Ok.rows.items c.in-Ok-in_order.world.held c.in-Ok-in_order.ensures c.in-Ok.ensures.reads
