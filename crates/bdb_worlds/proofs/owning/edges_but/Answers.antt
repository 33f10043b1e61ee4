use Rattle.std.proofs.Common.{ap, ◌∙◌}
use Rattle.bdb_worlds.specs.Owns.{edges_beside}
use Rattle.bdb_worlds.proofs.OwnLemmas.{edges_found}
use Rattle.bdb_worlds.proofs.owning.edges_but.Goals as goal

pub returns-in-Ok-edges_beside-clause-edges : goal.returns-in-Ok-edges_beside-clause-edges
returns-in-Ok-edges_beside-clause-edges g c =
    edges_found (g.K.Keeper.seen c.args.keeper.now).kept c.args.wid c.args.uid c.in-Ok.rows.items c.in-Ok-edges_beside.edges.items c.ranges.wid.fits c.in-Ok.ensures.rows
    (c.in-Ok-edges_beside.ensures ∙ ap (edges_beside c.args.uid) c.deref.ensures.value)
