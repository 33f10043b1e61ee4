use Rattle.std.proofs.Common.{get_or, subst, ◌≤◌, ◌+◌, arith}
use Rattle.bdb_tables.specs.declared.tab.TabError.TheVariants.{Fault}
use Rattle.bdb_tables.proofs.Loops.{reading_more}
use Rattle.bdb_stored.specs.Structure.{TellsEdge}
use Rattle.bdb_stored.proofs.LinkLemmas.{edges_end, edges_more}
use Rattle.bdb_stored.proofs.edges.edges_from.Goals as goal

pub loop-uid-preserved : goal.loop-uid-preserved
loop-uid-preserved g c =
    let old = g.K.Keeper.seen c.args.keeper.now in
    let now = g.K.Keeper.seen c.loop-uid.keeper in
    let new = g.K.Keeper.seen c.edge_for.new.keeper in
    let h = c.loop-uid.invariant in
    let reads : new.reads ≤ old.reads + (c.loop-uid.uid-index + 1) = omega (arith, c.in-Ok.ensures.reads, h.read.reads) in
    reading_more old now new c.in-Ok.edge Fault h c.in-Ok.ensures.read (record {
      told = edges_more old.kept c.args.worlds.now c.args.world.now c.args.from c.args.users.now c.loop-uid.uid-index c.in-Ok.edge c.loop-uid.edges.items c.push_item.new.list.items c.loop-uid-test.true h.read.told
          (subst (λ t. TellsEdge t c.args.worlds.now c.args.world.now c.args.from (get_or c.args.users.now c.loop-uid.uid-index 0) c.in-Ok.edge) h.kept c.in-Ok.ensures.edge) c.in-Ok-push_item.ensures;
      reads = reads;
    })

pub returns-clause-edges : goal.returns-clause-edges
returns-clause-edges g c =
    edges_end (g.K.Keeper.seen c.args.keeper.now).kept c.args.worlds.now c.args.world.now c.args.from c.args.users.now c.loop-uid.uid-index c.loop-uid.edges.items c.loop-uid-test.false c.loop-uid.invariant.read.told

pub returns-clause-reads : goal.returns-clause-reads
returns-clause-reads g c = omega (arith, c.loop-uid.invariant.read.reads, c.loop-uid.auto.uid-index-end)
