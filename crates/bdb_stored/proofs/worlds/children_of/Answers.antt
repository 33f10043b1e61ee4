use Rattle.std.proofs.Common.{get_or, subst, ◌≤◌, ◌+◌, ◌*◌, arith}
use Rattle.bdb_tables.specs.declared.tab.TabError.TheVariants.{Fault}
use Rattle.bdb_tables.proofs.Loops.{reading_more}
use Rattle.bdb_stored.specs.Worlds.{TellsChild}
use Rattle.bdb_stored.proofs.ChildLemmas.{children_all, children_more}
use Rattle.bdb_stored.proofs.worlds.children_of.Goals as goal

pub loop-uid-preserved : goal.loop-uid-preserved
loop-uid-preserved g c =
    let old = g.K.Keeper.seen c.args.keeper.now in
    let now = g.K.Keeper.seen c.loop-uid.keeper in
    let new = g.K.Keeper.seen c.child_of.new.keeper in
    let h = c.loop-uid.invariant in
    let reads : new.reads ≤ old.reads + 2 * (c.loop-uid.uid-index + 1) = omega (arith, c.in-Ok.ensures.reads, h.read.reads) in
    reading_more old now new c.in-Ok.child Fault h c.in-Ok.ensures.read (record {
      told = children_more old.kept c.args.world.now c.args.users.now c.loop-uid.uid-index c.in-Ok.child c.loop-uid.children.items c.push_item.new.list.items c.loop-uid-test.true h.read.told
          (subst (λ t. TellsChild t c.args.world.now (get_or c.args.users.now c.loop-uid.uid-index 0) c.in-Ok.child) h.kept c.in-Ok.ensures.child) c.in-Ok-push_item.ensures;
      reads = reads;
    })

pub returns-clause-children : goal.returns-clause-children
returns-clause-children g c =
    children_all (g.K.Keeper.seen c.args.keeper.now).kept c.args.world.now c.args.users.now c.loop-uid.uid-index c.loop-uid.children.items c.loop-uid-test.false c.loop-uid.invariant.read.told

pub returns-clause-reads : goal.returns-clause-reads
returns-clause-reads g c = omega (arith, c.loop-uid.invariant.read.reads, c.loop-uid.auto.uid-index-end)
