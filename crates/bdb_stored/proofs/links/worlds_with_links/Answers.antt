use Rattle.std.proofs.Common.{subst, ◌≤◌, ◌+◌, arith}
use Rattle.bdb_tables.specs.declared.tab.TabError.TheVariants.{Fault}
use Rattle.bdb_tables.proofs.Loops.{reading_more}
use Rattle.bdb_stored.specs.Structure.{TellsLink}
use Rattle.bdb_stored.proofs.LinkLemmas.{links_all, links_more}
use Rattle.bdb_stored.proofs.links.worlds_with_links.Goals as goal

pub loop-world-preserved : goal.loop-world-preserved
loop-world-preserved g c =
    let old = g.K.Keeper.seen c.args.keeper.now in
    let now = g.K.Keeper.seen c.loop-world.keeper in
    let new = g.K.Keeper.seen c.with_link.new.keeper in
    let h = c.loop-world.invariant in
    let x = c.world-item.result in
    let reads : new.reads ≤ old.reads + (c.loop-world.world-index + 1) = omega (arith, c.in-Ok.ensures.reads, h.read.reads) in
    reading_more old now new c.in-Ok.entry Fault h c.in-Ok.ensures.read (record {
      told = links_more old.kept c.args.worlds.now c.requires.worlds c.loop-world.world-index x x c.in-Ok.entry c.loop-world.linked c.push.new.self c.loop-world-test.true c.world-item.is h.read.told
          (subst (λ t. TellsLink t c.args.worlds.now x c.in-Ok.entry) h.kept c.in-Ok.ensures.link) c.in-Ok-push.ensures.ok;
      reads = reads;
    })

pub returns-clause-linked : goal.returns-clause-linked
returns-clause-linked g c =
    links_all (g.K.Keeper.seen c.args.keeper.now).kept c.args.worlds.now c.requires.worlds c.loop-world.world-index c.loop-world.linked c.loop-world-test.false c.loop-world.invariant.read.told

pub returns-clause-reads : goal.returns-clause-reads
returns-clause-reads g c = omega (arith, c.loop-world.invariant.read.reads, c.loop-world.auto.world-index-end)
