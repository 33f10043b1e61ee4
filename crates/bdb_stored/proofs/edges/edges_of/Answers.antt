use Rattle.std.proofs.Common.{refl, subst, sym, length, arith}
use Rattle.bdb_tables.specs.declared.tab.TabError.TheVariants.{Fault}
use Rattle.bdb_tables.proofs.Loops.{only_reads_more}
use Rattle.bdb_stored.specs.Structure.{TellsEdges, edges_of}
use Rattle.bdb_catalog.specs.Opening.{IsPartOf}
use Rattle.bdb_stored.proofs.LinkLemmas.{all_edges, all_edges_more}
use Rattle.bdb_stored.proofs.ReadLemmas.{as_many_all, as_many_more}
use Rattle.bdb_stored.proofs.edges.edges_of.Goals as goal

pub loop-at-preserved : goal.loop-at-preserved
loop-at-preserved g c =
    let old = g.K.Keeper.seen c.args.keeper.now in
    let now = g.K.Keeper.seen c.loop-at.keeper in
    let new = g.K.Keeper.seen c.edges_from.new.keeper in
    let h = c.loop-at.invariant in
    let x = c.index-worlds-at.result in
    only_reads_more old now new c.in-Ok.more Fault h c.in-Ok.ensures.reading (record {
      told = all_edges_more old.kept c.args.worlds.now c.requires.worlds c.loop-at.at x x c.loop-at.at c.args.users.now c.in-Ok.more.items c.loop-at.edges.items c.append.new.self.items c.loop-at-test.true c.index-worlds-at.is refl c.requires.users h.read.told
          (subst (λ t. TellsEdges t c.args.worlds.now x c.loop-at.at c.args.users.now c.in-Ok.more.items) h.kept c.in-Ok.ensures.edges) c.in-Ok-append.ensures.items;
      reads = as_many_more old.reads now.reads new.reads c.loop-at.at (length c.args.users.now) h.read.reads c.in-Ok.ensures.reads;
    })

pub returns-clause-edges : goal.returns-clause-edges
returns-clause-edges g c =
    let t = (g.K.Keeper.seen c.args.keeper.now).kept in
    subst (IsPartOf edges_of t) (sym c.from_vec.ensures) (all_edges t c.args.worlds.now c.requires.worlds c.loop-at.at c.loop-at.edges.items c.loop-at-test.false c.loop-at.invariant.read.told)

pub returns-clause-reads : goal.returns-clause-reads
returns-clause-reads g c =
    as_many_all (g.K.Keeper.seen c.args.keeper.now).reads (g.K.Keeper.seen c.loop-at.keeper).reads c.loop-at.at (length c.args.worlds.now) (length c.args.users.now) (omega (arith, c.loop-at.auto.at-end)) c.loop-at.invariant.read.reads
