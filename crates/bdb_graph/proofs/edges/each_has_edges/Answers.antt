use Rattle.std.proofs.Common.{sym, subst}
use Rattle.bdb_base.specs.Bases.{is_user}
use Rattle.bdb_tables.specs.Grammar.{InGrammar}
use Rattle.bdb_tables.specs.declared.tab.TabError.TheVariants.{Fault}
use Rattle.bdb_tables.proofs.Loops.{only_reads_more}
use Rattle.bdb_graph.proofs.EdgeLemmas.{edged_more, not_edged}
use Rattle.bdb_graph.proofs.FindingLemmas.{world_at}
use Rattle.bdb_graph.proofs.edges.each_has_edges.Goals as goal

pub has_edges-requires-clause-grammar : goal.has_edges-requires-clause-grammar
has_edges-requires-clause-grammar g c = subst InGrammar (sym c.loop-world.invariant.kept) c.requires.grammar

pub has_edges-requires-clause-world : goal.has_edges-requires-clause-world
has_edges-requires-clause-world g c =
    let h = c.requires.worlds in
    world_at c.args.worlds.now c.loop-world.world-index c.world-item.result h.sorted c.loop-world-test.true c.world-item.is

pub loop-world-preserved : goal.loop-world-preserved
loop-world-preserved g c =
    let old = g.K.Keeper.seen c.args.keeper.now in
    let now = g.K.Keeper.seen c.loop-world.keeper in
    let new = g.K.Keeper.seen c.has_edges.new.keeper in
    let h = c.loop-world.invariant in
    let w = c.in-Ok-true in
    only_reads_more old now new w.field-0 Fault h w.ensures.reading
    (edged_more old.kept now.kept (is_user c.args.users.now) c.args.worlds.now c.loop-world.world-index c.world-item.result w.field-0 c.loop-world-test.true c.world-item.is h.kept w.field-0-test w.ensures.edges h.read)

pub returns-in-Ok-false-clause-edges : goal.returns-in-Ok-false-clause-edges
returns-in-Ok-false-clause-edges g c =
    let w = c.in-Ok-false in
    not_edged (g.K.Keeper.seen c.args.keeper.now).kept (g.K.Keeper.seen c.loop-world.keeper).kept (is_user c.args.users.now) c.args.worlds.now c.loop-world.world-index c.world-item.result w.field-0 c.loop-world-test.true c.world-item.is
    c.loop-world.invariant.kept w.field-0-test w.ensures.edges
