use Rattle.std.proofs.Common.{◌≡◌, ◌+◌, ◌∙◌, true, false, sym, subst, arith, rules}
use Rattle.bdb_base.specs.Bases.{is_user}
use Rattle.bdb_tables.specs.Grammar.{InGrammar}
use Rattle.bdb_tables.specs.declared.tab.TabError.TheVariants.{Fault}
use Rattle.bdb_tables.proofs.Loops.{counts_then, goes_then, only_reads_more, steps_ok}
use Rattle.bdb_graph.proofs.EdgeLemmas.{edges_all, edges_more, edges_over, not_edge}
use Rattle.bdb_graph.proofs.edges.has_edges.Goals as goal

pub has_edge-requires-clause-grammar : goal.has_edge-requires-clause-grammar
has_edge-requires-clause-grammar g c = subst InGrammar (sym c.loop-at.invariant.kept) c.requires.grammar

pub loop-at-preserved-then-not-is_user : goal.loop-at-preserved-then-not-is_user
loop-at-preserved-then-not-is_user g c =
    let old = g.K.Keeper.seen c.args.keeper.now in
    let h = c.loop-at.invariant in
    let gone : is_user c.args.users.now (c.loop-at.at + 1) ≡ false = search rules in
    record {
      goes = h.goes;
      kept = h.kept;
      writes = h.writes;
      counts = h.counts;
      read = edges_over old.kept (is_user c.args.users.now) c.args.worlds.now c.args.world.now c.loop-at.at gone h.read;
    }

pub loop-at-preserved : goal.loop-at-preserved
loop-at-preserved g c =
    let old = g.K.Keeper.seen c.args.keeper.now in
    let now = g.K.Keeper.seen c.loop-at.keeper in
    let new = g.K.Keeper.seen c.has_edge.new.keeper in
    let h = c.loop-at.invariant in
    let w = c.in-Ok-true in
    only_reads_more old now new w.field-0 Fault h w.ensures.reading
    (edges_more old.kept now.kept (is_user c.args.users.now) c.args.worlds.now c.args.world.now c.loop-at.at w.field-0 h.kept w.field-0-test w.ensures.edge h.read)

pub returns-in-Ok-false-clause-edges : goal.returns-in-Ok-false-clause-edges
returns-in-Ok-false-clause-edges g c =
    let w = c.in-Ok-false in
    let user : is_user c.args.users.now (c.loop-at.at + 1) ≡ true = search rules in
    not_edge (g.K.Keeper.seen c.args.keeper.now).kept (g.K.Keeper.seen c.loop-at.keeper).kept (is_user c.args.users.now) c.args.worlds.now c.args.world.now (c.loop-at.at + 1) w.field-0 c.loop-at.invariant.kept user w.field-0-test w.ensures.edge

pub returns-in-Ok-false-clause-reading : goal.returns-in-Ok-false-clause-reading
returns-in-Ok-false-clause-reading g c =
    let old = g.K.Keeper.seen c.args.keeper.now in
    let now = g.K.Keeper.seen c.loop-at.keeper in
    let new = g.K.Keeper.seen c.has_edge.new.keeper in
    let h = c.loop-at.invariant in
    let r = c.in-Ok-false.ensures.reading in
    record {
      kept = r.kept ∙ h.kept;
      writes = r.writes ∙ h.writes;
      counts = counts_then old now new h.counts r.counts;
      steps = steps_ok old new false Fault (goes_then old now new h.goes r.steps.ok);
    }

pub returns-clause-edges : goal.returns-clause-edges
returns-clause-edges g c =
    edges_all (g.K.Keeper.seen c.args.keeper.now).kept c.args.users.now c.args.worlds.now c.args.world.now c.loop-at.at (omega arith) c.loop-at.invariant.read
