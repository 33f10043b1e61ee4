use Rattle.std.proofs.Common.{sym, subst, refl, rules, Some, None}
use Rattle.bdb_key.specs.Grammar.{IsNum}
use Rattle.bdb_tables.proofs.Loops.{goes_then, counts_then}
use Rattle.bdb_worlds.proofs.OutsideLemmas.{SameButEdges, edges_itself, edges_then}
use Rattle.bdb_worlds.proofs.UserEdgeLemmas.{number_at}
use Rattle.bdb_worlds.proofs.UserDropLemmas.{drop_begins, drop_more, drop_ends, edge_alone_dropped, dropped_begin, dropped_more, dropped_end, read_begin, read_more, read_end}
use Rattle.bdb_worlds.specs.UserEdges.{DropsUser}
use Rattle.bdb_worlds.proofs.users.drop_user_edges.Goals as goal

pub loop-init : goal.loop-init
loop-init g c = record {
  at = drop_begins (g.K.Keeper.seen c.args.keeper.now).kept c.args.uid;
  reads = read_begin (g.K.Keeper.seen c.args.keeper.now);
  writes = dropped_begin (g.K.Keeper.seen c.args.keeper.now) c.args.uid;
  others = edges_itself (g.K.Keeper.seen c.args.keeper.now).kept;
  grammar = c.requires.grammar;
  counts = search rules;
  goes_on = search rules;
}

pub returns-in-Ok-None-clause-dropped : goal.returns-in-Ok-None-clause-dropped
returns-in-Ok-None-clause-dropped g c =
    let t = (g.K.Keeper.seen c.args.keeper.now).kept in
    let u = (g.K.Keeper.seen c.loop.keeper).kept in
    let size : IsNum c.args.uid = search rules in
    let none = number_at u u c.loop.low c.in-Ok-None.field-0 None refl c.in-Ok-None.field-0-is c.in-Ok-None.ensures.number in
    subst (λ x. DropsUser t x c.args.uid) (sym c.in-Ok-None.ensures.kept) (drop_ends t u c.args.uid c.loop.low size c.loop.invariant.at none)

pub returns-in-Ok-None-clause-reads : goal.returns-in-Ok-None-clause-reads
returns-in-Ok-None-clause-reads g c =
    let here = g.K.Keeper.seen c.loop.keeper in
    let size : IsNum c.args.uid = search rules in
    let none = number_at here.kept here.kept c.loop.low c.in-Ok-None.field-0 None refl c.in-Ok-None.field-0-is c.in-Ok-None.ensures.number in
    read_end (g.K.Keeper.seen c.args.keeper.now) here c.args.uid c.loop.low size c.loop.invariant.at (g.K.Keeper.seen c.next_number.new.keeper) c.in-Ok-None.ensures.counts.reads c.in-Ok-None.ensures.reads none c.loop.invariant.reads

pub returns-in-Ok-None-clause-writes : goal.returns-in-Ok-None-clause-writes
returns-in-Ok-None-clause-writes g c =
    let here = g.K.Keeper.seen c.loop.keeper in
    let size : IsNum c.args.uid = search rules in
    let none = number_at here.kept here.kept c.loop.low c.in-Ok-None.field-0 None refl c.in-Ok-None.field-0-is c.in-Ok-None.ensures.number in
    dropped_end (g.K.Keeper.seen c.args.keeper.now) here c.args.uid c.loop.low size c.loop.invariant.at (g.K.Keeper.seen c.next_number.new.keeper) c.in-Ok-None.ensures.writes none c.loop.invariant.writes

pub returns-in-Ok-None-clause-others : goal.returns-in-Ok-None-clause-others
returns-in-Ok-None-clause-others g c = subst (SameButEdges (g.K.Keeper.seen c.args.keeper.now).kept) (sym c.in-Ok-None.ensures.kept) c.loop.invariant.others

pub loop-preserved : goal.loop-preserved
loop-preserved g c =
    let old = g.K.Keeper.seen c.args.keeper.now in
    let here = g.K.Keeper.seen c.loop.keeper in
    let mid = g.K.Keeper.seen c.next_number.new.keeper in
    let now = g.K.Keeper.seen c.drop_user_edge.new.keeper in
    let wid = c.in-Ok-Some.wid in
    let size : IsNum c.args.uid = search rules in
    let next = number_at here.kept here.kept c.loop.low c.in-Ok-Some.field-0 (Some wid) refl c.in-Ok-Some.field-0-is c.in-Ok-Some.ensures.number in
    record {
      at = drop_more old.kept here.kept c.args.uid c.loop.low size c.loop.invariant.at wid _ refl next mid now c.in-Ok-Some.ensures.kept c.in-Ok.ensures.dropped;
      reads = read_more old here c.args.uid c.loop.low size c.loop.invariant.at mid now wid _ refl next c.in-Ok-Some.ensures.counts.reads c.in-Ok.ensures.counts.reads
          c.in-Ok-Some.ensures.reads c.in-Ok.ensures.reads c.loop.invariant.reads;
      writes = dropped_more old here c.args.uid c.loop.low size c.loop.invariant.at mid now wid _ refl next c.in-Ok-Some.ensures.kept c.in-Ok-Some.ensures.writes
          c.in-Ok.ensures.counts.writes c.in-Ok.ensures.dropped c.loop.invariant.writes;
      others = edges_then old.kept here.kept now.kept c.loop.invariant.others (edge_alone_dropped here.kept mid now (wid, c.args.uid) c.in-Ok-Some.ensures.kept c.in-Ok.ensures.dropped);
      grammar = c.in-Ok.ensures.grammar;
      counts = counts_then _ _ _ c.loop.invariant.counts (counts_then _ _ _ c.in-Ok-Some.ensures.counts c.in-Ok.ensures.counts);
      goes_on = goes_then _ _ _ (goes_then _ _ _ c.loop.invariant.goes_on c.in-Ok-Some.ensures.steps.ok) c.in-Ok.ensures.steps.ok;
    }
