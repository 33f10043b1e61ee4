use Rattle.std.proofs.Common.{◌≡◌, ◌∙◌, ◌*◌, sym, ap, subst, refl, rules, arith, length, Some, None}
use Rattle.bdb_base.specs.Causes.{Rises}
use Rattle.bdb_key.specs.Grammar.{IsNum}
use Rattle.bdb_tables.specs.Grammar.{InGrammar}
use Rattle.bdb_tables.proofs.Loops.{goes_then, counts_then}
use Rattle.bdb_names.specs.Turned.{edge_set}
use Rattle.bdb_worlds.proofs.OutsideLemmas.{SameButEdges, edges_itself, edges_then, edge_alone}
use Rattle.bdb_worlds.proofs.UserEdgeLemmas.{number_at, user_begins, user_more, user_ends}
use Rattle.bdb_worlds.proofs.UserWriteLemmas.{edges_begin, edges_more, edges_end}
use Rattle.bdb_worlds.specs.UserEdges.{AddsUser}
use Rattle.bdb_worlds.proofs.users.add_user_edges.Goals as goal

pub loop-init : goal.loop-init
loop-init g c = record {
  at = user_begins (g.K.Keeper.seen c.args.keeper.now).kept c.args.uid;
  writes = edges_begin (g.K.Keeper.seen c.args.keeper.now) c.args.uid;
  others = edges_itself (g.K.Keeper.seen c.args.keeper.now).kept;
  grammar = c.requires.grammar;
  counts = search rules;
  goes_on = search rules;
}

pub returns-in-Ok-None-clause-added : goal.returns-in-Ok-None-clause-added
returns-in-Ok-None-clause-added g c =
    let t = (g.K.Keeper.seen c.args.keeper.now).kept in
    let u = (g.K.Keeper.seen c.loop.keeper).kept in
    let v = (g.K.Keeper.seen c.next_number.new.keeper).kept in
    let size : IsNum c.args.uid = search rules in
    let none = number_at u u c.loop.low c.in-Ok-None.field-0 None refl c.in-Ok-None.field-0-is c.in-Ok-None.ensures.number in
    subst (λ x. AddsUser t x c.args.uid) (sym c.in-Ok-None.ensures.kept) (user_ends t u c.args.uid c.loop.low size c.loop.invariant.at none)

pub returns-in-Ok-None-clause-writes : goal.returns-in-Ok-None-clause-writes
returns-in-Ok-None-clause-writes g c =
    let old = g.K.Keeper.seen c.args.keeper.now in
    let u = (g.K.Keeper.seen c.loop.keeper).kept in
    let none = number_at u u c.loop.low c.in-Ok-None.field-0 None refl c.in-Ok-None.field-0-is c.in-Ok-None.ensures.number in
    λ s h new. subst (λ n. Rises (2 * length s.names.used) old.writes n) (sym c.in-Ok-None.ensures.writes)
    (edges_end old u c.args.uid c.loop.low c.loop.invariant.at (g.K.Keeper.seen c.loop.keeper) none c.loop.invariant.writes s h new)

pub returns-in-Ok-None-clause-others : goal.returns-in-Ok-None-clause-others
returns-in-Ok-None-clause-others g c = subst (SameButEdges (g.K.Keeper.seen c.args.keeper.now).kept) (sym c.in-Ok-None.ensures.kept) c.loop.invariant.others

pub loop-preserved : goal.loop-preserved
loop-preserved g c =
    let t = (g.K.Keeper.seen c.args.keeper.now).kept in
    let u = (g.K.Keeper.seen c.loop.keeper).kept in
    let v = (g.K.Keeper.seen c.next_number.new.keeper).kept in
    let w = (g.K.Keeper.seen c.make_edge.new.keeper).kept in
    let size : IsNum c.args.uid = search rules in
    let next = number_at u u c.loop.low c.in-Ok-Some.field-0 (Some c.in-Ok-Some.wid) refl c.in-Ok-Some.field-0-is c.in-Ok-Some.ensures.number in
    let made : w ≡ edge_set u None (Some 0) (c.in-Ok-Some.wid, c.args.uid) = c.in-Ok.ensures.kept ∙ ap (λ x. edge_set x None (Some 0) (c.in-Ok-Some.wid, c.args.uid)) c.in-Ok-Some.ensures.kept in
    record {
      at = user_more t u c.args.uid c.loop.low size c.loop.invariant.at c.in-Ok-Some.wid _ refl next w made;
      writes = edges_more (g.K.Keeper.seen c.args.keeper.now) u c.args.uid c.loop.low c.loop.invariant.at (g.K.Keeper.seen c.loop.keeper) (g.K.Keeper.seen c.make_edge.new.keeper) c.in-Ok-Some.wid _ refl next
          (let one = c.in-Ok-Some.ensures.counts.writes in let two = c.in-Ok.ensures.counts.writes in omega arith) c.loop.invariant.writes
          (subst (λ n. Rises 2 n (g.K.Keeper.seen c.make_edge.new.keeper).writes) c.in-Ok-Some.ensures.writes c.in-Ok.ensures.writes);
      others = subst (SameButEdges t) (sym made) (edges_then t u (edge_set u None (Some 0) (c.in-Ok-Some.wid, c.args.uid)) c.loop.invariant.others (edge_alone u None (Some 0) (c.in-Ok-Some.wid, c.args.uid)));
      grammar = c.in-Ok.ensures.grammar (subst InGrammar (sym c.in-Ok-Some.ensures.kept) c.loop.invariant.grammar);
      counts = counts_then _ _ _ c.loop.invariant.counts (counts_then _ _ _ c.in-Ok-Some.ensures.counts c.in-Ok.ensures.counts);
      goes_on = goes_then _ _ _ (goes_then _ _ _ c.loop.invariant.goes_on c.in-Ok-Some.ensures.steps.ok) c.in-Ok.ensures.steps.ok;
    }
