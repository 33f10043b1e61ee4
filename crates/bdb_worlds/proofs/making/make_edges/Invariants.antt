use Rattle.std.proofs.Common.{◌≡◌, ◌*◌, drop}
use Rattle.bdb_base.specs.Causes.{Rises}
use Rattle.bdb_keep.specs.Seen.{NeverFall, GoesOn}
use Rattle.bdb_tables.specs.Grammar.{InGrammar}
use Rattle.bdb_names.specs.Turned.{edges_made}
use Rattle.bdb_worlds.proofs.making.make_edges.Given as goal

abbrev pub invariant-loop-edge : goal.invariant-loop-edge
invariant-loop-edge g l = record {
  rest : edges_made (g.K.Keeper.seen l.keeper).kept l.wid (drop l.edge-index l.edges) ≡ edges_made (g.K.Keeper.seen l.fn.keeper).kept l.wid l.edges;
  grammar : InGrammar (g.K.Keeper.seen l.fn.keeper).kept → InGrammar (g.K.Keeper.seen l.keeper).kept;
  reads : (g.K.Keeper.seen l.keeper).reads ≡ (g.K.Keeper.seen l.fn.keeper).reads;
  writes : Rises (2 * l.edge-index) (g.K.Keeper.seen l.fn.keeper).writes (g.K.Keeper.seen l.keeper).writes;
  counts : NeverFall (g.K.Keeper.seen l.fn.keeper) (g.K.Keeper.seen l.keeper);
  goes_on : GoesOn (g.K.Keeper.seen l.fn.keeper) (g.K.Keeper.seen l.keeper);
}
