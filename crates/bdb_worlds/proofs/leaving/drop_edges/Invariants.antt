use Rattle.std.proofs.Common.{◌≡◌, ◌*◌, drop}
use Rattle.bdb_base.specs.Causes.{Rises}
use Rattle.bdb_keep.specs.Seen.{NeverFall, GoesOn}
use Rattle.bdb_tables.specs.Grammar.{InGrammar}
use Rattle.bdb_worlds.specs.Dropping.{edges_dropped, edges_in_rows}
use Rattle.bdb_worlds.proofs.leaving.drop_edges.Given as goal

abbrev pub invariant-loop-row : goal.invariant-loop-row
invariant-loop-row g l = record {
  rest : edges_dropped (g.K.Keeper.seen l.keeper).kept l.wid (edges_in_rows (drop l.row-index l.rows)) ≡ edges_dropped (g.K.Keeper.seen l.fn.keeper).kept l.wid (edges_in_rows l.rows);
  grammar : InGrammar (g.K.Keeper.seen l.fn.keeper).kept → InGrammar (g.K.Keeper.seen l.keeper).kept;
  writes : Rises (2 * l.row-index) (g.K.Keeper.seen l.fn.keeper).writes (g.K.Keeper.seen l.keeper).writes;
  counts : NeverFall (g.K.Keeper.seen l.fn.keeper) (g.K.Keeper.seen l.keeper);
  goes_on : GoesOn (g.K.Keeper.seen l.fn.keeper) (g.K.Keeper.seen l.keeper);
}
