use Rattle.std.proofs.Common.{◌≡◌, ◌*◌, drop}
use Rattle.bdb_base.specs.Causes.{Rises}
use Rattle.bdb_keep.specs.Seen.{NeverFall, GoesOn}
use Rattle.bdb_tables.specs.Grammar.{InGrammar}
use Rattle.bdb_worlds.specs.Dropping.{pairs_led, pairs_of}
use Rattle.bdb_worlds.proofs.leaving.lead_pairs.Given as goal

abbrev pub invariant-loop-row : goal.invariant-loop-row
invariant-loop-row g l = record {
  rest : pairs_led (g.K.Keeper.seen l.keeper).kept l.from l.to (pairs_of (drop l.row-index l.rows)) ≡ pairs_led (g.K.Keeper.seen l.fn.keeper).kept l.from l.to (pairs_of l.rows);
  grammar : InGrammar (g.K.Keeper.seen l.fn.keeper).kept → InGrammar (g.K.Keeper.seen l.keeper).kept;
  writes : Rises (3 * l.row-index) (g.K.Keeper.seen l.fn.keeper).writes (g.K.Keeper.seen l.keeper).writes;
  counts : NeverFall (g.K.Keeper.seen l.fn.keeper) (g.K.Keeper.seen l.keeper);
  goes_on : GoesOn (g.K.Keeper.seen l.fn.keeper) (g.K.Keeper.seen l.keeper);
}
