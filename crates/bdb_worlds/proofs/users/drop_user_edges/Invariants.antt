use Rattle.bdb_keep.specs.Seen.{NeverFall, GoesOn}
use Rattle.bdb_tables.specs.Grammar.{InGrammar}
use Rattle.bdb_worlds.proofs.OutsideLemmas.{SameButEdges}
use Rattle.bdb_worlds.proofs.UserDropLemmas.{UserDroppedTo, EdgesDropped, WorldsRead}
use Rattle.bdb_worlds.proofs.users.drop_user_edges.Given as goal

abbrev pub invariant-loop : goal.invariant-loop
invariant-loop g l = record {
  at : UserDroppedTo (g.K.Keeper.seen l.fn.keeper).kept (g.K.Keeper.seen l.keeper).kept l.uid l.low;
  reads : WorldsRead (g.K.Keeper.seen l.fn.keeper) (g.K.Keeper.seen l.keeper) l.low;
  writes : EdgesDropped (g.K.Keeper.seen l.fn.keeper) (g.K.Keeper.seen l.keeper) l.uid l.low;
  others : SameButEdges (g.K.Keeper.seen l.fn.keeper).kept (g.K.Keeper.seen l.keeper).kept;
  grammar : InGrammar (g.K.Keeper.seen l.keeper).kept;
  counts : NeverFall (g.K.Keeper.seen l.fn.keeper) (g.K.Keeper.seen l.keeper);
  goes_on : GoesOn (g.K.Keeper.seen l.fn.keeper) (g.K.Keeper.seen l.keeper);
}
