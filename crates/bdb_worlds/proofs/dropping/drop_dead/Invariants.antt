use Rattle.std.proofs.Common.{◌-◌, length}
use Rattle.bdb_keep.specs.Seen.{NeverFall, GoesOn}
use Rattle.bdb_tables.specs.Grammar.{InGrammar}
use Rattle.bdb_worlds.proofs.OutsideLemmas.{SameElsewhere}
use Rattle.bdb_worlds.proofs.ShrinkLemmas.{Shrinking}
use Rattle.bdb_worlds.proofs.SpentLemmas.{Spending}
use Rattle.bdb_worlds.proofs.dropping.drop_dead.Given as goal

abbrev pub invariant-loop-back : goal.invariant-loop-back
invariant-loop-back g l = record {
  at : Shrinking (g.K.Keeper.seen l.fn.keeper).kept (g.K.Keeper.seen l.keeper).kept l.path l.numbers l.gone.items (length l.numbers - l.back);
  spent : Spending (g.K.Keeper.seen l.fn.keeper).kept l.path l.gone.items (length l.numbers - l.back) (g.K.Keeper.seen l.fn.keeper).writes (g.K.Keeper.seen l.keeper).writes;
  others : SameElsewhere (g.K.Keeper.seen l.fn.keeper).kept (g.K.Keeper.seen l.keeper).kept;
  grammar : InGrammar (g.K.Keeper.seen l.keeper).kept;
  counts : NeverFall (g.K.Keeper.seen l.fn.keeper) (g.K.Keeper.seen l.keeper);
  goes_on : GoesOn (g.K.Keeper.seen l.fn.keeper) (g.K.Keeper.seen l.keeper);
}
