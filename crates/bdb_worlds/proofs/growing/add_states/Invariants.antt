use Rattle.std.proofs.Common.{◌≡◌, ◌+◌, length}
use Rattle.bdb_keep.specs.Seen.{NeverFall, GoesOn}
use Rattle.bdb_tables.specs.Grammar.{InGrammar}
use Rattle.bdb_worlds.proofs.GrowLemmas.{Growing}
use Rattle.bdb_worlds.proofs.MadeLemmas.{Making}
use Rattle.bdb_worlds.proofs.OutsideLemmas.{SameElsewhere}
use Rattle.bdb_worlds.proofs.growing.add_states.Given as goal

abbrev pub invariant-loop-k : goal.invariant-loop-k
invariant-loop-k g l = record {
  at : Growing (g.K.Keeper.seen l.fn.keeper).kept (g.K.Keeper.seen l.keeper).kept l.path l.worlds l.len l.numbers.items l.at l.low;
  made : Making (g.K.Keeper.seen l.fn.keeper).kept l.path l.worlds l.len l.numbers.items (g.K.Keeper.seen l.fn.keeper).writes (g.K.Keeper.seen l.keeper).writes;
  others : SameElsewhere (g.K.Keeper.seen l.fn.keeper).kept (g.K.Keeper.seen l.keeper).kept;
  grammar : InGrammar (g.K.Keeper.seen l.keeper).kept;
  done : l.k ≡ l.len + length l.numbers.items;
  count : l.count ≡ l.worlds + length l.numbers.items;
  counts : NeverFall (g.K.Keeper.seen l.fn.keeper) (g.K.Keeper.seen l.keeper);
  goes_on : GoesOn (g.K.Keeper.seen l.fn.keeper) (g.K.Keeper.seen l.keeper);
}
