use Rattle.std.proofs.Common.{◌≡◌, ◌*◌, drop}
use Rattle.bdb_base.specs.Causes.{Rises}
use Rattle.bdb_keep.specs.Seen.{NeverFall, GoesOn}
use Rattle.bdb_tables.specs.Grammar.{InGrammar}
use Rattle.bdb_names.specs.Turned.{links_led}
use Rattle.bdb_worlds.proofs.leading.lead_links.Given as goal

abbrev pub invariant-loop-wid : goal.invariant-loop-wid
invariant-loop-wid g l = record {
  rest : links_led (g.K.Keeper.seen l.keeper).kept l.from l.to (drop l.wid-index l.sources) ≡ links_led (g.K.Keeper.seen l.fn.keeper).kept l.from l.to l.sources;
  grammar : InGrammar (g.K.Keeper.seen l.fn.keeper).kept → InGrammar (g.K.Keeper.seen l.keeper).kept;
  reads : (g.K.Keeper.seen l.keeper).reads ≡ (g.K.Keeper.seen l.fn.keeper).reads;
  writes : Rises (3 * l.wid-index) (g.K.Keeper.seen l.fn.keeper).writes (g.K.Keeper.seen l.keeper).writes;
  counts : NeverFall (g.K.Keeper.seen l.fn.keeper) (g.K.Keeper.seen l.keeper);
  goes_on : GoesOn (g.K.Keeper.seen l.fn.keeper) (g.K.Keeper.seen l.keeper);
}
