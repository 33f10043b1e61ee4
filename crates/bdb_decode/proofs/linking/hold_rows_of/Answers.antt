use Rattle.std.proofs.Common.{sym, subst}
use Rattle.bdb_base.specs.Bases.{key_lengths}
use Rattle.bdb_tables.specs.Grammar.{InGrammar}
use Rattle.bdb_decode.specs.SettledRows.{AreKeyed}
use Rattle.bdb_decode.proofs.PartLemmas.{rows_of_told}
use Rattle.bdb_decode.proofs.linking.hold_rows_of.Goals as goal

pub are_rows_held-requires : goal.are_rows_held-requires
are_rows_held-requires g c = record {
  grammar = subst InGrammar (sym c.in-Ok.ensures.reading.kept) c.requires.grammar;
  keyed = subst (AreKeyed (key_lengths c.args.catalog.now.rels)) (sym c.in-Ok.ensures.reading.kept) c.requires.keyed;
}

pub returns-in-Ok-are_rows_held-clause-held : goal.returns-in-Ok-are_rows_held-clause-held
returns-in-Ok-are_rows_held-clause-held g c =
    rows_of_told (key_lengths c.args.catalog.now.rels) (g.K.Keeper.seen c.args.keeper.now).kept (g.K.Keeper.seen c.links_of.new.keeper).kept c.args.worlds.now c.in-Ok.links.items c.deref.result.now c.in-Ok-are_rows_held.held
    c.in-Ok.ensures.reading.kept c.deref.ensures.value c.in-Ok.ensures.links c.in-Ok-are_rows_held.ensures.held
