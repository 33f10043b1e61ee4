use Rattle.std.proofs.Common.{◌∙◌, sym, subst}
use Rattle.bdb_tables.specs.Grammar.{InGrammar}
use Rattle.bdb_tables.proofs.Held.{links_fit, edges_fit}
use Rattle.bdb_worlds.proofs.ReadLemmas.{linked_fit, led_fit}
use Rattle.bdb_worlds.proofs.leaving.read_rows.Goals as goal

pub get-requires-clause-grammar : goal.get-requires-clause-grammar
get-requires-clause-grammar g c = links_fit _ c.requires.grammar

pub rows_under-requires : goal.rows_under-requires
rows_under-requires g c = record { grammar = led_fit _ (subst InGrammar (sym c.in-Ok-Some.ensures.read.kept) c.requires.grammar) }

pub rows_under-requires-2 : goal.rows_under-requires-2
rows_under-requires-2 g c = record { grammar = linked_fit _ (subst InGrammar (sym (c.in-Ok.ensures.read.kept ∙ c.in-Ok-Some.ensures.read.kept)) c.requires.grammar) }

pub rows_under-requires-3 : goal.rows_under-requires-3
rows_under-requires-3 g c =
    record { grammar = edges_fit _ (subst InGrammar (sym (c.in-Ok-rows_under.ensures.read.kept ∙ c.in-Ok.ensures.read.kept ∙ c.in-Ok-Some.ensures.read.kept)) c.requires.grammar) }
