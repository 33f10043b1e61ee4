use Rattle.std.proofs.Common.{sym, subst, ◌∙◌}
use Rattle.bdb_tables.specs.Grammar.{InGrammar}
use Rattle.bdb_tables.proofs.Held.{plain_fits}
use Rattle.bdb_tables_tests.proofs.tests.tables.ask_next.Goals as goal

pub next-requires-clause-grammar : goal.next-requires-clause-grammar
next-requires-clause-grammar g c = plain_fits _ (c.in_ok-put-2.ensures.grammar (c.in_ok-put.ensures.grammar c.requires.grammar))

pub next-requires-2-clause-grammar : goal.next-requires-2-clause-grammar
next-requires-2-clause-grammar g c =
    plain_fits _ (subst InGrammar (sym c.in_ok-at_low.ensures.read.kept) (c.in_ok-put-2.ensures.grammar (c.in_ok-put.ensures.grammar c.requires.grammar)))

pub next-requires-3-clause-grammar : goal.next-requires-3-clause-grammar
next-requires-3-clause-grammar g c =
    plain_fits _ (subst InGrammar (sym (c.in_ok-at_between.ensures.read.kept ∙ c.in_ok-at_low.ensures.read.kept)) (c.in_ok-put-2.ensures.grammar (c.in_ok-put.ensures.grammar c.requires.grammar)))

pub next-requires-4-clause-grammar : goal.next-requires-4-clause-grammar
next-requires-4-clause-grammar g c =
    plain_fits _ (subst InGrammar (sym (c.in_ok-at_high.ensures.read.kept ∙ (c.in_ok-at_between.ensures.read.kept ∙ c.in_ok-at_low.ensures.read.kept))) (c.in_ok-put-2.ensures.grammar (c.in_ok-put.ensures.grammar c.requires.grammar)))
