use Rattle.std.proofs.Common.{◌≡◌, sym, subst, rules}
use Rattle.std.specs.FinMap as map
use Rattle.bdb_tables.specs.Grammar.{InGrammar}
use Rattle.bdb_tables.proofs.Held.{empty_in_grammar}
use Rattle.bdb_tables_tests.proofs.tests.tables.begun.Goals as goal

pub returns-clause-grammar : goal.returns-clause-grammar
returns-clause-grammar c =
    let e : c.begin.new.self.kept ≡ map.empty = search rules in
    subst InGrammar (sym e) empty_in_grammar
