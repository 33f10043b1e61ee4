use Rattle.std.proofs.Common.{◌∙◌, sym}
use Rattle.bdb_decode.proofs.StatementLemmas.{inconsistent, tells_few}
use Rattle.bdb_decode.proofs.statements.are_statements.Goals as goal

pub returns-then-not-are_consistent : goal.returns-then-not-are_consistent
returns-then-not-are_consistent c = inconsistent c.args.catalog.now c.args.stmts.now (sym c.are_consistent.ensures ∙ c.if-not-are_consistent.true)

pub returns-in-Ok : goal.returns-in-Ok
returns-in-Ok c = tells_few c.args.catalog.now c.args.stmts.now c.in-Ok.few (sym c.are_consistent.ensures ∙ c.if-not-are_consistent.false) c.in-Ok.ensures
