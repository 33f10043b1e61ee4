use Rattle.std.proofs.Common.{subst, rules}
use Rattle.bdb_bind.specs.Firsts.{Checks}
use Rattle.bdb_bind.specs.QueryLines.{in_columns, column_missing, column_not_uid}
use Rattle.bdb_bind.proofs.columns.check_query_columns.Goals as goal

pub returns-in_err-check_later_columns : goal.returns-in_err-check_later_columns
returns-in_err-check_later_columns c =
    subst (λ items. Checks c.from_residual-in_err-check_later_columns.result (in_columns (column_missing c.args.rels.now items) (column_not_uid items) c.args.query.now))
    c.requires.items (search rules)
