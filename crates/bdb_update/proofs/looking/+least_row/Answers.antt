use Rattle.std.proofs.Common.{◌∙◌, Some, ap, sym}
use Rattle.std.specs.Option.{option_copied}
use Rattle.bdb_update.proofs.LeastLemmas.{least_further}
use Rattle.bdb_update.proofs.looking.+least_row.Goals as goal

pub returns-then-is_clashing : goal.returns-then-is_clashing
returns-then-is_clashing t c =
    ap Some c.first_of.ensures
    ∙ least_further (λ _. c.args.n) c.args.stmt.now c.args.rows.now c.row-item.result (option_copied c.least_row-least.result) c.in-len1-up.len_at_least c.row-item.is c.least_row-least.ensures
    (sym c.is_clashing.ensures ∙ c.if-is_clashing.true)
