use Rattle.std.proofs.Common.{ap, ◌∙◌, rules}
use Rattle.bdb_parse.specs.Gives.{wide_number}
use Rattle.bdb_parse.proofs.NumberLemmas.{parse_wide}
use Rattle.bdb_parse.proofs.number.number.Goals as goal

pub returns-in-Err-Refused : goal.returns-in-Err-Refused
returns-in-Err-Refused c =
    parse_wide c.args.wide c.args.spelling.now c.parse.result _ (search rules) c.parse.ensures.value.0 c.in-Err-Refused.is-0
    ∙ ap wide_number c.in-Err-Refused.is-1

pub returns-in-Err-Zero : goal.returns-in-Err-Zero
returns-in-Err-Zero c =
    parse_wide c.args.wide c.args.spelling.now c.parse.result _ (search rules) c.parse.ensures.value.0 c.in-Err-Zero.is-0
    ∙ ap wide_number c.in-Err-Zero.is-1
