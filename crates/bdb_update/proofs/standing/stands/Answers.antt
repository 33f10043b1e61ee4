use Rattle.std.proofs.Common.{◌∙◌}
use Rattle.bdb_tables.proofs.Loops.{read_answers}
use Rattle.bdb_update.proofs.StandingLemmas.{read_refused, prospect_tells}
use Rattle.bdb_update.proofs.standing.stands.Goals as goal

pub returns-in-Ok-clause-stands : goal.returns-in-Ok-clause-stands
returns-in-Ok-clause-stands g c = λ b m.
    c.says_stands.ensures ∙ prospect_tells (g.K.Keeper.seen c.args.keeper.now).kept c.args.counts.now c.args.stmt.now c.in-Ok.verdict c.in-Ok.ensures.examined b m

pub returns-in-Ok-clause-read : goal.returns-in-Ok-clause-read
returns-in-Ok-clause-read g c = read_answers _ _ c.in-Ok.verdict c.says_stands.result _ c.in-Ok.ensures.read

pub returns-in-Err-clause-read : goal.returns-in-Err-clause-read
returns-in-Err-clause-read g c = read_refused _ _ c.in-Err.error _ c.in-Err.ensures.read
