use Rattle.bdb_tables.proofs.Loops.{counts_then, goes_then, steps_err, steps_ok, err_steps}
use Rattle.bdb_session.proofs.OpenLemmas.{agrees_written}
use Rattle.bdb_session.proofs.open.written_session.Goals as goal

pub returns-in-Err-clause-steps : goal.returns-in-Err-clause-steps
returns-in-Err-clause-steps g c = err_steps _ _ _ _ c.in-Err.ensures.steps

pub session_of-requires : goal.session_of-requires
session_of-requires g c = record { base = record { base = c.args.base.now; stores = c.in-Ok.ensures.stored } }

pub returns-in-Ok-session_of-clause-agrees : goal.returns-in-Ok-session_of-clause-agrees
returns-in-Ok-session_of-clause-agrees g c =
    agrees_written _ _ c.args.base.now c.in-Ok-session_of.session c.in-Ok.ensures.stored c.in-Ok-session_of.ensures.kept c.in-Ok-session_of.ensures.knows

pub returns-in-Ok-session_of-clause-counts : goal.returns-in-Ok-session_of-clause-counts
returns-in-Ok-session_of-clause-counts g c = counts_then _ _ _ c.in-Ok.ensures.counts c.session_of.ensures.counts

pub returns-in-Ok-session_of-clause-steps : goal.returns-in-Ok-session_of-clause-steps
returns-in-Ok-session_of-clause-steps g c = steps_ok _ _ _ _ (goes_then _ _ _ c.in-Ok.ensures.steps.ok c.in-Ok-session_of.ensures.steps.ok)

pub returns-in-Err-session_of-clause-counts : goal.returns-in-Err-session_of-clause-counts
returns-in-Err-session_of-clause-counts g c = counts_then _ _ _ c.in-Ok.ensures.counts c.session_of.ensures.counts

pub returns-in-Err-session_of-clause-steps : goal.returns-in-Err-session_of-clause-steps
returns-in-Err-session_of-clause-steps g c = steps_err _ _ _ _ _ c.in-Ok.ensures.steps.ok c.in-Err-session_of.ensures.steps
