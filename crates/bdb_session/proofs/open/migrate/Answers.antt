use Rattle.std.proofs.Common.{sym, subst}
use Rattle.bdb_keep.specs.Tables.{Tables}
use Rattle.bdb_undo.specs.Timelines.{started}
use Rattle.bdb_session.specs.Known.{Remembers}
use Rattle.bdb_session.proofs.CommitLemmas.{not_begun, not_made, not_committed, committed, committed_ok, committed_err}
use Rattle.bdb_session.proofs.open.migrate.Goals as goal

pub returns-in-Err-clause-committed : goal.returns-in-Err-clause-committed
returns-in-Err-clause-committed g c = committed_err _ _ _ (not_begun _ _ _ c.requires.still c.in-Err.ensures)

pub returns-in-Err-written_session-clause-committed : goal.returns-in-Err-written_session-clause-committed
returns-in-Err-written_session-clause-committed g c =
    not_made _ _ _ _ _ _ c.requires.still c.in-Ok.ensures c.in-Err-written_session.ensures.counts c.in-Err-written_session.ensures.steps c.stop_from.ensures

pub returns-in-Ok-commit-clause-agrees : goal.returns-in-Ok-commit-clause-agrees
returns-in-Ok-commit-clause-agrees g c =
    subst (λ (t : Tables). Remembers t c.in-Ok-written_session.session (started c.args.base.now)) (sym c.in-Ok-commit.ensures.kept) c.in-Ok-written_session.ensures.agrees

pub returns-in-Ok-commit-clause-committed : goal.returns-in-Ok-commit-clause-committed
returns-in-Ok-commit-clause-committed g c =
    committed_ok _ _ _ _ (committed _ _ _ _ _ _ _ c.in-Ok.ensures c.in-Ok-written_session.ensures.counts c.in-Ok-written_session.ensures.steps c.in-Ok-commit.ensures)

pub returns-in-Err-commit-clause-committed : goal.returns-in-Err-commit-clause-committed
returns-in-Err-commit-clause-committed g c =
    committed_err _ _ _ (not_committed _ _ _ _ _ _ _ c.requires.still c.in-Ok.ensures c.in-Ok-written_session.ensures.counts c.in-Ok-written_session.ensures.steps c.in-Err-commit.ensures)
