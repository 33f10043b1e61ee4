use Rattle.std.proofs.Common.{subst, sym}
use Rattle.bdb_base.specs.Bases.{empty_contents}
use Rattle.bdb_undo.specs.Timelines.{started}
use Rattle.bdb_session.specs.Known.{Known, Remembers}
use Rattle.bdb_session.proofs.CommitLemmas.{committed_err, committed_ok}
use Rattle.bdb_session.proofs.OpenLemmas.{remembers_empty}
use Rattle.bdb_session.proofs.open.new_session.Goals as goal

pub returns-in-Ok-commit_empty-clause-agrees : goal.returns-in-Ok-commit_empty-clause-agrees
returns-in-Ok-commit_empty-clause-agrees g c =
    subst (λ (k : Known). Remembers (g.K.Keeper.seen c.commit_empty.new.keeper).kept k (started empty_contents)) (sym c.in-Ok.ensures) (remembers_empty _ c.in-Ok-commit_empty.ensures.stored)

pub returns-in-Ok-commit_empty-clause-committed : goal.returns-in-Ok-commit_empty-clause-committed
returns-in-Ok-commit_empty-clause-committed g c = committed_ok _ _ _ _ c.in-Ok-commit_empty.ensures.committed

pub returns-in-Err-commit_empty-clause-committed : goal.returns-in-Err-commit_empty-clause-committed
returns-in-Err-commit_empty-clause-committed g c = committed_err _ _ _ c.in-Err-commit_empty.ensures.committed
