use Rattle.std.proofs.Common.{◌∙◌, sym, subst}
use Rattle.bdb_base.specs.Bases.{empty_contents}
use Rattle.bdb_keep.specs.Tables.{Tables}
use Rattle.bdb_tables.specs.Stored.{Stores}
use Rattle.bdb_update.specs.StoredLaws.{HaveNoRows}
use Rattle.bdb_update.proofs.EmptyLemmas.{empty_has_none}
use Rattle.bdb_session.proofs.CommitLemmas.{not_begun, not_made, not_committed, committed}
use Rattle.bdb_session.proofs.open.commit_empty.Goals as goal

pub write_empty-requires-clause-empty : goal.write_empty-requires-clause-empty
write_empty-requires-clause-empty g c = subst (λ (t : Tables). HaveNoRows t) (sym (c.in-Ok.ensures.kept ∙ c.requires.empty)) empty_has_none

pub returns-in-Err-clause-committed : goal.returns-in-Err-clause-committed
returns-in-Err-clause-committed g c = not_begun _ _ _ c.requires.still c.in-Err.ensures

pub returns-in-Err-write_empty-clause-committed : goal.returns-in-Err-write_empty-clause-committed
returns-in-Err-write_empty-clause-committed g c =
    not_made _ _ _ _ _ _ c.requires.still c.in-Ok.ensures c.in-Err-write_empty.ensures.write.counts c.in-Err-write_empty.ensures.write.steps c.stop_from.ensures

pub returns-in-Err-commit-clause-committed : goal.returns-in-Err-commit-clause-committed
returns-in-Err-commit-clause-committed g c =
    not_committed _ _ _ _ _ _ _ c.requires.still c.in-Ok.ensures c.in-Ok-write_empty.ensures.write.counts c.in-Ok-write_empty.ensures.write.steps c.in-Err-commit.ensures

pub returns-in-Ok-commit-clause-stored : goal.returns-in-Ok-commit-clause-stored
returns-in-Ok-commit-clause-stored g c =
    subst (λ (t : Tables). Stores t empty_contents) (sym c.in-Ok-commit.ensures.kept) c.in-Ok-write_empty.ensures.stored

pub returns-in-Ok-commit-clause-committed : goal.returns-in-Ok-commit-clause-committed
returns-in-Ok-commit-clause-committed g c = committed _ _ _ _ _ _ _ c.in-Ok.ensures c.in-Ok-write_empty.ensures.write.counts c.in-Ok-write_empty.ensures.write.steps c.in-Ok-commit.ensures
