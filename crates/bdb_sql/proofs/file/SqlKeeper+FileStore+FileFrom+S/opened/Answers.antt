use Rattle.sqlite_wal.specs.Files.{image_at}
use Rattle.sqlite.specs.Files.{over_files}
use Rattle.bdb_sql.proofs.OpenLemmas.{opened_whole}
use Rattle.bdb_sql.proofs.StayLemmas.{opens_there}
use Rattle.bdb_sql.proofs.file.SqlKeeper+FileStore+FileFrom+S.opened.Goals as goal

pub returns-in-Ok-clause-opens : goal.returns-in-Ok-clause-opens
returns-in-Ok-clause-opens g c works = opens_there over_files c.in-Ok.conn c.over.result.conn (λ clean. (c.in-Ok.ensures.opened clean).0) (c.over.ensures.same works) c.over.ensures.survives

pub returns-in-Ok-clause-tied : goal.returns-in-Ok-clause-tied
returns-in-Ok-clause-tied g c works =
    c.over.ensures.adopted works (λ clean. opened_whole (image_at g.S.Start) c.in-Ok.conn (c.in-Ok.ensures.opened clean) (c.in-Ok.ensures.found clean) (c.over.ensures.found works))
