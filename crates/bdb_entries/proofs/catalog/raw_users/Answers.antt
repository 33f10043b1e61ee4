use Rattle.bdb_entries.proofs.NumberedLemmas.{tells_users}
use Rattle.bdb_entries.proofs.ReadLemmas.{some_told}
use Rattle.bdb_entries.proofs.catalog.raw_users.Goals as goal

pub returns-in-Ok-clause-users : goal.returns-in-Ok-clause-users
returns-in-Ok-clause-users g c =
    tells_users (g.K.Keeper.seen c.args.keeper.now).kept c.in-Ok-Some.rows.items c.in-Ok.users
    (some_told _ _ c.in-Ok-Some.field-0 c.in-Ok-Some.rows c.in-Ok-Some.field-0-is c.in-Ok-Some.ensures.rows) c.in-Ok.ensures
