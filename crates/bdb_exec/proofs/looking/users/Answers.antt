use Rattle.std.proofs.Common.{◌∙◌, ◌+◌, ◌≤◌, subst}
use Rattle.bdb_tables.proofs.Held.{user_fits}
use Rattle.bdb_exec.proofs.LookingLemmas.{users_are, places_many}
use Rattle.bdb_exec.proofs.looking.users.Goals as goal

pub rows_under-requires : goal.rows_under-requires
rows_under-requires g c = record { grammar = user_fits (g.K.Keeper.seen c.args.keeper.now).kept c.requires.run.grammar }

pub returns-in-Ok-users_of-clause-users : goal.returns-in-Ok-users_of-clause-users
returns-in-Ok-users_of-clause-users g c =
    c.in-Ok-users_of.ensures ∙ users_are (g.K.Keeper.seen c.args.keeper.now).kept c.in-Ok.entries.items c.in-Ok.ensures.rows

pub returns-in-Ok-users_of-clause-reads : goal.returns-in-Ok-users_of-clause-reads
returns-in-Ok-users_of-clause-reads g c =
    let many = places_many (g.K.Keeper.seen c.args.keeper.now).kept c.in-Ok.entries.items c.in-Ok.ensures.rows in
    subst (λ n. (g.K.Keeper.seen c.rows_under.new.keeper).reads ≤ (g.K.Keeper.seen c.args.keeper.now).reads + (n + 1)) many c.in-Ok.ensures.reads
