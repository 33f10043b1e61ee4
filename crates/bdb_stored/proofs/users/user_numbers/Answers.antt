use Rattle.std.proofs.Common.{◌∙◌, ap, subst, sym, arith}
use Rattle.bdb_base.specs.Queries.{user_numbers}
use Rattle.bdb_stored.specs.Structure.{live_keys}
use Rattle.bdb_catalog.specs.Opening.{IsPartOf}
use Rattle.bdb_stored.proofs.UserLemmas.{places_read, users_told}
use Rattle.bdb_stored.proofs.users.user_numbers.Goals as goal

pub returns-in-Ok-live_keys-clause-numbers : goal.returns-in-Ok-live_keys-clause-numbers
returns-in-Ok-live_keys-clause-numbers g c =
    let t = (g.K.Keeper.seen c.args.keeper.now).kept in
    subst (IsPartOf (λ b. user_numbers b.catalog.users) t) (sym (c.in-Ok-live_keys.ensures ∙ ap live_keys c.deref.ensures.value)) (users_told t c.in-Ok.rows.items c.in-Ok.ensures.rows)

pub returns-in-Ok-live_keys-clause-reads : goal.returns-in-Ok-live_keys-clause-reads
returns-in-Ok-live_keys-clause-reads g c b v =
    let many = places_read (g.K.Keeper.seen c.args.keeper.now).kept c.in-Ok.rows.items c.in-Ok.ensures.rows b v in
    omega (arith, many, c.in-Ok.ensures.reads)
