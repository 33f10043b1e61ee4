use Rattle.std.proofs.Common.{Option, ℕ, subst}
use Rattle.bdb_tables.specs.Codec.{HasAt}
use Rattle.bdb_tables.specs.InUse.{tuple_ix_codec}
use Rattle.bdb_update.proofs.ElsewhereLemmas.{fresh_none, fresh_some}
use Rattle.bdb_update.proofs.elsewhere.is_fresh.Goals as goal

pub returns-in-Ok-Some-clause-fresh : goal.returns-in-Ok-Some-clause-fresh
returns-in-Ok-Some-clause-fresh g c =
    let t = (g.K.Keeper.seen c.args.keeper.now).kept in
    fresh_some t c.args.tuple.now c.in-Ok-Some.ensures.fits _ (subst (λ (o : Option ℕ). HasAt tuple_ix_codec t c.args.tuple.now o) c.in-Ok-Some.field-0-is c.in-Ok-Some.ensures.found)

pub returns-in-Ok-None-clause-fresh : goal.returns-in-Ok-None-clause-fresh
returns-in-Ok-None-clause-fresh g c =
    let t = (g.K.Keeper.seen c.args.keeper.now).kept in
    fresh_none t c.args.tuple.now c.in-Ok-None.ensures.fits (subst (λ (o : Option ℕ). HasAt tuple_ix_codec t c.args.tuple.now o) c.in-Ok-None.field-0-is c.in-Ok-None.ensures.found)
