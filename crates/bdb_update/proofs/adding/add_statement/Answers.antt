use Rattle.std.proofs.Common.{Option, Ok, subst}
use Rattle.bdb_canon.specs.declared.sizes.Counts.{Counts}
use Rattle.bdb_update.specs.Trying.{IsTrying}
use Rattle.bdb_update.proofs.adding.add_statement.Goals as goal

pub returns-in-Ok-Some-clause-added : goal.returns-in-Ok-Some-clause-added
returns-in-Ok-Some-clause-added g c b may =
    let old = g.K.Keeper.seen c.args.keeper.now in
    let new = g.K.Keeper.seen c.try_add.new.keeper in
    let j = subst (λ (o : Option Counts). IsTrying b c.args.stmt.now old new c.args.counts.now (Ok o)) c.in-Ok-Some.field-0-is (c.in-Ok-Some.ensures.tried b may) in
    record { fresh = j.fresh; apart = j.apart; room = j.room; becomes = record { stored = j.stored; counted = j.counted; goes_on = j.goes_on } }

pub returns-in-Ok-None-clause-added : goal.returns-in-Ok-None-clause-added
returns-in-Ok-None-clause-added g c b may =
    let old = g.K.Keeper.seen c.args.keeper.now in
    let new = g.K.Keeper.seen c.try_add.new.keeper in
    subst (λ (o : Option Counts). IsTrying b c.args.stmt.now old new c.args.counts.now (Ok o)) c.in-Ok-None.field-0-is (c.in-Ok-None.ensures.tried b may)
