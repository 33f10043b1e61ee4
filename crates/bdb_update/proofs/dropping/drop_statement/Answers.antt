use Rattle.std.proofs.Common.{Option, Ok, subst}
use Rattle.bdb_canon.specs.declared.sizes.Counts.{Counts}
use Rattle.bdb_update.specs.Leaving.{IsTryingDrop}
use Rattle.bdb_update.proofs.dropping.drop_statement.Goals as goal

pub returns-in-Ok-Some-clause-dropped : goal.returns-in-Ok-Some-clause-dropped
returns-in-Ok-Some-clause-dropped g c b may =
    let old = g.K.Keeper.seen c.args.keeper.now in
    let new = g.K.Keeper.seen c.try_drop.new.keeper in
    let j = subst (λ (o : Option Counts). IsTryingDrop b c.args.stmt.now old new c.args.counts.now (Ok o)) c.in-Ok-Some.field-0-is (c.in-Ok-Some.ensures.tried b may) in
    record { there = j.there; becomes = record { stored = j.stored; counted = j.counted; goes_on = j.goes_on } }

pub returns-in-Ok-None-clause-dropped : goal.returns-in-Ok-None-clause-dropped
returns-in-Ok-None-clause-dropped g c b may =
    let old = g.K.Keeper.seen c.args.keeper.now in
    let new = g.K.Keeper.seen c.try_drop.new.keeper in
    subst (λ (o : Option Counts). IsTryingDrop b c.args.stmt.now old new c.args.counts.now (Ok o)) c.in-Ok-None.field-0-is (c.in-Ok-None.ensures.tried b may)
