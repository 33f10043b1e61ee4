use Rattle.std.proofs.Common.{ℕ, Vec, Global, Option, subst}
use Rattle.std.specs.Prelude.{MatchOption}
use Rattle.bdb_worlds.specs.Shrinking.{AreAlong, IsNoState}
use Rattle.bdb_worlds.proofs.ShrinkLemmas.{whole_went}
use Rattle.bdb_worlds.proofs.dropping.drop_states.Goals as goal

pub returns-in-Ok-clause-unless : goal.returns-in-Ok-clause-unless
returns-in-Ok-clause-unless g c =
    let t = (g.K.Keeper.seen c.args.keeper.now).kept in
    let path = c.args.path.now in
    let along : AreAlong t path c.in-Ok-Some.numbers.items =
    subst (λ (o : Option (Vec ℕ Global)). MatchOption o (IsNoState t path) (λ v. AreAlong t path v.items)) c.in-Ok-Some.field-0-is c.in-Ok-Some.ensures.found in
    whole_went t (g.K.Keeper.seen c.drop_dead.new.keeper).kept path c.in-Ok-Some.numbers.items c.in-Ok.gone.items along
