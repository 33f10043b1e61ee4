use Rattle.bdb_return.proofs.PlaceLemmas.{leave_written, some_may_lose, user_leaves}
use Rattle.bdb_return.proofs.places.leave_place.Goals as goal

pub empty_place-requires-clause-base : goal.empty_place-requires-clause-base
empty_place-requires-clause-base g c = some_may_lose (g.K.Keeper.seen c.args.keeper.now).kept c.args.uid c.requires.base

pub returns-in-Ok-clause-left : goal.returns-in-Ok-clause-left
returns-in-Ok-clause-left g c = user_leaves (g.K.Keeper.seen c.args.keeper.now).kept (g.K.Keeper.seen c.empty_place.new.keeper).kept c.args.uid c.in-Ok.ensures.lost

pub returns-in-Ok-clause-writes : goal.returns-in-Ok-clause-writes
returns-in-Ok-clause-writes g c = leave_written (g.K.Keeper.seen c.args.keeper.now) (g.K.Keeper.seen c.empty_place.new.keeper) c.args.uid c.in-Ok.ensures.writes
