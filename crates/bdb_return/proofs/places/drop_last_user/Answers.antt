use Rattle.bdb_return.proofs.PlaceLemmas.{last_user_keeps, last_user_lost, last_user_stored, last_user_written, some_next}
use Rattle.bdb_return.proofs.places.drop_last_user.Goals as goal

pub drop_place-requires-clause-base : goal.drop_place-requires-clause-base
drop_place-requires-clause-base g c = last_user_stored (g.K.Keeper.seen c.args.keeper.now).kept (g.K.Keeper.seen c.next_user.new.keeper).kept c.in-Ok.ensures.read.kept c.requires.base

pub returns-in-Ok-drop_place-clause-lost : goal.returns-in-Ok-drop_place-clause-lost
returns-in-Ok-drop_place-clause-lost g c =
    last_user_lost (g.K.Keeper.seen c.args.keeper.now).kept (g.K.Keeper.seen c.next_user.new.keeper).kept (g.K.Keeper.seen c.drop_place.new.keeper).kept c.in-Ok.next
    c.in-Ok.ensures.read.kept c.in-Ok.ensures.next c.in-Ok-drop_place.ensures.lost

pub overflow_sub-next : goal.overflow_sub-next
overflow_sub-next g c = some_next (g.K.Keeper.seen c.args.keeper.now).kept c.in-Ok.next c.in-Ok.ensures.next c.requires.base

pub returns-in-Ok-drop_place-clause-writes : goal.returns-in-Ok-drop_place-clause-writes
returns-in-Ok-drop_place-clause-writes g c =
    last_user_written (g.K.Keeper.seen c.args.keeper.now) (g.K.Keeper.seen c.next_user.new.keeper) (g.K.Keeper.seen c.drop_place.new.keeper) c.in-Ok.next
    c.in-Ok.ensures.read.kept c.in-Ok.ensures.read.writes c.in-Ok.ensures.next c.in-Ok-drop_place.ensures.writes

pub returns-in-Ok-drop_place-clause-keeps : goal.returns-in-Ok-drop_place-clause-keeps
returns-in-Ok-drop_place-clause-keeps g c =
    last_user_keeps (g.K.Keeper.seen c.args.keeper.now).kept (g.K.Keeper.seen c.next_user.new.keeper).kept (g.K.Keeper.seen c.drop_place.new.keeper).kept c.in-Ok.next
    c.in-Ok.ensures.read.kept c.in-Ok.ensures.next c.in-Ok-drop_place.ensures.keeps c.requires.base
