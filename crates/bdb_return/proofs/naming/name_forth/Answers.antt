use Rattle.std.proofs.Common.{refl, subst}
use Rattle.bdb_update.proofs.StayLemmas.{same_itself}
use Rattle.bdb_return.specs.Naming.{SomeMayGetName}
use Rattle.bdb_return.proofs.NameLemmas.{nothing_got, nothing_got_written, some_leaves, user_left, user_left_written}
use Rattle.bdb_return.proofs.naming.name_forth.Goals as goal

pub returns-in-Nothing-clause-forth : goal.returns-in-Nothing-clause-forth
returns-in-Nothing-clause-forth g c = nothing_got (g.K.Keeper.seen c.args.keeper.now).kept (g.K.Keeper.seen c.args.keeper.now).kept c.args.named.now refl c.in-Nothing.is

pub add_last_user-requires-clause-base : goal.add_last_user-requires-clause-base
add_last_user-requires-clause-base g c = subst (SomeMayGetName (g.K.Keeper.seen c.args.keeper.now).kept) c.in-UserAdded.is c.requires.base

pub add_last_relation-requires-clause-base : goal.add_last_relation-requires-clause-base
add_last_relation-requires-clause-base g c = subst (SomeMayGetName (g.K.Keeper.seen c.args.keeper.now).kept) c.in-RelationAdded.is c.requires.base

pub leave_place-requires-clause-base : goal.leave_place-requires-clause-base
leave_place-requires-clause-base g c =
    let t = (g.K.Keeper.seen c.args.keeper.now).kept in
    some_leaves t t c.args.named.now _ _ c.in-UserDropped.is c.requires.base

pub returns-in-Ok-leave_place-clause-forth : goal.returns-in-Ok-leave_place-clause-forth
returns-in-Ok-leave_place-clause-forth g c =
    user_left (g.K.Keeper.seen c.args.keeper.now).kept (g.K.Keeper.seen c.leave_place.new.keeper).kept c.args.named.now _ _ c.in-UserDropped.is c.in-Ok-leave_place.ensures.left

pub returns-in-Nothing-clause-writes : goal.returns-in-Nothing-clause-writes
returns-in-Nothing-clause-writes g c =
    let old = g.K.Keeper.seen c.args.keeper.now in
    nothing_got_written old old c.args.named.now refl c.in-Nothing.is

pub returns-in-Ok-leave_place-clause-writes : goal.returns-in-Ok-leave_place-clause-writes
returns-in-Ok-leave_place-clause-writes g c =
    user_left_written (g.K.Keeper.seen c.args.keeper.now) (g.K.Keeper.seen c.leave_place.new.keeper) c.args.named.now _ _ c.in-UserDropped.is c.in-Ok-leave_place.ensures.writes

pub returns-in-Nothing-clause-keeps : goal.returns-in-Nothing-clause-keeps
returns-in-Nothing-clause-keeps g c = same_itself (g.K.Keeper.seen c.args.keeper.now).kept
