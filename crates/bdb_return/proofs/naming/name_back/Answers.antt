use Rattle.std.proofs.Common.{refl, subst}
use Rattle.bdb_update.proofs.StayLemmas.{same_itself}
use Rattle.bdb_return.specs.Naming.{SomeMayLoseName}
use Rattle.bdb_return.proofs.NameLemmas.{nothing_lost, nothing_lost_written, relation_lost_written, some_relation_last, some_user_last, user_lost_written}
use Rattle.bdb_return.proofs.naming.name_back.Goals as goal

pub returns-in-Nothing-clause-back : goal.returns-in-Nothing-clause-back
returns-in-Nothing-clause-back g c = nothing_lost (g.K.Keeper.seen c.args.keeper.now).kept (g.K.Keeper.seen c.args.keeper.now).kept c.args.named.now refl c.in-Nothing.is

pub drop_last_user-requires-clause-base : goal.drop_last_user-requires-clause-base
drop_last_user-requires-clause-base g c =
    let t = (g.K.Keeper.seen c.args.keeper.now).kept in
    some_user_last t t c.args.named.now _ c.in-UserAdded.is c.requires.base

pub drop_last_relation-requires-clause-base : goal.drop_last_relation-requires-clause-base
drop_last_relation-requires-clause-base g c =
    let t = (g.K.Keeper.seen c.args.keeper.now).kept in
    some_relation_last t t c.args.named.now _ c.in-RelationAdded.is c.requires.base

pub revive_user-requires-clause-base : goal.revive_user-requires-clause-base
revive_user-requires-clause-base g c = subst (SomeMayLoseName (g.K.Keeper.seen c.args.keeper.now).kept) c.in-UserDropped.is c.requires.base

pub returns-in-Nothing-clause-writes : goal.returns-in-Nothing-clause-writes
returns-in-Nothing-clause-writes g c =
    let old = g.K.Keeper.seen c.args.keeper.now in
    nothing_lost_written old old c.args.named.now refl c.in-Nothing.is

pub returns-in-Ok-clause-writes : goal.returns-in-Ok-clause-writes
returns-in-Ok-clause-writes g c =
    user_lost_written (g.K.Keeper.seen c.args.keeper.now) (g.K.Keeper.seen c.drop_last_user.new.keeper) c.args.named.now _ c.in-UserAdded.is c.in-Ok.ensures.writes

pub returns-in-Ok-drop_last_relation-clause-writes : goal.returns-in-Ok-drop_last_relation-clause-writes
returns-in-Ok-drop_last_relation-clause-writes g c =
    relation_lost_written (g.K.Keeper.seen c.args.keeper.now) (g.K.Keeper.seen c.drop_last_relation.new.keeper) c.args.named.now _ c.in-RelationAdded.is c.in-Ok-drop_last_relation.ensures.writes

pub returns-in-Nothing-clause-keeps : goal.returns-in-Nothing-clause-keeps
returns-in-Nothing-clause-keeps g c = same_itself (g.K.Keeper.seen c.args.keeper.now).kept
