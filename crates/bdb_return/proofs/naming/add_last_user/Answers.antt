use Rattle.std.proofs.Common.{subst}
use Rattle.bdb_keep.specs.Tables.{Tables}
use Rattle.bdb_update.specs.Keeping.{SameNumbers}
use Rattle.bdb_return.proofs.NameLemmas.{some_add_user, user_got, user_got_written}
use Rattle.bdb_return.proofs.naming.add_last_user.Goals as goal

pub add_user-requires-clause-base : goal.add_user-requires-clause-base
add_user-requires-clause-base g c =
    some_add_user (g.K.Keeper.seen c.args.keeper.now).kept (g.K.Keeper.seen c.next_user.new.keeper).kept c.in-Ok.ensures.read.kept c.in-Ok.uid c.args.name.now c.in-Ok.ensures.next c.requires.base

pub returns-in-Ok-add_user-clause-added : goal.returns-in-Ok-add_user-clause-added
returns-in-Ok-add_user-clause-added g c =
    user_got (g.K.Keeper.seen c.args.keeper.now).kept (g.K.Keeper.seen c.next_user.new.keeper).kept c.in-Ok.ensures.read.kept c.in-Ok.uid c.args.name.now c.in-Ok.ensures.next
    (g.K.Keeper.seen c.add_user.new.keeper).kept c.in-Ok-add_user.ensures.added

pub returns-in-Ok-add_user-clause-writes : goal.returns-in-Ok-add_user-clause-writes
returns-in-Ok-add_user-clause-writes g c =
    user_got_written (g.K.Keeper.seen c.args.keeper.now) (g.K.Keeper.seen c.next_user.new.keeper) (g.K.Keeper.seen c.add_user.new.keeper) c.in-Ok.uid c.args.name.now
    c.in-Ok.ensures.read.kept c.in-Ok.ensures.read.writes c.in-Ok.ensures.next c.in-Ok-add_user.ensures.writes

pub returns-in-Ok-add_user-clause-keeps : goal.returns-in-Ok-add_user-clause-keeps
returns-in-Ok-add_user-clause-keeps g c =
    subst (λ (t : Tables). SameNumbers t (g.K.Keeper.seen c.add_user.new.keeper).kept) c.in-Ok.ensures.read.kept c.in-Ok-add_user.ensures.keeps
