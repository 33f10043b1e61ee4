use Rattle.std.proofs.Common.{subst}
use Rattle.bdb_keep.specs.Tables.{Tables}
use Rattle.bdb_update.specs.Keeping.{SameNumbers}
use Rattle.bdb_return.proofs.NameLemmas.{relation_got, relation_got_written, some_add_relation}
use Rattle.bdb_return.proofs.naming.add_last_relation.Goals as goal

pub add_relation-requires-clause-base : goal.add_relation-requires-clause-base
add_relation-requires-clause-base g c =
    some_add_relation (g.K.Keeper.seen c.args.keeper.now).kept (g.K.Keeper.seen c.next_relation.new.keeper).kept c.in-Ok.ensures.read.kept c.in-Ok.rel c.args.def.now c.in-Ok.ensures.next c.requires.base

pub returns-in-Ok-add_relation-clause-added : goal.returns-in-Ok-add_relation-clause-added
returns-in-Ok-add_relation-clause-added g c =
    relation_got (g.K.Keeper.seen c.args.keeper.now).kept (g.K.Keeper.seen c.next_relation.new.keeper).kept c.in-Ok.ensures.read.kept c.in-Ok.rel c.args.def.now c.in-Ok.ensures.next
    (g.K.Keeper.seen c.add_relation.new.keeper).kept c.in-Ok-add_relation.ensures.added

pub returns-in-Ok-add_relation-clause-writes : goal.returns-in-Ok-add_relation-clause-writes
returns-in-Ok-add_relation-clause-writes g c =
    relation_got_written (g.K.Keeper.seen c.args.keeper.now) (g.K.Keeper.seen c.next_relation.new.keeper) (g.K.Keeper.seen c.add_relation.new.keeper) c.args.def.now
    c.in-Ok.ensures.read.writes c.in-Ok-add_relation.ensures.writes

pub returns-in-Ok-add_relation-clause-keeps : goal.returns-in-Ok-add_relation-clause-keeps
returns-in-Ok-add_relation-clause-keeps g c =
    subst (λ (t : Tables). SameNumbers t (g.K.Keeper.seen c.add_relation.new.keeper).kept) c.in-Ok.ensures.read.kept c.in-Ok-add_relation.ensures.keeps
