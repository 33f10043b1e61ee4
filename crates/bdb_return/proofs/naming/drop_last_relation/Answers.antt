use Rattle.std.proofs.Common.{◌-◌}
use Rattle.bdb_val.proofs.Calls.{changing_err_write, gone_read}
use Rattle.bdb_return.proofs.NameLemmas.{last_relation_keeps, last_relation_written}
use Rattle.bdb_return.proofs.RelationLemmas.{last_relation_lost, some_next}
use Rattle.bdb_return.proofs.naming.drop_last_relation.Goals as goal

pub overflow_sub-next : goal.overflow_sub-next
overflow_sub-next g c = some_next (g.K.Keeper.seen c.args.keeper.now).kept c.in-Ok.next c.in-Ok.ensures.next c.requires.base

pub returns-in-Ok-drop_row-clause-lost : goal.returns-in-Ok-drop_row-clause-lost
returns-in-Ok-drop_row-clause-lost g c =
    last_relation_lost (g.K.Keeper.seen c.args.keeper.now).kept (g.K.Keeper.seen c.next_relation.new.keeper).kept (g.K.Keeper.seen c.drop_row.new.keeper).kept c.in-Ok.next
    c.in-Ok.ensures.read.kept c.in-Ok.ensures.next c.in-Ok-drop_row.ensures.key_fits c.in-Ok-drop_row.ensures.kept

pub returns-in-Err-drop_row-clause-changing : goal.returns-in-Err-drop_row-clause-changing
returns-in-Err-drop_row-clause-changing g c = changing_err_write _ _ _ _ _ (gone_read _ _ _ _ c.in-Ok.ensures.read) c.in-Err-drop_row.ensures.write

pub returns-in-Ok-drop_row-clause-writes : goal.returns-in-Ok-drop_row-clause-writes
returns-in-Ok-drop_row-clause-writes g c =
    last_relation_written (g.K.Keeper.seen c.args.keeper.now) (g.K.Keeper.seen c.next_relation.new.keeper) (g.K.Keeper.seen c.drop_row.new.keeper)
    c.in-Ok.ensures.read.writes c.in-Ok-drop_row.ensures.writes

pub returns-in-Ok-drop_row-clause-keeps : goal.returns-in-Ok-drop_row-clause-keeps
returns-in-Ok-drop_row-clause-keeps g c =
    last_relation_keeps (g.K.Keeper.seen c.args.keeper.now).kept (g.K.Keeper.seen c.next_relation.new.keeper).kept (g.K.Keeper.seen c.drop_row.new.keeper).kept (c.in-Ok.next - 1)
    c.in-Ok.ensures.read.kept c.in-Ok-drop_row.ensures.kept
