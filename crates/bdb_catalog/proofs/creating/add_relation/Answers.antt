use Rattle.bdb_catalog.proofs.CreatingLemmas.{relation_may_be, relation_added, relation_keeps}
use Rattle.bdb_catalog.proofs.creating.add_relation.Goals as goal

pub put-requires-clause-row : goal.put-requires-clause-row
put-requires-clause-row g c = relation_may_be (g.K.Keeper.seen c.args.keeper.now).kept c.args.rel c.args.def.now c.requires.base

pub returns-in-Ok-clause-added : goal.returns-in-Ok-clause-added
returns-in-Ok-clause-added g c =
    relation_added (g.K.Keeper.seen c.args.keeper.now).kept (g.K.Keeper.seen c.put.new.keeper).kept c.args.rel c.args.def.now c.in-Ok.ensures.key_fits c.in-Ok.ensures.row_fits c.in-Ok.ensures.kept

pub returns-in-Ok-clause-keeps : goal.returns-in-Ok-clause-keeps
returns-in-Ok-clause-keeps g c =
    relation_keeps (g.K.Keeper.seen c.args.keeper.now).kept (g.K.Keeper.seen c.put.new.keeper).kept c.args.rel c.args.def.now c.in-Ok.ensures.kept
