use Rattle.bdb_update.proofs.ReplaceLemmas.{some_come, replaced_keeps, replaced_through}
use Rattle.bdb_update.proofs.replacing.replace.Goals as goal

pub add_statements-requires-clause-base : goal.add_statements-requires-clause-base
add_statements-requires-clause-base g c =
    some_come (g.K.Keeper.seen c.args.keeper.now).kept (g.K.Keeper.seen c.drop_statements.new.keeper).kept c.args.counts.now c.drop_statements.new.counts c.args.gone.now c.args.come.now c.in-Ok.ensures.gone c.requires.base

pub returns-in-Ok-add_statements-clause-steps : goal.returns-in-Ok-add_statements-clause-steps
returns-in-Ok-add_statements-clause-steps g c =
    replaced_through (g.K.Keeper.seen c.args.keeper.now) (g.K.Keeper.seen c.drop_statements.new.keeper) (g.K.Keeper.seen c.add_statements.new.keeper) c.args.counts.now c.drop_statements.new.counts
    c.args.gone.now c.args.come.now c.in-Ok.ensures.gone c.in-Ok.ensures.steps c.in-Ok-add_statements.ensures.steps

pub returns-in-Ok-add_statements-clause-keeps : goal.returns-in-Ok-add_statements-clause-keeps
returns-in-Ok-add_statements-clause-keeps g c =
    replaced_keeps (g.K.Keeper.seen c.args.keeper.now) (g.K.Keeper.seen c.drop_statements.new.keeper) (g.K.Keeper.seen c.add_statements.new.keeper) c.args.counts.now c.drop_statements.new.counts
    c.args.gone.now c.args.come.now c.in-Ok.ensures.gone c.in-Ok.ensures.keeps c.in-Ok-add_statements.ensures.keeps
