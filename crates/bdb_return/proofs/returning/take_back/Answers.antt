use Rattle.bdb_return.proofs.StepLemmas.{back_through, some_come_back, some_go_back, some_lose, went_back}
use Rattle.bdb_return.proofs.returning.take_back.Goals as goal

pub drop_statements-requires-clause-base : goal.drop_statements-requires-clause-base
drop_statements-requires-clause-base g c =
    some_go_back (g.K.Keeper.seen c.args.keeper.now).kept c.args.counts.now c.args.change.now c.as_slice.result.now c.as_slice.ensures
    c.requires.base

pub name_back-requires-clause-base : goal.name_back-requires-clause-base
name_back-requires-clause-base g c =
    some_lose (g.K.Keeper.seen c.args.keeper.now).kept c.args.counts.now c.args.change.now c.as_slice.result.now c.as_slice.ensures
    (g.K.Keeper.seen c.drop_statements.new.keeper).kept c.drop_statements.new.counts c.in-Ok.ensures.gone c.requires.base

pub add_statements-requires-clause-base : goal.add_statements-requires-clause-base
add_statements-requires-clause-base g c =
    some_come_back (g.K.Keeper.seen c.args.keeper.now).kept c.args.counts.now c.args.change.now c.as_slice.result.now c.as_slice.ensures
    (g.K.Keeper.seen c.drop_statements.new.keeper).kept c.drop_statements.new.counts c.in-Ok.ensures.gone
    (g.K.Keeper.seen c.name_back.new.keeper).kept c.in-Ok-name_back.ensures.back c.as_slice-2.result.now c.as_slice-2.ensures c.requires.base

pub returns-in-Ok-add_statements-clause-back : goal.returns-in-Ok-add_statements-clause-back
returns-in-Ok-add_statements-clause-back g c =
    went_back (g.K.Keeper.seen c.args.keeper.now).kept c.args.counts.now c.args.change.now c.as_slice.result.now c.as_slice.ensures
    (g.K.Keeper.seen c.drop_statements.new.keeper).kept c.drop_statements.new.counts c.in-Ok.ensures.gone
    (g.K.Keeper.seen c.name_back.new.keeper).kept c.in-Ok-name_back.ensures.back c.as_slice-2.result.now c.as_slice-2.ensures
    (g.K.Keeper.seen c.add_statements.new.keeper).kept c.add_statements.new.counts c.in-Ok-add_statements.ensures.come

pub returns-in-Ok-add_statements-clause-steps : goal.returns-in-Ok-add_statements-clause-steps
returns-in-Ok-add_statements-clause-steps g c =
    back_through (g.K.Keeper.seen c.args.keeper.now) (g.K.Keeper.seen c.drop_statements.new.keeper) (g.K.Keeper.seen c.name_back.new.keeper)
    (g.K.Keeper.seen c.add_statements.new.keeper) c.args.counts.now c.drop_statements.new.counts c.args.change.now
    c.as_slice.result.now c.as_slice-2.result.now c.as_slice.ensures c.as_slice-2.ensures c.in-Ok.ensures.gone c.in-Ok-name_back.ensures.back
    c.in-Ok.ensures.steps c.in-Ok-name_back.ensures.writes c.in-Ok-name_back.ensures.keeps c.in-Ok-add_statements.ensures.steps
