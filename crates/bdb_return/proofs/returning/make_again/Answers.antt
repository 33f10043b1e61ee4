use Rattle.bdb_return.proofs.StepLemmas.{forth_through, some_come_forth, some_get, some_go_forth, went_forth}
use Rattle.bdb_return.proofs.returning.make_again.Goals as goal

pub drop_statements-requires-clause-base : goal.drop_statements-requires-clause-base
drop_statements-requires-clause-base g c =
    some_go_forth (g.K.Keeper.seen c.args.keeper.now).kept c.args.counts.now c.args.change.now c.as_slice.result.now c.as_slice.ensures
    c.requires.base

pub name_forth-requires-clause-base : goal.name_forth-requires-clause-base
name_forth-requires-clause-base g c =
    some_get (g.K.Keeper.seen c.args.keeper.now).kept c.args.counts.now c.args.change.now c.as_slice.result.now c.as_slice.ensures
    (g.K.Keeper.seen c.drop_statements.new.keeper).kept c.drop_statements.new.counts c.in-Ok.ensures.gone c.requires.base

pub add_statements-requires-clause-base : goal.add_statements-requires-clause-base
add_statements-requires-clause-base g c =
    some_come_forth (g.K.Keeper.seen c.args.keeper.now).kept c.args.counts.now c.args.change.now c.as_slice.result.now c.as_slice.ensures
    (g.K.Keeper.seen c.drop_statements.new.keeper).kept c.drop_statements.new.counts c.in-Ok.ensures.gone
    (g.K.Keeper.seen c.name_forth.new.keeper).kept c.in-Ok-name_forth.ensures.forth c.as_slice-2.result.now c.as_slice-2.ensures c.requires.base

pub returns-in-Ok-add_statements-clause-forth : goal.returns-in-Ok-add_statements-clause-forth
returns-in-Ok-add_statements-clause-forth g c =
    went_forth (g.K.Keeper.seen c.args.keeper.now).kept c.args.counts.now c.args.change.now c.as_slice.result.now c.as_slice.ensures
    (g.K.Keeper.seen c.drop_statements.new.keeper).kept c.drop_statements.new.counts c.in-Ok.ensures.gone
    (g.K.Keeper.seen c.name_forth.new.keeper).kept c.in-Ok-name_forth.ensures.forth c.as_slice-2.result.now c.as_slice-2.ensures
    (g.K.Keeper.seen c.add_statements.new.keeper).kept c.add_statements.new.counts c.in-Ok-add_statements.ensures.come

pub returns-in-Ok-add_statements-clause-steps : goal.returns-in-Ok-add_statements-clause-steps
returns-in-Ok-add_statements-clause-steps g c =
    forth_through (g.K.Keeper.seen c.args.keeper.now) (g.K.Keeper.seen c.drop_statements.new.keeper) (g.K.Keeper.seen c.name_forth.new.keeper)
    (g.K.Keeper.seen c.add_statements.new.keeper) c.args.counts.now c.drop_statements.new.counts c.args.change.now
    c.as_slice.result.now c.as_slice-2.result.now c.as_slice.ensures c.as_slice-2.ensures c.in-Ok.ensures.gone c.in-Ok-name_forth.ensures.forth
    c.in-Ok.ensures.steps c.in-Ok-name_forth.ensures.writes c.in-Ok-name_forth.ensures.keeps c.in-Ok-add_statements.ensures.steps
