use Rattle.std.proofs.Common.{rules}
use Rattle.bdb_undo.proofs.ChangeLemmas.{back_can, back_last, back_taken, back_named, back_sorted, back_valid, back_is}
use Rattle.bdb_undo.proofs.steps.change_back.Goals as goal

pub name_back-requires-clause-can : goal.name_back-requires-clause-can
name_back-requires-clause-can c = back_can c.args.change.now c.requires.0 c.args.base.now c.take_each.new.base _ c.requires.1 c.take_each.ensures

pub name_back-requires-clause-last : goal.name_back-requires-clause-last
name_back-requires-clause-last c = back_last c.args.change.now c.requires.0 c.args.base.now c.take_each.new.base _ c.requires.1 c.take_each.ensures

pub name_back-requires-clause-valid : goal.name_back-requires-clause-valid
name_back-requires-clause-valid c = back_taken c.args.change.now c.requires.0 c.args.base.now c.take_each.new.base c.as_slice.result.now c.requires.1 c.as_slice.ensures c.take_each.ensures

pub put_each-requires-clause-sorted : goal.put_each-requires-clause-sorted
put_each-requires-clause-sorted c =
    let named = back_named c.args.change.now c.args.base.now c.take_each.new.base c.name_back.new.base c.as_slice.result.now c.as_slice.ensures c.take_each.ensures c.in_ok-name_back.ensures in
    back_sorted c.args.change.now c.requires.0 c.args.base.now c.name_back.new.base c.requires.1 named

pub put_each-requires-clause-valid : goal.put_each-requires-clause-valid
put_each-requires-clause-valid c =
    let named = back_named c.args.change.now c.args.base.now c.take_each.new.base c.name_back.new.base c.as_slice.result.now c.as_slice.ensures c.take_each.ensures c.in_ok-name_back.ensures in
    back_valid c.args.change.now c.requires.0 c.args.base.now c.name_back.new.base c.as_slice-2.result.now c.requires.1 c.as_slice-2.ensures named

pub returns : goal.returns
returns c = λ a l. back_is c.args.change.now a c.args.base.now c.put_each.new.base l (search rules)
