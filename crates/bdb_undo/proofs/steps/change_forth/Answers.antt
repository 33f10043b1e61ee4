use Rattle.std.proofs.Common.{rules}
use Rattle.bdb_undo.proofs.ChangeLemmas.{forth_can, forth_taken, forth_named, forth_sorted, forth_valid, forth_is}
use Rattle.bdb_undo.proofs.steps.change_forth.Goals as goal

pub name_forth-requires-clause-can : goal.name_forth-requires-clause-can
name_forth-requires-clause-can c = forth_can c.args.change.now c.args.base.now c.requires.0 c.take_each.new.base _ c.requires.1 c.take_each.ensures

pub name_forth-requires-clause-valid : goal.name_forth-requires-clause-valid
name_forth-requires-clause-valid c = forth_taken c.args.change.now c.args.base.now c.requires.0 c.take_each.new.base c.as_slice.result.now c.requires.1 c.as_slice.ensures c.take_each.ensures

pub put_each-requires-clause-sorted : goal.put_each-requires-clause-sorted
put_each-requires-clause-sorted c =
    let named = forth_named c.args.change.now c.args.base.now c.take_each.new.base c.name_forth.new.base c.as_slice.result.now c.as_slice.ensures c.take_each.ensures c.in_ok-name_forth.ensures in
    forth_sorted c.args.change.now c.args.base.now c.requires.0 c.name_forth.new.base c.requires.1 named

pub put_each-requires-clause-valid : goal.put_each-requires-clause-valid
put_each-requires-clause-valid c =
    let named = forth_named c.args.change.now c.args.base.now c.take_each.new.base c.name_forth.new.base c.as_slice.result.now c.as_slice.ensures c.take_each.ensures c.in_ok-name_forth.ensures in
    forth_valid c.args.change.now c.args.base.now c.requires.0 c.name_forth.new.base c.as_slice-2.result.now c.requires.1 c.as_slice-2.ensures named

pub returns : goal.returns
returns c = λ b l. forth_is c.args.change.now c.args.base.now b c.put_each.new.base l (search rules)
