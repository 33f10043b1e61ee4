use Rattle.std.proofs.Common.{◌-◌, false, List, ℕ, drop, length, subst, sym, take}
use Rattle.bdb_session.specs.Batches.{AreRun, pieces}
use Rattle.bdb_session.specs.Machine.{next_state}
use Rattle.bdb_session.specs.declared.event.ScriptEvent.TheVariants.{Piece}
use Rattle.bdb_session.proofs.BatchLemmas.{empty_is, first_line, none_run, stop_lines, then_lines}
use Rattle.bdb_session.proofs.BatchLists.{lines_alter, no_lines_alter, stop_alters}
use Rattle.bdb_session.proofs.session.Session.+run_lines.Goals as goal

pub returns-in-empty-clause-run : goal.returns-in-empty-clause-run
returns-in-empty-clause-run g t c = λ s a.
    let text = c.args.text.now.items in
    let now = g.K.Keeper.seen c.args.keeper.now in
    subst (λ (ls : List (List ℕ)). AreRun s (pieces ls) text text 0 false c.args.self.now now) (sym (empty_is c.args.lines.now c.in-empty.len_below)) (none_run s text c.args.self.now now a)

pub returns-in-Ok-clause-run : goal.returns-in-Ok-clause-run
returns-in-Ok-clause-run g t c = λ s a.
    let lines = c.args.lines.now in
    let line = c.as_slice.result.now in
    let one = c.in-Ok-true.ensures.run s a in
    then_lines s lines (take (length lines - 1) (drop 1 lines)) line c.in-Ok-true.field-0 c.args.text.now.items c.run_line.new.text.items c.run_lines.new.text.items c.in-Ok.ran.accepted
    c.in-Ok.ran.refused c.run_line.new.self c.run_lines.new.self (g.K.Keeper.seen c.run_line.new.keeper) (g.K.Keeper.seen c.run_lines.new.keeper)
    (first_line lines c.line-item.result line c.in-len1-up.len_at_least c.line-item.is c.as_slice.ensures) c.in-Ok-true.field-0-test one
    (c.in-Ok.ensures.run (next_state s (Piece line)) one.next)

pub returns-in-Ok-false-clause-run : goal.returns-in-Ok-false-clause-run
returns-in-Ok-false-clause-run g t c = λ s a.
    let lines = c.args.lines.now in
    let line = c.as_slice.result.now in
    stop_lines s lines (take (length lines - 1) (drop 1 lines)) line c.in-Ok-false.field-0 c.args.text.now.items c.run_line.new.text.items c.run_line.new.self
    (g.K.Keeper.seen c.run_line.new.keeper) (first_line lines c.line-item.result line c.in-len1-up.len_at_least c.line-item.is c.as_slice.ensures) c.in-Ok-false.field-0-test
    (c.in-Ok-false.ensures.run s a)

pub returns-in-empty-clause-altered : goal.returns-in-empty-clause-altered
returns-in-empty-clause-altered g t c = no_lines_alter c.args.lines.now c.args.self.now (g.K.Keeper.seen c.args.keeper.now) (empty_is c.args.lines.now c.in-empty.len_below)

pub returns-in-Ok-clause-altered : goal.returns-in-Ok-clause-altered
returns-in-Ok-clause-altered g t c =
    let lines = c.args.lines.now in
    let line = c.as_slice.result.now in
    lines_alter lines (take (length lines - 1) (drop 1 lines)) line c.args.self.now c.run_line.new.self c.run_lines.new.self (g.K.Keeper.seen c.args.keeper.now)
    (g.K.Keeper.seen c.run_line.new.keeper) (first_line lines c.line-item.result line c.in-len1-up.len_at_least c.line-item.is c.as_slice.ensures)
    (λ s a. (c.in-Ok-true.ensures.run s a).next) c.in-Ok-true.ensures.altered c.in-Ok.ensures.altered

pub returns-in-Ok-false-clause-altered : goal.returns-in-Ok-false-clause-altered
returns-in-Ok-false-clause-altered g t c =
    let lines = c.args.lines.now in
    let line = c.as_slice.result.now in
    stop_alters lines (take (length lines - 1) (drop 1 lines)) line c.in-Ok-false.field-0 c.args.self.now c.run_line.new.self (g.K.Keeper.seen c.args.keeper.now)
    (first_line lines c.line-item.result line c.in-len1-up.len_at_least c.line-item.is c.as_slice.ensures) c.in-Ok-false.field-0-test
    (λ s a. (c.in-Ok-false.ensures.run s a).accepted_is)
