use Rattle.std.proofs.Common.{◌∙◌, ap, sym}
use Rattle.bdb_render.specs.declared.refusal.Refusal.TheVariants.{NoUndo, NoRedo}
use Rattle.bdb_undo.specs.Timelines.{redone, undone}
use Rattle.bdb_session.specs.Following.{moved_by, next_on, outcome_on, said_next, said_outcome}
use Rattle.bdb_session.specs.Machine.{command_outcome}
use Rattle.bdb_session.specs.Outcome.{start_from}
use Rattle.bdb_session.specs.Undoing.{led, stepped}
use Rattle.bdb_session.proofs.CourseLemmas.{redo_is_bound, redo_reads, redo_writes, undo_is_bound, undo_reads, undo_writes}
use Rattle.bdb_session.proofs.FollowLemmas.{follows_as, moves_follow, some_agree}
use Rattle.bdb_session.proofs.session.Session.follow.Goals as goal

pub carry_out-requires-clause-agrees : goal.carry_out-requires-clause-agrees
carry_out-requires-clause-agrees g c = some_agree _ _ c.requires.agrees

pub returns-in-Back-clause-served : goal.returns-in-Back-clause-served
returns-in-Back-clause-served g c =
    let command = c.args.command in
    let course = sym c.course_of.ensures ∙ c.in-Back.is in
    follows_as (said_outcome command) (λ t. stepped NoUndo (undone t)) (said_next command) (λ t. led t (undone t)) c.args.self.now c.undo.new.self (g.K.Keeper.seen c.args.keeper.now)
    (g.K.Keeper.seen c.undo.new.keeper) c.undo.result (λ t m. ap (λ x. outcome_on x command t) course) (λ t m. ap (λ x. next_on x command t) course) c.undo.ensures.served

pub returns-in-Back-clause-reads : goal.returns-in-Back-clause-reads
returns-in-Back-clause-reads g c = undo_reads c.args.command _ _ _ c.undo.result (sym c.course_of.ensures ∙ c.in-Back.is)

pub returns-in-Back-clause-writes : goal.returns-in-Back-clause-writes
returns-in-Back-clause-writes g c = undo_writes c.args.command _ _ _ c.undo.result (sym c.course_of.ensures ∙ c.in-Back.is) c.undo.ensures.unwritten

pub returns-in-Back-clause-spared : goal.returns-in-Back-clause-spared
returns-in-Back-clause-spared g c = λ spared. absurd (undo_is_bound c.args.command c.args.self.now.catalog (sym c.course_of.ensures ∙ c.in-Back.is) spared)

pub returns-in-Forth-clause-served : goal.returns-in-Forth-clause-served
returns-in-Forth-clause-served g c =
    let command = c.args.command in
    let course = sym c.course_of.ensures ∙ c.in-Forth.is in
    follows_as (said_outcome command) (λ t. stepped NoRedo (redone t)) (said_next command) (λ t. led t (redone t)) c.args.self.now c.redo.new.self (g.K.Keeper.seen c.args.keeper.now)
    (g.K.Keeper.seen c.redo.new.keeper) c.redo.result (λ t m. ap (λ x. outcome_on x command t) course) (λ t m. ap (λ x. next_on x command t) course) c.redo.ensures.served

pub returns-in-Forth-clause-reads : goal.returns-in-Forth-clause-reads
returns-in-Forth-clause-reads g c = redo_reads c.args.command _ _ _ c.redo.result (sym c.course_of.ensures ∙ c.in-Forth.is)

pub returns-in-Forth-clause-writes : goal.returns-in-Forth-clause-writes
returns-in-Forth-clause-writes g c = redo_writes c.args.command _ _ _ c.redo.result (sym c.course_of.ensures ∙ c.in-Forth.is) c.redo.ensures.unwritten

pub returns-in-Forth-clause-spared : goal.returns-in-Forth-clause-spared
returns-in-Forth-clause-spared g c = λ spared. absurd (redo_is_bound c.args.command c.args.self.now.catalog (sym c.course_of.ensures ∙ c.in-Forth.is) spared)

pub returns-in-Onward-clause-served : goal.returns-in-Onward-clause-served
returns-in-Onward-clause-served g c =
    let command = c.args.command in
    let course = sym c.course_of.ensures ∙ c.in-Onward.is in
    let old = g.K.Keeper.seen c.args.keeper.now in
    let new = g.K.Keeper.seen c.carry_out.new.keeper in
    follows_as (said_outcome command) (λ t. command_outcome (start_from t.now) command) (said_next command) (moved_by (λ s. command_outcome s command)) c.args.self.now c.carry_out.new.self
    old new c.carry_out.result (λ t m. ap (λ x. outcome_on x command t) course) (λ t m. ap (λ x. next_on x command t) course)
    (moves_follow (λ s. command_outcome s command) c.args.self.now c.carry_out.new.self old new c.carry_out.result c.carry_out.ensures.served c.carry_out.ensures.remembers)
