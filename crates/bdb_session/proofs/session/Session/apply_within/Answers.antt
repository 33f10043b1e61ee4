use Rattle.std.proofs.Common.{◌∙◌, Ok, ap, refl, sym}
use Rattle.bdb_session.specs.Machine.{command_outcome, outcome_of, reading_outcome}
use Rattle.bdb_session.specs.Outcome.{state_after}
use Rattle.bdb_session.specs.declared.event.ScriptEvent.TheVariants.{Piece}
use Rattle.bdb_session.specs.declared.reading.Reading.{Reading}
use Rattle.bdb_session.proofs.BatchLists.{alters_where, nothing_alters}
use Rattle.bdb_session.proofs.WithinLemmas.{blank_tells, memory_tells, refused_tells, tells_as}
use Rattle.bdb_update.proofs.CallLemmas.{gone_itself}
use Rattle.bdb_session.proofs.session.Session.apply_within.Goals as goal

pub returns-in-Ok-Nothing-clause-told : goal.returns-in-Ok-Nothing-clause-told
returns-in-Ok-Nothing-clause-told g c =
    blank_tells (λ s. outcome_of s (Piece c.args.piece.now)) c.args.self.now (g.K.Keeper.seen c.args.keeper.now) c.accepted.result
    (λ s. ap (reading_outcome s) (sym c.in-Ok-Nothing.ensures.reading ∙ c.in-Ok-Nothing.field-0-is)) (c.accepted.ensures.text ∙ c.new.ensures) c.accepted.ensures.accepted c.accepted.ensures.answers

pub returns-in-Ok-Refused-clause-told : goal.returns-in-Ok-Refused-clause-told
returns-in-Ok-Refused-clause-told g c =
    refused_tells (λ s. outcome_of s (Piece c.args.piece.now)) c.in-Ok-Refused.refusal c.args.self.now (g.K.Keeper.seen c.args.keeper.now) (g.K.Keeper.seen c.refuse_within.new.keeper)
    c.refuse_within.result c.requires.agrees (λ s a. ap (reading_outcome s) (sym c.in-Ok-Refused.ensures.reading ∙ c.in-Ok-Refused.field-0-is)) c.refuse_within.ensures

pub returns-in-Ok-Says-clause-told : goal.returns-in-Ok-Says-clause-told
returns-in-Ok-Says-clause-told g c =
    tells_as (λ s. outcome_of s (Piece c.args.piece.now)) (λ s. command_outcome s c.in-Ok-Says.command) _ _ _ _ _ _ _
    (λ s. ap (reading_outcome s) (sym c.in-Ok-Says.ensures.reading ∙ c.in-Ok-Says.field-0-is)) refl refl c.carry_out_within.ensures.told

pub returns-in-Err-clause-told : goal.returns-in-Err-clause-told
returns-in-Err-clause-told g c =
    let old = g.K.Keeper.seen c.args.keeper.now in
    memory_tells _ c.args.self.now c.args.self.now old old (g.K.Keeper.seen c.undo.new.self) (gone_itself old) c.undo.ensures.undone

pub returns-in-Ok-Nothing-clause-altered : goal.returns-in-Ok-Nothing-clause-altered
returns-in-Ok-Nothing-clause-altered g c =
    nothing_alters (λ s. outcome_of s (Piece c.args.piece.now)) c.args.self.now (g.K.Keeper.seen c.args.keeper.now) (Ok c.accepted.result)
    (λ s a. ap (λ (x : Reading). (state_after s (reading_outcome s x)).base) (sym c.in-Ok-Nothing.ensures.reading ∙ c.in-Ok-Nothing.field-0-is))

pub returns-in-Ok-Refused-clause-altered : goal.returns-in-Ok-Refused-clause-altered
returns-in-Ok-Refused-clause-altered g c =
    nothing_alters (λ s. outcome_of s (Piece c.args.piece.now)) c.args.self.now (g.K.Keeper.seen c.args.keeper.now) c.refuse_within.result
    (λ s a. ap (λ (x : Reading). (state_after s (reading_outcome s x)).base) (sym c.in-Ok-Refused.ensures.reading ∙ c.in-Ok-Refused.field-0-is))

pub returns-in-Ok-Says-clause-altered : goal.returns-in-Ok-Says-clause-altered
returns-in-Ok-Says-clause-altered g c =
    alters_where (λ s. outcome_of s (Piece c.args.piece.now)) (λ s. command_outcome s c.in-Ok-Says.command) c.args.self.now c.carry_out_within.new.self (g.K.Keeper.seen c.args.keeper.now)
    c.carry_out_within.result (λ s a. ap (reading_outcome s) (sym c.in-Ok-Says.ensures.reading ∙ c.in-Ok-Says.field-0-is)) c.carry_out_within.ensures.altered
