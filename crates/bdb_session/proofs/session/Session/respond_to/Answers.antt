use Rattle.std.proofs.Common.{◌∙◌, List, ap, refl, sym, ℕ}
use Rattle.bdb_render.specs.declared.refusal.Refusal.TheVariants as refusal
use Rattle.bdb_undo.proofs.TimelineLemmas.{staying_arrives}
use Rattle.bdb_session.specs.Undoing.{next_state, outcome_of}
use Rattle.bdb_session.specs.declared.event.ScriptEvent.TheVariants.{Piece}
use Rattle.bdb_session.proofs.BoundLemmas.{nothing_unwritten}
use Rattle.bdb_session.proofs.FollowLemmas.{event_as, refused_event}
use Rattle.bdb_session.proofs.session.Session.respond_to.Goals as goal

pub returns-in-Piece-clause-followed : goal.returns-in-Piece-clause-followed
returns-in-Piece-clause-followed g c =
    event_as c.args.event.now (Piece c.as_slice.result.now) c.args.self.now c.respond.new.self (g.K.Keeper.seen c.args.keeper.now) (g.K.Keeper.seen c.respond.new.keeper) c.respond.result
    (c.in-Piece.is ∙ ap (λ (bytes : List ℕ). Piece bytes) (sym c.as_slice.ensures)) c.respond.ensures.followed

pub returns-in-Long-clause-followed : goal.returns-in-Long-clause-followed
returns-in-Long-clause-followed g c =
    refused_event c.args.event.now refusal.Long c.args.self.now (g.K.Keeper.seen c.args.keeper.now) c.refuse.result (λ t. ap (outcome_of t) c.in-Long.is)
    (λ t. ap (next_state t) c.in-Long.is ∙ staying_arrives t) c.requires.still c.refuse.ensures

pub returns-in-Unfinished-clause-followed : goal.returns-in-Unfinished-clause-followed
returns-in-Unfinished-clause-followed g c =
    refused_event c.args.event.now refusal.Unfinished c.args.self.now (g.K.Keeper.seen c.args.keeper.now) c.refuse-in-Unfinished.result (λ t. ap (outcome_of t) c.in-Unfinished.is)
    (λ t. ap (next_state t) c.in-Unfinished.is ∙ staying_arrives t) c.requires.still c.refuse-in-Unfinished.ensures

pub returns-in-Long-clause-unwritten : goal.returns-in-Long-clause-unwritten
returns-in-Long-clause-unwritten g c = nothing_unwritten (g.K.Keeper.seen c.args.keeper.now) (g.K.Keeper.seen c.args.keeper.now) c.refuse.result refl

pub returns-in-Unfinished-clause-unwritten : goal.returns-in-Unfinished-clause-unwritten
returns-in-Unfinished-clause-unwritten g c = nothing_unwritten (g.K.Keeper.seen c.args.keeper.now) (g.K.Keeper.seen c.args.keeper.now) c.refuse-in-Unfinished.result refl
