use Rattle.std.proofs.Common.{◌≡◌, ◌∙◌, ap, sym, subst, rules}
use Rattle.bdb_session.specs.Known.{Remembers}
use Rattle.bdb_session.specs.Undoing.{next_state}
use Rattle.bdb_session.specs.Runs.{event_of}
use Rattle.bdb_session.specs.declared.event.ScriptEvent.TheVariants as event
use Rattle.bdb_top.specs.Generated.{tally_with}
use Rattle.bdb_top.proofs.tally.tally_piece.Goals as goal

pub returns-in-Ok-clause-tally : goal.returns-in-Ok-clause-tally
returns-in-Ok-clause-tally g c = λ s a.
    let same : event.Piece c.as_slice.result.now ≡ event_of c.args.piece.now = search rules in
    c.in-Ok.ensures.tally s a ∙ ap (tally_with c.args.tally s) same

pub returns-in-Ok-clause-state : goal.returns-in-Ok-clause-state
returns-in-Ok-clause-state g c = λ s a.
    let same : event.Piece c.as_slice.result.now ≡ event_of c.args.piece.now = search rules in
    subst (λ e. Remembers (g.K.Keeper.seen c.tally_command.new.keeper).kept c.tally_command.new.session (next_state s e)) same (c.in-Ok.ensures.state s a)

pub returns-in-Ok-tally_event-clause-tally : goal.returns-in-Ok-tally_event-clause-tally
returns-in-Ok-tally_event-clause-tally g c = λ s a. c.in-Ok-tally_event.ensures.tally s a ∙ ap (λ p. tally_with c.args.tally s (event_of p)) (sym c.in-Long.is)

pub returns-in-Ok-tally_event-clause-state : goal.returns-in-Ok-tally_event-clause-state
returns-in-Ok-tally_event-clause-state g c = λ s a.
    subst (λ p. Remembers (g.K.Keeper.seen c.tally_event.new.keeper).kept c.tally_event.new.session (next_state s (event_of p))) (sym c.in-Long.is) (c.in-Ok-tally_event.ensures.state s a)
