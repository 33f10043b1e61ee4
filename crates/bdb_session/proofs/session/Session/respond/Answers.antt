use Rattle.std.proofs.Common.{◌≡◌, ◌∙◌, ap, refl, sym, subst}
use Rattle.bdb_syntax.specs.declared.command.Command.{Command}
use Rattle.bdb_session.specs.declared.reading.Reading.TheVariants as reading
use Rattle.bdb_session.specs.declared.error.StopError.TheVariants.{Memory}
use Rattle.bdb_session.specs.Bounds.{CommandReads, CommandWrites, reading_asks}
use Rattle.bdb_session.specs.Undoing.{next_state, outcome_of}
use Rattle.bdb_session.specs.declared.event.ScriptEvent.TheVariants.{Piece}
use Rattle.bdb_session.proofs.BoundLemmas.{nothing_unwritten}
use Rattle.bdb_session.proofs.FollowLemmas.{blank_piece, refused_piece, said_piece, stop_follows}
use Rattle.bdb_session.proofs.session.Session.respond.Goals as goal

pub returns-then-says_nothing-clause-followed : goal.returns-then-says_nothing-clause-followed
returns-then-says_nothing-clause-followed g c =
    blank_piece c.args.piece.now c.args.self.now (g.K.Keeper.seen c.args.keeper.now) c.accepted.result (c.says_nothing.ensures c.if-says_nothing.true) c.requires.still
    (c.accepted.ensures.text ∙ c.new.ensures) c.accepted.ensures.accepted c.accepted.ensures.answers

pub returns-in-Ok-Nothing-clause-followed : goal.returns-in-Ok-Nothing-clause-followed
returns-in-Ok-Nothing-clause-followed g c =
    blank_piece c.args.piece.now c.args.self.now (g.K.Keeper.seen c.args.keeper.now) c.accepted-in-Ok-Nothing.result (sym c.in-Ok-Nothing.ensures.reading ∙ c.in-Ok-Nothing.field-0-is)
    c.requires.still (c.accepted-in-Ok-Nothing.ensures.text ∙ c.new-in-Ok-Nothing.ensures) c.accepted-in-Ok-Nothing.ensures.accepted c.accepted-in-Ok-Nothing.ensures.answers

pub returns-in-Ok-Refused-clause-followed : goal.returns-in-Ok-Refused-clause-followed
returns-in-Ok-Refused-clause-followed g c =
    refused_piece c.args.piece.now c.args.self.now (g.K.Keeper.seen c.args.keeper.now) c.in-Ok-Refused.refusal c.refuse.result
    (sym c.in-Ok-Refused.ensures.reading ∙ c.in-Ok-Refused.field-0-is) c.requires.still c.refuse.ensures

pub returns-in-Ok-Says-clause-followed : goal.returns-in-Ok-Says-clause-followed
returns-in-Ok-Says-clause-followed g c =
    said_piece c.args.piece.now c.in-Ok-Says.command c.args.self.now c.follow.new.self (g.K.Keeper.seen c.args.keeper.now) (g.K.Keeper.seen c.follow.new.keeper) c.follow.result
    (sym c.in-Ok-Says.ensures.reading ∙ c.in-Ok-Says.field-0-is) c.follow.ensures.served

pub returns-in-Err-clause-followed : goal.returns-in-Err-clause-followed
returns-in-Err-clause-followed g c =
    stop_follows (λ t. outcome_of t (Piece c.args.piece.now)) (λ t. next_state t (Piece c.args.piece.now)) c.args.self.now (g.K.Keeper.seen c.args.keeper.now) Memory c.requires.still (λ e. cc)

pub returns-in-Ok-Says-clause-reads : goal.returns-in-Ok-Says-clause-reads
returns-in-Ok-Says-clause-reads g c = λ d says.
    let same : c.in-Ok-Says.command ≡ d = let read = sym c.in-Ok-Says.field-0-is ∙ c.in-Ok-Says.ensures.reading ∙ says in cc in
    subst (λ (x : Command). CommandReads x c.args.self.now (g.K.Keeper.seen c.args.keeper.now) (g.K.Keeper.seen c.follow.new.keeper) c.follow.result) same c.follow.ensures.reads

pub returns-in-Ok-Says-clause-writes : goal.returns-in-Ok-Says-clause-writes
returns-in-Ok-Says-clause-writes g c = λ d says.
    let same : c.in-Ok-Says.command ≡ d = let read = sym c.in-Ok-Says.field-0-is ∙ c.in-Ok-Says.ensures.reading ∙ says in cc in
    subst (λ (x : Command). CommandWrites x c.args.self.now (g.K.Keeper.seen c.args.keeper.now) (g.K.Keeper.seen c.follow.new.keeper) c.follow.result) same c.follow.ensures.writes

pub returns-in-Ok-Refused-clause-unwritten : goal.returns-in-Ok-Refused-clause-unwritten
returns-in-Ok-Refused-clause-unwritten g c = nothing_unwritten (g.K.Keeper.seen c.args.keeper.now) (g.K.Keeper.seen c.args.keeper.now) c.refuse.result refl

pub returns-in-Ok-Says-clause-spared : goal.returns-in-Ok-Says-clause-spared
returns-in-Ok-Says-clause-spared g c = λ spared.
    c.follow.ensures.spared (ap (reading_asks c.args.self.now.catalog) (sym c.in-Ok-Says.field-0-is ∙ c.in-Ok-Says.ensures.reading) ∙ spared)
