use Rattle.bdb_session.specs.Undoing.{next_state, outcome_of}
use Rattle.bdb_session.specs.declared.event.ScriptEvent.TheVariants.{Piece}
use Rattle.bdb_session.proofs.FollowLemmas.{remembers_after, reply_accepted, reply_answers, reply_text}
use Rattle.bdb_session.proofs.session.Session.apply.Goals as goal

pub returns-clause-text : goal.returns-clause-text
returns-clause-text g c = λ t m. reply_text t.now.catalog (outcome_of t (Piece c.args.piece.now)) c.respond.result (c.respond.ensures.followed.served t m).reply

pub returns-clause-accepted : goal.returns-clause-accepted
returns-clause-accepted g c = λ t m. reply_accepted t.now.catalog (outcome_of t (Piece c.args.piece.now)) c.respond.result (c.respond.ensures.followed.served t m).reply

pub returns-clause-answers : goal.returns-clause-answers
returns-clause-answers g c = λ t m. reply_answers t.now.catalog (outcome_of t (Piece c.args.piece.now)) c.respond.result (c.respond.ensures.followed.served t m).reply

pub returns-clause-next : goal.returns-clause-next
returns-clause-next g c = λ t m. (c.respond.ensures.followed.served t m).next

pub returns-clause-commits : goal.returns-clause-commits
returns-clause-commits g c = λ t m. (c.respond.ensures.followed.served t m).commits

pub returns-clause-alone : goal.returns-clause-alone
returns-clause-alone g c = λ t m. (c.respond.ensures.followed.served t m).alone

pub returns-clause-agrees : goal.returns-clause-agrees
returns-clause-agrees g c =
    remembers_after (λ t. outcome_of t (Piece c.args.piece.now)) (λ t. next_state t (Piece c.args.piece.now)) c.args.self.now c.respond.new.self (g.K.Keeper.seen c.args.keeper.now) (g.K.Keeper.seen c.respond.new.keeper) c.respond.result
    c.requires.agrees c.respond.ensures.followed
