use Rattle.std.proofs.Common.{ℕ, subst}
use Rattle.bdb_render.specs.Replies.{rows_reply}
use Rattle.bdb_session.specs.Outcome.{Done}
use Rattle.bdb_session.specs.Within.{IsSaid}
use Rattle.bdb_session.proofs.session.Session.tell_rows.Goals as goal

pub returns : goal.returns
returns g c = λ s.
    subst (λ (n : ℕ). IsSaid c.args.self.now.catalog (Done (rows_reply c.args.rows.now) n s) (g.K.Keeper.seen c.args.keeper.now) (g.K.Keeper.seen c.say.new.keeper) c.say.result)
    c.len-answers.ensures (c.say.ensures s _ c.rows_reply-text.ensures)
