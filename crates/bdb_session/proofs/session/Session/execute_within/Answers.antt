use Rattle.std.proofs.Common.{◌∙◌, ap}
use Rattle.bdb_session.specs.Batches.{is_altered}
use Rattle.bdb_session.specs.Machine.{bound_outcome}
use Rattle.bdb_session.specs.Outcome.{state_after}
use Rattle.bdb_session.proofs.BatchLists.{learned_alters}
use Rattle.bdb_session.proofs.session.Session.execute_within.Goals as goal

pub returns-in-Ok-clause-altered : goal.returns-in-Ok-clause-altered
returns-in-Ok-clause-altered g c = λ s a.
    ap is_altered c.learn.ensures
    ∙ learned_alters c.args.self.now c.step.new.news s.base (state_after s (bound_outcome s c.args.bound)).base (c.in-Ok.ensures.change s a)
