use Rattle.bdb_session.specs.Outcome.{start_from}
use Rattle.bdb_crowd.specs.Asked.{start_at}
use Rattle.bdb_crowd.proofs.crowd.Crowd.new.Goals as goal

pub returns-clause-starts : goal.returns-clause-starts
returns-clause-starts c = λ t s a. record { agrees = a; stands = c.new.ensures }

pub returns-clause-some : goal.returns-clause-some
returns-clause-some c = λ t some. record {
  point = start_at (start_from some.timeline.now);
  at = record { agrees = some.remembers.agrees; stands = c.new.ensures };
  remembers = some;
}
