use Rattle.bdb_session.proofs.OpenLemmas.{opened_new, opened_read, opened_anew, agrees_read, agrees_some, none_stored, stored_some, once_new, none_read, once_anew, on_ok, rises_none, rises_once, one_and_none}
use Rattle.bdb_session.proofs.open.open_held.Goals as goal

-- no row stands there

pub new_session-requires-clause-empty : goal.new_session-requires-clause-empty
new_session-requires-clause-empty g c = none_stored _ _ c.requires.stand c.in-Empty.is

pub returns-in-Empty-clause-opened : goal.returns-in-Empty-clause-opened
returns-in-Empty-clause-opened g c = opened_new _ _ _ c.new_session.result c.requires.stand c.in-Empty.is c.new_session.ensures.agrees

pub returns-in-Empty-clause-agrees : goal.returns-in-Empty-clause-agrees
returns-in-Empty-clause-agrees g c = agrees_some _ _ c.new_session.result c.new_session.ensures.agrees

pub returns-in-Empty-clause-commits : goal.returns-in-Empty-clause-commits
returns-in-Empty-clause-commits g c =
    rises_once c.new_session.result _ _ _ (once_new _ _ c.requires.stand c.in-Empty.is) c.new_session.ensures.committed.commits

pub returns-in-Empty-clause-unchanged : goal.returns-in-Empty-clause-unchanged
returns-in-Empty-clause-unchanged g c = on_ok _ c.new_session.result (λ none. absurd (one_and_none _ (once_new _ _ c.requires.stand c.in-Empty.is) none))

pub returns-in-Empty-clause-unwritten : goal.returns-in-Empty-clause-unwritten
returns-in-Empty-clause-unwritten g c = λ none. absurd (one_and_none _ (once_new _ _ c.requires.stand c.in-Empty.is) none)

-- a base is stored

pub read_session-requires-clause-base : goal.read_session-requires-clause-base
read_session-requires-clause-base g c = stored_some _ _ _ c.requires.stand c.in-Stored.is

pub returns-in-Stored-clause-opened : goal.returns-in-Stored-clause-opened
returns-in-Stored-clause-opened g c =
    opened_read _ _ _ c.read_session.result c.requires.stand _ c.in-Stored.is c.read_session.ensures.unchanged.kept c.read_session.ensures.knows

pub returns-in-Stored-clause-agrees : goal.returns-in-Stored-clause-agrees
returns-in-Stored-clause-agrees g c =
    agrees_read _ _ _ c.read_session.result c.requires.stand _ c.in-Stored.is c.read_session.ensures.unchanged.kept c.read_session.ensures.knows

pub returns-in-Stored-clause-commits : goal.returns-in-Stored-clause-commits
returns-in-Stored-clause-commits g c =
    on_ok _ c.read_session.result (rises_none _ _ _ (none_read _ _ c.requires.stand _ c.in-Stored.is) c.read_session.ensures.unchanged.commits)

pub returns-in-Stored-clause-unchanged : goal.returns-in-Stored-clause-unchanged
returns-in-Stored-clause-unchanged g c = on_ok _ c.read_session.result (λ _. c.read_session.ensures.unchanged)

-- a base of the format before this one is stored

pub returns-in-Former-clause-opened : goal.returns-in-Former-clause-opened
returns-in-Former-clause-opened g c = opened_anew _ _ _ c.migrate.result c.requires.stand _ c.in-Former.is c.migrate.ensures.agrees

pub returns-in-Former-clause-agrees : goal.returns-in-Former-clause-agrees
returns-in-Former-clause-agrees g c = agrees_some _ _ c.migrate.result c.migrate.ensures.agrees

pub returns-in-Former-clause-commits : goal.returns-in-Former-clause-commits
returns-in-Former-clause-commits g c =
    rises_once c.migrate.result _ _ _ (once_anew _ _ c.requires.stand _ c.in-Former.is) c.migrate.ensures.committed.commits

pub returns-in-Former-clause-unchanged : goal.returns-in-Former-clause-unchanged
returns-in-Former-clause-unchanged g c = on_ok _ c.migrate.result (λ none. absurd (one_and_none _ (once_anew _ _ c.requires.stand _ c.in-Former.is) none))

pub returns-in-Former-clause-unwritten : goal.returns-in-Former-clause-unwritten
returns-in-Former-clause-unwritten g c = λ none. absurd (one_and_none _ (once_anew _ _ c.requires.stand _ c.in-Former.is) none)
