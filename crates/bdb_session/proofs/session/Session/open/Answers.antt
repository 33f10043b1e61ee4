use Rattle.std.proofs.Common.{sym, subst}
use Rattle.bdb_decode.specs.Opening.{TellsStand}
use Rattle.bdb_keep.specs.Tables.{Tables}
use Rattle.bdb_session.specs.Opening.{Opens}
use Rattle.bdb_session.proofs.OpenLemmas.{none_stand, some_stand}
use Rattle.bdb_session.proofs.session.Session.open.Goals as goal

pub open_held-requires-clause-stand : goal.open_held-requires-clause-stand
open_held-requires-clause-stand g c = subst (λ (t : Tables). TellsStand t c.in-Ok.stand) (sym c.in-Ok.ensures.ends.leaves.kept) c.in-Ok.ensures.stand

pub returns-in-Err-clause-refused : goal.returns-in-Err-clause-refused
returns-in-Err-clause-refused g c = λ _. c.in-Err.ensures.ends.writes

pub returns-in-Ok-open_held-clause-stand : goal.returns-in-Ok-open_held-clause-stand
returns-in-Ok-open_held-clause-stand g c = some_stand _ c.in-Ok.stand c.in-Ok.ensures.stand

pub returns-in-Ok-open_held-clause-opened : goal.returns-in-Ok-open_held-clause-opened
returns-in-Ok-open_held-clause-opened g c =
    subst (λ (t : Tables). Opens t (g.K.Keeper.seen c.open_held.new.keeper).kept c.in-Ok-open_held.session) c.in-Ok.ensures.ends.leaves.kept c.in-Ok-open_held.ensures.opened

pub returns-in-Ok-open_held-clause-refused : goal.returns-in-Ok-open_held-clause-refused
returns-in-Ok-open_held-clause-refused g c = λ none. absurd (none_stand _ c.in-Ok.stand c.in-Ok.ensures.stand none)

pub returns-in-Err-Fault-clause-refused : goal.returns-in-Err-Fault-clause-refused
returns-in-Err-Fault-clause-refused g c = λ none. absurd (none_stand _ c.in-Ok.stand c.in-Ok.ensures.stand none)

pub returns-clause-refused : goal.returns-clause-refused
returns-clause-refused g c = λ none. absurd (none_stand _ c.in-Ok.stand c.in-Ok.ensures.stand none)
