-- What tables without rows stand for, and sessions over stored tables.
use Rattle.std.proofs.Common.{◌≡◌, refl, inl, inr, sym, subst}
use Rattle.std.specs.FinMap as tables
use Rattle.bdb_base.specs.Bases.{empty_contents}
use Rattle.bdb_catalog.specs.Opening.{StandForSome}
use Rattle.bdb_keep.specs.Tables.{Tables}
use Rattle.bdb_session.specs.Known.{Known, RemembersSome}
use Rattle.bdb_top.specs.Laws.{NoRowsStandForABase}

pub no_rows_stand_for_a_base : NoRowsStandForABase
no_rows_stand_for_a_base t none = inr (inl (none, refl))

-- a keeper without rows can be opened
pub no_rows_stand : (t : Tables) → t ≡ tables.empty → StandForSome t
no_rows_stand t none = record { base = empty_contents; stand = no_rows_stand_for_a_base t none }

-- so can one with which a session agrees, and one that is as it was
pub agreed_stand : (t : Tables) (k : Known) → RemembersSome t k → StandForSome t
agreed_stand t k h = record { base = h.timeline.now; stand = inl h.remembers.agrees.base }

pub kept_stand : (t u : Tables) → u ≡ t → StandForSome t → StandForSome u
kept_stand t u same h = subst StandForSome (sym same) h
