-- What calls that look at tables keep, one after the other.
use Rattle.std.proofs.Common.{◌∙◌, Ok, Err}
use Rattle.bdb_keep.specs.Calls.{IsRead}
use Rattle.bdb_keep.specs.Seen.{Seen}
use Rattle.bdb_tables.proofs.Loops.{IsReading, counts_then, steps_err, steps_ok}
use Rattle.bdb_tables.specs.Reading.{OnlyReads}

pub looks_of_read : {T U E : Type 0} (old new : Seen) (x : T) (y : U) (fault : E) → IsRead {T = T} {E = E} old new (Ok x) fault → OnlyReads {T = U} {E = E} old new (Ok y) fault
looks_of_read old new x y fault r = record { kept = r.kept; writes = r.writes; counts = r.counts; steps = steps_ok old new y fault r.steps.ok }

module _ {P : Type 0} where
  -- the last of the looks
  pub looking_ends : {U E : Type 0} (old a : Seen) (y : U) (fault : E) → IsReading old a P → OnlyReads {T = U} {E = E} old a (Ok y) fault
  looking_ends old a y fault h = record { kept = h.kept; writes = h.writes; counts = h.counts; steps = steps_ok old a y fault h.goes }

  pub looking_err : {T U E : Type 0} (old a b : Seen) (e fault : E) → IsReading old a P → OnlyReads {T = T} {E = E} a b (Err e) fault → OnlyReads {T = U} {E = E} old b (Err e) fault
  looking_err old a b e fault h r = record {
    kept = tt;
    writes = r.writes ∙ h.writes;
    counts = counts_then old a b h.counts r.counts;
    steps = steps_err old a b e fault h.goes r.steps;
  }
