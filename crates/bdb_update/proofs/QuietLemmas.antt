-- Reads one after the other, and what ends them.
use Rattle.std.proofs.Common.{◌≡◌, ◌∙◌, true, Ok, Err, sym, arith}
use Rattle.std.proofs.lemmas.Bool.{false≢true}
use Rattle.bdb_keep.specs.Calls.{IsRead, IsUndo}
use Rattle.bdb_keep.specs.Seen.{Seen}
use Rattle.bdb_tables.specs.declared.tab.TabError.{TabError}
use Rattle.bdb_tables.specs.declared.tab.TabError.TheVariants as stop
use Rattle.bdb_tables.proofs.Loops.{counts_then}
use Rattle.bdb_update.proofs.CallLemmas.{IsQuiet, quiet_read, quiet_then}

-- reads that went on are undone, as memory ran out
pub read_undone : {T : Type 0} (old a b : Seen) → old.running ≡ true → IsQuiet old a → IsUndo a b → IsRead {T = T} {E = TabError} old b (Err stop.Memory) stop.Fault
read_undone old a b run q u = record {
  rest = λ f. absurd (false≢true (sym f ∙ run));
  kept = tt;
  writes = u.writes ∙ q.writes;
  counts = counts_then old a b q.counts u.counts;
  steps = record {
    cause = record { later = omega (arith, q.goes.faults, u.counts.faults); rose = λ is. absurd cc };
    ok = tt;
    err = record { stopped = u.dropped.stopped; undone = u.dropped.undone ∙ q.goes.last; last = u.dropped.last ∙ q.goes.last; commits = u.dropped.commits ∙ q.goes.commits };
  };
}

-- only reads so far, and this much is read
pub record IsLooking (old new : Seen) (Read : Type 0) : Type 0 where
  pub quiet : IsQuiet old new
  pub read : Read

pub looking_more : {T E P Q : Type 0} (old mid new : Seen) (x : T) (fault : E) → IsLooking old mid P → IsRead {T = T} {E = E} mid new (Ok x) fault → Q → IsLooking old new Q
looking_more old mid new x fault h r q = record { quiet = quiet_then old mid new h.quiet (quiet_read mid new x fault r); read = q }
