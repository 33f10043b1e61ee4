use Rattle.std.proofs.Common.{◌≤◌, ◌++◌, ℕ, List, length}
use Rattle.std.specs.List.{flat_map}
use Rattle.bdb_base.specs.Texts.{quoted_byte}
use Rattle.bdb_key.specs.Reading.{SplitsAtZero}
use Rattle.bdb_shown.proofs.TextLemmas.{IsLeft}
use Rattle.bdb_shown.proofs.values.append_doubled.Given as goal

abbrev pub invariant-loop-found : goal.invariant-loop-found
invariant-loop-found l = record {
  text : (text more : List ℕ) → SplitsAtZero l.bytes text more → IsLeft l.rest l.out.items (l.initial.out.items ++ flat_map quoted_byte text) more;
  shorter : length l.rest ≤ length l.bytes;
}

abbrev pub decreases-loop-found : goal.decreases-loop-found
decreases-loop-found l = length l.rest
