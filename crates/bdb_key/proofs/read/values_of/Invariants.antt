use Rattle.std.proofs.Common.{◌≡◌, ◌++◌, List, length}
use Rattle.bdb_base.specs.declared.kinds.Value.{Value}
use Rattle.bdb_key.specs.Bytes.{values_bytes}
use Rattle.bdb_key.specs.Grammar.{ArePlain}
use Rattle.bdb_key.specs.Reading.{Reads}
use Rattle.bdb_key.proofs.read.values_of.Given as goal

abbrev pub invariant-loop-rest : goal.invariant-loop-rest
invariant-loop-rest l = record {
  plain : ArePlain l.values.items;
  done : l.bytes ≡ values_bytes l.values.items ++ l.rest;
  only : (values : List Value) → Reads ArePlain values_bytes l.bytes values → (left : List Value) × Reads ArePlain values_bytes l.rest left;
}

abbrev pub decreases-loop-rest : goal.decreases-loop-rest
decreases-loop-rest l = length l.rest
