use Rattle.std.proofs.Common.{◌-◌, ℕ, List}
use Rattle.bdb_base.specs.declared.kinds.Value.{Value}
use Rattle.bdb_key.specs.Bytes.{values_bytes}
use Rattle.bdb_key.specs.Grammar.{IsPlainValue}
use Rattle.bdb_key.specs.Reading.{Leads, AreMany}
use Rattle.bdb_key.proofs.read.counted_values_of.Given as goal

abbrev pub invariant-loop : goal.invariant-loop
invariant-loop l = record {
  done : Leads (AreMany IsPlainValue l.counter) values_bytes l.bytes l.values.items l.rest;
  only : (values : List Value) (rest : List ℕ) → Leads (AreMany IsPlainValue l.count) values_bytes l.bytes values rest → (left : List Value) × Leads (AreMany IsPlainValue (l.count - l.counter)) values_bytes l.rest left rest;
}
