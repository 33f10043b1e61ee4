use Rattle.std.proofs.Common.{◌≡◌, ◌++◌, take}
use Rattle.std.specs.List.{AllByRecursion}
use Rattle.bdb_key.specs.Bytes.{values_bytes}
use Rattle.bdb_key.specs.Grammar.{HasEightBytes}
use Rattle.bdb_key.proofs.write.push_values.Given as goal

abbrev pub invariant-loop-value : goal.invariant-loop-value
invariant-loop-value l = record {
  spelled : l.out.items ≡ l.initial.out.items ++ values_bytes (take l.value-index l.values);
  whole : AllByRecursion HasEightBytes (take l.value-index l.values);
}
