use Rattle.std.proofs.Common.{◌≡◌, ◌++◌, take}
use Rattle.std.specs.List.{AllByRecursion}
use Rattle.bdb_key.specs.Bytes.{key_bytes}
use Rattle.bdb_key.specs.Grammar.{IsWholePart}
use Rattle.bdb_key.proofs.write.push_key.Given as goal

abbrev pub invariant-loop-part : goal.invariant-loop-part
invariant-loop-part l = record {
  spelled : l.out.items ≡ l.initial.out.items ++ key_bytes (take l.part-index l.parts);
  whole : AllByRecursion IsWholePart (take l.part-index l.parts);
}
