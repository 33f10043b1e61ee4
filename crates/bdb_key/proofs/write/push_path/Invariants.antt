use Rattle.std.proofs.Common.{◌≡◌, ◌++◌, take}
use Rattle.std.specs.List.{AllByRecursion, flat_map}
use Rattle.bdb_key.specs.Bytes.{num_bytes}
use Rattle.bdb_key.specs.Grammar.{IsNum}
use Rattle.bdb_key.proofs.write.push_path.Given as goal

abbrev pub invariant-loop-user : goal.invariant-loop-user
invariant-loop-user l = record {
  spelled : l.out.items ≡ l.initial.out.items ++ flat_map num_bytes (take l.user-index l.user-items);
  whole : AllByRecursion IsNum (take l.user-index l.user-items);
}
