use Rattle.std.proofs.Common.{◌≡◌, ◌++◌, List, length}
use Rattle.std.specs.List.{AllByRecursion}
use Rattle.bdb_key.specs.declared.part.Part.{Part}
use Rattle.bdb_key.specs.declared.part.Slot.TheVariants as slots
use Rattle.bdb_key.specs.Bytes.{key_bytes}
use Rattle.bdb_key.specs.Grammar.{FitsSlot}
use Rattle.bdb_key.specs.Reading.{Reads}
use Rattle.bdb_key.proofs.take.rest_parts.Given as goal

abbrev pub invariant-loop-rest : goal.invariant-loop-rest
invariant-loop-rest l = record {
  plain : AllByRecursion (FitsSlot slots.Rest) l.parts.items;
  done : l.bytes ≡ key_bytes l.parts.items ++ l.rest;
  only : (key : List Part) → Reads (AllByRecursion (FitsSlot slots.Rest)) key_bytes l.bytes key → (left : List Part) × Reads (AllByRecursion (FitsSlot slots.Rest)) key_bytes l.rest left;
}

abbrev pub decreases-loop-rest : goal.decreases-loop-rest
decreases-loop-rest l = length l.rest
