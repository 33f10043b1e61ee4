use Rattle.std.proofs.Common.{◌≡◌, ◌++◌, List, length}
use Rattle.std.specs.List.{AllByRecursion}
use Rattle.bdb_base.specs.declared.kinds.ColDef.{ColDef}
use Rattle.bdb_key.specs.Rows.{IsCol, cols_bytes}
use Rattle.bdb_key.specs.Reading.{Reads}
use Rattle.bdb_key.proofs.row_read.cols_of.Given as goal

abbrev pub invariant-loop-rest : goal.invariant-loop-rest
invariant-loop-rest l = record {
  plain : AllByRecursion IsCol l.cols.items;
  done : l.bytes ≡ cols_bytes l.cols.items ++ l.rest;
  only : (cols : List ColDef) → Reads (AllByRecursion IsCol) cols_bytes l.bytes cols → (left : List ColDef) × Reads (AllByRecursion IsCol) cols_bytes l.rest left;
}

abbrev pub decreases-loop-rest : goal.decreases-loop-rest
decreases-loop-rest l = length l.rest
