-- The explicit rows of a world, as they are read with their tuples.
use Rattle.std.specs.Prelude.{◌≡◌, ℕ, Bool, true, List, [], ◌∷◌, ◌++◌, filter, is_some}
use Rattle.std.specs.Bool.{MatchBool}
use Rattle.std.specs.FinMap as tables
use Rattle.bdb_keep.specs.Tables.{Tables}
use Rattle.bdb_tables.specs.Codec.{place}
use Rattle.bdb_tables.specs.InUse.{ValKey, tuple_codec, val_codec}
use Rattle.bdb_tables.specs.Marks.{Mark}
use Rattle.bdb_tables.specs.Spans.{AreUnder}
use Rattle.bdb_val.specs.Reads.{AreTold, IsTold}
use Rattle.bdb_val.specs.declared.stored.StoredRow.{StoredRow}

-- a row is explicit
abbrev pub is_explicit_entry : ValKey × Mark → Bool
is_explicit_entry e = e.1.1

-- rows with their tuples are the explicit ones of some rows
abbrev pub AreExplicitRows : Tables → List (ValKey × Mark) → List StoredRow → Type 0
AreExplicitRows t es xs = AreTold t (filter is_explicit_entry es) xs

-- these are the explicit rows, with their tuples, whose keys begin so, in the order of the keys
pub record AreExplicitUnder (t : Tables) (prefix : List ℕ) (xs : List StoredRow) : Type 0 where
  pub entries : List (ValKey × Mark)
  pub under : AreUnder val_codec t prefix entries
  pub told : AreExplicitRows t entries xs

-- the tuple of a row has its own row
abbrev pub HasTupleRow : Tables → ValKey × Mark → Type 0
HasTupleRow t e = is_some (tables.get t (place tuple_codec e.0.3)) ≡ true

-- rows with their tuples are with one more, if it is explicit
abbrev pub IsPicked : Tables → ValKey × Mark → List StoredRow → List StoredRow → Type 0
IsPicked t e old new = MatchBool e.1.1 ((x : StoredRow) × IsTold t e x × (new ≡ old ++ x ∷ [])) (new ≡ old)
