-- What reading the tuples of tables of any bytes tells.
use Rattle.std.specs.Prelude.{◌≡◌, ℕ, List, [], Some}
use Rattle.std.specs.FinMap as tables
use Rattle.bdb_base.specs.declared.tuple.Tuple.{Tuple}
use Rattle.bdb_keep.specs.Tables.{Tables}
use Rattle.bdb_key.specs.Grammar.{IsNum}
use Rattle.bdb_tables.specs.Codec.{Codec, place}
use Rattle.bdb_tables.specs.InUse.{tuple_codec, tuple_ix_codec}
use Rattle.bdb_tables.specs.Rows.{Tuples}
use Rattle.bdb_tables.specs.Spans.{AreUnder}
use Rattle.bdb_tables.specs.Writes.{Gives}

module _ {Key Row : Type 0} where
  -- a row, turned round, is in a table
  abbrev pub IsTurned : Codec Key Row → Tables → Row × Key → Type 0
  IsTurned c t e = tables.get t (place c e.1) ≡ Some (c.row_bytes e.0)

  -- what whoever asks for a row turned round has to know
  pub record MayBeTurned (c : Codec Key Row) (e : Row × Key) : Type 0 where
    pub key : c.MayBeKey e.1
    pub row : c.MayBeRow e.0

-- the two tables of tuples give tuples by number and the numbers of tuples: each tuple has one number of four bytes
pub record HasTuples (t : Tables) (ts : Tuples) : Type 0 where
  pub tuples : Gives tuple_codec t ts.tuple
  pub numbers : Gives tuple_ix_codec t ts.number
  pub named : (tid : ℕ) (u : Tuple) → ts.tuple tid ≡ Some u → ts.number u ≡ Some tid
  pub numbered : (u : Tuple) (tid : ℕ) → ts.number u ≡ Some tid → ts.tuple tid ≡ Some u
  pub sized : (tid : ℕ) (u : Tuple) → ts.tuple tid ≡ Some u → IsNum tid

-- rows are those of the tuples, and the two tables of tuples tell of one another
pub record AreTuples (t : Tables) (rows : List (ℕ × Tuple)) : Type 0 where
  pub under : AreUnder tuple_codec t [] rows
  pub tuples : Tuples
  pub has : HasTuples t tuples

-- the two tables of tuples tell of no tuples with one number each
abbrev pub HaveNoTuples : Tables → Type 0
HaveNoTuples t = (ts : Tuples) → HasTuples t ts → ⊥
