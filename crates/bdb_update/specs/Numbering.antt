-- Numbers of tuples that come and go.
use Rattle.std.specs.Prelude.{◌≡◌, ℕ, ◌<◌, true, nat_eq, cond, List, Some, None, is_some}
use Rattle.std.specs.FinMap as tables
use Rattle.bdb_base.specs.Bases.{tuple_count}
use Rattle.bdb_base.specs.Same.{same_tuple}
use Rattle.bdb_base.specs.declared.kinds.Stmt.{Stmt}
use Rattle.bdb_base.specs.declared.tuple.Tuple.{Tuple}
use Rattle.bdb_keep.specs.Tables.{Tables}
use Rattle.bdb_tables.specs.Codec.{HasAt, place}
use Rattle.bdb_tables.specs.InUse.{tuple_codec, tuple_ix_codec}
use Rattle.bdb_tables.specs.Rows.{Tuples, HoldsTuples}
use Rattle.bdb_tables.specs.Writes.{with_change}

-- tuples and their numbers, with one more
abbrev pub with_number : Tuples → ℕ → Tuple → Tuples
with_number ts tid u = record {
  tuple = λ k. cond (nat_eq k tid) (Some u) (ts.tuple k);
  number = λ x. cond (same_tuple x u) (Some tid) (ts.number x);
}

-- tuples and their numbers, without one
abbrev pub without_number : Tuples → ℕ → Tuple → Tuples
without_number ts tid u = record {
  tuple = λ k. cond (nat_eq k tid) None (ts.tuple k);
  number = λ x. cond (same_tuple x u) None (ts.number x);
}

-- the two rows of a tuple's number are put
abbrev pub number_put : Tables → ℕ → Tuple → Tables
number_put t tid u = with_change tuple_ix_codec (with_change tuple_codec t (tid, Some u)) (u, Some tid)

-- the two rows of a tuple's number are taken away
abbrev pub number_taken : Tables → ℕ → Tuple → Tables
number_taken t tid u = with_change tuple_ix_codec (with_change tuple_codec t (tid, None)) (u, None)

-- tables hold the tuples of some statements, so many
pub record HoldsSomeTuples (t : Tables) (n : ℕ) : Type 0 where
  pub told : List Stmt
  pub numbers : Tuples
  pub held : HoldsTuples told numbers t
  pub counted : n ≡ tuple_count told

-- a number is the least one that no tuple has
pub record IsLeastNumber (t : Tables) (tid : ℕ) : Type 0 where
  pub free : tables.get t (place tuple_codec tid) ≡ None
  pub least : (n : ℕ) → n < tid → is_some (tables.get t (place tuple_codec n)) ≡ true

-- where a tuple had no number before, the one that it has afterwards was the least one that no tuple had
abbrev pub TakesLeast : Tables → Tables → Tuple → Type 0
TakesLeast t u x = tables.get t (place tuple_ix_codec x) ≡ None → (tid : ℕ) → HasAt tuple_ix_codec u x (Some tid) → IsLeastNumber t tid
