-- What the test of the rows of worlds tells.
use Rattle.std.specs.Prelude.{◌≡◌, ℕ, Bool, true, false, nat_eq, List, [], Option, Some, MatchOption, is_some}
use Rattle.std.specs.Bool.{MatchBool}
use Rattle.std.specs.List.{list_any, AllByRecursion}
use Rattle.std.specs.FinMap as tables
use Rattle.bdb_base.specs.declared.kinds.Stmt.{Stmt}
use Rattle.bdb_base.specs.declared.tuple.Tuple.{Tuple}
use Rattle.bdb_base.specs.Worlds.{IsConsistent}
use Rattle.bdb_keep.specs.Tables.{Tables}
use Rattle.bdb_tables.specs.Codec.{HasRow, place}
use Rattle.bdb_tables.specs.InUse.{ValKey, IsValKey, depth_codec, tuple_codec, val_codec}
use Rattle.bdb_tables.specs.Marks.{Mark, explicit_of, explicit_sign}
use Rattle.bdb_tables.specs.Names.{Names, AreNames, depth_of, is_named, link_of, path_of}
use Rattle.bdb_tables.specs.Rows.{AreKeyLengths, Tuples, HoldsTuples, HoldsRows}
use Rattle.bdb_tables.specs.Writes.{Gives}
use Rattle.bdb_val.specs.Reads.{AreReadUnder, world_prefix}
use Rattle.bdb_val.specs.Settled.{HasStates}
use Rattle.bdb_val.specs.Settling.{numbers_are_apart, row_key}
use Rattle.bdb_val.specs.declared.stored.StoredRow.{StoredRow}
use Rattle.bdb_entries.specs.Tuples.{HasTuples}
use Rattle.bdb_decode.specs.Explicit.{ArePlaced, Paths, TupleRows, ValRow}
use Rattle.bdb_decode.specs.ExplicitLaws.{AreNamedWorlds}
use Rattle.bdb_decode.specs.Items.{item_of}
use Rattle.bdb_decode.specs.Settles.{settles}

-- ---- worlds and tuples of rows

-- a row's world has a depth, and its tuple a number; its relation and key are the tuple's
pub record IsKeyed (keys : ℕ → ℕ) (t : Tables) (k : ValKey) : Type 0 where
  pub world : is_some (tables.get t (place depth_codec k.0)) ≡ true
  pub tuple : Tuple
  pub stands : HasRow tuple_codec t k.3 tuple
  pub same : row_key keys k.0 k.3 tuple ≡ k

-- keys have lengths of four bytes, and each row is of a world and a tuple that there are
pub record AreKeyed (keys : ℕ → ℕ) (t : Tables) : Type 0 where
  pub lengths : AreKeyLengths keys
  pub each : (k : ValKey) → IsValKey k → is_some (tables.get t (place val_codec k)) ≡ true → IsKeyed keys t k

-- rows that have their places are of worlds and tuples that there are
abbrev pub PlacedRowsAreKeyed : Type 0
PlacedRowsAreKeyed = (keys : ℕ → ℕ) (t : Tables) (worlds : Paths) (tuples : TupleRows) (rows : List ValRow) (ns : Names) (ts : Tuples)
    → AreKeyLengths keys → AreNamedWorlds worlds ns → Gives depth_codec t (depth_of ns) → HasTuples t ts → ((n : ℕ) → ts.tuple n ≡ item_of tuples n)
    → ArePlaced keys t worlds tuples rows → AreKeyed keys t

-- ---- worlds, each with the number to which its suffix link leads

-- rows are those of the world to which a link leads, no two of one tuple; none where it leads to none
pub record AreLinkedRows (t : Tables) (link : Option ℕ) (rows : List StoredRow) : Type 0 where
  pub read : MatchOption link (rows ≡ []) (λ m. AreReadUnder t (world_prefix m) rows)
  pub apart : numbers_are_apart rows ≡ true

-- the rows of a world, and those of the world to which its suffix link leads, pass the test, or they do not
pub record TellsWorld (keys : ℕ → ℕ) (t : Tables) (x : ℕ × Option ℕ) (b : Bool) : Type 0 where
  pub own : List StoredRow
  pub from : List StoredRow
  pub own_read : AreReadUnder t (world_prefix x.0) own
  pub from_read : MatchOption x.1 (from ≡ []) (λ m. AreReadUnder t (world_prefix m) from)
  pub told : b ≡ settles keys own from

-- the rows of each world pass the test, or those of one do not
abbrev pub TellsWorlds : (ℕ → ℕ) → Tables → List (ℕ × Option ℕ) → Bool → Type 0
TellsWorlds keys t worlds b = MatchBool b (AllByRecursion (λ x. TellsWorld keys t x true) worlds) (AllByRecursion (λ x. TellsWorld keys t x false → ⊥) worlds → ⊥)

-- these are the worlds that have names, each with the number to which its suffix link leads
pub record AreWorldsOf (ns : Names) (worlds : List (ℕ × Option ℕ)) : Type 0 where
  pub each : AllByRecursion (λ x. (is_some (path_of ns x.0) ≡ true) × (link_of ns x.0 ≡ x.1)) worlds
  pub all : (wid : ℕ) → is_some (path_of ns wid) ≡ true → list_any (λ x. nat_eq x.0 wid) worlds ≡ true

-- ---- the rows of the worlds

-- the explicit rows of worlds and tuples with names are statements
abbrev pub StateExplicit : (ℕ → ℕ) → List Stmt → Names → (ℕ → Option Tuple) → Tables → Type 0
StateExplicit keys stmts ns tuple t = (f : ValKey → Option Mark) → Gives val_codec t f → (wid : ℕ) (w : List ℕ) (tid : ℕ) (u : Tuple)
    → path_of ns wid ≡ Some w → tuple tid ≡ Some u → explicit_of (f (row_key keys wid tid u)) ≡ explicit_sign stmts w u

-- Statements whose states, tuples and explicit rows the tables have, with these worlds. No two of one path clash.
pub record AreCandidates (keys : ℕ → ℕ) (stmts : List Stmt) (ns : Names) (ts : Tuples) (worlds : List (ℕ × Option ℕ)) (t : Tables) : Type 0 where
  pub names : AreNames ns
  pub states : HasStates stmts (is_named ns)
  pub consistent : IsConsistent keys stmts
  pub tuples : HoldsTuples stmts ts t
  pub depths : Gives depth_codec t (depth_of ns)
  pub linked : AreWorldsOf ns worlds
  pub stated : StateExplicit keys stmts ns ts.tuple t

-- whether the tables hold the rows of the worlds, whichever statements it is whose states, tuples and explicit rows they have
abbrev pub TellsRows : (ℕ → ℕ) → Tables → List (ℕ × Option ℕ) → Bool → Type 0
TellsRows keys t worlds b = (stmts : List Stmt) (ns : Names) (ts : Tuples) → AreCandidates keys stmts ns ts worlds t
    → MatchBool b (HoldsRows keys stmts (path_of ns) ts.tuple t) (HoldsRows keys stmts (path_of ns) ts.tuple t → ⊥)
