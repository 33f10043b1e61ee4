-- Whether the explicit rows of tables make the statements of a valid base, to which the tuples and the worlds belong.
use Rattle.std.specs.Prelude.{◌≡◌, ◌⊎◌, ℕ, true, List, Option}
use Rattle.bdb_base.specs.States.{is_state}
use Rattle.bdb_base.specs.Bases.{AreStatements, Contents, IsCatalog, IsValid, key_lengths}
use Rattle.bdb_base.specs.SortedSet.{ascending}
use Rattle.bdb_base.specs.declared.kinds.Catalog.{Catalog}
use Rattle.bdb_base.specs.declared.kinds.Stmt.{Stmt}
use Rattle.bdb_keep.specs.Tables.{Tables}
use Rattle.bdb_tables.specs.InUse.{ValKey, val_codec}
use Rattle.bdb_tables.specs.Marks.{Mark}
use Rattle.bdb_tables.specs.Names.{Names, is_named}
use Rattle.bdb_tables.specs.Rows.{Tuples, HoldsTuples}
use Rattle.bdb_tables.specs.Stored.{StoredAs}
use Rattle.bdb_tables.specs.Writes.{Gives}
use Rattle.bdb_val.specs.Middle.{HasExplicit, worlds_of}
use Rattle.bdb_entries.specs.Tuples.{HasTuples}
use Rattle.bdb_decode.specs.Explicit.{AreStated, Paths, TupleRows}
use Rattle.bdb_decode.specs.ExplicitLaws.{AreNamedWorlds}
use Rattle.bdb_decode.specs.Items.{item_of, number_cmp}
use Rattle.bdb_decode.specs.Many.{HaveNoStatements}
use Rattle.bdb_decode.specs.Stated.{all_stated, all_states}

-- statements are those of a valid base with a catalog; each tuple is that of one of them, and each path a state
pub record AreWhole (c : Catalog) (paths : Paths) (numbered : TupleRows) (stmts : List Stmt) : Type 0 where
  pub valid : AreStatements c stmts
  pub tuples : all_stated stmts numbered ≡ true
  pub worlds : all_states stmts paths ≡ true

-- the explicit rows make these statements, which are whole
pub record AreBaseStatements (t : Tables) (c : Catalog) (worlds : Paths) (tuples : TupleRows) (stmts : List Stmt) : Type 0 where
  pub stated : AreStated (key_lengths c.rels) t worlds tuples stmts
  pub whole : AreWhole c worlds tuples stmts

-- the explicit rows make statements that aren't whole
pub record AreNotWhole (t : Tables) (c : Catalog) (worlds : Paths) (tuples : TupleRows) : Type 0 where
  pub stmts : List Stmt
  pub stated : AreStated (key_lengths c.rels) t worlds tuples stmts
  pub other : AreWhole c worlds tuples stmts → ⊥

-- a row is foreign or without its place, or the explicit rows make too many statements, or statements that aren't whole
abbrev pub HaveNoBaseStatements : Tables → Catalog → Paths → TupleRows → Type 0
HaveNoBaseStatements t c worlds tuples = HaveNoStatements (key_lengths c.rels) t worlds tuples ⊎ AreNotWhole t c worlds tuples

-- a valid base that tables store under these names has whole statements
abbrev pub HeldBasesAreWhole : Type 0
HeldBasesAreWhole = (b : Contents) (ns : Names) (ts : Tuples) (t : Tables) (worlds : Paths) (tuples : TupleRows)
    → StoredAs ns ts t b → IsValid b.catalog b.stmts → AreNamedWorlds worlds ns → ((n : ℕ) → ts.tuple n ≡ item_of tuples n)
    → ascending number_cmp worlds ≡ true → ascending number_cmp tuples ≡ true → HaveNoBaseStatements t b.catalog worlds tuples → ⊥

-- the statements that the explicit rows make are those of the base
abbrev pub HeldBasesAreStated : Type 0
HeldBasesAreStated = (b : Contents) (ns : Names) (ts : Tuples) (t : Tables) (worlds : Paths) (tuples : TupleRows) (stmts : List Stmt)
    → StoredAs ns ts t b → IsValid b.catalog b.stmts → AreNamedWorlds worlds ns → ((n : ℕ) → ts.tuple n ≡ item_of tuples n)
    → AreStated (key_lengths b.catalog.rels) t worlds tuples stmts → stmts ≡ b.stmts

-- tables hold the tuples of statements and worlds that are their states, and the explicit rows are the statements
pub record AreHeldExplicit (keys : ℕ → ℕ) (stmts : List Stmt) (ns : Names) (ts : Tuples) (f : ValKey → Option Mark) (t : Tables) : Type 0 where
  pub tuples : HoldsTuples stmts ts t
  pub worlds : (w : List ℕ) → is_named ns w ≡ is_state stmts w
  pub explicit : HasExplicit keys stmts (worlds_of ns) ts.tuple f t

-- Where the explicit rows make statements that are whole, the tables hold all of their base but the inherited rows. What is then
-- left is that the rows are settled.
abbrev pub BaseStatementsAreHeld : Type 0
BaseStatementsAreHeld = (t : Tables) (c : Catalog) (worlds : Paths) (tuples : TupleRows) (stmts : List Stmt) (ns : Names) (ts : Tuples) (f : ValKey → Option Mark)
    → IsCatalog c → AreNamedWorlds worlds ns → HasTuples t ts → ((n : ℕ) → ts.tuple n ≡ item_of tuples n) → Gives val_codec t f
    → AreBaseStatements t c worlds tuples stmts → AreHeldExplicit (key_lengths c.rels) stmts ns ts f t
