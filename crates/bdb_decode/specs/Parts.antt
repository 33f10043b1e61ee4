-- The parts of tables of any bytes: their catalog, worlds and tuples, where they store a base.
use Rattle.std.specs.Prelude.{◌≡◌, ℕ, Bool, true, List, Option, map}
use Rattle.std.specs.List.{AllByRecursion}
use Rattle.bdb_base.specs.Bases.{Contents, is_user}
use Rattle.bdb_base.specs.SortedSet.{ascending}
use Rattle.bdb_base.specs.declared.kinds.Catalog.{Catalog}
use Rattle.bdb_catalog.specs.Bases.{StoresValid}
use Rattle.bdb_keep.specs.Tables.{Tables}
use Rattle.bdb_tables.specs.Codec.{HasAt}
use Rattle.bdb_tables.specs.Grammar.{InGrammar}
use Rattle.bdb_tables.specs.InUse.{link_codec}
use Rattle.bdb_tables.specs.Names.{Names}
use Rattle.bdb_tables.specs.States.{HoldsStates}
use Rattle.bdb_entries.specs.Catalog.{HasCatalog}
use Rattle.bdb_entries.specs.Format.{HasFormat}
use Rattle.bdb_entries.specs.Reading.{OthersAreBare}
use Rattle.bdb_entries.specs.Tuples.{AreTuples}
use Rattle.bdb_names.specs.declared.named.NamedWorld.{NamedWorld}
use Rattle.bdb_decode.specs.Explicit.{Paths, TupleRows}
use Rattle.bdb_decode.specs.ExplicitLaws.{AreNamedWorlds}
use Rattle.bdb_decode.specs.Items.{number_cmp}
use Rattle.bdb_decode.specs.SettledRows.{TellsRows}

-- tables store no valid base
abbrev pub StoreNone : Tables → Type 0
StoreNone t = (b : Contents) → StoresValid t b → ⊥

-- tables of this format: every key and row is in the grammar, and no other table has a row
pub record AreFormed (t : Tables) : Type 0 where
  pub format : HasFormat t 3
  pub grammar : InGrammar t
  pub others : OthersAreBare t

-- ---- worlds

-- a world's number and path
abbrev pub path_row : NamedWorld → ℕ × List ℕ
path_row x = (x.wid, x.path)

-- these are the worlds of the states that tables hold over users, in order of their numbers
pub record ArePaths (users : ℕ → Bool) (t : Tables) (worlds : Paths) : Type 0 where
  pub names : Names
  pub paths : AreNamedWorlds worlds names
  pub states : HoldsStates users names t
  pub sorted : ascending number_cmp worlds ≡ true

-- tables hold no states over these users
abbrev pub HoldNoneOver : (ℕ → Bool) → Tables → Type 0
HoldNoneOver users t = (ns : Names) → HoldsStates users ns t → ⊥

-- a world's number, and where its suffix link leads in the tables
pub record IsLink (t : Tables) (row : ℕ × List ℕ) (link : ℕ × Option ℕ) : Type 0 where
  pub same : link.0 ≡ row.0
  pub found : HasAt link_codec t link.0 link.1

-- the number of each world, and where its suffix link leads in the tables
pub record AreLinks (t : Tables) (worlds : Paths) (links : List (ℕ × Option ℕ)) : Type 0 where
  pub numbers : map (λ (x : ℕ × Option ℕ). x.0) links ≡ map (λ (e : ℕ × List ℕ). e.0) worlds
  pub each : AllByRecursion (λ (x : ℕ × Option ℕ). HasAt link_codec t x.0 x.1) links

-- whether tables hold the rows of worlds, each linked as the tables say
pub record TellsRowsOf (keys : ℕ → ℕ) (t : Tables) (worlds : Paths) (b : Bool) : Type 0 where
  pub links : List (ℕ × Option ℕ)
  pub linked : AreLinks t worlds links
  pub told : TellsRows keys t links b

-- ---- all parts

-- the users and relations, the worlds and the tuples of tables
pub record AreParts (t : Tables) (c : Catalog) (worlds : Paths) (tuples : TupleRows) : Type 0 where
  pub catalog : HasCatalog t c
  pub states : ArePaths (is_user c.users) t worlds
  pub numbered : AreTuples t tuples
