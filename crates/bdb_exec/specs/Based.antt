-- When tables have a base with its worlds, and that they show it.
use Rattle.std.specs.Prelude.{◌≡◌, ℕ, suc, List, Option, None}
use Rattle.std.specs.List.{slice_get}
use Rattle.std.specs.Option.{unwrap_or}
use Rattle.bdb_base.specs.declared.kinds.UserSlot.{UserSlot}
use Rattle.bdb_base.specs.Bases.{Contents, IsValid, is_user, key_lengths}
use Rattle.bdb_base.specs.States.{is_state}
use Rattle.bdb_keep.specs.Tables.{Tables}
use Rattle.bdb_tables.specs.Grammar.{InGrammar}
use Rattle.bdb_tables.specs.InUse.{user_codec, rel_codec}
use Rattle.bdb_tables.specs.Names.{Names, path_of, number_of, is_named}
use Rattle.bdb_tables.specs.Rows.{Tuples, HoldsTuples, HoldsRows}
use Rattle.bdb_tables.specs.States.{HoldsStates}
use Rattle.bdb_tables.specs.Writes.{Gives}
use Rattle.bdb_plan.specs.Shown.{Shows}
use Rattle.bdb_exec.specs.Readable.{CanBeRun}
use Rattle.bdb_exec.specs.Seen.{sight_of}

-- Tables have a base with its worlds: every key and row is in the grammar, the places of users by number from 1, the relations by number
-- from 0, the tuples of the statements, the states of the statements, and the rows of the states.
pub record HaveBase (ns : Names) (ts : Tuples) (t : Tables) (b : Contents) : Type 0 where
  pub grammar : InGrammar t
  pub name : ℕ → Option UserSlot
  pub users : Gives user_codec t name
  pub none : name 0 ≡ None
  pub names : (n : ℕ) → name (suc n) ≡ slice_get b.catalog.users n
  pub rels : Gives rel_codec t (slice_get b.catalog.rels)
  pub tuples : HoldsTuples b.stmts ts t
  pub states : HoldsStates (is_user b.catalog.users) ns t
  pub worlds : (w : List ℕ) → is_named ns w ≡ is_state b.stmts w
  pub rows : HoldsRows (key_lengths b.catalog.rels) b.stmts (path_of ns) ts.tuple t

-- the number of a path's world
abbrev pub world_number : Names → List ℕ → ℕ
world_number ns w = unwrap_or (number_of ns w) 0

-- plans can be run over tables that have a base, and what the tables show is the base
pub record ShowBase (ns : Names) (t : Tables) (b : Contents) : Type 0 where
  pub run : CanBeRun t
  pub shown : Shows b (sight_of t) (world_number ns)

-- tables that have a valid base show it
abbrev pub TablesShowBase : Type 0
TablesShowBase = (ns : Names) (ts : Tuples) (t : Tables) (b : Contents) → IsValid b.catalog b.stmts → HaveBase ns ts t b → ShowBase ns t b
