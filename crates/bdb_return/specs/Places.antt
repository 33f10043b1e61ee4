-- The place of a user goes, and the row of a relation. Tables are told of by whichever base they store.
use Rattle.std.specs.Prelude.{◌≡◌, ℕ, ◌+◌, ◌*◌, List, length}
use Rattle.bdb_base.specs.Bases.{Contents, world_count}
use Rattle.bdb_base.specs.Causes.{Rises}
use Rattle.bdb_base.specs.declared.kinds.RelDef.{RelDef}
use Rattle.bdb_keep.specs.Seen.{Seen}
use Rattle.bdb_keep.specs.Tables.{Tables}
use Rattle.bdb_tables.specs.Stored.{Stores}
use Rattle.bdb_undo.specs.declared.change.Named.TheVariants.{UserAdded, RelationAdded}
use Rattle.bdb_update.specs.Keeping.{SameNumbers}
use Rattle.bdb_return.specs.Naming.{MayLoseName}

-- where the user of a number was added last, whatever his name, the tables store the base before him
abbrev pub LosesPlace : Tables → Tables → ℕ → Type 0
LosesPlace t u uid = (name : List ℕ) (a : Contents) → uid ≡ length a.catalog.users + 1 → MayLoseName t (UserAdded name) a → Stores u a

-- two writes were then made for each world, and one
abbrev pub WritesReturned : Seen → Seen → ℕ → Type 0
WritesReturned old new uid = (name : List ℕ) (a : Contents) → uid ≡ length a.catalog.users + 1 → MayLoseName old.kept (UserAdded name) a → Rises (2 * world_count a.stmts + 1) old.writes new.writes

-- numbers of worlds and of tuples then stand for what they stood for
abbrev pub PlaceKeeps : Tables → Tables → ℕ → Type 0
PlaceKeeps t u uid = (name : List ℕ) (a : Contents) → uid ≡ length a.catalog.users + 1 → MayLoseName t (UserAdded name) a → SameNumbers t u

-- where the relation of a number was added last, whatever its definition, the tables store the base before it
abbrev pub LosesRelation : Tables → Tables → ℕ → Type 0
LosesRelation t u rel = (def : RelDef) (a : Contents) → rel ≡ length a.catalog.rels → MayLoseName t (RelationAdded def) a → Stores u a
