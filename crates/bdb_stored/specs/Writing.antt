-- Tables that are cleared, and the base that is written into them piece by piece.
use Rattle.std.specs.Prelude.{◌≡◌, ℕ, ◌+◌, Bool, true, false, ◌&&◌, nat_eq, nat_le, nat_lt, List, [], ◌∷◌, ◌++◌, length, take, None}
use Rattle.std.specs.FinMap as tables
use Rattle.bdb_base.specs.Bases.{Contents, IsValid, stands, with_statement}
use Rattle.bdb_base.specs.declared.kinds.Catalog.{Catalog}
use Rattle.bdb_base.specs.declared.kinds.RelDef.{RelDef}
use Rattle.bdb_base.specs.declared.kinds.Stmt.{Stmt}
use Rattle.bdb_base.specs.declared.kinds.UserSlot.{UserSlot}
use Rattle.bdb_canon.specs.Sizes.{counts_of}
use Rattle.bdb_canon.specs.declared.sizes.Counts.{Counts}
use Rattle.bdb_keep.specs.Tables.{Tables}
use Rattle.bdb_tables.specs.Stored.{SameBut}
use Rattle.bdb_update.specs.Calls.{MayMeet, StoresSized, clash_of, with_stmts, size_passed, with_one}
use Rattle.bdb_catalog.specs.Bases.{StoresValid}

-- the number of a table that is before another
abbrev pub table_is_before : ℕ → ℕ → Bool
table_is_before tab n = nat_le 1 n && nat_lt n tab

-- the tables before one have no row, and the others are as they were
pub record AreCleared (tab : ℕ) (t u : Tables) : Type 0 where
  pub none : (n : ℕ) (k : List ℕ) → table_is_before tab n ≡ true → tables.get u (n ∷ k) ≡ None
  pub others : SameBut (table_is_before tab) t u

-- one table has no row, and the others are as they were
pub record IsCleared (tab : ℕ) (t u : Tables) : Type 0 where
  pub none : (k : List ℕ) → tables.get u (tab ∷ k) ≡ None
  pub others : SameBut (nat_eq tab) t u

-- the base of places of users, relations and statements
abbrev pub base_of : List UserSlot → List RelDef → List Stmt → Contents
base_of users rels stmts = record { catalog = record { rels = rels; users = users }; stmts = stmts }

-- the base of the first places of users of a catalog
abbrev pub with_users : Catalog → ℕ → Contents
with_users c k = base_of (take k c.users) [] []

-- the base of its users and its first relations
abbrev pub with_relations : Catalog → ℕ → Contents
with_relations c k = base_of c.users (take k c.rels) []

-- the base of the first statements of another
abbrev pub with_front : Contents → ℕ → Contents
with_front b k = with_stmts b (take k b.stmts)

-- the catalog with one more place, whoever's it is
abbrev pub with_slot : Catalog → UserSlot → Catalog
with_slot c slot = record c { users = c.users ++ slot ∷ [] }

-- tables store a valid base, to which a place of the next number may be added
pub record MayAddPlace (t : Tables) (uid : ℕ) (slot : UserSlot) (b : Contents) : Type 0 where
  pub base : StoresValid t b
  pub next : uid ≡ length b.catalog.users + 1
  pub valid : IsValid (with_slot b.catalog slot) b.stmts

-- there is such a base
pub record SomeMayAddPlace (t : Tables) (uid : ℕ) (slot : UserSlot) : Type 0 where
  pub base : Contents
  pub may : MayAddPlace t uid slot base

-- whichever base it is, the tables store it with the place
abbrev pub AddsPlace : Tables → Tables → ℕ → UserSlot → Type 0
AddsPlace t u uid slot = (b : Contents) → MayAddPlace t uid slot b → StoresValid u (record b { catalog = with_slot b.catalog slot })

-- tables store a valid base of these sizes, which a statement more leaves valid, and the statement neither stands nor
-- clashes, and passes no limit
pub record MayFollow (t : Tables) (counts : Counts) (x : Stmt) (b : Contents) : Type 0 where
  pub meet : MayMeet t counts x b
  pub fresh : stands b.stmts x ≡ false
  pub apart : clash_of b x ≡ None
  pub room : size_passed (counts_of (with_one b x)) ≡ None
  pub valid : IsValid b.catalog (with_statement b.stmts x)

-- there is such a base
pub record SomeMayFollow (t : Tables) (counts : Counts) (x : Stmt) : Type 0 where
  pub base : Contents
  pub may : MayFollow t counts x base

-- whichever base it is, the tables store it with the statement
abbrev pub AddsNext : Tables → Tables → Counts → Counts → Stmt → Type 0
AddsNext t u before after x = (b : Contents) → MayFollow t before x b → StoresSized u after (with_one b x)
