-- What holds of tables that store a base with its worlds. Each law is the contract of a function of `stored_laws`.
use Rattle.std.specs.Prelude.{◌≡◌, ℕ, ◌+◌, Bool, true, ◌||◌, nat_eq, List, [], ◌∷◌, ◌++◌, length, None}
use Rattle.std.specs.List.{list_all}
use Rattle.std.specs.FinMap as tables
use Rattle.bdb_base.specs.Bases.{Contents, IsValid, belongs, empty_contents, is_user, with_user, without_user, with_relation}
use Rattle.bdb_base.specs.declared.kinds.Catalog.{Catalog}
use Rattle.bdb_base.specs.declared.kinds.RelDef.{RelDef}
use Rattle.bdb_base.specs.declared.kinds.UserSlot.TheVariants.{Live, Gone}
use Rattle.bdb_keep.specs.Tables.{Tables}
use Rattle.bdb_key.specs.Grammar.{IsNum, IsPlain}
use Rattle.bdb_key.specs.Rows.{IsRelRow}
use Rattle.bdb_tables.specs.Codec.{place}
use Rattle.bdb_tables.specs.Grammar.{InGrammar}
use Rattle.bdb_tables.specs.InUse.{meta_codec, user_codec, rel_codec, depth_codec}
use Rattle.bdb_tables.specs.Names.{Names}
use Rattle.bdb_tables.specs.Rows.{Tuples}
use Rattle.bdb_tables.specs.States.{HoldsStates}
use Rattle.bdb_tables.specs.Stored.{SameBut, StoredAs, Stores}

-- tables that store a base are in the grammar
abbrev pub StoredIsInGrammar : Type 0
StoredIsInGrammar = (t : Tables) (b : Contents) → Stores t b → InGrammar t

-- two valid bases that the same tables store are one
abbrev pub StoredBaseIsOne : Type 0
StoredBaseIsOne = (t : Tables) (a b : Contents) → Stores t a → Stores t b → IsValid a.catalog a.stmts → IsValid b.catalog b.stmts → a ≡ b

-- no table has a row
abbrev pub HaveNoRows : Tables → Type 0
HaveNoRows t = (n : ℕ) (k : List ℕ) → tables.get t (n ∷ k) ≡ None

-- where no table has a row, the row of the format and the depth of world 0 store the empty base
abbrev pub TwoRowsStoreEmpty : Type 0
TwoRowsStoreEmpty = (t : Tables) → HaveNoRows t → Stores (tables.insert (tables.insert t (place meta_codec tt) (meta_codec.row_bytes 3)) (place depth_codec 0) (depth_codec.row_bytes 0)) empty_contents

-- the row of a relation whose number is the next adds the relation, where no statement is of a relation that there isn't
abbrev pub PutStoresRelation : Type 0
PutStoresRelation = (t : Tables) (b : Contents) (rel : ℕ) (def : RelDef) → Stores t b → list_all (belongs b.catalog) b.stmts ≡ true → rel ≡ length b.catalog.rels → IsNum rel → IsRelRow def
    → Stores (tables.insert t (place rel_codec rel) (rel_codec.row_bytes def)) (record b { catalog = with_relation b.catalog def })

-- a table is one of the two of edges
abbrev pub is_edges : ℕ → Bool
is_edges n = nat_eq n 9 || nat_eq n 10

-- Where the names of worlds stand for states over the users and one more, and all but edges is as after a put of the row
-- of this user, whose number is the next, the tables store the base with the user.
abbrev pub EdgesStoreUser : Type 0
EdgesStoreUser = (ns : Names) (ts : Tuples) (t u : Tables) (b : Contents) (uid : ℕ) (name : List ℕ) → StoredAs ns ts t b
    → uid ≡ length b.catalog.users + 1 → IsNum uid → IsPlain name
    → HoldsStates (is_user (with_user b.catalog name).users) ns u
    → SameBut is_edges (tables.insert t (place user_codec uid) (user_codec.row_bytes (Live name))) u
    → StoredAs ns ts u (record b { catalog = with_user b.catalog name })

-- Where the names of worlds stand for states over the users without one, and all but edges is as after a put of the row of
-- one who is gone at his number, the tables store the base without the user.
abbrev pub EdgesStoreWithoutUser : Type 0
EdgesStoreWithoutUser = (ns : Names) (ts : Tuples) (t u : Tables) (b : Contents) (uid : ℕ) → StoredAs ns ts t b → is_user b.catalog.users uid ≡ true
    → HoldsStates (is_user (without_user b.catalog uid).users) ns u
    → SameBut is_edges (tables.insert t (place user_codec uid) (user_codec.row_bytes Gone)) u
    → StoredAs ns ts u (record b { catalog = without_user b.catalog uid })

-- the catalog with one more place, whose user is gone
abbrev pub with_gone_place : Catalog → Catalog
with_gone_place c = record c { users = c.users ++ Gone ∷ [] }

-- the row of one who is gone, at the next number, adds such a place
abbrev pub GonePlaceStored : Type 0
GonePlaceStored = (ns : Names) (ts : Tuples) (t : Tables) (b : Contents) (uid : ℕ) → StoredAs ns ts t b → uid ≡ length b.catalog.users + 1 → IsNum uid
    → StoredAs ns ts (tables.insert t (place user_codec uid) (user_codec.row_bytes Gone)) (record b { catalog = with_gone_place b.catalog })
