-- Which tuples go with statements of a path, and which come. Tables are told of by whichever base they store.
use Rattle.std.specs.Prelude.{◌≡◌, ℕ, Bool, true, not, ◌||◌, List, [], ◌∷◌, cond}
use Rattle.std.specs.List.{AllByRecursion, list_all}
use Rattle.bdb_base.specs.Bases.{Contents, has_tuple, key_lengths}
use Rattle.bdb_base.specs.Worlds.{explicit, IsConsistent}
use Rattle.bdb_base.specs.declared.kinds.Sign.{Sign}
use Rattle.bdb_base.specs.declared.kinds.Stmt.{Stmt}
use Rattle.bdb_base.specs.declared.tuple.Tuple.{Tuple}
use Rattle.bdb_keep.specs.Tables.{Tables}
use Rattle.bdb_key.specs.Rows.{MayBeTuple}
use Rattle.bdb_update.specs.Reached.{told_elsewhere, lost_of, fresh_of}
use Rattle.bdb_tables.specs.Stored.{Stores}

-- each statement's tuple may be written
abbrev pub MayBeTuples : List Stmt → Type 0
MayBeTuples xs = AllByRecursion (λ x. MayBeTuple x.tuple) xs

-- a statement, where it is kept
abbrev pub kept_if : Bool → Stmt → List Stmt
kept_if is x = cond is (x ∷ []) []

-- these statements all stand at a path
abbrev pub are_at : List Stmt → List ℕ → List Stmt → Bool
are_at stmts w xs = list_all (λ x. explicit stmts w x.tuple x.sign) xs

-- whichever base tables store, and at whichever path a statement has a tuple: whether no statement of another path has it, nor any
-- of some
abbrev pub IsLost : Tables → List Stmt → Tuple → Bool → Type 0
IsLost t reached u is = (b : Contents) → Stores t b → (w : List ℕ) (g : Sign) → IsConsistent (key_lengths b.catalog.rels) b.stmts → explicit b.stmts w u g ≡ true
    → is ≡ not (has_tuple reached u || told_elsewhere b.stmts w u)

abbrev pub AreLost : Tables → List Stmt → List Stmt → List Stmt → Type 0
AreLost t reached gone xs = (b : Contents) → Stores t b → (w : List ℕ) → IsConsistent (key_lengths b.catalog.rels) b.stmts → are_at b.stmts w gone ≡ true
    → xs ≡ lost_of b.stmts w reached gone

-- whether no statement has a tuple
abbrev pub IsFresh : Tables → Tuple → Bool → Type 0
IsFresh t u is = (b : Contents) → Stores t b → is ≡ not (has_tuple b.stmts u)

abbrev pub AreFresh : Tables → List Stmt → List Stmt → Type 0
AreFresh t come xs = (b : Contents) → Stores t b → xs ≡ fresh_of b.stmts come
