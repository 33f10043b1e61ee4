-- What keeps a base valid, and how its counts change.
use Rattle.std.specs.Prelude.{◌≡◌, ℕ, ◌+◌, ◌<◌, ◌≤◌, true, false, cond, List, length, map}
use Rattle.std.specs.List.{list_any}
use Rattle.bdb_base.specs.declared.kinds.Catalog.{Catalog}
use Rattle.bdb_base.specs.declared.kinds.RelDef.{RelDef}
use Rattle.bdb_base.specs.declared.kinds.Stmt.{Stmt}
use Rattle.bdb_base.specs.Limits.{most_users, most_relations, most_statements, most_tuples, most_worlds}
use Rattle.bdb_base.specs.Same.{same_text}
use Rattle.bdb_base.specs.Worlds.{contradicted}
use Rattle.bdb_base.specs.Bases.{IsValid, belongs, is_plain, is_valid_relation, key_lengths, stands, has_tuple, tuple_count, user_names, world_count, with_user, with_relation, with_statement, without_statement}

-- A valid base stays valid with one more statement: one that belongs to its catalog and clashes with none of its path,
-- where the limits leave room.
abbrev pub PutIsValid : Type 0
PutIsValid = (c : Catalog) (stmts : List Stmt) (s : Stmt) → IsValid c stmts → belongs c s ≡ true → contradicted (key_lengths c.rels) stmts s.path s.tuple s.sign ≡ false
    → (stands stmts s ≡ false → length stmts < most_statements) → tuple_count (with_statement stmts s) ≤ most_tuples
    → world_count (with_statement stmts s) ≤ most_worlds
    → IsValid c (with_statement stmts s)

-- a valid base stays valid without a statement
abbrev pub TakeIsValid : Type 0
TakeIsValid = (c : Catalog) (stmts : List Stmt) (s : Stmt) → IsValid c stmts → IsValid c (without_statement stmts s)

-- a valid base stays valid with one more user, of a plain name that no live user has, where there is room
abbrev pub AddUserIsValid : Type 0
AddUserIsValid = (c : Catalog) (stmts : List Stmt) (name : List ℕ) → IsValid c stmts → is_plain name ≡ true → list_any (same_text name) (user_names c.users) ≡ false → length c.users < most_users
    → IsValid (with_user c name) stmts

-- a valid base stays valid with one more valid relation, of a name that none has, where there is room
abbrev pub AddRelationIsValid : Type 0
AddRelationIsValid = (c : Catalog) (stmts : List Stmt) (def : RelDef) → IsValid c stmts → is_valid_relation def ≡ true → list_any (same_text def.name) (map (λ r. r.name) c.rels) ≡ false → length c.rels < most_relations
    → IsValid (with_relation c def) stmts

-- a put adds a tuple exactly where no statement has it
abbrev pub PutCountsTuple : Type 0
PutCountsTuple = (stmts : List Stmt) (s : Stmt) → tuple_count (with_statement stmts s) ≡ cond (has_tuple stmts s.tuple) 0 1 + tuple_count stmts

-- a put to statements in order adds a statement exactly where it did not stand
abbrev pub PutCountsStatement : Type 0
PutCountsStatement = (c : Catalog) (stmts : List Stmt) (s : Stmt) → IsValid c stmts → length (with_statement stmts s) ≡ cond (stands stmts s) 0 1 + length stmts
