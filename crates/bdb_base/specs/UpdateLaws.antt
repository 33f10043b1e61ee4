-- An update and a delete keep a base valid.
use Rattle.std.specs.Prelude.{◌≡◌, ℕ, ◌≤◌, true, List, length, None}
use Rattle.bdb_base.specs.declared.kinds.Catalog.{Catalog}
use Rattle.bdb_base.specs.declared.kinds.Cond.{Cond}
use Rattle.bdb_base.specs.declared.kinds.SetCol.{SetCol}
use Rattle.bdb_base.specs.declared.kinds.Sign.{Sign}
use Rattle.bdb_base.specs.declared.kinds.Stmt.{Stmt}
use Rattle.bdb_base.specs.declared.tuple.Tuple.{Tuple}
use Rattle.bdb_base.specs.Bases.{IsValid, fits_relation, key_lengths, tuple_count, world_count}
use Rattle.bdb_base.specs.Limits.{most_statements, most_tuples, most_worlds}
use Rattle.bdb_base.specs.Changes.{without_taken, updated, first_clashing}
use Rattle.bdb_base.specs.Conditions.{changed}

-- A valid base stays valid after an update: one whose changes leave each tuple of the relation fit for it and after which
-- no two statements of the path clash, where the limits leave room.
abbrev pub UpdateIsValid : Type 0
UpdateIsValid = (c : Catalog) (stmts : List Stmt) (w : List ℕ) (s : Sign) (rel : ℕ) (conds : List Cond) (sets : List SetCol)
    → IsValid c stmts
    → ((t : Tuple) → t.rel ≡ rel → fits_relation c.rels t ≡ true → fits_relation c.rels (changed sets t) ≡ true)
    → first_clashing (key_lengths c.rels) (updated w s rel conds sets stmts) w ≡ None
    → tuple_count (updated w s rel conds sets stmts) ≤ most_tuples → world_count (updated w s rel conds sets stmts) ≤ most_worlds
    → length (updated w s rel conds sets stmts) ≤ most_statements
    → IsValid c (updated w s rel conds sets stmts)

-- a valid base stays valid after a delete
abbrev pub DeleteIsValid : Type 0
DeleteIsValid = (c : Catalog) (stmts : List Stmt) (w : List ℕ) (s : Sign) (rel : ℕ) (conds : List Cond) → IsValid c stmts
    → IsValid c (without_taken w s rel conds stmts)
