-- What a command that isn't refused is bound to.
use Rattle.std.specs.Prelude.{ℕ, ℤ, unsigned_abs, List, [], ◌∷◌, map, Option, None, Some}
use Rattle.std.specs.Option.{unwrap_or}
use Rattle.bdb_base.specs.declared.kinds.Catalog.{Catalog}
use Rattle.bdb_base.specs.declared.kinds.ColDef.{ColDef}
use Rattle.bdb_base.specs.declared.kinds.RelDef.{RelDef}
use Rattle.bdb_base.specs.declared.kinds.Ref.{Ref}
use Rattle.bdb_base.specs.declared.kinds.Operand.{Operand}
use Rattle.bdb_base.specs.declared.kinds.Operand.TheVariants as operand
use Rattle.bdb_base.specs.declared.kinds.Cond.{Cond}
use Rattle.bdb_base.specs.declared.kinds.SetCol.{SetCol}
use Rattle.bdb_base.specs.declared.kinds.Value.{Value}
use Rattle.bdb_base.specs.declared.kinds.Sign.{Sign}
use Rattle.bdb_base.specs.declared.kinds.Stmt.{Stmt}
use Rattle.bdb_syntax.specs.declared.command.Command.{Command}
use Rattle.bdb_syntax.specs.declared.command.Command.TheVariants.{CreateUser, DropUser, CreateRelation, Insert, Delete, Update, Select, Explain, ShowWorld, Why, ShowTables, Undo, Redo}
use Rattle.bdb_syntax.specs.declared.command.RawCond.{RawCond}
use Rattle.bdb_syntax.specs.declared.command.RawSide.{RawSide}
use Rattle.bdb_syntax.specs.declared.command.RawSide.TheVariants.{Col, Lit}
use Rattle.bdb_syntax.specs.declared.command.RawSet.{RawSet}
use Rattle.bdb_bind.specs.declared.bound.Bound.{Bound}
use Rattle.bdb_bind.specs.declared.bound.Bound.TheVariants as bound
use Rattle.bdb_bind.specs.Lookup.{uid_at, path_of, relation_number, columns_of, column_at}
use Rattle.bdb_bind.specs.QueryBinding.{bound_query}

-- the number of a relation that is there
abbrev pub relation_at : List RelDef → List ℕ → ℕ
relation_at rels name = unwrap_or (relation_number rels name) 0

-- the place of a column that is there
abbrev pub place_of : List ColDef → List ℕ → ℕ
place_of cols name = unwrap_or (column_at cols name) 0

-- a column, of item 0
abbrev pub bound_column : List ColDef → List ℕ → Ref
bound_column cols name = record { item = 0; col = place_of cols name }

abbrev pub bound_side : List ColDef → RawSide → Operand
bound_side cols (Col c) = operand.Col (bound_column cols c.col)
bound_side cols (Lit v) = operand.Lit v

abbrev pub bound_cond : List ColDef → RawCond → Cond
bound_cond cols c = record { left = bound_column cols c.left.col; cmp = c.cmp; right = bound_side cols c.right }

abbrev pub bound_set : List ColDef → RawSet → SetCol
bound_set cols s = record { col = place_of cols s.col; to = s.to }

-- the statement of a path, a sign and a tuple
abbrev pub statement_of : Catalog → List (List ℕ) → Sign → List ℕ → List Value → Stmt
statement_of catalog users sign rel vals = record {
  path = path_of catalog.users users;
  sign = sign;
  tuple = record { rel = relation_at catalog.rels rel; vals = vals };
}

-- the first number of a path; 0 where it is empty
abbrev pub first_of : List ℕ → ℕ
first_of [] = 0
first_of (uid ∷ uids) = uid

-- how many columns the key of a new relation has: one where no number is said
abbrev pub key_length : Option ℤ → ℕ
key_length None = 1
key_length (Some length) = unsigned_abs length

-- what a command is bound to where it isn't refused
abbrev pub bound_of : Catalog → Command → Bound
bound_of catalog (CreateUser name) = bound.CreateUser name
bound_of catalog (DropUser name) = bound.DropUser (uid_at catalog.users name)
bound_of catalog (CreateRelation name cols key) = bound.CreateRelation (record { name = name; cols = cols; key = key_length key })
bound_of catalog (Insert users sign rel vals) = bound.Insert (statement_of catalog users sign rel vals)
bound_of catalog (Delete users sign rel conds) = bound.Delete (path_of catalog.users users) sign (relation_at catalog.rels rel)
    (map (bound_cond (columns_of catalog.rels rel)) conds)
bound_of catalog (Update users sign rel sets conds) = bound.Update (path_of catalog.users users) sign (relation_at catalog.rels rel)
    (map (bound_set (columns_of catalog.rels rel)) sets) (map (bound_cond (columns_of catalog.rels rel)) conds)
bound_of catalog (ShowWorld users) = bound.ShowWorld (path_of catalog.users users)
bound_of catalog (Select query) = bound.Select (bound_query catalog query)
bound_of catalog (Explain query) = bound.Explain (bound_query catalog query)
bound_of catalog (Why users sign rel vals) = bound.Why (statement_of catalog users sign rel vals)
bound_of catalog ShowTables = bound.ShowTables
bound_of catalog Undo = bound.Undo
bound_of catalog Redo = bound.Redo
