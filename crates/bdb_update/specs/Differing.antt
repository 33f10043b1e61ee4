-- Statements that differ from others in one tuple at one path, as after an insert or a delete.
use Rattle.std.specs.Prelude.{◌≡◌, ℕ, Bool, true, false, ◌&&◌, List, Option, Some, None}
use Rattle.std.specs.List.{list_any}
use Rattle.bdb_base.specs.Clash.{key_of}
use Rattle.bdb_base.specs.Same.{same_path, same_tuple}
use Rattle.bdb_base.specs.States.{is_state}
use Rattle.bdb_base.specs.Worlds.{contradicted}
use Rattle.bdb_base.specs.declared.kinds.Sign.{Sign}
use Rattle.bdb_base.specs.declared.kinds.Stmt.{Stmt}
use Rattle.bdb_base.specs.declared.tuple.Tuple.{Tuple}
use Rattle.bdb_tables.specs.InUse.{ValKey}
use Rattle.bdb_tables.specs.Marks.{Mark, explicit_sign}
use Rattle.bdb_val.specs.Reads.{is_of_group}
use Rattle.bdb_val.specs.Settling.{row_key}

-- a tuple is of the relation of another, and has its key
abbrev pub is_like : (ℕ → ℕ) → Tuple → Tuple → Bool
is_like keys u x = is_of_group keys u.rel (key_of keys u) x

-- Statements are the same but for those of a tuple at a path, and so is what contradicts, but for tuples like it at this path.
pub record DifferAt (keys : ℕ → ℕ) (xs ys : List Stmt) (w : List ℕ) (u : Tuple) : Type 0 where
  pub signs : (v : List ℕ) (x : Tuple) → (same_path v w && same_tuple x u) ≡ false → explicit_sign ys v x ≡ explicit_sign xs v x
  pub bars : (v : List ℕ) (x : Tuple) (s : Sign) → (same_path v w && is_like keys u x) ≡ false → contradicted keys ys v x s ≡ contradicted keys xs v x s

-- a statement has this tuple
abbrev pub has_told : List Stmt → Tuple → Bool
has_told stmts u = list_any (λ x. same_tuple x.tuple u) stmts

-- the states of statements are states of `reached`, and their tuples are tuples of `told`
pub record AreWithin (stmts reached told : List Stmt) : Type 0 where
  pub states : (w : List ℕ) → is_state stmts w ≡ true → is_state reached w ≡ true
  pub tuples : (u : Tuple) → has_told stmts u ≡ true → has_told told u ≡ true

-- the row of an explicit sign, where there is one
abbrev pub explicit_row : Option Sign → Option Mark
explicit_row None = None
explicit_row (Some s) = Some (s, true)

-- a tuple's row in a world becomes what the statements at a path say of it
abbrev pub row_said_at : (ℕ → ℕ) → List Stmt → List ℕ → ℕ → ℕ → Tuple → ValKey × Option Mark
row_said_at keys stmts w wid tid u = (row_key keys wid tid u, explicit_row (explicit_sign stmts w u))
