-- Tables in the middle of a change: the explicit rows are the statements, and some rows may not be settled.
use Rattle.std.specs.Prelude.{◌≡◌, ℕ, Bool, true, false, List, Option, Some, is_some}
use Rattle.bdb_base.specs.declared.kinds.Stmt.{Stmt}
use Rattle.bdb_base.specs.declared.tuple.Tuple.{Tuple}
use Rattle.bdb_base.specs.Worlds.{IsConsistent}
use Rattle.bdb_keep.specs.Tables.{Tables}
use Rattle.bdb_key.specs.Grammar.{IsNum}
use Rattle.bdb_tables.specs.InUse.{ValKey, IsValKey}
use Rattle.bdb_tables.specs.Marks.{Mark, explicit_of, explicit_sign}
use Rattle.bdb_tables.specs.Names.{Names, path_of, link_of}
use Rattle.bdb_val.specs.Reads.{HasRows}
use Rattle.bdb_val.specs.Settled.{LinkedWorlds, IsSettled}
use Rattle.bdb_val.specs.Settling.{HaveTupleNumbers, row_key}

-- the names of worlds, and where their suffix links lead
abbrev pub worlds_of : Names → LinkedWorlds
worlds_of ns = record { path = path_of ns; link = link_of ns }

-- Tables have rows of named worlds and tuples, and the explicit ones are exactly the statements at the worlds' paths. No two
-- statements of one path clash.
pub record HasExplicit (keys : ℕ → ℕ) (stmts : List Stmt) (n : LinkedWorlds) (tuple : ℕ → Option Tuple) (f : ValKey → Option Mark) (t : Tables) : Type 0 where
  pub rows : HasRows keys tuple f t
  pub sized : (wid : ℕ) (w : List ℕ) → n.path wid ≡ Some w → IsNum wid
  pub worlds : (k : ValKey) → IsValKey k → is_some (f k) ≡ true → is_some (n.path k.0) ≡ true
  pub explicit : (wid : ℕ) (w : List ℕ) (tid : ℕ) (u : Tuple) → n.path wid ≡ Some w → tuple tid ≡ Some u → explicit_of (f (row_key keys wid tid u)) ≡ explicit_sign stmts w u
  pub numbered : HaveTupleNumbers tuple stmts
  pub consistent : IsConsistent keys stmts

-- a tuple's row in a world is settled
abbrev pub IsSettledAt : (ℕ → ℕ) → List Stmt → LinkedWorlds → (ValKey → Option Mark) → ℕ → ℕ → Tuple → Type 0
IsSettledAt keys stmts n f wid tid u = IsSettled keys stmts n u (λ m. f (row_key keys m tid u)) wid

-- the rows of all tuples are settled, but for those that a test names by world and tuple
abbrev pub AreSettledBut : (ℕ → ℕ) → List Stmt → LinkedWorlds → (ℕ → Option Tuple) → (ValKey → Option Mark) → (ℕ → Tuple → Bool) → Type 0
AreSettledBut keys stmts n tuple f out = (wid tid : ℕ) (u : Tuple) → tuple tid ≡ Some u → out wid u ≡ false → IsSettledAt keys stmts n f wid tid u
