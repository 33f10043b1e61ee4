-- When a row is what the explicit rows of its world, and the world to which that is linked, make of it.
use Rattle.std.specs.Prelude.{◌≡◌, ℕ, Bool, true, false, List, [], ◌∷◌, Option, Some, None, cond}
use Rattle.bdb_base.specs.declared.kinds.Sign.{Sign}
use Rattle.bdb_base.specs.declared.kinds.Stmt.{Stmt}
use Rattle.bdb_base.specs.declared.tuple.Tuple.{Tuple}
use Rattle.bdb_base.specs.States.{is_state, deepest_suffix}
use Rattle.bdb_base.specs.Worlds.{contradicted}
use Rattle.bdb_tables.specs.Marks.{Mark, sign_of, explicit_sign, mark_of}

-- a sign is inherited, where there is one and nothing contradicts it
abbrev pub passed_on : Bool → Option Sign → Option Mark
passed_on contra None = None
passed_on contra (Some s) = cond contra None (Some (s, false))

-- a sign, if there is one, is barred
abbrev pub is_barred : (Sign → Bool) → Option Sign → Bool
is_barred bars None = false
is_barred bars (Some s) = bars s

-- an explicit row where there is a statement, else what is inherited
abbrev pub settled_mark : Option Sign → (Sign → Bool) → Option Sign → Option Mark
settled_mark None bars from = passed_on (is_barred bars from) from
settled_mark (Some s) bars from = Some (s, true)

-- worlds by number: the name of each, and where its suffix link leads
pub record LinkedWorlds : Type 0 where
  pub path : ℕ → Option (List ℕ)
  pub link : ℕ → Option ℕ

-- the names are in a set of paths, and each link leads to the deepest suffix, in the set, of its name's tail
pub record AreLinked (P : List ℕ → Bool) (n : LinkedWorlds) : Type 0 where
  pub member : (wid : ℕ) (w : List ℕ) → n.path wid ≡ Some w → P w ≡ true
  pub root : (wid : ℕ) → n.path wid ≡ Some [] → n.link wid ≡ None
  pub link : (wid i : ℕ) (w : List ℕ) → n.path wid ≡ Some (i ∷ w) → (m : ℕ) × (n.link wid ≡ Some m) × (n.path m ≡ Some (deepest_suffix P w))

-- the rows of one tuple, by world
abbrev pub RowsByWorld : Type 0
RowsByWorld = ℕ → Option Mark

-- the sign in a world, if there is a world
abbrev pub sign_at : RowsByWorld → Option ℕ → Option Sign
sign_at f None = None
sign_at f (Some m) = sign_of (f m)

-- a tuple's row in a world is explicit, or what the world inherits over its suffix link
abbrev pub IsSettled : (ℕ → ℕ) → List Stmt → LinkedWorlds → Tuple → RowsByWorld → ℕ → Type 0
IsSettled keys stmts n t f wid = (w : List ℕ) → n.path wid ≡ Some w
    → f wid ≡ settled_mark (explicit_sign stmts w t) (contradicted keys stmts w t) (sign_at f (n.link wid))

-- a tuple's row in a world is that of the world's name
abbrev pub IsRight : (ℕ → ℕ) → List Stmt → LinkedWorlds → Tuple → RowsByWorld → ℕ → Type 0
IsRight keys stmts n t f wid = (w : List ℕ) → n.path wid ≡ Some w → f wid ≡ mark_of keys stmts w t

-- a set of paths has all states
abbrev pub HasStates : List Stmt → (List ℕ → Bool) → Type 0
HasStates stmts P = (w : List ℕ) → is_state stmts w ≡ true → P w ≡ true
