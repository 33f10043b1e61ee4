-- The rows that the tuples of a world are to have, and the changes that bring them about.
use Rattle.std.specs.Prelude.{◌≡◌, ℕ, Bool, true, false, ◌&&◌, ◌||◌, nat_eq, List, [], ◌∷◌, ◌++◌, Option, Some, None, is_some, cond}
use Rattle.std.specs.Bool.{beq}
use Rattle.std.specs.List.{list_any, flat_map, AllByRecursion}
use Rattle.bdb_base.specs.declared.kinds.Sign.{Sign}
use Rattle.bdb_base.specs.declared.kinds.Stmt.{Stmt}
use Rattle.bdb_base.specs.declared.tuple.Tuple.{Tuple}
use Rattle.bdb_base.specs.Clash.{clash, key_of}
use Rattle.bdb_base.specs.Same.{same_sign}
use Rattle.bdb_base.specs.Worlds.{explicit}
use Rattle.bdb_tables.specs.InUse.{ValKey}
use Rattle.bdb_tables.specs.Marks.{Mark, sign_of, explicit_of, explicit_sign}
use Rattle.bdb_val.specs.Settled.{settled_mark}
use Rattle.bdb_val.specs.declared.stored.StoredRow.{StoredRow}

-- the number of a tuple, the tuple, and the row that it is to have
abbrev pub RowChange : Type 0
RowChange = ℕ × Tuple × Option Mark

-- the mark of a tuple's row among rows
abbrev pub mark_in : List StoredRow → ℕ → Option Mark
mark_in [] tid = None
mark_in (x ∷ xs) tid = cond (nat_eq x.tid tid) (Some x.mark) (mark_in xs tid)

-- a signed tuple clashes with an explicit row
abbrev pub barred_by : (ℕ → ℕ) → List StoredRow → Tuple → Sign → Bool
barred_by keys rows t s = list_any (λ x. x.mark.1 && clash keys t s x.tuple x.mark.0) rows

-- the row that a tuple is to have, by the explicit rows of its world and the rows of the world to which that is linked
abbrev pub next_mark : (ℕ → ℕ) → List StoredRow → List StoredRow → ℕ → Tuple → Option Mark
next_mark keys own from tid t = settled_mark (explicit_of (mark_in own tid)) (barred_by keys own t) (sign_of (mark_in from tid))

-- two rows are one, or there is none of either
abbrev pub same_mark : Option Mark → Option Mark → Bool
same_mark None None = true
same_mark None (Some n) = false
same_mark (Some m) None = false
same_mark (Some m) (Some n) = same_sign m.0 n.0 && beq m.1 n.1

-- the change of a tuple's row, where it is to be another
abbrev pub change_at : (ℕ → ℕ) → List StoredRow → List StoredRow → List StoredRow → StoredRow → List RowChange
change_at keys stored own from x =
    cond (same_mark (mark_in stored x.tid) (next_mark keys own from x.tid x.tuple)) [] ((x.tid, x.tuple, next_mark keys own from x.tid x.tuple) ∷ [])

-- a tuple has a row among either
abbrev pub has_mark : List StoredRow → List StoredRow → ℕ → Bool
has_mark xs ys tid = is_some (mark_in xs tid) || is_some (mark_in ys tid)

-- the change of a tuple that has no row among the stored ones and those before
abbrev pub fresh_change : (ℕ → ℕ) → List StoredRow → List StoredRow → List StoredRow → List StoredRow → StoredRow → List RowChange
fresh_change keys stored own from before x = cond (has_mark stored before x.tid) [] (change_at keys stored own from x)

-- The changes that settle a world's rows: each tuple whose row is to be another, with that row. `stored` are the rows that
-- the world has, `own` has those that are to be explicit, and `from` are the rows of the world to which it is linked.
abbrev pub settling : (ℕ → ℕ) → List StoredRow → List StoredRow → List StoredRow → List RowChange
settling keys stored own from =
    flat_map (change_at keys stored own from) stored ++ flat_map (fresh_change keys stored own from []) own ++ flat_map (fresh_change keys stored own from own) from

-- the row of a tuple after changes, one after the other
abbrev pub last_mark : List RowChange → ℕ → Option Mark → Option Mark
last_mark [] tid m = m
last_mark (x ∷ xs) tid m = last_mark xs tid (cond (nat_eq x.0 tid) x.2 m)

-- each row's tuple is that of its number
abbrev pub AreNamed : (ℕ → Option Tuple) → List StoredRow → Type 0
AreNamed tuple xs = AllByRecursion (λ x. tuple x.tid ≡ Some x.tuple) xs

-- no number stands twice
abbrev pub numbers_are_apart : List StoredRow → Bool
numbers_are_apart [] = true
numbers_are_apart (x ∷ xs) = cond (list_any (λ y. nat_eq y.tid x.tid) xs) false (numbers_are_apart xs)

-- no number is changed twice
abbrev pub are_changes_apart : List RowChange → Bool
are_changes_apart [] = true
are_changes_apart (x ∷ xs) = cond (list_any (λ y. nat_eq y.0 x.0) xs) false (are_changes_apart xs)

-- each tuple with which one of a group clashes is in the group
abbrev pub IsClosedGroup : (ℕ → ℕ) → (Tuple → Bool) → Type 0
IsClosedGroup keys test = (t t' : Tuple) (s s' : Sign) → test t ≡ true → clash keys t s t' s' ≡ true → test t' ≡ true

-- each statement's tuple has a number
abbrev pub HaveTupleNumbers : (ℕ → Option Tuple) → List Stmt → Type 0
HaveTupleNumbers tuple stmts = (w : List ℕ) (t : Tuple) (s : Sign) → explicit stmts w t s ≡ true → (tid : ℕ) × (tuple tid ≡ Some t)

-- a row, if it is explicit, is a statement at a path
abbrev pub IsStatedAt : List Stmt → List ℕ → StoredRow → Type 0
IsStatedAt stmts w x = x.mark.1 ≡ true → explicit stmts w x.tuple x.mark.0 ≡ true

-- the explicit ones among rows are the statements of a group at a path
pub record AreExplicit (tuple : ℕ → Option Tuple) (test : Tuple → Bool) (stmts : List Stmt) (w : List ℕ) (own : List StoredRow) : Type 0 where
  pub named : AreNamed tuple own
  pub stated : AllByRecursion (IsStatedAt stmts w) own
  pub all : (tid : ℕ) (t : Tuple) → tuple tid ≡ Some t → test t ≡ true → explicit_of (mark_in own tid) ≡ explicit_sign stmts w t

-- the key of a tuple's row in a world
abbrev pub row_key : (ℕ → ℕ) → ℕ → ℕ → Tuple → ValKey
row_key keys wid tid t = (wid, t.rel, key_of keys t, tid)

-- a change as that of a row in a world
abbrev pub keyed : (ℕ → ℕ) → ℕ → RowChange → ValKey × Option Mark
keyed keys wid x = (row_key keys wid x.0 x.1, x.2)
