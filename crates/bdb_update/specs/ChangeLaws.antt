-- What the steps of a change make of tables that store a base with its worlds. Each law is the contract of a function of
-- `change_laws`.
use Rattle.std.specs.Prelude.{◌≡◌, ℕ, Bool, true, false, not, ◌&&◌, nat_eq, nat_le, cond, List, ◌∷◌, Option, Some, None}
use Rattle.bdb_base.specs.Bases.{Contents, is_user, key_lengths, with_statement, without_statement}
use Rattle.bdb_base.specs.Clash.{key_of}
use Rattle.bdb_base.specs.Same.{same_tuple}
use Rattle.bdb_base.specs.Segments.{is_prefix}
use Rattle.bdb_base.specs.States.{is_state, deepest_suffix}
use Rattle.bdb_base.specs.Worlds.{explicit, IsConsistent}
use Rattle.bdb_base.specs.declared.kinds.Stmt.{Stmt}
use Rattle.bdb_base.specs.declared.tuple.Tuple.{Tuple}
use Rattle.bdb_keep.specs.Tables.{Tables}
use Rattle.bdb_key.specs.Grammar.{IsNum}
use Rattle.bdb_key.specs.Rows.{IsTupleRow}
use Rattle.bdb_tables.specs.InUse.{ValKey, val_codec}
use Rattle.bdb_tables.specs.Marks.{Mark, explicit_sign, mark_of}
use Rattle.bdb_tables.specs.Names.{Names, path_of, is_named, with_name, without_name}
use Rattle.bdb_tables.specs.Rows.{Tuples, HoldsRows, row_for, row_named}
use Rattle.bdb_tables.specs.States.{HoldsStates}
use Rattle.bdb_tables.specs.Stored.{SameBut, StoredOver}
use Rattle.bdb_tables.specs.Writes.{with_change}
use Rattle.bdb_val.specs.Groups.{SettlesGroup}
use Rattle.bdb_val.specs.Settled.{HasStates}
use Rattle.bdb_update.specs.Differing.{DifferAt, AreWithin, has_told, row_said_at}
use Rattle.bdb_update.specs.Numbering.{with_number, without_number, number_put, number_taken}

-- with one statement more they differ in its tuple at its path
abbrev pub PutDiffersAt : Type 0
PutDiffersAt = (keys : ℕ → ℕ) (stmts : List Stmt) (x : Stmt) → DifferAt keys stmts (with_statement stmts x) x.path x.tuple

-- with one statement less they do too
abbrev pub DropDiffersAt : Type 0
DropDiffersAt = (keys : ℕ → ℕ) (stmts : List Stmt) (x : Stmt) → DifferAt keys stmts (without_statement stmts x) x.path x.tuple

-- Other statements differ from a base's in one tuple at one path. Where the tuple's row in the world of this path becomes
-- what they say of it, and the rows of its relation and key are settled from this world on, the tables store the base with
-- these statements.
abbrev pub SettledGroupStores : Type 0
SettledGroupStores = (reached told next : List Stmt) (ns : Names) (ts : Tuples) (t v : Tables) (b : Contents) (w : List ℕ) (u : Tuple) (wid tid : ℕ)
    → StoredOver reached told ns ts t b → AreWithin b.stmts reached told → AreWithin next reached told → IsConsistent (key_lengths b.catalog.rels) b.stmts
    → IsConsistent (key_lengths b.catalog.rels) next → DifferAt (key_lengths b.catalog.rels) b.stmts next w u → path_of ns wid ≡ Some w → ts.tuple tid ≡ Some u
    → SettlesGroup (with_change val_codec t (row_said_at (key_lengths b.catalog.rels) next w wid tid u)) v wid u.rel (key_of (key_lengths b.catalog.rels) u)
    → SameBut (λ n. nat_eq n 11) t v
    → StoredOver reached told ns ts v (record b { stmts = next })

-- a tuple that has none gets a number: its two rows are put
abbrev pub NumberPutStores : Type 0
NumberPutStores = (reached told : List Stmt) (ns : Names) (ts : Tuples) (t : Tables) (b : Contents) (x : Stmt) (tid : ℕ)
    → StoredOver reached told ns ts t b → AreWithin b.stmts reached told → IsNum tid → IsTupleRow x.tuple
    → ts.tuple tid ≡ None → has_told told x.tuple ≡ false
    → StoredOver reached (with_statement told x) ns (with_number ts tid x.tuple) (number_put t tid x.tuple) b

-- a tuple that the base has no longer loses its number: its two rows are taken away
abbrev pub NumberTakenStores : Type 0
NumberTakenStores = (reached told less : List Stmt) (ns : Names) (ts : Tuples) (t : Tables) (b : Contents) (u : Tuple) (tid : ℕ)
    → StoredOver reached told ns ts t b → ts.tuple tid ≡ Some u → has_told b.stmts u ≡ false
    → ((v : Tuple) → has_told less v ≡ (has_told told v && not (same_tuple v u)))
    → StoredOver reached less ns (without_number ts tid u) (number_taken t tid u) b

-- which tuples are told after one statement less: all but its own, where no other statement has it
abbrev pub DropLeavesTuples : Type 0
DropLeavesTuples = (stmts : List Stmt) (x : Stmt) → has_told (without_statement stmts x) x.tuple ≡ false
    → (v : Tuple) → has_told (without_statement stmts x) v ≡ (has_told stmts v && not (same_tuple v x.tuple))

-- a table of worlds, or of their rows
abbrev pub is_of_worlds : ℕ → Bool
is_of_worlds n = nat_le 6 n && nat_le n 11

-- worlds come and go: where other names stand for the states of other statements, and the rows are those of the base's
-- statements in these worlds, the tables store the base over them
abbrev pub OtherWorldsStore : Type 0
OtherWorldsStore = (reached others told : List Stmt) (ns ms : Names) (ts : Tuples) (t u : Tables) (b : Contents)
    → StoredOver reached told ns ts t b → HoldsStates (is_user b.catalog.users) ms u → ((w : List ℕ) → is_named ms w ≡ is_state others w)
    → HoldsRows (key_lengths b.catalog.rels) b.stmts (path_of ms) ts.tuple u → SameBut is_of_worlds t u
    → StoredOver others told ms ts u b

-- a world that goes takes its rows with it, and no others
abbrev pub WorldGoesWithRows : Type 0
WorldGoesWithRows = (keys : ℕ → ℕ) (stmts : List Stmt) (ns : Names) (tuple : ℕ → Option Tuple) (n : ℕ) (p : List ℕ) (k : ValKey)
    → row_for keys stmts (path_of (without_name ns n p)) tuple k ≡ cond (nat_eq k.0 n) None (row_for keys stmts (path_of ns) tuple k)

-- a world that comes brings rows of its own, and no others change
abbrev pub WorldComesWithRows : Type 0
WorldComesWithRows = (keys : ℕ → ℕ) (stmts : List Stmt) (ns : Names) (tuple : ℕ → Option Tuple) (n : ℕ) (p : List ℕ) (k : ValKey)
    → row_for keys stmts (path_of (with_name ns n p)) tuple k ≡ cond (nat_eq k.0 n) (row_named keys stmts k (Some p) (tuple k.3)) (row_for keys stmts (path_of ns) tuple k)

-- a row that is inherited as it stands
abbrev pub inherited : Option Mark → Option Mark
inherited None = None
inherited (Some m) = Some (m.0, false)

-- the world of a path that is no state has the rows of the world to which its suffix link leads, none of them explicit
abbrev pub PlainWorldInherits : Type 0
PlainWorldInherits = (keys : ℕ → ℕ) (stmts : List Stmt) (P : List ℕ → Bool) (i : ℕ) (w : List ℕ) (u : Tuple) → HasStates stmts P → is_state stmts (i ∷ w) ≡ false
    → mark_of keys stmts (i ∷ w) u ≡ inherited (mark_of keys stmts (deepest_suffix P w) u)

-- statements are within those with one more
abbrev pub PutIsWithin : Type 0
PutIsWithin = (stmts : List Stmt) (x : Stmt) → AreWithin stmts (with_statement stmts x) (with_statement stmts x)

-- with one less they are within those before
abbrev pub DropIsWithin : Type 0
DropIsWithin = (stmts : List Stmt) (x : Stmt) → AreWithin (without_statement stmts x) stmts stmts

-- a path that is no prefix of a statement's path is a state without the statement where it was one with it
abbrev pub DropLeavesStates : Type 0
DropLeavesStates = (stmts : List Stmt) (x : Stmt) (w : List ℕ) → is_prefix w x.path ≡ false → is_state (without_statement stmts x) w ≡ is_state stmts w

-- statements with the same states, and statements with the same tuples, bring about the same worlds and numbers
abbrev pub SameReachStores : Type 0
SameReachStores = (reached others told like : List Stmt) (ns : Names) (ts : Tuples) (t : Tables) (b : Contents) → StoredOver reached told ns ts t b
    → ((w : List ℕ) → is_state others w ≡ is_state reached w) → ((u : Tuple) → has_told like u ≡ has_told told u)
    → StoredOver others like ns ts t b

-- statements with one more say its sign of its tuple at its path
abbrev pub PutSaysSign : Type 0
PutSaysSign = (keys : ℕ → ℕ) (stmts : List Stmt) (x : Stmt) → IsConsistent keys (with_statement stmts x) → explicit_sign (with_statement stmts x) x.path x.tuple ≡ Some x.sign

-- statements with one less say nothing of its tuple at its path
abbrev pub DropSaysNone : Type 0
DropSaysNone = (keys : ℕ → ℕ) (stmts : List Stmt) (x : Stmt) → IsConsistent keys stmts → explicit stmts x.path x.tuple x.sign ≡ true → explicit_sign (without_statement stmts x) x.path x.tuple ≡ None
