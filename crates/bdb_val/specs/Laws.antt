-- What settled rows are. Each law is the contract of a function of `laws`.
use Rattle.std.specs.Prelude.{◌≡◌, ◌≢◌, ℕ, Bool, true, false, List, [], Option, Some}
use Rattle.std.specs.List.{AllByRecursion}
use Rattle.bdb_base.specs.declared.kinds.Stmt.{Stmt}
use Rattle.bdb_base.specs.declared.tuple.Tuple.{Tuple}
use Rattle.bdb_base.specs.Worlds.{contradicted, IsConsistent}
use Rattle.bdb_keep.specs.Tables.{Tables}
use Rattle.bdb_tables.specs.InUse.{ValKey}
use Rattle.bdb_tables.specs.Marks.{Mark, sign_of, explicit_sign}
use Rattle.bdb_tables.specs.Names.{Names, AreNames, path_of, is_named}
use Rattle.bdb_tables.specs.Rows.{AreKeyLengths, Tuples, HoldsTuples, HoldsRows, row_for}
use Rattle.bdb_tables.specs.GroupMarks.{group_bytes}
use Rattle.bdb_val.specs.Middle.{worlds_of, HasExplicit, AreSettledBut}
use Rattle.bdb_val.specs.Settled.{settled_mark, LinkedWorlds, AreLinked, RowsByWorld, IsSettled, IsRight, HasStates}
use Rattle.bdb_val.specs.Settling.{mark_in, next_mark, settling, last_mark, AreNamed, numbers_are_apart, are_changes_apart, IsClosedGroup, HaveTupleNumbers, AreExplicit}
use Rattle.bdb_key.specs.Grammar.{IsNum, AreKeyVals}
use Rattle.bdb_keep.specs.Seen.{Seen}
use Rattle.bdb_base.specs.declared.kinds.Value.{Value}
use Rattle.bdb_val.specs.Steps.{IsStep, WritesDifferences}
use Rattle.bdb_val.specs.declared.stored.SettledWorld.{SettledWorld}
use Rattle.bdb_val.specs.declared.stored.StoredRow.{StoredRow}

-- where no two statements of one path clash and all rows of a tuple are settled, they are the rows of the worlds
abbrev pub SettledRowsAreRight : Type 0
SettledRowsAreRight = (keys : ℕ → ℕ) (stmts : List Stmt) (P : List ℕ → Bool) (n : LinkedWorlds) (t : Tuple) (f : RowsByWorld)
    → IsConsistent keys stmts → HasStates stmts P → AreLinked P n
    → ((wid : ℕ) → IsSettled keys stmts n t f wid) → (wid : ℕ) → IsRight keys stmts n t f wid

-- where no two statements of one path clash, the rows of the worlds are settled
abbrev pub RightRowsAreSettled : Type 0
RightRowsAreSettled = (keys : ℕ → ℕ) (stmts : List Stmt) (P : List ℕ → Bool) (n : LinkedWorlds) (t : Tuple) (f : RowsByWorld)
    → IsConsistent keys stmts → HasStates stmts P → AreLinked P n
    → ((wid : ℕ) → IsRight keys stmts n t f wid) → (wid : ℕ) → IsSettled keys stmts n t f wid

-- the row that a tuple is to have, by the rows that were read, is the settled one
abbrev pub NextMarksAreSettled : Type 0
NextMarksAreSettled = (keys : ℕ → ℕ) (stmts : List Stmt) (tuple : ℕ → Option Tuple) (test : Tuple → Bool) (own from : List StoredRow) (w : List ℕ)
    → IsConsistent keys stmts → IsClosedGroup keys test → HaveTupleNumbers tuple stmts → AreExplicit tuple test stmts w own
    → (tid : ℕ) (t : Tuple) → tuple tid ≡ Some t → test t ≡ true
    → next_mark keys own from tid t ≡ settled_mark (explicit_sign stmts w t) (contradicted keys stmts w t) (sign_of (mark_in from tid))

-- after the changes that settle a world's rows each tuple has the row that it is to have
abbrev pub SettlingIsRight : Type 0
SettlingIsRight = (keys : ℕ → ℕ) (tuple : ℕ → Option Tuple) (stored own from : List StoredRow) → AreNamed tuple stored → AreNamed tuple own → AreNamed tuple from
    → (tid : ℕ) (t : Tuple) → tuple tid ≡ Some t → last_mark (settling keys stored own from) tid (mark_in stored tid) ≡ next_mark keys own from tid t

-- rows that are as they are to be need no change
abbrev pub NoneSettlesTheSettled : Type 0
NoneSettlesTheSettled = (keys : ℕ → ℕ) (tuple : ℕ → Option Tuple) (stored own from : List StoredRow) → AreNamed tuple stored → AreNamed tuple own → AreNamed tuple from
    → ((tid : ℕ) (t : Tuple) → tuple tid ≡ Some t → mark_in stored tid ≡ next_mark keys own from tid t) → settling keys stored own from ≡ []

-- no change leaves a row as it was
abbrev pub SettlingIsReal : Type 0
SettlingIsReal = (keys : ℕ → ℕ) (stored own from : List StoredRow) → AllByRecursion (λ x. mark_in stored x.0 ≢ x.2) (settling keys stored own from)

-- where no number stands twice, none is changed twice
abbrev pub SettlingIsApart : Type 0
SettlingIsApart = (keys : ℕ → ℕ) (stored own from : List StoredRow) → numbers_are_apart stored ≡ true → numbers_are_apart own ≡ true → numbers_are_apart from ≡ true
    → are_changes_apart (settling keys stored own from) ≡ true

-- where the explicit rows are the statements and all rows are settled, the tables hold the rows of the worlds
abbrev pub SettledRowsAreHeld : Type 0
SettledRowsAreHeld = (keys : ℕ → ℕ) (stmts : List Stmt) (ns : Names) (tuple : ℕ → Option Tuple) (f : ValKey → Option Mark) (t : Tables)
    → AreNames ns → HasStates stmts (is_named ns) → HasExplicit keys stmts (worlds_of ns) tuple f t → AreSettledBut keys stmts (worlds_of ns) tuple f (λ _ _. false)
    → HoldsRows keys stmts (path_of ns) tuple t

-- where tables hold tuples and the rows of the worlds, the explicit rows are the statements
abbrev pub HeldRowsAreExplicit : Type 0
HeldRowsAreExplicit = (keys : ℕ → ℕ) (stmts : List Stmt) (ns : Names) (ts : Tuples) (t : Tables)
    → AreKeyLengths keys → AreNames ns → HasStates stmts (is_named ns) → IsConsistent keys stmts → HoldsTuples stmts ts t → HoldsRows keys stmts (path_of ns) ts.tuple t
    → HasExplicit keys stmts (worlds_of ns) ts.tuple (row_for keys stmts (path_of ns) ts.tuple) t

-- the rows of the worlds are settled
abbrev pub HeldRowsAreSettled : Type 0
HeldRowsAreSettled = (keys : ℕ → ℕ) (stmts : List Stmt) (ns : Names) (ts : Tuples) (t : Tables)
    → AreNames ns → HasStates stmts (is_named ns) → IsConsistent keys stmts → HoldsTuples stmts ts t
    → AreSettledBut keys stmts (worlds_of ns) ts.tuple (row_for keys stmts (path_of ns) ts.tuple) (λ _ _. false)

-- settling the group of a state makes as many writes as there are places at which the tables differ
abbrev pub StepsWriteDifferences : Type 0
StepsWriteDifferences = (keys : ℕ → ℕ) (old new : Seen) (wid rel : ℕ) (vs : List Value) (s : SettledWorld) → IsNum wid → IsNum rel → AreKeyVals vs
    → IsStep keys old new wid (λ w. group_bytes w rel vs) s → WritesDifferences keys old new
