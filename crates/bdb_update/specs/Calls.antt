-- What comes of a change of a base's statements, and what it leaves of the tables and of the base's sizes.
use Rattle.std.specs.Prelude.{◌≡◌, ℕ, ◌≤◌, Bool, true, false, nat_lt, List, [], ◌∷◌, length, Option, Some, None, Result, Ok, Err, if◌then◌else◌}
use Rattle.std.specs.List.{list_all, AllByRecursion}
use Rattle.bdb_base.specs.Bases.{Contents, IsValid, belongs, key_lengths, stands, tuple_count, with_statement, without_statement}
use Rattle.bdb_base.specs.Causes.{Rose}
use Rattle.bdb_base.specs.Changes.{with_statements, first_clashing, without_statements}
use Rattle.bdb_base.specs.Limits.{most_worlds, most_tuples, most_statements}
use Rattle.bdb_base.specs.Worlds.{least_clash}
use Rattle.bdb_base.specs.declared.kinds.Stmt.{Stmt}
use Rattle.bdb_base.specs.declared.kinds.What.{What}
use Rattle.bdb_base.specs.declared.kinds.What.TheVariants.{Worlds, Tuples, Statements}
use Rattle.bdb_canon.specs.Sizes.{counts_of}
use Rattle.bdb_canon.specs.declared.sizes.Counts.{Counts}
use Rattle.bdb_keep.specs.Seen.{Seen, GoesOn, IsDropped}
use Rattle.bdb_keep.specs.Tables.{Tables}
use Rattle.bdb_tables.specs.declared.tab.TabError.{TabError}
use Rattle.bdb_tables.specs.declared.tab.TabError.TheVariants as stop
use Rattle.bdb_tables.specs.Stored.{Stores}
use Rattle.bdb_update.specs.declared.answer.Added.{Added}
use Rattle.bdb_update.specs.declared.answer.Added.TheVariants.{New, Already}
use Rattle.bdb_update.specs.declared.answer.UpdateError.{UpdateError}
use Rattle.bdb_update.specs.declared.answer.UpdateError.TheVariants.{Clash, Full, Fault, Memory}

-- ---- at the beginning

-- tables store a valid base of these sizes
pub record StoresSized (t : Tables) (counts : Counts) (b : Contents) : Type 0 where
  pub stored : Stores t b
  pub valid : IsValid b.catalog b.stmts
  pub counted : counts ≡ counts_of b

-- tables store a valid base of these sizes, to whose catalog a statement belongs
pub record MayMeet (t : Tables) (counts : Counts) (x : Stmt) (b : Contents) : Type 0 where
  pub base : StoresSized t counts b
  pub belongs : belongs b.catalog x ≡ true

-- there is such a base
pub record SomeMayMeet (t : Tables) (counts : Counts) (x : Stmt) : Type 0 where
  pub base : Contents
  pub may : MayMeet t counts x base

-- ---- at the end

-- the base with other statements
abbrev pub with_stmts : Contents → List Stmt → Contents
with_stmts b stmts = record b { stmts = stmts }

-- nothing was written, the sizes stay, and a transaction that ran still runs
pub record IsUnwritten (old new : Seen) (before after : Counts) : Type 0 where
  pub kept : new.kept ≡ old.kept
  pub writes : new.writes ≡ old.writes
  pub counts : after ≡ before
  pub goes_on : GoesOn old new

-- tables store a base of these sizes, and a transaction that ran still runs
pub record HasBecome (b : Contents) (old new : Seen) (after : Counts) : Type 0 where
  pub stored : Stores new.kept b
  pub counted : after ≡ counts_of b
  pub goes_on : GoesOn old new

-- no transaction runs, the rows are those last committed, and the sizes stay
pub record HasStopped (old new : Seen) (before after : Counts) : Type 0 where
  pub dropped : IsDropped old new
  pub counts : after ≡ before

-- the same after a fault, whose count rose
pub record HasFailed (old new : Seen) (before after : Counts) : Type 0 where
  pub rose : Rose old.faults new.faults
  pub stopped : HasStopped old new before after

-- ---- a statement is added

-- the first limit that is passed by so many worlds, tuples and statements
abbrev pub size_passed : Counts → Option What
size_passed counts =
    if nat_lt most_worlds counts.worlds then Some Worlds
    else (if nat_lt most_tuples counts.tuples then Some Tuples
    else (if nat_lt most_statements counts.stmts then Some Statements
    else None))

-- the least statement of its path with which a statement clashes
abbrev pub clash_of : Contents → Stmt → Option Stmt
clash_of b x = least_clash (key_lengths b.catalog.rels) b.stmts x.path x.tuple x.sign

-- the base with one statement more
abbrev pub with_one : Contents → Stmt → Contents
with_one b x = with_stmts b (with_statement b.stmts x)

-- a statement that neither stands nor clashes is added, and no limit is passed
pub record IsNew (b : Contents) (x : Stmt) (old new : Seen) (after : Counts) : Type 0 where
  pub fresh : stands b.stmts x ≡ false
  pub apart : clash_of b x ≡ None
  pub room : size_passed (counts_of (with_one b x)) ≡ None
  pub becomes : HasBecome (with_one b x) old new after

-- it stands already
pub record IsAlready (b : Contents) (x : Stmt) (old new : Seen) (before after : Counts) : Type 0 where
  pub there : stands b.stmts x ≡ true
  pub untouched : IsUnwritten old new before after

-- it clashes with a statement, the least such one
pub record IsClashing (b : Contents) (x least : Stmt) (old new : Seen) (before after : Counts) : Type 0 where
  pub clash : clash_of b x ≡ Some least
  pub untouched : IsUnwritten old new before after

-- it clashes with none, but with it a limit is passed, the first such one
pub record IsFull (b : Contents) (x : Stmt) (what : What) (old new : Seen) (before after : Counts) : Type 0 where
  pub apart : clash_of b x ≡ None
  pub passed : size_passed (counts_of (with_one b x)) ≡ Some what
  pub untouched : IsUnwritten old new before after

-- what comes of adding a statement to a base, by the answer
abbrev pub IsAdding : Contents → Stmt → Seen → Seen → Counts → Counts → Result Added UpdateError → Type 0
IsAdding b x old new before after (Ok New) = IsNew b x old new after
IsAdding b x old new before after (Ok Already) = IsAlready b x old new before after
IsAdding b x old new before after (Err (Clash least)) = IsClashing b x least old new before after
IsAdding b x old new before after (Err (Full what)) = IsFull b x what old new before after
IsAdding b x old new before after (Err Fault) = HasFailed old new before after
IsAdding b x old new before after (Err Memory) = HasStopped old new before after

-- whichever base the tables store
abbrev pub Adds : Seen → Seen → Counts → Counts → Stmt → Result Added UpdateError → Type 0
Adds old new before after x result = (b : Contents) → MayMeet old.kept before x b → IsAdding b x old new before after result

-- ---- a statement is taken away

-- the base with one statement less
abbrev pub without_one : Contents → Stmt → Contents
without_one b x = with_stmts b (without_statement b.stmts x)

-- a statement that stood is taken away
pub record IsGone (b : Contents) (x : Stmt) (old new : Seen) (after : Counts) : Type 0 where
  pub there : stands b.stmts x ≡ true
  pub becomes : HasBecome (without_one b x) old new after

-- it did not stand
pub record IsAbsent (b : Contents) (x : Stmt) (old new : Seen) (before after : Counts) : Type 0 where
  pub none : stands b.stmts x ≡ false
  pub untouched : IsUnwritten old new before after

-- what comes of taking a statement away from a base, by the answer
abbrev pub IsDropping : Contents → Stmt → Seen → Seen → Counts → Counts → Result Bool TabError → Type 0
IsDropping b x old new before after (Ok true) = IsGone b x old new after
IsDropping b x old new before after (Ok false) = IsAbsent b x old new before after
IsDropping b x old new before after (Err stop.Fault) = HasFailed old new before after
IsDropping b x old new before after (Err stop.Memory) = HasStopped old new before after

-- whichever base the tables store
abbrev pub Drops : Seen → Seen → Counts → Counts → Stmt → Result Bool TabError → Type 0
Drops old new before after x result = (b : Contents) → MayMeet old.kept before x b → IsDropping b x old new before after result

-- ---- statements of one path are changed

-- the base with statements in place of others
abbrev pub with_others : Contents → List Stmt → List Stmt → Contents
with_others b gone come = with_stmts b (with_statements (without_statements b.stmts gone) come)

-- no statement of a list comes again
abbrev pub none_comes_again : List Stmt → Bool
none_comes_again [] = true
none_comes_again (x ∷ xs) = if stands xs x then false else none_comes_again xs

-- Statements of one path may be changed: those that go stand, each once, and no more come, all of this path and of the
-- catalog.
pub record MayChange (t : Tables) (counts : Counts) (w : List ℕ) (gone come : List Stmt) (b : Contents) : Type 0 where
  pub base : StoresSized t counts b
  pub gone_here : AllByRecursion (λ x. x.path ≡ w) gone
  pub stand : list_all (stands b.stmts) gone ≡ true
  pub apart : none_comes_again gone ≡ true
  pub come_here : AllByRecursion (λ x. x.path ≡ w) come
  pub belong : list_all (belongs b.catalog) come ≡ true
  pub no_more : length come ≤ length gone

-- there is such a base
pub record SomeMayChange (t : Tables) (counts : Counts) (w : List ℕ) (gone come : List Stmt) : Type 0 where
  pub base : Contents
  pub may : MayChange t counts w gone come base

-- the least statement of a path that would clash with another of it
abbrev pub clash_within : Contents → List ℕ → Option Stmt
clash_within b w = first_clashing (key_lengths b.catalog.rels) b.stmts w

-- the statements are changed: none of the path clash, and there are not too many tuples
pub record IsChanged (w : List ℕ) (next : Contents) (old new : Seen) (after : Counts) : Type 0 where
  pub apart : clash_within next w ≡ None
  pub room : tuple_count next.stmts ≤ most_tuples
  pub becomes : HasBecome next old new after

-- statements of the path would clash, of which this is the least
pub record WouldClash (w : List ℕ) (next : Contents) (least : Stmt) (old new : Seen) (before after : Counts) : Type 0 where
  pub clash : clash_within next w ≡ Some least
  pub untouched : IsUnwritten old new before after

-- none would clash, but there would be too many tuples
pub record WouldFill (w : List ℕ) (next : Contents) (what : What) (old new : Seen) (before after : Counts) : Type 0 where
  pub apart : clash_within next w ≡ None
  pub tuples : what ≡ Tuples
  pub many : nat_lt most_tuples (tuple_count next.stmts) ≡ true
  pub untouched : IsUnwritten old new before after

-- what comes of changing statements of one path, by the answer
abbrev pub EndsChanging : List ℕ → Contents → Seen → Seen → Counts → Counts → Result (Unit {0}) UpdateError → Type 0
EndsChanging w next old new before after (Ok tt) = IsChanged w next old new after
EndsChanging w next old new before after (Err (Clash least)) = WouldClash w next least old new before after
EndsChanging w next old new before after (Err (Full what)) = WouldFill w next what old new before after
EndsChanging w next old new before after (Err Fault) = HasFailed old new before after
EndsChanging w next old new before after (Err Memory) = HasStopped old new before after

-- whichever base the tables store
abbrev pub Changes : Seen → Seen → Counts → Counts → List ℕ → List Stmt → List Stmt → Result (Unit {0}) UpdateError → Type 0
Changes old new before after w gone come result = (b : Contents) → MayChange old.kept before w gone come b → EndsChanging w (with_others b gone come) old new before after result
