-- How often is written where statements go one after the other, and others come: step by step, as rows may differ after one step
-- that are the same again after another.
use Rattle.std.specs.Prelude.{◌≡◌, ℕ, ◌+◌, ◌≤◌, ◌⊎◌, List, [], ◌∷◌, ◌++◌, length}
use Rattle.bdb_base.specs.Bases.{Contents}
use Rattle.bdb_base.specs.declared.kinds.Stmt.{Stmt}
use Rattle.bdb_base.specs.Changes.{without_statements}
use Rattle.bdb_canon.specs.declared.sizes.Counts.{Counts}
use Rattle.bdb_keep.specs.Seen.{Seen}
use Rattle.bdb_keep.specs.Tables.{Tables}
use Rattle.bdb_tables.specs.Stored.{Stores}
use Rattle.bdb_update.specs.Bounds.{WritesWithinMore}
use Rattle.bdb_update.specs.Calls.{MayChange, with_stmts, with_one, without_one}
use Rattle.bdb_update.specs.Keeping.{KeepsNumbers}
use Rattle.bdb_update.specs.Replacing.{MayCome, MayGo, MayReplaceAll}

-- the statements that go, each with the base without it
abbrev pub steps_without : Contents → List Stmt → List (Stmt × Contents)
steps_without b [] = []
steps_without b (x ∷ xs) = (x, without_one b x) ∷ steps_without (without_one b x) xs

-- the statements that come, each with the base with it
abbrev pub steps_with : Contents → List Stmt → List (Stmt × Contents)
steps_with b [] = []
steps_with b (x ∷ xs) = (x, with_one b x) ∷ steps_with (with_one b x) xs

-- the statements that go, and then those that come
abbrev pub steps_of : Contents → List Stmt → List Stmt → List (Stmt × Contents)
steps_of b gone come = steps_without b gone ++ steps_with (with_stmts b (without_statements b.stmts gone)) come

-- from one to the other of two tables numbers of worlds and of tuples go on to stand for what they stood for: back, where a statement
-- went, and on, where one came
abbrev pub KeepsOneWay : Tables → Tables → Type 0
KeepsOneWay t u = KeepsNumbers u t ⊎ KeepsNumbers t u

-- The tables come to store the base of each step in turn, under numbers that stay, and the count of writes never falls from one step
-- to the next. In each step, for each place at which rows differ by it no more writes are made than the path of its statement has
-- users, and two; and eight more in all. After the last step nothing is written. So all steps together make no more writes than the
-- sum of what each may make.
abbrev pub WritesThrough : Seen → List (Stmt × Contents) → Seen → Type 0
WritesThrough old [] new = (new.kept ≡ old.kept) × (new.writes ≡ old.writes)
WritesThrough old (e ∷ es) new = (mid : Seen) × (old.writes ≤ mid.writes) × Stores mid.kept e.1 × KeepsOneWay old.kept mid.kept × WritesWithinMore (length e.0.path + 2) 8 old mid × WritesThrough mid es new

-- whichever base the tables store

abbrev pub GoesThrough : Counts → List Stmt → Seen → Seen → Type 0
GoesThrough counts gone old new = (b : Contents) → MayGo old.kept counts gone b → WritesThrough old (steps_without b gone) new

abbrev pub ComesThrough : Counts → List Stmt → Seen → Seen → Type 0
ComesThrough counts come old new = (b : Contents) → MayCome old.kept counts come b → WritesThrough old (steps_with b come) new

abbrev pub ReplacesThrough : Counts → List Stmt → List Stmt → Seen → Seen → Type 0
ReplacesThrough counts gone come old new = (b : Contents) → MayReplaceAll old.kept counts gone come b → WritesThrough old (steps_of b gone come) new

abbrev pub ChangesThrough : Counts → List ℕ → List Stmt → List Stmt → Seen → Seen → Type 0
ChangesThrough counts w gone come old new = (b : Contents) → MayChange old.kept counts w gone come b → WritesThrough old (steps_of b gone come) new
