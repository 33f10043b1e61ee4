-- The statements whose paths name a user, by the rows of the worlds, and how many reads that takes.
use Rattle.std.specs.Prelude.{◌≡◌, ◌≤◌, ◌+◌, ◌*◌, ℕ, List, [], ◌++◌, filter, length, map, sum_by, cond}
use Rattle.bdb_base.specs.Bases.{Contents, key_lengths}
use Rattle.bdb_base.specs.Changes.{names_user}
use Rattle.bdb_base.specs.States.{states_of}
use Rattle.bdb_base.specs.WorldRows.{world_of}
use Rattle.bdb_base.specs.declared.kinds.Held.{Held}
use Rattle.bdb_base.specs.declared.kinds.Stmt.{Stmt}
use Rattle.bdb_keep.specs.Seen.{Seen}
use Rattle.bdb_keep.specs.Tables.{Tables}
use Rattle.bdb_catalog.specs.Bases.{StoresValid}
use Rattle.bdb_stored.specs.Worlds.{IsState}
use Rattle.bdb_names.specs.declared.named.NamedWorld.{NamedWorld}

-- the statement that a row of a path's world says
abbrev pub said : List ℕ → Held → Stmt
said w h = record { path = w; sign = h.sign; tuple = h.tuple }

-- the statements that the explicit rows of a path's world say
abbrev pub said_by_world : List ℕ → List Held → List Stmt
said_by_world w rows = map (said w) (filter (λ h. h.explicit) rows)

-- what the explicit rows of a path's world say where the path names a user; nothing where it doesn't
abbrev pub naming_at : (ℕ → ℕ) → List Stmt → ℕ → List ℕ → List Stmt
naming_at keys stmts uid w = cond (names_user uid w) (said_by_world w (world_of keys stmts w)) []

-- whichever valid base the tables store of which this is a state: what its rows say was appended, where its path names the user
abbrev pub AppendsNaming : Tables → ℕ → NamedWorld → List Stmt → List Stmt → Type 0
AppendsNaming t uid x old new = (b : Contents) (v : StoresValid t b) → IsState t b v x → new ≡ old ++ naming_at (key_lengths b.catalog.rels) b.stmts uid x.path

-- ---- reads

-- where a path names the user, two reads for each row of its world and one more; else none
abbrev pub reads_at : (ℕ → ℕ) → List Stmt → ℕ → List ℕ → ℕ
reads_at keys stmts uid w = cond (names_user uid w) (2 * length (world_of keys stmts w) + 1) 0

-- so many reads for all states
abbrev pub rows_reads : Contents → ℕ → ℕ
rows_reads b uid = sum_by (reads_at (key_lengths b.catalog.rels) b.stmts uid) (states_of b.stmts)

-- one read for each state, one for each user of its path, one more, and those of the rows
abbrev pub naming_reads : Contents → ℕ → ℕ
naming_reads b uid = length (states_of b.stmts) + 1 + sum_by (λ w. length w) (states_of b.stmts) + rows_reads b uid

-- whichever valid base the tables store of which this is a state, no more reads were made than its rows take
abbrev pub ReadsAt : ℕ → NamedWorld → Seen → Seen → Type 0
ReadsAt uid x old new = (b : Contents) (v : StoresValid old.kept b) → IsState old.kept b v x → new.reads ≤ old.reads + reads_at (key_lengths b.catalog.rels) b.stmts uid x.path

-- whichever valid base the tables store, no more reads were made than the rows of all its states take
abbrev pub ReadsRows : ℕ → Seen → Seen → Type 0
ReadsRows uid old new = (b : Contents) → StoresValid old.kept b → new.reads ≤ old.reads + rows_reads b uid

-- whichever valid base the tables store, no more reads were made than finding the statements takes
abbrev pub ReadsNaming : ℕ → Seen → Seen → Type 0
ReadsNaming uid old new = (b : Contents) → StoresValid old.kept b → new.reads ≤ old.reads + naming_reads b uid
