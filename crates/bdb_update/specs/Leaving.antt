-- What goes with a statement that leaves a base, and what comes of trying to take one away.
use Rattle.std.specs.Prelude.{◌≡◌, ℕ, ◌+◌, ◌-◌, ◌^◌, ◌≤◌, ◌<◌, true, not, Option, Some, None, Result, Ok, Err, cond}
use Rattle.std.specs.List.{list_any}
use Rattle.bdb_base.specs.Bases.{Contents, stands, without_statement, world_count}
use Rattle.bdb_base.specs.declared.kinds.Stmt.{Stmt}
use Rattle.bdb_canon.specs.Sizes.{counts_of}
use Rattle.bdb_canon.specs.declared.sizes.Counts.{Counts}
use Rattle.bdb_keep.specs.Seen.{Seen, GoesOn}
use Rattle.bdb_keep.specs.Tables.{Tables}
use Rattle.bdb_tables.specs.declared.tab.TabError.{TabError}
use Rattle.bdb_tables.specs.declared.tab.TabError.TheVariants as stop
use Rattle.bdb_update.specs.Calls.{MayMeet, IsAbsent, HasFailed, HasStopped, without_one}
use Rattle.bdb_update.specs.Differing.{has_told}
use Rattle.bdb_update.specs.Looking.{is_own}
use Rattle.bdb_update.specs.Parting.{MayPart}
use Rattle.bdb_tables.specs.Stored.{Stores}
use Rattle.bdb_update.specs.declared.leaving.Gone.{Gone}
use Rattle.bdb_update.specs.declared.looking.Finding.{Finding}

-- So many worlds go with a statement of a base, its tuple's number goes or not, and so many rows come and go.
pub record IsGoneWith (b : Contents) (x : Stmt) (g : Gone) : Type 0 where
  pub worlds : world_count b.stmts ≡ world_count (without_statement b.stmts x) + g.worlds
  pub tuple : g.tuple ≡ not (has_told (without_statement b.stmts x) x.tuple)
  pub balance : (counts_of b).rows + g.came ≡ (counts_of (without_one b x)).rows + g.went
  pub few : (counts_of b).rows + g.came < 2 ^ 32

-- whichever base tables store
abbrev pub CountsLeft : Tables → Stmt → Gone → Type 0
CountsLeft t x g = (b : Contents) → Stores t b → MayPart b x → IsGoneWith b x g

-- sizes are large enough for what goes
pub record MayLose (c : Counts) (g : Gone) : Type 0 where
  pub worlds : g.worlds ≤ c.worlds
  pub tuple : cond g.tuple 1 0 ≤ c.tuples
  pub stmts : 1 ≤ c.stmts
  pub came : c.rows + g.came < 2 ^ 32
  pub went : g.went ≤ c.rows + g.came

-- the sizes without what goes with a statement
abbrev pub counts_less : Counts → Gone → Counts
counts_less c g = record {
  worlds = c.worlds - g.worlds;
  tuples = c.tuples - cond g.tuple 1 0;
  stmts = c.stmts - 1;
  rows = c.rows + g.came - g.went;
}

-- the number of a statement's tuple, where by what was read the statement stands
abbrev pub standing : Stmt → Finding → Option ℕ
standing x p = cond (list_any (is_own x) p.rows.items) p.tid None

-- a statement that stood is taken away, and these are the sizes without it
pub record HasLeft (b : Contents) (x : Stmt) (next : Counts) (old new : Seen) : Type 0 where
  pub there : stands b.stmts x ≡ true
  pub stored : Stores new.kept (without_one b x)
  pub counted : next ≡ counts_of (without_one b x)
  pub goes_on : GoesOn old new

-- what comes of it, by the answer: the sizes after it, or none where it did not stand
abbrev pub IsTryingDrop : Contents → Stmt → Seen → Seen → Counts → Result (Option Counts) TabError → Type 0
IsTryingDrop b x old new c (Ok None) = IsAbsent b x old new c c
IsTryingDrop b x old new c (Ok (Some next)) = HasLeft b x next old new
IsTryingDrop b x old new c (Err stop.Fault) = HasFailed old new c c
IsTryingDrop b x old new c (Err stop.Memory) = HasStopped old new c c

abbrev pub TriesDrop : Seen → Seen → Counts → Stmt → Result (Option Counts) TabError → Type 0
TriesDrop old new c x result = (b : Contents) → MayMeet old.kept c x b → IsTryingDrop b x old new c result
