-- How a commit ties the file to the rows, and what a crash leaves.
use Rattle.std.proofs.Common.{◌≡◌, inr, false, sym, ap, subst, ◌∙◌, IsTrue}
use Rattle.sqlite_trees.specs.Tree.{Trees}
use Rattle.sqlite.specs.Effect.{Database, IsDatabase}
use Rattle.sqlite.specs.State.{State, Shows}
use Rattle.bdb_keep.specs.Tables.{Tables}
use Rattle.bdb_sql.specs.Rows.{StoresTables, TreesHave}
use Rattle.bdb_sql.specs.Tied.{IsTied, LeavesRows}
use Rattle.bdb_sql.specs.Written.{Turns}
use Rattle.bdb_sql.proofs.MakeLemmas.{holds_still}

-- a database and what it stores, known by its trees
leaves : (d : Database) (t : Tables) (db : Trees) → IsDatabase d → StoresTables d t → db ≡ d.trees → LeavesRows db t
leaves d t db sound stores same =
    (d.schema, subst (λ x. IsDatabase (record { schema = d.schema; trees = x })) (sym same) sound, subst (λ x. StoresTables (record { schema = d.schema; trees = x }) t) (sym same) stores)

-- a crash of a tied connection leaves its rows
pub tied_leaves : (s : State) (t : Tables) → IsTied s t → (db : Trees) → s.may_leave db → LeavesRows db t
tied_leaves s t tied db may = leaves s.now t db tied.sound tied.rows (tied.crash db may)

-- the trees inside the transaction have the new rows
pub turned_leaves : (old mid : State) (last kept : Tables) → Turns last kept old mid → StoresTables old.now last → (db : Trees) → db ≡ mid.now.trees → LeavesRows db kept
turned_leaves old mid last kept turns stores db same = leaves mid.now kept db turns.table.sound (inr (turns.table.schema, turns.rows stores)) same

-- once they are committed the connection is tied to them
pub commit_ties : (old mid new : State) (last kept : Tables) → Turns last kept old mid → StoresTables old.now last → Shows mid new mid.now mid.now false
    → ((db : Trees) → IsTrue new.is_open → new.may_leave db → db ≡ new.committed.trees) → IsTied new kept
commit_ties old mid new last kept turns stores shows settled =
    let holds = holds_still mid new shows.now_is turns.table in
    record {
      is_open = shows.is_open;
      autocommit = shows.mode;
      settled = shows.now_is ∙ sym shows.committed_is;
      sound = holds.sound;
      ready = inr holds;
      rows = inr (holds.schema, subst (λ (d : Database). TreesHave d.trees kept) (sym shows.now_is) (turns.rows stores));
      crash = λ db may. settled db shows.is_open may ∙ ap (λ (d : Database). d.trees) (shows.committed_is ∙ sym shows.now_is);
    }
