-- How often answering a query reads at most, told of the base.
use Rattle.std.specs.Prelude.{◌≡◌, ℕ, ◌+◌, ◌≤◌, true, List, Option, Some, length, Result, OnOk}
use Rattle.std.specs.List.{list_all, slice_get}
use Rattle.bdb_base.specs.Alternation.{alternates}
use Rattle.bdb_base.specs.Bases.{Contents, is_user, key_lengths}
use Rattle.bdb_base.specs.WorldRows.{world_of}
use Rattle.bdb_base.specs.declared.kinds.Item.TheVariants.{Rel}
use Rattle.bdb_base.specs.declared.kinds.Query.{Query}
use Rattle.bdb_base.specs.declared.kinds.Sign.{Sign}
use Rattle.bdb_base.specs.declared.kinds.Who.{Who}
use Rattle.bdb_base.specs.declared.tuple.Tuple.{Tuple}
use Rattle.bdb_keep.specs.Seen.{Seen}
use Rattle.bdb_queries.specs.Slots.{path_of}
use Rattle.bdb_session.specs.Known.{Known, Agrees}
use Rattle.bdb_session.specs.Outcome.{State}
use Rattle.bdb_session.specs.declared.error.StopError.{StopError}
use Rattle.bdb_trans.specs.Bounds.{product_of}

-- each world that an item's path names, whichever users are chosen, has at most so many signed tuples
abbrev pub HasFewRows : Contents → Query → (ℕ → ℕ) → Type 0
HasFewRows b q rows = (at : ℕ) (alias : List ℕ) (rel : ℕ) (sign : Sign) (path : List Who) → slice_get q.items at ≡ Some (Rel alias rel sign path)
    → (slots : List (Option Tuple)) (w : List ℕ) → path_of slots path ≡ Some w → list_all (is_user b.catalog.users) w ≡ true → alternates w ≡ true
    → length (world_of (key_lengths b.catalog.rels) b.stmts w) ≤ rows at

-- A query reads at most the product of one factor for each item: for a `Users` item by how many users there are, for another
-- by its path, and by how many signed tuples the worlds of its path have.
abbrev pub ReadsAsBounded : {T : Type 0} → Query → Known → Seen → Seen → Result T StopError → Type 0
ReadsAsBounded q k old new result = (s : State) (rows : ℕ → ℕ) → Agrees old.kept k s → HasFewRows s.base q rows
    → OnOk result (new.reads ≤ old.reads + product_of (length s.base.catalog.users) rows 0 q.items)
