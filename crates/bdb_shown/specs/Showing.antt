-- The reply that shows the world of a path.
use Rattle.std.specs.Prelude.{◌≡◌, ℕ, ◌+◌, ◌*◌, Bool, List, length, map}
use Rattle.std.specs.List.Sorted.{IsPermutation, IsSortedBy}
use Rattle.bdb_base.specs.Bases.{Contents, key_lengths}
use Rattle.bdb_base.specs.WorldRows.{world_of}
use Rattle.bdb_base.specs.declared.kinds.Catalog.{Catalog}
use Rattle.bdb_base.specs.declared.kinds.Held.{Held}
use Rattle.bdb_catalog.specs.Bases.{HasUsers}
use Rattle.bdb_keep.specs.Tables.{Tables}
use Rattle.bdb_render.specs.Replies.{world_reply}
use Rattle.bdb_shown.specs.Rows.{told}
use Rattle.bdb_val.specs.WorldReads.{tuple_is_before}
use Rattle.bdb_worlds.specs.Bounds.{EndsWithin}

-- the reply shows these rows, by tuple
pub record ShowsRows (catalog : Catalog) (own : Bool) (held : List Held) (text : List ℕ) : Type 0 where
  pub ordered : List Held
  pub moved : IsPermutation held ordered
  pub sorted : IsSortedBy tuple_is_before ordered
  pub shows : text ≡ world_reply catalog (record { held = map (told own) ordered })

-- whichever valid base the tables store with the users of a path, this reply shows the world of the path
abbrev pub ShowsWorld : Tables → Catalog → List ℕ → List ℕ → Type 0
ShowsWorld t catalog path text = (b : Contents) → HasUsers t path b → text ≡ world_reply catalog (record { held = world_of (key_lengths b.catalog.rels) b.stmts path })

-- whichever valid base they store so, its rows are read, and the states that the path leads along: once for each user of the path, and
-- twice for each row
abbrev pub ReadsWorld : Tables → List ℕ → ℕ → ℕ → Type 0
ReadsWorld t path old new = (b : Contents) → HasUsers t path b → EndsWithin (length path + 2 * length (world_of (key_lengths b.catalog.rels) b.stmts path) + 8) old new
