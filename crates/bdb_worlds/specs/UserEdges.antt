-- Edges for a user who comes, and of one who goes.
use Rattle.std.specs.Prelude.{◌≡◌, ℕ, ◌+◌, ◌*◌, ◌≤◌, ◌<◌, Bool, true, false, not, ◌&&◌, nat_eq, List, length, Option, None, Some, MatchOption, is_some}
use Rattle.std.specs.FinMap as tables
use Rattle.bdb_base.specs.Causes.{Rises, is_listed}
use Rattle.bdb_keep.specs.Seen.{Seen}
use Rattle.bdb_keep.specs.Tables.{Tables}
use Rattle.bdb_key.specs.Grammar.{IsNum}
use Rattle.bdb_tables.specs.Codec.{HasAt, place}
use Rattle.bdb_tables.specs.InUse.{depth_codec, edge_codec}
use Rattle.bdb_tables.specs.Names.{is_named}
use Rattle.bdb_tables.specs.States.{HoldsStates}
use Rattle.bdb_names.specs.Drops.{with_one_user}
use Rattle.bdb_names.specs.Turned.{edge_set}
use Rattle.bdb_worlds.specs.Bounds.{EndsWithin}
use Rattle.bdb_worlds.specs.Holding.{Worlds}

-- a world has this number, and none from `low` on below
pub record IsNextNumber (t : Tables) (low wid : ℕ) : Type 0 where
  pub fits : IsNum wid
  pub from : low ≤ wid
  pub there : is_some (tables.get t (place depth_codec wid)) ≡ true
  pub least : (k : ℕ) → low ≤ k → k < wid → tables.get t (place depth_codec k) ≡ None

-- the least number of a world from `low` on
abbrev pub HasNextNumber : Tables → ℕ → Option ℕ → Type 0
HasNextNumber t low found = MatchOption found ((k : ℕ) → low ≤ k → IsNum k → tables.get t (place depth_codec k) ≡ None) (IsNextNumber t low)

-- whichever states the tables held over users without this one, they hold them over the users with this one
abbrev pub AddsUser : Tables → Tables → ℕ → Type 0
AddsUser t u uid = (s : Worlds) → HoldsStates s.users s.names t → s.users uid ≡ false → HoldsStates (with_one_user s.users uid) s.names u

-- whichever states the tables held over users without this one, two writes were made for each of their worlds
abbrev pub WritesEdges : Seen → Seen → ℕ → Type 0
WritesEdges old new uid = (s : Worlds) → HoldsStates s.users s.names old.kept → s.users uid ≡ false → Rises (2 * length s.names.used) old.writes new.writes

-- ---- a user who goes

-- users without one
abbrev pub without_one_user : (ℕ → Bool) → ℕ → ℕ → Bool
without_one_user users uid j = not (nat_eq j uid) && users j

-- no path that has a number names a user
abbrev pub IsUnnamed : Worlds → ℕ → Type 0
IsUnnamed s uid = (w : List ℕ) → is_named s.names w ≡ true → is_listed uid w ≡ false

-- a user is one, and no path that has a number names him
pub record MayLeave (s : Worlds) (uid : ℕ) : Type 0 where
  pub user : s.users uid ≡ true
  pub unnamed : IsUnnamed s uid

-- whichever states the tables held that don't name this user, they hold them over the users without him, also where he wasn't one
abbrev pub DropsUser : Tables → Tables → ℕ → Type 0
DropsUser t u uid = (s : Worlds) → HoldsStates s.users s.names t → IsUnnamed s uid → HoldsStates (without_one_user s.users uid) s.names u

-- whichever states the tables held over users of whom this one may leave, two writes were made for each of their worlds
abbrev pub WritesDropped : Seen → Seen → ℕ → Type 0
WritesDropped old new uid = (s : Worlds) → HoldsStates s.users s.names old.kept → MayLeave s uid → Rises (2 * length s.names.used) old.writes new.writes

-- whichever states the tables held, no more than two reads were made for each of their worlds, and one
abbrev pub ReadsWorlds : Seen → Seen → Type 0
ReadsWorlds old new = (s : Worlds) → HoldsStates s.users s.names old.kept → EndsWithin (2 * length s.names.used + 1) old.reads new.reads

-- without the edge of a world for a user, where it leads somewhere
abbrev pub edge_dropped : Tables → Option ℕ → ℕ × ℕ → Tables
edge_dropped t None k = t
edge_dropped t (Some n) k = edge_set t (Some n) None k

-- how many writes that takes
abbrev pub edge_writes : Option ℕ → ℕ
edge_writes None = 0
edge_writes (Some n) = 2

-- the edge of a world for a user was taken away, where it has one
pub record DropsEdge (old new : Seen) (k : ℕ × ℕ) : Type 0 where
  pub edge : Option ℕ
  pub found : HasAt edge_codec old.kept k edge
  pub made : new.kept ≡ edge_dropped old.kept edge k
  pub count : Rises (edge_writes edge) old.writes new.writes
