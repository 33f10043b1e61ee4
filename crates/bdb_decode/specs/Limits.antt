-- When the worlds of tables are within the limits of a base.
use Rattle.std.specs.Prelude.{◌≡◌, ◌≤◌, ℕ, Bool, true, nat_le, List, [], length}
use Rattle.std.specs.List.{list_all}
use Rattle.bdb_base.specs.Limits.{deepest_statement, most_worlds}
use Rattle.bdb_keep.specs.Tables.{Tables}
use Rattle.bdb_tables.specs.InUse.{depth_codec}
use Rattle.bdb_tables.specs.Spans.{AreUnder}

-- the world of a row is no deeper than the path of a statement may be
abbrev pub is_shallow : ℕ × ℕ → Bool
is_shallow e = nat_le e.1 deepest_statement

-- the worlds are not more than a base may have, and none is deeper than the path of a statement may be
pub record AreWithinLimits (t : Tables) : Type 0 where
  pub depths : List (ℕ × ℕ)
  pub under : AreUnder depth_codec t [] depths
  pub few : length depths ≤ most_worlds
  pub shallow : list_all is_shallow depths ≡ true
