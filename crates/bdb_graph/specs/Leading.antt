-- Edges that lead to the worlds that come from others.
use Rattle.std.specs.Prelude.{◌≡◌, ◌≤◌, ℕ, zero, suc, Bool, true, false, cond, nat_eq, List, [], ◌∷◌, Some, length}
use Rattle.std.specs.List.{AllByRecursion}
use Rattle.std.specs.FinMap as tables
use Rattle.bdb_keep.specs.Tables.{Tables}
use Rattle.bdb_key.specs.Bytes.{num_bytes}
use Rattle.bdb_tables.specs.Codec.{place}
use Rattle.bdb_tables.specs.InUse.{edge_codec}
use Rattle.bdb_tables.specs.InUse.{depth_codec}
use Rattle.bdb_tables.specs.Names.{most_numbered}
use Rattle.bdb_tables.specs.Spans.{AreUnder}
use Rattle.bdb_graph.specs.Ups.{AreUps}
use Rattle.bdb_graph.specs.declared.ups.Up.{Up}

-- the edge of a world for a user leads to another world, unless that is at depth 0
abbrev pub HasEdge : Tables → ℕ → ℕ → ℕ → ℕ → Type 0
HasEdge t m i n zero = Unit {0}
HasEdge t m i n (suc d) = tables.get t (place edge_codec (m, i)) ≡ Some (num_bytes n)

-- the edge of the world from which a world comes leads to it
abbrev pub IsLedByEdge : Tables → Up → Type 0
IsLedByEdge t x = HasEdge t x.from x.uid x.wid x.depth

-- world 0 is at depth 0
abbrev pub has_root : List Up → Bool
has_root [] = false
has_root (x ∷ xs) = cond (nat_eq x.wid 0) (nat_eq x.depth 0) (has_root xs)

-- all worlds by number, not too many, with world 0 at depth 0; each other one comes from a world whose edge leads to it
pub record AreLedUps (t : Tables) (ups : List Up) : Type 0 where
  pub depths : List (ℕ × ℕ)
  pub under : AreUnder depth_codec t [] depths
  pub are : AreUps t depths ups
  pub few : length ups ≤ most_numbered
  pub root : has_root ups ≡ true
  pub led : AllByRecursion (IsLedByEdge t) ups
