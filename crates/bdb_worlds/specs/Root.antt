-- The tables of a base without statements: one world, the empty path's.
use Rattle.std.specs.Prelude.{◌≡◌, ℕ, false, ◌&&◌, nat_eq, nat_le, true, cond, List, [], ◌∷◌, None, Some}
use Rattle.std.specs.FinMap as map
use Rattle.bdb_base.specs.Same.{same_path}
use Rattle.bdb_keep.specs.Tables.{Tables}
use Rattle.bdb_tables.specs.InUse.{depth_codec}
use Rattle.bdb_tables.specs.Names.{Names}
use Rattle.bdb_tables.specs.States.{HoldsStates}
use Rattle.bdb_tables.specs.Writes.{with_change}

-- the empty path has number 0, and no other path has one
abbrev pub root_names : Names
root_names = record {
  path = λ n. cond (nat_eq n 0) (Some []) None;
  number = λ w. cond (same_path w []) (Some 0) None;
  used = 0 ∷ [];
}

-- the tables of worlds have no rows
abbrev pub HaveNoWorlds : Tables → Type 0
HaveNoWorlds t = (n : ℕ) (k : List ℕ) → (nat_le 6 n && nat_le n 10) ≡ true → map.get t (n ∷ k) ≡ None

-- where the tables of worlds have no rows, the depth 0 of world 0 makes them those of the empty path, over no users
abbrev pub RootIsWorld : Type 0
RootIsWorld = (t : Tables) → HaveNoWorlds t → HoldsStates (λ _. false) root_names (with_change depth_codec t (0, Some 0))
