-- What calls say of the states that tables hold, whichever they are.
use Rattle.std.specs.Prelude.{◌≡◌, ℕ, Bool, true, List, Some, length}
use Rattle.std.specs.List.{list_all}
use Rattle.bdb_base.specs.States.{deepest_suffix}
use Rattle.bdb_keep.specs.Tables.{Tables}
use Rattle.bdb_tables.specs.Names.{Names, number_of, is_named}
use Rattle.bdb_tables.specs.States.{HoldsStates}

-- users, and the names of states over them
pub record Worlds : Type 0 where
  pub users : ℕ → Bool
  pub names : Names

-- tables hold states over users among whom are these
pub record HoldSome (t : Tables) (path : List ℕ) : Type 0 where
  pub worlds : Worlds
  pub states : HoldsStates worlds.users worlds.names t
  pub own : list_all worlds.users path ≡ true

-- whichever states the tables hold over users among whom are those of a path, this number stands for the deepest state
-- that a part of the path ends in
abbrev pub LeadsTo : Tables → List ℕ → List ℕ → ℕ → Type 0
LeadsTo t path part wid = (s : Worlds) → HoldsStates s.users s.names t → list_all s.users path ≡ true
    → number_of s.names (deepest_suffix (is_named s.names) part) ≡ Some wid

-- whichever states the tables hold, this number stands for the deepest state that a path ends in
abbrev pub StandsFor : Tables → List ℕ → ℕ → Type 0
StandsFor t path wid = LeadsTo t path path wid

-- a number stands for the deepest state that a path ends in, which has so many users
pub record IsDeepest (s : Worlds) (w : List ℕ) (at : ℕ × ℕ) : Type 0 where
  pub number : number_of s.names (deepest_suffix (is_named s.names) w) ≡ Some at.0
  pub depth : at.1 ≡ length (deepest_suffix (is_named s.names) w)

-- whichever states the tables hold over users among whom are those of a path, of which the other is an end
abbrev pub EndsAt : Tables → List ℕ → List ℕ → ℕ × ℕ → Type 0
EndsAt t path w at = (s : Worlds) → HoldsStates s.users s.names t → list_all s.users path ≡ true → IsDeepest s w at
