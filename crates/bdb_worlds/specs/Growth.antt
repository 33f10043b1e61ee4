-- How states are added along a path.
use Rattle.std.specs.Prelude.{◌≡◌, ℕ, ◌+◌, ◌-◌, ◌*◌, ◌≤◌, ◌<◌, suc, true, false, ◌&&◌, ◌||◌, nat_le, List, [], ◌∷◌, length, take, Some}
use Rattle.std.specs.List.{list_all}
use Rattle.std.specs.FinMap as map
use Rattle.bdb_base.specs.Causes.{Rises}
use Rattle.bdb_base.specs.Segments.{is_prefix}
use Rattle.bdb_keep.specs.Tables.{Tables}
use Rattle.bdb_tables.specs.Codec.{HasAt}
use Rattle.bdb_tables.specs.InUse.{edge_codec}
use Rattle.bdb_tables.specs.Names.{Names, most_numbered, is_named, with_name}
use Rattle.bdb_tables.specs.States.{HoldsStates}
use Rattle.bdb_names.specs.Turned.{links_led, edges_led, edges_made, state_made}
use Rattle.bdb_worlds.specs.Finds.{FindsMovers}
use Rattle.bdb_worlds.specs.Free.{IsLeastFree}
use Rattle.bdb_worlds.specs.Holding.{Worlds}
use Rattle.bdb_worlds.specs.Owns.{FindsEdges}

-- no table but those of a range of numbers has changed
abbrev pub SameOutside : ℕ → ℕ → Tables → Tables → Type 0
SameOutside low high t u = (n : ℕ) (k : List ℕ) → (nat_le low n && nat_le n high) ≡ false → map.get u (n ∷ k) ≡ map.get t (n ∷ k)

-- what a new world takes over: it is to stand at the edge of `start` for a user, which leads to `from`
pub record IsTaken (t : Tables) (start uid from : ℕ) (sources met : List ℕ) (own : List (ℕ × ℕ)) : Type 0 where
  pub edge : HasAt edge_codec t (start, uid) (Some from)
  pub movers : FindsMovers t start uid from sources met
  pub edges : FindsEdges t from uid own

-- the tables with a new state
abbrev pub with_state : Tables → ℕ → ℕ → List ℕ → List ℕ → List (ℕ × ℕ) → ℕ → ℕ → Tables
with_state t uid from sources met own number depth = state_made (edges_made (links_led (edges_led t uid from number sources) from number met) number own) number depth from

-- how many writes that takes
abbrev pub state_writes : List ℕ → List ℕ → List (ℕ × ℕ) → ℕ
state_writes sources met own = 3 * length sources + (3 * length met + (2 * length own + 3))

-- a new state is added at the edge of `start` for a user
pub record IsAdded (t u : Tables) (start uid depth number before now : ℕ) : Type 0 where
  pub from : ℕ
  pub sources : List ℕ
  pub met : List ℕ
  pub own : List (ℕ × ℕ)
  pub taken : IsTaken t start uid from sources met own
  pub made : u ≡ with_state t uid from sources met own number depth
  pub count : Rises (state_writes sources met own) before now

-- names with prefixes of a path, from the one with a user more than `len` on
abbrev pub with_prefixes : Names → List ℕ → ℕ → List ℕ → Names
with_prefixes ns path len [] = ns
with_prefixes ns path len (n ∷ new) = with_prefixes (with_name ns n (take (suc len) path)) path (suc len) new

-- each of these numbers was the least one not in use when its prefix came
abbrev pub AreLeast : Names → List ℕ → ℕ → List ℕ → Type 0
AreLeast ns path len [] = Unit {0}
AreLeast ns path len (n ∷ new) = IsLeastFree ns n × AreLeast (with_name ns n (take (suc len) path)) path (suc len) new

-- Tables hold as many states as `worlds`, over users among whom are those of a path, and with the prefixes of the path
-- there are no more than may have numbers.
pub record MayGrow (s : Worlds) (t : Tables) (path : List ℕ) (worlds : ℕ) : Type 0 where
  pub states : HoldsStates s.users s.names t
  pub own : list_all s.users path ≡ true
  pub count : length s.names.used ≡ worlds
  pub stands : ℕ
  pub within : stands ≤ length path
  pub named : is_named s.names (take stands path) ≡ true
  pub room : worlds + (length path - stands) ≤ most_numbered
  pub short : length path < most_numbered

-- The prefixes of a path are states: those that were none have these numbers, shortest first, each the least one not in
-- use.
pub record HasGrown (s : Worlds) (u : Tables) (path new : List ℕ) : Type 0 where
  pub stood : ℕ
  pub whole : stood + length new ≡ length path
  pub states : HoldsStates s.users (with_prefixes s.names path stood new) u
  pub paths : (w : List ℕ) → is_named (with_prefixes s.names path stood new) w ≡ (is_named s.names w || is_prefix w path)
  pub least : AreLeast s.names path stood new

-- whichever states the tables hold that may grow by a path, they have grown by it
abbrev pub AddsStates : Tables → Tables → List ℕ → ℕ → List ℕ → Type 0
AddsStates t u path worlds new = (s : Worlds) → MayGrow s t path worlds → HasGrown s u path new

-- tables hold some states that may grow by a path
pub record SomeMayGrow (t : Tables) (path : List ℕ) (worlds : ℕ) : Type 0 where
  pub worlds_held : Worlds
  pub may : MayGrow worlds_held t path worlds
