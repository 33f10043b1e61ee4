-- How states along a path go.
use Rattle.std.specs.Prelude.{◌≡◌, ◌≢◌, ℕ, ◌+◌, ◌-◌, ◌<◌, suc, true, false, not, ◌&&◌, nat_lt, List, [], ◌∷◌, length, take, get_or, Some}
use Rattle.std.specs.List.{list_all}
use Rattle.bdb_base.specs.Segments.{is_prefix}
use Rattle.bdb_keep.specs.Tables.{Tables}
use Rattle.bdb_tables.specs.Names.{Names, number_of, is_named, without_name}
use Rattle.bdb_tables.specs.States.{HoldsStates}
use Rattle.bdb_worlds.specs.Holding.{Worlds}
use Rattle.bdb_worlds.specs.Staying.{IsNeeded}

-- whichever states the tables hold over users among whom are those of a path, it is none
abbrev pub IsNoState : Tables → List ℕ → Type 0
IsNoState t path = (s : Worlds) → HoldsStates s.users s.names t → list_all s.users path ≡ true → is_named s.names path ≡ false

-- each prefix of a path but the empty one has its number among these, shortest first
pub record AreNumbersAlong (ns : Names) (path numbers : List ℕ) : Type 0 where
  pub whole : length numbers ≡ length path
  pub each : (k : ℕ) → k < length numbers → number_of ns (take (suc k) path) ≡ Some (get_or numbers k 0)

-- whichever states the tables hold over users among whom are those of a path, all its prefixes are, with these numbers
abbrev pub AreAlong : Tables → List ℕ → List ℕ → Type 0
AreAlong t path numbers = (s : Worlds) → HoldsStates s.users s.names t → list_all s.users path ≡ true → AreNumbersAlong s.names path numbers

-- names without prefixes of a path, by their numbers, longest first, from the one with `len` users on
abbrev pub without_prefixes : Names → List ℕ → ℕ → List ℕ → Names
without_prefixes ns path len [] = ns
without_prefixes ns path len (n ∷ gone) = without_prefixes (without_name ns n (take len path)) path (len - 1) gone

-- A number's path may go: it isn't the empty one, has no explicit row, and no state is one user longer.
pub record IsDead (t : Tables) (ns : Names) (p : List ℕ) (n : ℕ) : Type 0 where
  pub number : number_of ns p ≡ Some n
  pub some : p ≢ []
  pub needless : IsNeeded t ns p n → ⊥

-- each of these prefixes could go once the longer ones had gone
abbrev pub AreDead : Tables → Names → List ℕ → ℕ → List ℕ → Type 0
AreDead t ns path len [] = Unit {0}
AreDead t ns path len (n ∷ gone) = IsDead t ns (take len path) n × AreDead t (without_name ns n (take len path)) path (len - 1) gone

-- a path stays a state: it is the empty one, or needed
pub data StaysState (t : Tables) (ns : Names) (p : List ℕ) : Type 0 where
  as_root : p ≡ [] → StaysState t ns p
  as_needed : (n : ℕ) → number_of ns p ≡ Some n → IsNeeded t ns p n → StaysState t ns p

-- Prefixes of a path went, longest first, each of which could go, up to the first that stays.
pub record HasShrunk (s : Worlds) (t u : Tables) (path gone : List ℕ) : Type 0 where
  pub left : ℕ
  pub whole : left + length gone ≡ length path
  pub states : HoldsStates s.users (without_prefixes s.names path (length path) gone) u
  pub paths : (w : List ℕ) → is_named (without_prefixes s.names path (length path) gone) w ≡ (is_named s.names w && not (is_prefix w path && nat_lt left (length w)))
  pub dead : AreDead t s.names path (length path) gone
  pub stays : StaysState t (without_prefixes s.names path (length path) gone) (take left path)

-- whichever states the tables hold, among which is a path: prefixes of it with these numbers went
abbrev pub DropsStates : Tables → Tables → List ℕ → List ℕ → Type 0
DropsStates t u path gone = (s : Worlds) → HoldsStates s.users s.names t → list_all s.users path ≡ true → is_named s.names path ≡ true → HasShrunk s t u path gone

-- nothing went
pub record NothingWent (t u : Tables) (gone : List ℕ) : Type 0 where
  pub none : gone ≡ []
  pub kept : u ≡ t

-- whichever states the tables hold, nothing went where a path is none of them
abbrev pub LeavesOthers : Tables → Tables → List ℕ → List ℕ → Type 0
LeavesOthers t u path gone = (s : Worlds) → HoldsStates s.users s.names t → list_all s.users path ≡ true → is_named s.names path ≡ false → NothingWent t u gone
