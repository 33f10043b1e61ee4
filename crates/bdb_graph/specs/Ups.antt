-- From which world each world of tables comes, one user less deep.
use Rattle.std.specs.Prelude.{◌≡◌, ℕ, zero, suc, Bool, List, [], ◌∷◌, ◌++◌, Some, map}
use Rattle.std.specs.List.{AllByRecursion}
use Rattle.std.specs.FinMap as tables
use Rattle.bdb_keep.specs.Tables.{Tables}
use Rattle.bdb_key.specs.Bytes.{num_bytes}
use Rattle.bdb_key.specs.Grammar.{IsNum}
use Rattle.bdb_tables.specs.Codec.{place}
use Rattle.bdb_tables.specs.InUse.{depth_codec, led_codec, IsTriple}
use Rattle.bdb_tables.specs.Names.{Names, path_of}
use Rattle.bdb_tables.specs.States.{HoldsStates}
use Rattle.bdb_graph.specs.declared.ups.Up.{Up}

-- the tables hold no states, whatever the users
abbrev pub HoldNoStates : Tables → Type 0
HoldNoStates t = (users : ℕ → Bool) (ns : Names) → HoldsStates users ns t → ⊥

-- a world has a depth in the tables
pub record HasDepth (t : Tables) (n d : ℕ) : Type 0 where
  pub number : IsNum n
  pub size : IsNum d
  pub found : tables.get t (place depth_codec n) ≡ Some (num_bytes d)

-- an edge, turned round: the world to which it leads, that from which it comes, and its user
abbrev pub Led : Type 0
Led = (ℕ × ℕ × ℕ) × Unit {0}

-- from which world an edge comes, and its user
abbrev pub parent_in : Led → ℕ × ℕ
parent_in e = (e.0.1, e.0.2)

-- an edge of the tables leads to a world
pub record EdgeLeadsTo (t : Tables) (n : ℕ) (e : Led) : Type 0 where
  pub fits : IsTriple e.0
  pub found : tables.get t (place led_codec e.0) ≡ Some []
  pub to : e.0.0 ≡ n

-- an edge comes from a world that is not at a depth
abbrev pub StartsElsewhere : Tables → ℕ → Led → Type 0
StartsElsewhere t d e = HasDepth t (parent_in e).0 d → ⊥

-- the edge of a world at a depth, for a user, leads to a world
pub record IsParent (t : Tables) (n d : ℕ) (p : ℕ × ℕ) : Type 0 where
  pub number : IsNum n
  pub user : IsNum p.1
  pub led : tables.get t (place led_codec (n, p.0, p.1)) ≡ Some []
  pub depth : HasDepth t p.0 d

-- no edge leads to a world from a depth
abbrev pub NoParent : Tables → ℕ → ℕ → Type 0
NoParent t n d = (p : ℕ × ℕ) → IsParent t n d p → ⊥

-- a world at depth 0, or one whose path is that of another with a user at its end
abbrev pub HasFront : Names → ℕ → ℕ → ℕ → ℕ → Type 0
HasFront ns n m i zero = Unit {0}
HasFront ns n m i (suc d) = (v : List ℕ) × (path_of ns m ≡ Some v) × (path_of ns n ≡ Some (v ++ i ∷ []))

-- whichever states the tables hold, a world comes from that world
abbrev pub TellsUp : Tables → Up → Type 0
TellsUp t x = (users : ℕ → Bool) (ns : Names) → HoldsStates users ns t → HasFront ns x.wid x.from x.uid x.depth

-- a world at depth 0, or one that comes from a world one user less deep
abbrev pub StartsAt : Tables → ℕ → ℕ → Type 0
StartsAt t m zero = Unit {0}
StartsAt t m (suc d) = HasDepth t m d

-- the world from which a world comes is one user less deep
abbrev pub HasStart : Tables → Up → Type 0
HasStart t x = StartsAt t x.from x.depth

-- the number and the depth of a world
abbrev pub depth_row : Up → ℕ × ℕ
depth_row x = (x.wid, x.depth)

-- a world of this number and depth, with the world from which it comes
pub record IsUp (t : Tables) (row : ℕ × ℕ) (x : Up) : Type 0 where
  pub same : depth_row x ≡ row
  pub tells : TellsUp t x
  pub start : HasStart t x

-- the worlds of these numbers and depths, with the worlds from which they come
pub record AreUps (t : Tables) (depths : List (ℕ × ℕ)) (ups : List Up) : Type 0 where
  pub rows : map depth_row ups ≡ depths
  pub tell : AllByRecursion (TellsUp t) ups
  pub starts : AllByRecursion (HasStart t) ups
