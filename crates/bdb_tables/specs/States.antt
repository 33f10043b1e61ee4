-- When tables hold states: the names of their worlds, their depths, suffix links and edges, and the two turned round.
use Rattle.std.specs.Prelude.{◌≡◌, ◌↔◌, ℕ, ◌+◌, ◌<◌, ◌^◌, Bool, true, List, [], ◌∷◌, ◌++◌, Option, None, Some, cond}
use Rattle.std.specs.List.{list_all}
use Rattle.std.specs.FinMap as map
use Rattle.bdb_keep.specs.Tables.{Tables}
use Rattle.bdb_key.specs.Bytes.{num_bytes}
use Rattle.bdb_tables.specs.Codec.{place}
use Rattle.bdb_tables.specs.InUse.{depth_codec, link_codec, linked_codec, edge_codec, led_codec}
use Rattle.bdb_tables.specs.Names.{Names, AreNames, path_of, is_named, leads_to, depth_of, link_of, edge_of}
use Rattle.bdb_tables.specs.Writes.{Gives}

-- the row without content, where a test holds
abbrev pub row_where : Bool → Option (Unit {0})
row_where b = cond b (Some tt) None

-- five tables are a depth, a link and an edge for each key, and the two that turn links and edges round
pub record TablesAre (t : Tables) (depths links : ℕ → Option ℕ) (edges : ℕ × ℕ → Option ℕ) : Type 0 where
  pub depth : Gives depth_codec t depths
  pub link : Gives link_codec t links
  pub linked : Gives linked_codec t (λ k. row_where (leads_to (links k.1) k.0))
  pub edge : Gives edge_codec t edges
  pub led : Gives led_codec t (λ k. row_where (leads_to (edges (k.1, k.2)) k.0))

-- Tables hold the states that have these names, over these users: depths are lengths of paths, suffix links and edges
-- are those of the set of paths.
pub record HoldsStates (users : ℕ → Bool) (ns : Names) (t : Tables) : Type 0 where
  pub names : AreNames ns
  pub numbers : (i : ℕ) → users i ≡ true → i < 2 ^ 32
  pub own : (w : List ℕ) → is_named ns w ≡ true → list_all users w ≡ true
  pub tables : TablesAre t (depth_of ns) (link_of ns) (edge_of users ns)

-- ---- names, told by the tables alone

-- a world is one user deeper than another, whose edge for the user leads to it
pub record IsNextWorld (t : Tables) (n m i d : ℕ) : Type 0 where
  pub number : n < 2 ^ 32
  pub from : m < 2 ^ 32
  pub user : i < 2 ^ 32
  pub short : d + 1 < 2 ^ 32
  pub led : map.get t (place led_codec (n, m, i)) ≡ Some []
  pub depth : map.get t (place depth_codec m) ≡ Some (num_bytes d)
  pub deeper : map.get t (place depth_codec n) ≡ Some (num_bytes (d + 1))

-- world 0 is the empty path's; a world one user deeper than another has its path with the user at the end
pub data IsNamed (t : Tables) : ℕ → List ℕ → Type 0 where
  root : IsNamed t 0 []
  next : (n m i d : ℕ) (w : List ℕ) → IsNamed t m w → IsNextWorld t n m i d → IsNamed t n (w ++ i ∷ [])

-- a number stands for a path exactly where the tables name it so
abbrev pub TablesHaveNames : Type 0
TablesHaveNames = (users : ℕ → Bool) (ns : Names) (t : Tables) → HoldsStates users ns t → (n : ℕ) (w : List ℕ) → IsNamed t n w ↔ (path_of ns n ≡ Some w)

-- tables hold states under one naming alone
abbrev pub NamesAreOne : Type 0
NamesAreOne = (users others : ℕ → Bool) (ns ms : Names) (t : Tables) → HoldsStates users ns t → HoldsStates others ms t → (n : ℕ) → path_of ns n ≡ path_of ms n
