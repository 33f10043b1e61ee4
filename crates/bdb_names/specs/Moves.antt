-- What a new world takes over: the suffix links and edges that lead to it once it is there.
use Rattle.std.specs.Prelude.{◌≡◌, ℕ, Bool, true, false, not, ◌&&◌, nat_lt, List, [], ◌∷◌, ◌++◌, length, Option, None, Some}
use Rattle.bdb_base.specs.Alternation.{alternates}
use Rattle.bdb_base.specs.Segments.{is_suffix}
use Rattle.bdb_base.specs.States.{deepest_suffix}
use Rattle.bdb_base.specs.Causes.{is_listed}
use Rattle.bdb_tables.specs.Names.{Names, AreNames, path_of, number_of, is_named, are_once}

-- a path ends in one that joins a set, and its deepest end in the set was shorter
abbrev pub gains : (List ℕ → Bool) → List ℕ → List ℕ → Bool
gains P p w = is_suffix p w && nat_lt (length (deepest_suffix P w)) (length p)

-- a path has an edge for a user, and with the user at its end it gains the one that joins
abbrev pub edge_gains : (ℕ → Bool) → (List ℕ → Bool) → List ℕ → ℕ → List ℕ → Bool
edge_gains users P p i w = (users i && not (is_suffix (i ∷ []) w)) && gains P p (w ++ i ∷ [])

-- a path has a suffix link, and its tail gains the one that joins
abbrev pub link_gains : (List ℕ → Bool) → List ℕ → List ℕ → Bool
link_gains P p [] = false
link_gains P p (a ∷ w) = gains P p w

-- a test of the path that a number stands for
abbrev pub at_path : (List ℕ → Bool) → Option (List ℕ) → Bool
at_path test None = false
at_path test (Some w) = test w

-- the edge of a number's path for the last user of a new world leads to the new world
abbrev pub edge_moves : (ℕ → Bool) → Names → List ℕ → ℕ → ℕ → Bool
edge_moves users ns q i k = at_path (edge_gains users (is_named ns) (q ++ i ∷ []) i) (path_of ns k)

-- the suffix link of a number's path leads to the new world
abbrev pub link_moves : Names → List ℕ → ℕ → ℕ → Bool
link_moves ns q i k = at_path (link_gains (is_named ns) (q ++ i ∷ [])) (path_of ns k)

-- A path and one of the users behind it are no world yet. `m` stands for the path, and `s` for the world to which its
-- edge for the user leads.
pub record IsLeaf (users : ℕ → Bool) (ns : Names) (q : List ℕ) (i m s : ℕ) : Type 0 where
  pub names : AreNames ns
  pub start : number_of ns q ≡ Some m
  pub user : users i ≡ true
  pub apart : alternates (q ++ i ∷ []) ≡ true
  pub new : is_named ns (q ++ i ∷ []) ≡ false
  pub led : number_of ns (deepest_suffix (is_named ns) (q ++ i ∷ [])) ≡ Some s

-- the worlds whose edges move, and those whose suffix links do, each once
pub record AreMovers (users : ℕ → Bool) (ns : Names) (q : List ℕ) (i : ℕ) (sources met : List ℕ) : Type 0 where
  pub edges : (k : ℕ) → is_listed k sources ≡ edge_moves users ns q i k
  pub links : (k : ℕ) → is_listed k met ≡ link_moves ns q i k
  pub once : are_once sources ≡ true
  pub met_once : are_once met ≡ true
