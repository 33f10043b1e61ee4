-- Names of worlds: which path each number stands for, and which number stands for each path.
use Rattle.std.specs.Prelude.{◌≡◌, ℕ, ◌≤◌, ◌<◌, ◌^◌, Bool, true, false, not, ◌&&◌, nat_eq, List, [], ◌∷◌, length, filter, Option, None, Some, is_some, cond}
use Rattle.std.specs.Option.{option_map, option_and_then}
use Rattle.bdb_base.specs.Alternation.{alternates}
use Rattle.bdb_base.specs.Causes.{is_listed}
use Rattle.bdb_base.specs.Same.{same_path}
use Rattle.bdb_base.specs.Segments.{is_suffix}
use Rattle.bdb_base.specs.States.{HasPrefixes, suffix_link, edge_target}

-- worlds that may have numbers
abbrev pub most_numbered : ℕ
most_numbered = 65536

-- which path each number stands for, which number stands for each path, and the numbers in use
pub record Names : Type 0 where
  pub path : ℕ → Option (List ℕ)
  pub number : List ℕ → Option ℕ
  pub used : List ℕ

-- the path that a number stands for
abbrev pub path_of : Names → ℕ → Option (List ℕ)
path_of ns n = ns.path n

-- the number that stands for a path
abbrev pub number_of : Names → List ℕ → Option ℕ
number_of ns w = ns.number w

-- a number stands for the path
abbrev pub is_named : Names → List ℕ → Bool
is_named ns w = is_some (number_of ns w)

-- something leads to this number
abbrev pub leads_to : Option ℕ → ℕ → Bool
leads_to None n = false
leads_to (Some m) n = nat_eq m n

-- no number comes twice
abbrev pub are_once : List ℕ → Bool
are_once [] = true
are_once (k ∷ ks) = not (is_listed k ks) && are_once ks

-- names with one more
abbrev pub with_name : Names → ℕ → List ℕ → Names
with_name ns n p = record {
  path = λ k. cond (nat_eq k n) (Some p) (ns.path k);
  number = λ w. cond (same_path w p) (Some n) (ns.number w);
  used = n ∷ ns.used;
}

-- names without one
abbrev pub without_name : Names → ℕ → List ℕ → Names
without_name ns n p = record {
  path = λ k. cond (nat_eq k n) None (ns.path k);
  number = λ w. cond (same_path w p) None (ns.number w);
  used = filter (λ k. not (nat_eq k n)) ns.used;
}

-- Numbers and paths name each other: the empty path has 0, each prefix of a path that has a number has one, and the
-- numbers are of four bytes.
pub record AreNames (ns : Names) : Type 0 where
  pub root : number_of ns [] ≡ Some 0
  pub named : (n : ℕ) (w : List ℕ) → path_of ns n ≡ Some w → number_of ns w ≡ Some n
  pub numbered : (w : List ℕ) (n : ℕ) → number_of ns w ≡ Some n → path_of ns n ≡ Some w
  pub prefixes : HasPrefixes (is_named ns)
  pub apart : (w : List ℕ) → is_named ns w ≡ true → alternates w ≡ true
  pub sized : (w : List ℕ) (n : ℕ) → number_of ns w ≡ Some n → n < 2 ^ 32
  pub short : (w : List ℕ) → is_named ns w ≡ true → length w < 2 ^ 32
  pub counted : (n : ℕ) → is_listed n ns.used ≡ is_some (path_of ns n)
  pub once : are_once ns.used ≡ true
  pub few : length ns.used ≤ most_numbered

-- the length of the path that a number stands for
abbrev pub depth_of : Names → ℕ → Option ℕ
depth_of ns n = option_map (λ w. length w) (path_of ns n)

-- the number of the suffix link of a number's path; 0 has none
abbrev pub link_of : Names → ℕ → Option ℕ
link_of ns n = option_and_then (number_of ns) (option_and_then (suffix_link (is_named ns)) (path_of ns n))

-- the number to which the edge of a path for a user leads; a path has none for its own last user
abbrev pub edge_from : (ℕ → Bool) → Names → ℕ → List ℕ → Option ℕ
edge_from users ns i w = cond (users i && not (is_suffix (i ∷ []) w)) (number_of ns (edge_target (is_named ns) w i)) None

-- the number to which the edge of a number's path for a user leads
abbrev pub edge_of : (ℕ → Bool) → Names → ℕ × ℕ → Option ℕ
edge_of users ns k = option_and_then (edge_from users ns k.1) (path_of ns k.0)
