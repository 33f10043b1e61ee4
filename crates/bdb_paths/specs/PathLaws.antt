-- What holds of states and of deepest suffixes, in the subject's own words. Each law is the contract of a function of
-- `laws`. `keys` gives the length of each relation's key.
use Rattle.std.specs.Prelude.{◌≡◌, ◌≢◌, ℕ, ◌+◌, ◌≤◌, Bool, true, not, ◌&&◌, ◌||◌, nat_lt, List, [], ◌∷◌, ◌++◌, length, cond}
use Rattle.bdb_base.specs.declared.kinds.Sign.{Sign}
use Rattle.bdb_base.specs.declared.kinds.Stmt.{Stmt}
use Rattle.bdb_base.specs.declared.tuple.Tuple.{Tuple}
use Rattle.bdb_base.specs.Alternation.{tail}
use Rattle.bdb_base.specs.Bases.{world_count, with_statement}
use Rattle.bdb_base.specs.Order.{path_cmp}
use Rattle.bdb_base.specs.Same.{same_path}
use Rattle.bdb_base.specs.Segments.{is_prefix, is_suffix}
use Rattle.bdb_base.specs.SortedSet.{is_member}
use Rattle.bdb_base.specs.States.{HasPrefixes, is_state, states_of, new_states, deepest_suffix}
use Rattle.bdb_base.specs.Worlds.{stated, believes}

-- ---- states

-- the list of states has exactly the states
abbrev pub ListHasStates : Type 0
ListHasStates = (stmts : List Stmt) (w : List ℕ) → is_member path_cmp (states_of stmts) w ≡ is_state stmts w

-- each prefix of a state is a state
abbrev pub StatesHavePrefixes : Type 0
StatesHavePrefixes = (stmts : List Stmt) → HasPrefixes (is_state stmts)

-- there are as many states as worlds are counted
abbrev pub StatesAreCounted : Type 0
StatesAreCounted = (stmts : List Stmt) → length (states_of stmts) ≡ world_count stmts

-- a put makes states of the prefixes of its path
abbrev pub PutMakesStates : Type 0
PutMakesStates = (stmts : List Stmt) (s : Stmt) (w : List ℕ) → is_state (with_statement stmts s) w ≡ (is_prefix w s.path || is_state stmts w)

-- a put adds as many worlds as its path has prefixes that were no states
abbrev pub PutCountsWorlds : Type 0
PutCountsWorlds = (stmts : List Stmt) (s : Stmt) → world_count (with_statement stmts s) ≡ length (new_states stmts s.path) + world_count stmts

-- ---- deepest suffixes. A set of paths is a test.

-- in a set that has the empty path, the deepest suffix is a member, a suffix, and none is longer
abbrev pub DeepestSuffixIsLongest : Type 0
DeepestSuffixIsLongest = (P : List ℕ → Bool) (w : List ℕ) → P [] ≡ true
    → (P (deepest_suffix P w) ≡ true) × (is_suffix (deepest_suffix P w) w ≡ true)
    × ((v : List ℕ) → P v ≡ true → is_suffix v w ≡ true → length v ≤ length (deepest_suffix P w))

-- a path has the world of its deepest suffix that is a state
abbrev pub StatesStandForPaths : Type 0
StatesStandForPaths = (keys : ℕ → ℕ) (stmts : List Stmt) (w : List ℕ) (t : Tuple) (s : Sign) → stated keys stmts w t s ≡ stated keys stmts (deepest_suffix (is_state stmts) w) t s

-- a path believes what its deepest suffix that is a state believes
abbrev pub StatesBelieveForPaths : Type 0
StatesBelieveForPaths = (keys : ℕ → ℕ) (stmts : List Stmt) (w : List ℕ) (t : Tuple) (s : Sign) → believes keys stmts w t s ≡ believes keys stmts (deepest_suffix (is_state stmts) w) t s

-- in a set that has the prefixes of its members, the deepest suffix of a longer path is found from that of the path
abbrev pub SuffixesExtend : Type 0
SuffixesExtend = (P : List ℕ → Bool) → HasPrefixes P → (w : List ℕ) (i : ℕ) → deepest_suffix P (w ++ i ∷ []) ≡ deepest_suffix P (deepest_suffix P w ++ i ∷ [])

-- a set with one more path
abbrev pub with_path : (List ℕ → Bool) → List ℕ → List ℕ → Bool
with_path P p w = P w || same_path w p

-- a set without one path
abbrev pub without_path : (List ℕ → Bool) → List ℕ → List ℕ → Bool
without_path P p w = P w && not (same_path w p)

-- where a set gains a path, it becomes the deepest suffix of those that it is a suffix of and whose deepest suffix was
-- shorter; for all others nothing changes
abbrev pub SuffixesGain : Type 0
SuffixesGain = (P : List ℕ → Bool) (p w : List ℕ)
    → deepest_suffix (with_path P p) w ≡ cond (is_suffix p w && nat_lt (length (deepest_suffix P w)) (length p)) p (deepest_suffix P w)

-- where a set loses a path other than the empty one, the deepest suffix of the path's tail takes its place; for all
-- others nothing changes
abbrev pub SuffixesLose : Type 0
SuffixesLose = (P : List ℕ → Bool) (p w : List ℕ) → p ≢ []
    → deepest_suffix (without_path P p) w ≡ cond (same_path (deepest_suffix P w) p) (deepest_suffix P (tail p)) (deepest_suffix P w)
