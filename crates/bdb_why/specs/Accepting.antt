-- How a certificate is checked: each ground in it is compared with that of the statements.
use Rattle.std.specs.Prelude.{ℕ, Bool, true, false, not, ◌&&◌, ◌||◌, nat_eq, List, length}
use Rattle.std.specs.declared.cmp.Ordering.{Ordering}
use Rattle.std.specs.List.{list_any, list_all}
use Rattle.bdb_base.specs.declared.kinds.Sign.{Sign}
use Rattle.bdb_base.specs.declared.kinds.Sign.TheVariants.{Plus, Minus}
use Rattle.bdb_base.specs.declared.kinds.Stmt.{Stmt}
use Rattle.bdb_base.specs.declared.tuple.Tuple.{Tuple}
use Rattle.bdb_base.specs.Clash.{clash}
use Rattle.bdb_base.specs.Order.{tuple_cmp}
use Rattle.bdb_base.specs.Same.{same_statement, same_tuple}
use Rattle.bdb_base.specs.SortedSet.{ascending}
use Rattle.bdb_base.specs.Worlds.{stated}
use Rattle.bdb_why.specs.declared.kinds.Ground.{Ground}
use Rattle.bdb_why.specs.declared.kinds.Ground.TheVariants.{Found, Blocked, Nowhere}
use Rattle.bdb_why.specs.declared.kinds.Ruled.{Ruled}
use Rattle.bdb_why.specs.declared.kinds.Why.{Why}
use Rattle.bdb_why.specs.declared.kinds.Why.TheVariants as why
use Rattle.bdb_why.specs.Certificates.{is_held, is_rival_near}
use Rattle.bdb_why.specs.Grounds.{ground_of, is_found}

-- two grounds are the same
abbrev pub same_ground : Ground → Ground → Bool
same_ground (Found m) (Found n) = nat_eq m n
same_ground (Blocked m x) (Blocked n y) = nat_eq m n && same_statement x y
same_ground Nowhere Nowhere = true
same_ground _ _ = false

-- a ground is that of a signed tuple at a path
abbrev pub is_ground : (ℕ → ℕ) → List Stmt → List ℕ → Tuple → Sign → Ground → Bool
is_ground keys stmts w t s g = same_ground g (ground_of keys stmts w t s)

-- the order of rivals by tuple
abbrev pub ruled_cmp : Ruled → Ruled → Ordering
ruled_cmp a b = tuple_cmp a.tuple b.tuple

-- a statement makes this tuple a rival
abbrev pub makes_rival : (ℕ → ℕ) → List ℕ → Tuple → Tuple → Stmt → Bool
makes_rival keys w t u x = is_rival_near keys w t x && same_tuple x.tuple u

-- some statement makes this tuple a rival, and its ground is the one given
abbrev pub is_ruled : (ℕ → ℕ) → List Stmt → List ℕ → Tuple → Ruled → Bool
is_ruled keys stmts w t r = list_any (makes_rival keys w t r.tuple) stmts && is_ground keys stmts w r.tuple Plus r.reason

-- this tuple is among those given
abbrev pub is_among : List Ruled → Tuple → Bool
is_among others u = list_any (λ r. same_tuple r.tuple u) others

-- where a statement makes its tuple a rival, the tuple is among those given
abbrev pub is_covered : (ℕ → ℕ) → List ℕ → Tuple → List Ruled → Stmt → Bool
is_covered keys w t others x = not (is_rival_near keys w t x) || is_among others x.tuple

-- those given are the rivals that count, in order, each with its ground
abbrev pub are_considered : (ℕ → ℕ) → List Stmt → List ℕ → Tuple → Sign → List Ruled → Bool
are_considered keys stmts w t Plus others = nat_eq (length others) 0
are_considered keys stmts w t Minus others =
    ascending ruled_cmp others && (list_all (is_ruled keys stmts w t) others && list_all (is_covered keys w t others) stmts)

-- a rival refutes a tuple, and the negation isn't stated itself
abbrev pub refutes : (ℕ → ℕ) → List Stmt → List ℕ → Tuple → Sign → Ruled → Bool
refutes keys stmts w t Plus r = false
refutes keys stmts w t Minus r = clash keys t Plus r.tuple Plus
    && (is_held r && (is_ground keys stmts w r.tuple Plus r.reason && not (stated keys stmts w t Minus)))

-- a certificate is right
abbrev pub accepts : (ℕ → ℕ) → List Stmt → List ℕ → Tuple → Sign → Why → Bool
accepts keys stmts w t s (why.Stated g) = is_found g && is_ground keys stmts w t s g
accepts keys stmts w t s (why.Other r) = refutes keys stmts w t s r
accepts keys stmts w t s (why.Absent own others) = not (is_found own)
    && (is_ground keys stmts w t s own && (not (list_any is_held others) && are_considered keys stmts w t s others))
