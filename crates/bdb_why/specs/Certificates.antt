-- Certificates: why a path believes a signed tuple, or doesn't.
use Rattle.std.specs.Prelude.{ℕ, Bool, true, false, ◌&&◌, List, [], map, filter, Option, None, Some, cond, find}
use Rattle.bdb_base.specs.declared.kinds.Sign.{Sign}
use Rattle.bdb_base.specs.declared.kinds.Sign.TheVariants.{Plus, Minus}
use Rattle.bdb_base.specs.declared.kinds.Stmt.{Stmt}
use Rattle.bdb_base.specs.declared.tuple.Tuple.{Tuple}
use Rattle.bdb_base.specs.Clash.{clash}
use Rattle.bdb_base.specs.Order.{tuple_cmp}
use Rattle.bdb_base.specs.Same.{same_sign}
use Rattle.bdb_base.specs.Segments.{is_suffix}
use Rattle.bdb_base.specs.SortedSet.{sorted_set}
use Rattle.bdb_why.specs.declared.kinds.Ground.{Ground}
use Rattle.bdb_why.specs.declared.kinds.Ruled.{Ruled}
use Rattle.bdb_why.specs.declared.kinds.Why.{Why}
use Rattle.bdb_why.specs.declared.kinds.Why.TheVariants.{Stated, Other, Absent}
use Rattle.bdb_why.specs.Grounds.{ground_of, is_found}

-- a statement at an end of the path states with plus another tuple of the relation and key
abbrev pub is_rival_near : (ℕ → ℕ) → List ℕ → Tuple → Stmt → Bool
is_rival_near keys w t x = is_suffix x.path w && (same_sign x.sign Plus && clash keys t Plus x.tuple Plus)

-- the rivals of a tuple: what such statements state, in order, each once
abbrev pub rivals : (ℕ → ℕ) → List Stmt → List ℕ → Tuple → List Tuple
rivals keys stmts w t = sorted_set tuple_cmp (map (λ x. x.tuple) (filter (is_rival_near keys w t) stmts))

-- a rival with its ground
abbrev pub ruled_of : (ℕ → ℕ) → List Stmt → List ℕ → Tuple → Ruled
ruled_of keys stmts w t = record { tuple = t; reason = ground_of keys stmts w t Plus }

-- the rivals that count, with their grounds: none for a tuple, and all for a negation
abbrev pub considered : (ℕ → ℕ) → List Stmt → List ℕ → Tuple → Sign → List Ruled
considered keys stmts w t Plus = []
considered keys stmts w t Minus = map (ruled_of keys stmts w) (rivals keys stmts w t)

-- a rival's ground says that the world has it
abbrev pub is_held : Ruled → Bool
is_held r = is_found r.reason

-- a rival that refutes, if there is one; else all that was looked at
abbrev pub other_or : Option Ruled → Ground → List Ruled → Why
other_or (Some r) own others = Other r
other_or None own others = Absent own others

-- the certificate of a ground and of those of rivals: the own one where it is found, else that of a rival which is
-- found, else all of them
abbrev pub why_by : Ground → List Ruled → Why
why_by own others = cond (is_found own) (Stated own) (other_or (find is_held others) own others)

-- why a path believes a signed tuple, or doesn't
abbrev pub why_of : (ℕ → ℕ) → List Stmt → List ℕ → Tuple → Sign → Why
why_of keys stmts w t s = why_by (ground_of keys stmts w t s) (considered keys stmts w t s)

-- a certificate says that the signed tuple is believed
abbrev pub says : Why → Bool
says (Stated reason) = true
says (Other r) = true
says (Absent own others) = false
