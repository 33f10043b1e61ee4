-- What holds of grounds and certificates, in the subject's own words. Each law is the contract of a function of `laws`.
-- `keys` gives the length of each relation's key.
use Rattle.std.specs.Prelude.{◌≡◌, ℕ, ◌+◌, ◌-◌, Bool, true, List, [], ◌∷◌, length, filter}
use Rattle.std.specs.Bool.{Decides}
use Rattle.std.specs.List.{flat_map}
use Rattle.bdb_base.specs.declared.kinds.Sign.{Sign}
use Rattle.bdb_base.specs.declared.kinds.Sign.TheVariants.{Plus}
use Rattle.bdb_base.specs.declared.kinds.Stmt.{Stmt}
use Rattle.bdb_base.specs.declared.tuple.Tuple.{Tuple}
use Rattle.bdb_base.specs.Clash.{clash}
use Rattle.bdb_base.specs.Order.{statement_cmp}
use Rattle.bdb_base.specs.SortedSet.{ascending, sorted_set}
use Rattle.bdb_base.specs.States.{is_state, deepest_suffix, suffix_link}
use Rattle.bdb_base.specs.Worlds.{stated, believes, IsConsistent}
use Rattle.bdb_why.specs.declared.kinds.Why.{Why}
use Rattle.bdb_why.specs.Accepting.{accepts}
use Rattle.bdb_why.specs.Certificates.{why_of, says}
use Rattle.bdb_why.specs.Ends.{ends_in, ends_behind, is_at_an_end, near_at}
use Rattle.bdb_why.specs.Grounds.{ground_from, ground_of, is_found}

-- a signed tuple's ground is found exactly where the path's world has it
abbrev pub StatedIsFound : Type 0
StatedIsFound = (keys : ℕ → ℕ) (stmts : List Stmt) (w : List ℕ) (t : Tuple) (s : Sign) → is_found (ground_of keys stmts w t s) ≡ stated keys stmts w t s

-- a certificate says yes exactly where the path believes
abbrev pub SaysIsBelief : Type 0
SaysIsBelief = (keys : ℕ → ℕ) (stmts : List Stmt) (w : List ℕ) (t : Tuple) (s : Sign) → says (why_of keys stmts w t s) ≡ believes keys stmts w t s

-- where no two statements of one path clash, at most one other tuple of a key is found
abbrev pub OneRivalIsFound : Type 0
OneRivalIsFound = (keys : ℕ → ℕ) (stmts : List Stmt) → IsConsistent keys stmts → (w : List ℕ) (t a b : Tuple)
    → clash keys t Plus a Plus ≡ true → clash keys t Plus b Plus ≡ true
    → is_found (ground_of keys stmts w a Plus) ≡ true → is_found (ground_of keys stmts w b Plus) ≡ true → a ≡ b

-- where no two statements of one path clash, exactly the certificate is accepted
abbrev pub CheckIsExact : Type 0
CheckIsExact = (keys : ℕ → ℕ) (stmts : List Stmt) → IsConsistent keys stmts → (w : List ℕ) (t : Tuple) (s : Sign) (y : Why)
    → Decides (accepts keys stmts w t s y) (y ≡ why_of keys stmts w t s)

-- where no two statements of one path clash, an accepted certificate says what the path believes
abbrev pub AcceptedIsBelief : Type 0
AcceptedIsBelief = (keys : ℕ → ℕ) (stmts : List Stmt) → IsConsistent keys stmts → (w : List ℕ) (t : Tuple) (s : Sign) (y : Why)
    → accepts keys stmts w t s y ≡ true → says y ≡ believes keys stmts w t s

-- the certificate is accepted, whatever stands
abbrev pub CertificateIsAccepted : Type 0
CertificateIsAccepted = (keys : ℕ → ℕ) (stmts : List Stmt) (w : List ℕ) (t : Tuple) (s : Sign) → accepts keys stmts w t s (why_of keys stmts w t s) ≡ true

-- a path's ground is that of its deepest suffix that is a state, so many levels further down as that is shorter
abbrev pub GroundsGoByStates : Type 0
GroundsGoByStates = (keys : ℕ → ℕ) (stmts : List Stmt) (level : ℕ) (w : List ℕ) (t : Tuple) (s : Sign) → ground_from keys stmts level w t s
    ≡ ground_from keys stmts (level + (length w - length (deepest_suffix (is_state stmts) w))) (deepest_suffix (is_state stmts) w) t s

-- the ends of a path that are in a set: its deepest suffix, and those of where that one's suffix link leads
abbrev pub EndsGoByLinks : Type 0
EndsGoByLinks = (P : List ℕ → Bool) (w : List ℕ) → P [] ≡ true → ends_in P w ≡ deepest_suffix P w ∷ ends_behind P (suffix_link P (deepest_suffix P w))

-- the statements near a path are those at the states among its ends
abbrev pub NearIsAtStates : Type 0
NearIsAtStates = (keys : ℕ → ℕ) (stmts : List Stmt) → ascending statement_cmp stmts ≡ true → (w : List ℕ) (t : Tuple)
    → sorted_set statement_cmp (flat_map (near_at keys stmts t) (ends_in (is_state stmts) w)) ≡ filter (is_at_an_end keys w t) stmts

-- a certificate depends on the statements near the path alone
abbrev pub WhyDependsOnNear : Type 0
WhyDependsOnNear = (keys : ℕ → ℕ) (stmts : List Stmt) (w : List ℕ) (t : Tuple) (s : Sign)
    → why_of keys (filter (is_at_an_end keys w t) stmts) w t s ≡ why_of keys stmts w t s
