-- A plan uses only what an earlier step set.
use Rattle.std.specs.Prelude.{◌≡◌, ℕ, ◌+◌, Bool, true, false, not, ◌&&◌, ◌||◌, nat_eq, nat_lt, List, [], ◌∷◌, Option, Some, None, cond}
use Rattle.std.specs.List.{list_any, list_all}
use Rattle.bdb_base.specs.declared.kinds.Operand.{Operand}
use Rattle.bdb_base.specs.declared.kinds.Operand.TheVariants.{Col, Lit}
use Rattle.bdb_base.specs.declared.kinds.Ref.{Ref}
use Rattle.bdb_base.specs.declared.kinds.Who.{Who}
use Rattle.bdb_base.specs.declared.kinds.Who.TheVariants.{User, Of}
use Rattle.bdb_plan.specs.declared.step.Step.{Step}
use Rattle.bdb_plan.specs.declared.step.Step.TheVariants as step

-- how many items a plan has, its steps, and the columns that its rows have
pub record PlanFields : Type 0 where
  pub items : ℕ
  pub steps : List Step
  pub take : List Ref

-- What is set so far: the items for which a user is chosen; the items whose columns are set, these among them; the denied ones
-- among the items, each with how many of its columns were bound; the item whose columns are being bound, with how many are; and
-- the item whose walk began last.
pub record SetSoFar : Type 0 where
  pub users : List ℕ
  pub items : List ℕ
  pub denied : List (ℕ × ℕ)
  pub bound : Option (ℕ × ℕ)
  pub walk : Option ℕ

-- a place is among places
abbrev pub is_among : List ℕ → ℕ → Bool
is_among set at = list_any (nat_eq at) set

abbrev pub is_bound : Option (ℕ × ℕ) → ℕ → Bool
is_bound None item = false
is_bound (Some b) item = nat_eq item b.0

abbrev pub has_bound : Option (ℕ × ℕ) → Ref → Bool
has_bound None r = false
has_bound (Some b) r = nat_eq r.item b.0 && nat_lt r.col b.1

-- the column was bound, where its item is a denied one
abbrev pub was_bound : List (ℕ × ℕ) → Ref → Bool
was_bound denied r = list_all (λ d. not (nat_eq r.item d.0) || nat_lt r.col d.1) denied

-- of an item for which a user is chosen the number and the name are known, of a denied one the columns that were bound, and of
-- another one that is set each column
abbrev pub is_known : SetSoFar → Ref → Bool
is_known p r = cond (is_among p.users r.item) (nat_lt r.col 2) (is_among p.items r.item && was_bound p.denied r)

-- a column is set
abbrev pub is_set : SetSoFar → Ref → Bool
is_set p r = is_known p r || has_bound p.bound r

abbrev pub operand_is_set : SetSoFar → Operand → Bool
operand_is_set p (Col r) = is_set p r
operand_is_set p (Lit v) = true

-- a user of a path is fixed, or chosen
abbrev pub who_is_set : SetSoFar → Who → Bool
who_is_set p (User uid) = true
who_is_set p (Of item) = is_among p.users item

-- a walk has begun, and the last one is that of the item
abbrev pub is_walked : Option ℕ → ℕ → Bool
is_walked None item = false
is_walked (Some at) item = nat_eq item at

-- an item is one of the plan's, and nothing is set of it
abbrev pub is_new : ℕ → SetSoFar → ℕ → Bool
is_new n p item = nat_lt item n && (not (is_among p.items item) && not (is_bound p.bound item))

-- the column is the next one of the item that is being bound, or the first one of a new item
abbrev pub comes_next : ℕ → SetSoFar → Option (ℕ × ℕ) → ℕ → ℕ → Bool
comes_next n p None item col = is_new n p item && nat_eq col 0
comes_next n p (Some b) item col = nat_eq item b.0 && nat_eq col b.1

-- all columns of an item are bound: it is being bound, and so many are enough for its relation; or it is new, and none are
abbrev pub is_whole : ℕ → (ℕ → ℕ → Bool) → SetSoFar → Option (ℕ × ℕ) → ℕ → ℕ → Bool
is_whole n whole p None item rel = is_new n p item && whole rel 0
is_whole n whole p (Some b) item rel = nat_eq item b.0 && whole rel b.1

-- so many columns are all that a relation has, and it has one at least
abbrev pub at_width : (ℕ → ℕ) → ℕ → ℕ → Bool
at_width width rel k = nat_lt 0 k && nat_eq (width rel) k

abbrev pub placed_if : Bool → SetSoFar → Option SetSoFar
placed_if test p = cond test (Some p) None

-- with a user chosen for an item
abbrev pub with_user : SetSoFar → ℕ → SetSoFar
with_user p item = record { users = item ∷ p.users; items = item ∷ p.items; denied = p.denied; bound = p.bound; walk = p.walk }

-- with the walk of an item begun
abbrev pub with_walk : SetSoFar → ℕ → SetSoFar
with_walk p item = record { users = p.users; items = p.items; denied = p.denied; bound = p.bound; walk = Some item }

-- with a tuple chosen for an item
abbrev pub with_tuple : SetSoFar → ℕ → SetSoFar
with_tuple p item = record { users = p.users; items = item ∷ p.items; denied = p.denied; bound = p.bound; walk = p.walk }

-- with a column of an item bound
abbrev pub with_column : SetSoFar → ℕ → ℕ → SetSoFar
with_column p item col = record { users = p.users; items = p.items; denied = p.denied; bound = Some (item, col + 1); walk = p.walk }

-- how many columns are bound of the item that is being bound; none where there is no such item
abbrev pub bound_count : Option (ℕ × ℕ) → ℕ
bound_count None = 0
bound_count (Some b) = b.1

-- with an item denied, all of whose columns are bound
abbrev pub with_all_bound : SetSoFar → ℕ → SetSoFar
with_all_bound p item = record { users = p.users; items = item ∷ p.items; denied = (item, bound_count p.bound) ∷ p.denied; bound = None; walk = p.walk }

-- What is set after a step; none where it uses what is not set, or sets what is. `Edge`, `Differ`, `Pos` and `Neg` belong to
-- the walk begun last, and a user of a path that is not fixed is one that `User` chose. `whole` says whether so many bound
-- columns are enough for a relation.
abbrev pub placed_after : ℕ → (ℕ → ℕ → Bool) → SetSoFar → Step → Option SetSoFar
placed_after n whole p (step.User item) = placed_if (is_new n p item) (with_user p item)
placed_after n whole p (step.Start item) = placed_if (nat_lt item n) (with_walk p item)
placed_after n whole p (step.Edge item who) = placed_if (is_walked p.walk item && who_is_set p who) p
placed_after n whole p (step.Differ item left right) = placed_if (is_walked p.walk item && (who_is_set p left && who_is_set p right)) p
placed_after n whole p (step.Pos item rel) = placed_if (is_walked p.walk item && is_new n p item) (with_tuple p item)
placed_after n whole p (step.Bind item col right) = placed_if (operand_is_set p right && comes_next n p p.bound item col) (with_column p item col)
placed_after n whole p (step.Neg item rel) = placed_if (is_walked p.walk item && is_whole n whole p p.bound item rel) (with_all_bound p item)
placed_after n whole p (step.Test c) = placed_if (is_set p c.left && operand_is_set p c.right) p

-- what is set after steps
abbrev pub placed_at_end : ℕ → (ℕ → ℕ → Bool) → Option SetSoFar → List Step → Option SetSoFar
placed_at_end n whole None xs = None
placed_at_end n whole (Some p) [] = Some p
placed_at_end n whole (Some p) (x ∷ xs) = placed_at_end n whole (placed_after n whole p x) xs

-- all columns taken are set
abbrev pub takes_set : List Ref → Option SetSoFar → Bool
takes_set take None = false
takes_set take (Some p) = list_all (is_set p) take

-- steps use only what is set, and so do the columns taken
abbrev pub fits_from : ℕ → (ℕ → ℕ → Bool) → List Ref → Option SetSoFar → List Step → Bool
fits_from n whole take o xs = takes_set take (placed_at_end n whole o xs)

-- nothing is set, and no walk has begun
abbrev pub at_first : SetSoFar
at_first = record { users = []; items = []; denied = []; bound = None; walk = None }

-- Each step, and each column taken, uses only what an earlier step set. A plan does not know how many columns a relation has:
-- `Pos` sets them all, and `Neg` uses those that were bound, and leaves these set.
abbrev pub UsesOnlySet : ℕ → List Step → List Ref → Type 0
UsesOnlySet items steps take = fits_from items (λ rel k. true) take (Some at_first) steps ≡ true
