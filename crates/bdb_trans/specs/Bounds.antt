-- How often the plan of a query reads at most.
use Rattle.std.specs.Prelude.{◌≡◌, ℕ, ◌+◌, ◌*◌, ◌≤◌, true, List, [], ◌∷◌, Option, Some, None, length}
use Rattle.std.specs.List.{list_all, slice_get}
use Rattle.bdb_base.specs.Alternation.{alternates}
use Rattle.bdb_base.specs.Bases.{Contents, IsValid, is_user}
use Rattle.bdb_base.specs.Safety.{query_fits}
use Rattle.bdb_base.specs.States.{is_state, deepest_suffix}
use Rattle.bdb_base.specs.declared.kinds.Item.{Item}
use Rattle.bdb_base.specs.declared.kinds.Item.TheVariants.{Users, Rel}
use Rattle.bdb_base.specs.declared.kinds.Query.{Query}
use Rattle.bdb_base.specs.declared.kinds.Sign.{Sign}
use Rattle.bdb_base.specs.declared.kinds.Who.{Who}
use Rattle.bdb_base.specs.declared.tuple.Tuple.{Tuple}
use Rattle.bdb_queries.specs.Slots.{path_of}
use Rattle.bdb_plan.specs.PlanOf.{plan_steps}
use Rattle.bdb_plan.specs.Running.{reads_from, start_of}
use Rattle.bdb_plan.specs.Shown.{Shows}
use Rattle.bdb_plan.specs.Sight.{Sight}
use Rattle.bdb_trans.specs.Orders.{IsOrder, plan_in}

-- The factor of an item: by how many places of users there are for a `Users` item; for another by its path, and how many rows of its
-- relation the worlds of its path have.
abbrev pub factor : ℕ → (ℕ → ℕ) → ℕ → Option Item → ℕ
factor users rows at None = 1
factor users rows at (Some (Users alias)) = 2 * users + 8
factor users rows at (Some (Rel alias rel sign path)) = length path + 3 * rows at + 8

-- the product of the factors of items, from a place on
abbrev pub product_of : ℕ → (ℕ → ℕ) → ℕ → List Item → ℕ
product_of users rows at [] = 1
product_of users rows at (item ∷ items) = factor users rows at (Some item) * product_of users rows (at + 1) items

-- each world that an item's path names, whichever users are chosen, has at most so many rows of the item's relation
abbrev pub AreSmall : Contents → Sight → (List ℕ → ℕ) → Query → (ℕ → ℕ) → Type 0
AreSmall b sight number q rows = (at : ℕ) (alias : List ℕ) (rel : ℕ) (sign : Sign) (path : List Who) → slice_get q.items at ≡ Some (Rel alias rel sign path)
    → (slots : List (Option Tuple)) (w : List ℕ) → path_of slots path ≡ Some w → list_all (is_user b.catalog.users) w ≡ true → alternates w ≡ true
    → length (sight.rows (number (deepest_suffix (is_state b.stmts) w)) rel) ≤ rows at

-- Whatever shows a valid base, and in whichever order the items of a query that fits are set, its plan reads at most the product of one factor for each item.
abbrev pub OrdersReadFew : Type 0
OrdersReadFew = (b : Contents) (sight : Sight) (number : List ℕ → ℕ) (q : Query) (order : List ℕ) (users : ℕ) (rows : ℕ → ℕ) → IsValid b.catalog b.stmts → Shows b sight number
    → query_fits b.catalog q ≡ true → IsOrder q order → sight.places ≤ users → AreSmall b sight number q rows
    → reads_from sight (plan_in b.catalog.rels q order).steps (start_of (length q.items)) ≤ product_of users rows 0 q.items

-- Whatever shows a valid base, the plan of a query that fits reads at most the product of one factor for each item.
abbrev pub PlanReadsAreBounded : Type 0
PlanReadsAreBounded = (b : Contents) (sight : Sight) (number : List ℕ → ℕ) (q : Query) (users : ℕ) (rows : ℕ → ℕ) → IsValid b.catalog b.stmts → Shows b sight number
    → query_fits b.catalog q ≡ true → sight.places ≤ users → AreSmall b sight number q rows
    → reads_from sight (plan_steps b.catalog.rels q) (start_of (length q.items)) ≤ product_of users rows 0 q.items
