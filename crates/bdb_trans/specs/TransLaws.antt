-- What holds of the plans of queries, in the subject's own words. Each law is the contract of a function of `laws`.
use Rattle.std.specs.Prelude.{◌≡◌, ℕ, true, List}
use Rattle.bdb_base.specs.declared.kinds.Catalog.{Catalog}
use Rattle.bdb_base.specs.declared.kinds.Query.{Query}
use Rattle.bdb_base.specs.Bases.{Contents, IsValid}
use Rattle.bdb_base.specs.Queries.{answers_of}
use Rattle.bdb_base.specs.Safety.{query_fits, IsSafe}
use Rattle.bdb_plan.specs.PlanLaws.{FitsSight}
use Rattle.bdb_plan.specs.PlanOf.{plan_of, order_of}
use Rattle.bdb_plan.specs.Running.{meaning_of}
use Rattle.bdb_plan.specs.Shown.{Shows}
use Rattle.bdb_plan.specs.Sight.{Sight}
use Rattle.bdb_trans.specs.Orders.{IsOrder, plan_in}

-- Whatever shows a valid base, the plan of each safe query that fits means the query's answers.
abbrev pub PlansMeanAnswers : Type 0
PlansMeanAnswers = (b : Contents) (sight : Sight) (number : List ℕ → ℕ) (q : Query) → IsValid b.catalog b.stmts → Shows b sight number
    → query_fits b.catalog q ≡ true → IsSafe b.catalog.rels q → meaning_of sight (plan_of b.catalog.rels q) ≡ answers_of b q

-- Whatever shows a valid base, each `Neg` of the plan of a safe query that fits stands behind a `Bind` for each column.
abbrev pub PlansFitSights : Type 0
PlansFitSights = (b : Contents) (sight : Sight) (number : List ℕ → ℕ) (q : Query) → IsValid b.catalog b.stmts → Shows b sight number
    → query_fits b.catalog q ≡ true → IsSafe b.catalog.rels q → FitsSight sight (plan_of b.catalog.rels q)

-- In whichever order the items of a safe query that fits are set, its plan means the query's answers, whatever shows a valid base.
abbrev pub OrdersMeanAnswers : Type 0
OrdersMeanAnswers = (b : Contents) (sight : Sight) (number : List ℕ → ℕ) (q : Query) (order : List ℕ) → IsValid b.catalog b.stmts → Shows b sight number
    → query_fits b.catalog q ≡ true → IsSafe b.catalog.rels q → IsOrder q order → meaning_of sight (plan_in b.catalog.rels q order) ≡ answers_of b q

-- And each `Neg` of it stands behind a `Bind` for each column.
abbrev pub OrdersFitSights : Type 0
OrdersFitSights = (b : Contents) (sight : Sight) (number : List ℕ → ℕ) (q : Query) (order : List ℕ) → IsValid b.catalog b.stmts → Shows b sight number
    → query_fits b.catalog q ≡ true → IsSafe b.catalog.rels q → IsOrder q order → FitsSight sight (plan_in b.catalog.rels q order)

-- The written order of the items of a query that fits is one, and its plan is the query's.
pub record IsWritten (catalog : Catalog) (q : Query) : Type 0 where
  pub order : IsOrder q (order_of q.items)
  pub plan : plan_of catalog.rels q ≡ plan_in catalog.rels q (order_of q.items)

abbrev pub WrittenOrdersAreOrders : Type 0
WrittenOrdersAreOrders = (catalog : Catalog) (q : Query) → query_fits catalog q ≡ true → IsWritten catalog q
