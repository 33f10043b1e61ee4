-- The plan of a query means the query's answers.
use Rattle.std.proofs.Common.{◌≡◌, ◌∙◌, ℕ, suc, ◌<◌, Bool, true, List, [], Some, refl, ap, length, nat_eq, nat_lt, arith}
use Rattle.std.specs.List.{slice_get}
use Rattle.std.specs.Option.{is_some}
use Rattle.std.proofs.lemmas.Bool.{and_from, lt-ltb}
use Rattle.std.proofs.lemmas.Bool.Decides.{Decides-eqb}
use Rattle.bdb_base.specs.declared.kinds.Catalog.{Catalog}
use Rattle.bdb_base.specs.declared.kinds.Query.{Query}
use Rattle.bdb_base.specs.declared.kinds.Ref.{Ref}
use Rattle.bdb_base.specs.declared.kinds.Value.{Value}
use Rattle.bdb_base.specs.Bases.{Contents, IsValid}
use Rattle.bdb_base.specs.Queries.{columns_at}
use Rattle.bdb_base.specs.Safety.{query_fits, IsSafe}
use Rattle.bdb_queries.specs.QueryLaws.{IsHeldRow}
use Rattle.bdb_queries.proofs.DomainLemmas.{answers_are_what_holds}
use Rattle.bdb_queries.proofs.HoldingLemmas.{items_fit, held_slots_of_row, held_row_of_slots}
use Rattle.bdb_plan.specs.declared.step.Step.{Step}
use Rattle.bdb_plan.specs.Fitness.{at_width, fits_from, at_first, UsesOnlySet}
use Rattle.bdb_plan.specs.Holding.{IsPlanRow}
use Rattle.bdb_plan.specs.PlanOf.{plan_steps, steps_from, order_of}
use Rattle.bdb_plan.specs.Running.{meaning_of}
use Rattle.bdb_plan.specs.Shown.{Shows}
use Rattle.bdb_plan.specs.Sight.{Sight}
use Rattle.bdb_plan.proofs.RunLemmas.{meaning_are_choices}
use Rattle.bdb_trans.specs.TransLaws.{PlansMeanAnswers, PlansFitSights, OrdersMeanAnswers, OrdersFitSights, WrittenOrdersAreOrders}
use Rattle.bdb_trans.specs.Orders.{IsOrder, plan_in}
use Rattle.bdb_trans.proofs.FitLemmas.{plan_is_fit, some_column, written_order}
use Rattle.bdb_trans.proofs.HoldLemmas.{slots_from_steps, steps_from_slots}

-- the rows of the plan's choices are those of the query's slots
plan_row_held : (b : Contents) (sight : Sight) (number : List ℕ → ℕ) → Shows b sight number → IsValid b.catalog b.stmts → (q : Query) → query_fits b.catalog q ≡ true → IsSafe b.catalog.rels q
    → (order : List ℕ) → IsOrder q order → (row : List Value) → IsPlanRow sight (plan_in b.catalog.rels q order) row → IsHeldRow b q row
plan_row_held b sight number s valid q fits safe order is row (zs, long, hold, gives) =
    let k = slots_from_steps b sight number s valid q fits safe order is zs long hold in
    held_row_of_slots b q row (items_fit b q fits) zs (record { items = k.0; conds = k.1; gives = gives })

held_row_planned : (b : Contents) (sight : Sight) (number : List ℕ → ℕ) → Shows b sight number → IsValid b.catalog b.stmts → (q : Query) → query_fits b.catalog q ≡ true
    → (order : List ℕ) → (row : List Value) → IsHeldRow b q row → IsPlanRow sight (plan_in b.catalog.rels q order) row
held_row_planned b sight number s valid q fits order row h =
    let slots = held_slots_of_row b q row (items_fit b q fits) h in
    let k = steps_from_slots b sight number s valid q fits order slots.0 slots.1.items slots.1.conds in
    (slots.0, k.0, k.1, slots.1.gives)

pub orders_fit_sights : OrdersFitSights
orders_fit_sights b sight number q order valid s fits safe is =
    plan_is_fit (at_width sight.width) b.catalog q whole fits safe order is
  where
    whole : (rel : ℕ) → is_some (slice_get b.catalog.rels rel) ≡ true → at_width sight.width rel (length (columns_at b.catalog.rels rel)) ≡ true
    whole rel there =
        let cols = columns_at b.catalog.rels rel in
        let some = some_column b.catalog.rels rel valid.catalog.rels_valid there in
        let long : length cols ≡ suc (length some.1) = ap length some.2 in
        let more : 0 < length cols = omega arith in
        and_from (nat_lt 0 (length cols)) (nat_eq (sight.width rel) (length cols)) (lt-ltb 0 (length cols) more) ((Decides-eqb (sight.width rel) (length cols)).1 (s.width rel))

pub orders_mean_answers : OrdersMeanAnswers
orders_mean_answers b sight number q order valid s fits safe is =
    let plan = plan_in b.catalog.rels q order in
    let rows = meaning_of sight plan in
    let are = meaning_are_choices sight plan (orders_fit_sights b sight number q order valid s fits safe is) in
    answers_are_what_holds b q safe rows are.sorted
    (λ row m. plan_row_held b sight number s valid q fits safe order is row ((are.members row).0 m))
    (λ row h. (are.members row).1 (held_row_planned b sight number s valid q fits order row h))

pub plans_fit_sights : PlansFitSights
unfolding plan_steps
plans_fit_sights b sight number q valid s fits safe = orders_fit_sights b sight number q (order_of q.items) valid s fits safe (written_order b.catalog q fits)

pub plans_mean_answers : PlansMeanAnswers
unfolding plan_steps
plans_mean_answers b sight number q valid s fits safe = orders_mean_answers b sight number q (order_of q.items) valid s fits safe (written_order b.catalog q fits)

-- the plan of an order uses only what is set
pub order_uses_only_set : (catalog : Catalog) (q : Query) (order : List ℕ) (items : ℕ) (steps : List Step) (take : List Ref) → query_fits catalog q ≡ true → IsSafe catalog.rels q → IsOrder q order
    → items ≡ length q.items → steps ≡ steps_from catalog.rels q [] order → take ≡ q.take → UsesOnlySet items steps take
order_uses_only_set catalog q order items steps take fits safe is i s t =
    let w : ℕ → ℕ → Bool = λ rel k. true in
    ap (λ n. fits_from n w take (Some at_first) steps) i ∙ ap (λ x. fits_from (length q.items) w take (Some at_first) x) s ∙ ap (λ x. fits_from (length q.items) w x (Some at_first) (steps_from catalog.rels q [] order)) t
    ∙ plan_is_fit w catalog q (λ rel there. refl) fits safe order is

-- the plan of a query uses only what is set
pub uses_only_set : (catalog : Catalog) (q : Query) (items : ℕ) (steps : List Step) (take : List Ref) → query_fits catalog q ≡ true → IsSafe catalog.rels q
    → items ≡ length q.items → steps ≡ plan_steps catalog.rels q → take ≡ q.take → UsesOnlySet items steps take
unfolding plan_steps
uses_only_set catalog q items steps take fits safe i s t = order_uses_only_set catalog q (order_of q.items) items steps take fits safe (written_order catalog q fits) i s t

pub written_orders_are_orders : WrittenOrdersAreOrders
unfolding plan_steps
written_orders_are_orders catalog q fits = record { order = written_order catalog q fits; plan = refl }
