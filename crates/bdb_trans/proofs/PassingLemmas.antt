-- An order that passes the test fits.
use Rattle.std.proofs.Common.{◌≡◌, ◌∙◌, ℕ, suc, ◌+◌, true, false, not, ◌||◌, List, [], ◌∷◌, Option, None, Some, refl, ap, sym, nat_eq, arith}
use Prim.Native.Nat.{zero}
use Rattle.std.specs.List.{list_all, slice_get}
use Rattle.std.specs.List.Sorted.{IsPermutation}
use Rattle.std.proofs.lemmas.Bool.{false≢true, and_parts, not-true}
use Rattle.std.proofs.lemmas.List.Sorted.{list_any-IsPermutation}
use Rattle.bdb_base.specs.Safety.{is_given, query_fits}
use Rattle.bdb_base.specs.declared.kinds.Catalog.{Catalog}
use Rattle.bdb_base.specs.declared.kinds.Item.{Item}
use Rattle.bdb_base.specs.declared.kinds.Item.TheVariants.{Users, Rel}
use Rattle.bdb_base.specs.declared.kinds.Query.{Query}
use Rattle.bdb_base.specs.declared.kinds.Sign.TheVariants.{Plus, Minus}
use Rattle.bdb_plan.specs.Fitness.{is_among}
use Rattle.bdb_plan.specs.PlanOf.{order_of}
use Rattle.bdb_trans.specs.Orders.{who_among, Needs, OrderFits, IsOrder}
use Rattle.bdb_trans.specs.Passing.{given_set, needs_set, comes_after, order_passes}
use Rattle.bdb_trans.proofs.FitLemmas.{written_order}

given_each : (set : List ℕ) (at : ℕ) (items : List Item) → given_set set at items ≡ true → (k : ℕ) → is_given (slice_get items k) ≡ true → is_among set (at + k) ≡ true
given_each set at [] h k g = absurd (false≢true g)
given_each set at (item ∷ items) h zero g =
    let here = (and_parts (not (is_given (Some item)) || is_among set at) (given_set set (at + 1) items) h).0 in
    let same : at + zero ≡ at = omega arith in
    ap (is_among set) same ∙ sym (ap (λ t. not t || is_among set at) g) ∙ here
given_each set at (item ∷ items) h (suc k) g =
    let rest = (and_parts (not (is_given (Some item)) || is_among set at) (given_set set (at + 1) items) h).1 in
    let same : at + suc k ≡ (at + 1) + k = omega arith in
    ap (is_among set) same ∙ given_each set (at + 1) items rest k g

needs : (q : Query) (set : List ℕ) (o : Option Item) → needs_set q set o ≡ true → (item : Item) × (o ≡ Some item) × Needs q set item
needs q set None h = absurd (false≢true h)
needs q set (Some (Users alias)) h = (Users alias, refl, tt)
needs q set (Some (Rel alias rel Plus path)) h = (Rel alias rel Plus path, refl, h)
needs q set (Some (Rel alias rel Minus path)) h =
    let k = and_parts (list_all (who_among set) path) (given_set set 0 q.items) h in
    (Rel alias rel Minus path, refl, (k.0, λ i g. let same : 0 + i ≡ i = omega arith in sym (ap (is_among set) same) ∙ given_each set 0 q.items k.1 i g))

passes_fits : (q : Query) (set order : List ℕ) → order_passes q set order ≡ true → OrderFits q set order
passes_fits q set [] h = tt
passes_fits q set (at ∷ order) h =
    let k = and_parts (comes_after q set at) (order_passes q (at ∷ set) order) h in
    let m = and_parts (not (is_among set at)) (needs_set q set (slice_get q.items at)) k.0 in
    let n = needs q set (slice_get q.items at) m.1 in
    ((n.0, n.1, not-true (is_among set at) m.0, n.2), passes_fits q (at ∷ set) order k.1)

-- places that are those of the written order, and pass, are an order
pub passing_order : (catalog : Catalog) (q : Query) (order : List ℕ) → query_fits catalog q ≡ true → IsPermutation (order_of q.items) order → order_passes q [] order ≡ true → IsOrder q order
passing_order catalog q order fits same passes = record {
  fits = passes_fits q [] order passes;
  each = λ k item e. sym (list_any-IsPermutation (nat_eq k) (order_of q.items) order same) ∙ (written_order catalog q fits).each k item e;
}
