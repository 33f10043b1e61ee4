-- What holds of queries and their answers, in the subject's own words. Each law is the contract of a function of `laws`.
use Rattle.std.specs.Prelude.{◌≡◌, true, ◌⊎◌, List, Some}
use Rattle.std.specs.List.{list_all, slice_get, flat_map}
use Rattle.bdb_base.specs.declared.kinds.Query.{Query}
use Rattle.bdb_base.specs.declared.kinds.Ref.{Ref}
use Rattle.bdb_base.specs.declared.kinds.Value.{Value}
use Rattle.bdb_base.specs.Bases.{Contents}
use Rattle.bdb_base.specs.Order.{row_cmp}
use Rattle.bdb_base.specs.Queries.{Choice, chosen_value, chosen_row, holds_in, in_domain, choice_within, is_true_assignment, literal_of, active_domain, HasValues, answers_over, answers_of, AreAnswers}
use Rattle.bdb_base.specs.Safety.{is_given, is_minus, IsSafe}
use Rattle.bdb_base.specs.SortedSet.{is_member, ascending}

-- the list of answers over a domain has the answers, all of them and nothing else
abbrev pub AnswersAreTheAnswers : Type 0
AnswersAreTheAnswers = (b : Contents) (dom : List Value) (q : Query) → AreAnswers b dom q (answers_over b dom q)

-- two lists that both are the answers over a domain are one list
abbrev pub AnswersAreOneList : Type 0
AnswersAreOneList = (b : Contents) (dom : List Value) (q : Query) (rows more : List (List Value)) → AreAnswers b dom q rows → AreAnswers b dom q more → rows ≡ more

-- a value is that of a column of a `Users` item or a plus item
abbrev pub IsGivenValue : Contents → Query → List Choice → Value → Type 0
IsGivenValue b q chosen v = (r : Ref) × (is_given (slice_get q.items r.item) ≡ true) × (chosen_value b.catalog.users chosen r ≡ Some v)

-- the literals of a query's comparisons
abbrev pub literals_of : Query → List Value
literals_of q = flat_map (λ c. literal_of c.right) q.conds

-- a value is that of a column of a `Users` item or a plus item, or a literal of the query
abbrev pub IsInRange : Contents → Query → List Choice → Value → Type 0
IsInRange b q chosen v = IsGivenValue b q chosen v ⊎ (in_domain (literals_of q) v ≡ true)

-- where the items and comparisons of a safe query hold, each value of a minus item is one of its `Users` items and plus
-- items, or a literal
abbrev pub MinusValuesAreInRange : Type 0
MinusValuesAreInRange = (b : Contents) (q : Query) (chosen : List Choice) → IsSafe b.catalog.rels q → holds_in b q chosen ≡ true
    → (r : Ref) (v : Value) → is_minus (slice_get q.items r.item) ≡ true → chosen_value b.catalog.users chosen r ≡ Some v → IsInRange b q chosen v

-- where the items and comparisons of a safe query hold, the chosen tuples have values of the active domain alone
abbrev pub DomainIsEnough : Type 0
DomainIsEnough = (b : Contents) (q : Query) (chosen : List Choice) → IsSafe b.catalog.rels q → holds_in b q chosen ≡ true
    → list_all (choice_within (active_domain b q)) chosen ≡ true

-- over a domain that has the values of the active one, an assignment of a safe query is true exactly where the items and
-- comparisons hold
abbrev pub HoldingIsTruth : Type 0
HoldingIsTruth = (b : Contents) (dom : List Value) (q : Query) (chosen : List Choice) → IsSafe b.catalog.rels q → HasValues dom (active_domain b q)
    → is_true_assignment b dom q chosen ≡ holds_in b q chosen

-- over the active domain an assignment of a safe query is true exactly where the items and comparisons hold
abbrev pub HoldingIsEnough : Type 0
HoldingIsEnough = (b : Contents) (q : Query) (chosen : List Choice) → IsSafe b.catalog.rels q
    → is_true_assignment b (active_domain b q) q chosen ≡ holds_in b q chosen

-- a safe query has its answers over each domain that has the values of the active one
abbrev pub AnswersNeedNoDomain : Type 0
AnswersNeedNoDomain = (b : Contents) (dom : List Value) (q : Query) → IsSafe b.catalog.rels q → HasValues dom (active_domain b q) → answers_over b dom q ≡ answers_of b q

-- a row has the selected columns of an assignment whose items and comparisons hold
abbrev pub IsHeldRow : Contents → Query → List Value → Type 0
IsHeldRow b q row = (chosen : List Choice) × (holds_in b q chosen ≡ true) × (chosen_row b.catalog.users chosen q.take ≡ Some row)

-- the answers of a safe query are the rows of all assignments that hold, in order, each once
abbrev pub AnswersAreWhatHolds : Type 0
AnswersAreWhatHolds = (b : Contents) (q : Query) → IsSafe b.catalog.rels q → (rows : List (List Value)) → ascending row_cmp rows ≡ true
    → ((row : List Value) → is_member row_cmp rows row ≡ true → IsHeldRow b q row)
    → ((row : List Value) → IsHeldRow b q row → is_member row_cmp rows row ≡ true)
    → rows ≡ answers_of b q
