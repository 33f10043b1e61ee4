-- Statements that go and come: which stand afterwards, and in which order.
use Rattle.std.proofs.Common.{◌≡◌, ◌∙◌, ℕ, ◌+◌, ◌<◌, Bool, true, false, not, ◌&&◌, ◌||◌, List, [], ◌∷◌, refl, ap, sym, subst, inl, inr, filter, length, drop, get_or}
use Rattle.std.specs.Ordering.{is_eq}
use Rattle.std.proofs.lemmas.Bool.{cases_Bool, and_parts, or_left, or_right, not_from_true}
use Rattle.std.proofs.lemmas.List.{drop_more}
use Rattle.std.proofs.lemmas.Map.Views.{any-filter_same}
use Rattle.bdb_base.specs.declared.kinds.Catalog.{Catalog}
use Rattle.bdb_base.specs.declared.kinds.Stmt.{Stmt}
use Rattle.bdb_base.specs.Bases.{AreStatements, IsValid, stands, with_statement}
use Rattle.bdb_base.specs.Changes.{with_statements, without_statements}
use Rattle.bdb_base.specs.Order.{statement_cmp}
use Rattle.bdb_base.specs.OrderLemmas.{statement_exact}
use Rattle.bdb_base.specs.SortedSet.{ascending, sorted_set}
use Rattle.bdb_base.proofs.BaseLemmas.{filter_is_valid}
use Rattle.bdb_base.proofs.ListLemmas.{or_move, filter_dropped_one}
use Rattle.bdb_base.proofs.SetLemmas.{is_eq-Equal, is_eq_itself, members_make_set, put_keeps_order, filter_keeps_order, put_adds_member, set_is_ascending, set_keeps_members}
use Rattle.bdb_base.proofs.UpdateLemmas.{with_keeps_order, without_keeps_order, stands_without}
use Rattle.bdb_base.proofs.BoolLemmas.{or_true}
use Rattle.bdb_undo.specs.Changes.{missing_from}
use Rattle.bdb_undo.specs.ChangeLaws.{FewerAreValid}

-- ---- which statements stand

pub stands_with : (stmts xs : List Stmt) (z : Stmt) → stands (with_statements stmts xs) z ≡ (stands xs z || stands stmts z)
stands_with stmts [] z = refl
stands_with stmts (x ∷ xs) z = stands_with (with_statement stmts x) xs z
    ∙ ap (λ b. stands xs z || b) (put_adds_member statement_exact stmts x z)
    ∙ sym (or_move (is_eq (statement_cmp x z)) (stands xs z) (stands stmts z))

-- of the statements that pass a test those stand that pass it
pub stands_filter : (q : Stmt → Bool) (stmts : List Stmt) (z : Stmt) → stands (filter q stmts) z ≡ (q z && stands stmts z)
stands_filter q stmts z = any-filter_same (λ y. is_eq (statement_cmp y z)) q (q z)
    (λ y k. ap q (statement_exact.exact y z (is_eq-Equal (statement_cmp y z) k))) stmts

pub stands_missing : (others stmts : List Stmt) (z : Stmt) → stands (missing_from others stmts) z ≡ (not (stands others z) && stands stmts z)
stands_missing others stmts z = stands_filter (λ x. not (stands others x)) stmts z

-- ---- their order

pub missing_keeps_order : (others stmts : List Stmt) → ascending statement_cmp stmts ≡ true → ascending statement_cmp (missing_from others stmts) ≡ true
missing_keeps_order others stmts h = filter_keeps_order statement_exact (λ x. not (stands others x)) stmts h

-- ---- one list of statements in the place of another

-- what is left once those have gone that are missing from the next statements stands in both
pub left_stands : (stmts next : List Stmt) (z : Stmt) → stands (without_statements stmts (missing_from next stmts)) z ≡ (stands next z && stands stmts z)
left_stands stmts next z = stands_without stmts (missing_from next stmts) z
    ∙ ap (λ b. not b && stands stmts z) (stands_missing next stmts z)
    ∙ both (stands stmts z) (stands next z)
  where
    both : (x y : Bool) → (not (not y && x) && x) ≡ (y && x)
    both true true = refl
    both true false = refl
    both false true = refl
    both false false = refl

pub exchanged : (stmts next : List Stmt) → ascending statement_cmp stmts ≡ true → ascending statement_cmp next ≡ true
    → with_statements (without_statements stmts (missing_from next stmts)) (missing_from stmts next) ≡ next
exchanged stmts next h g =
    let left = without_statements stmts (missing_from next stmts) in
    members_make_set statement_exact (with_statements left (missing_from stmts next)) next
    (with_keeps_order left (missing_from stmts next) (without_keeps_order stmts (missing_from next stmts) h)) g
    (λ z. stands_with left (missing_from stmts next) z
    ∙ ap (λ b. b || stands left z) (stands_missing stmts next z)
    ∙ ap (λ b. (not (stands stmts z) && stands next z) || b) (left_stands stmts next z)
    ∙ either_way (stands stmts z) (stands next z))
  where
    either_way : (x y : Bool) → ((not x && y) || (y && x)) ≡ y
    either_way true true = refl
    either_way true false = refl
    either_way false true = refl
    either_way false false = refl

-- ---- fewer statements

-- a list of statements in order is what a test for it leaves of any list in which all of them stand
fewer_are_left : (stmts fewer : List Stmt) → ascending statement_cmp stmts ≡ true → ascending statement_cmp fewer ≡ true
    → ((x : Stmt) → stands fewer x ≡ true → stands stmts x ≡ true) → filter (stands fewer) stmts ≡ fewer
fewer_are_left stmts fewer h g among = members_make_set statement_exact (filter (stands fewer) stmts) fewer
    (filter_keeps_order statement_exact (stands fewer) stmts h) g
    (λ z. stands_filter (stands fewer) stmts z ∙ elim (cases_Bool (stands fewer z)) [
      | inl e ↦ ap (λ b. b && stands stmts z) e ∙ among z e ∙ sym e
      | inr e ↦ ap (λ b. b && stands stmts z) e ∙ sym e
    ])

pub fewer_are_valid : FewerAreValid
fewer_are_valid c stmts fewer v g among =
    let e = fewer_are_left stmts fewer v.stmts.sorted g among in
    record {
      catalog = v.catalog;
      stmts = subst (AreStatements c) e (filter_is_valid c stmts (stands fewer) v.stmts (subst (λ (xs : List Stmt). ascending statement_cmp xs ≡ true) (sym e) g));
    }

-- the statements before some were put are fewer
pub fewer_before : (c : Catalog) (stmts xs : List Stmt) → ascending statement_cmp stmts ≡ true → IsValid c (with_statements stmts xs) → IsValid c stmts
fewer_before c stmts xs h v = fewer_are_valid c (with_statements stmts xs) stmts v h
    (λ z k. stands_with stmts xs z ∙ ap (λ b. stands xs z || b) k ∙ or_true (stands xs z))

-- what is left of a list is valid where the next list is
pub left_is_valid_after : (c : Catalog) (stmts next : List Stmt) → ascending statement_cmp stmts ≡ true → IsValid c next
    → IsValid c (without_statements stmts (missing_from next stmts))
left_is_valid_after c stmts next h v = fewer_are_valid c next (without_statements stmts (missing_from next stmts)) v
    (without_keeps_order stmts (missing_from next stmts) h)
    (λ z k. (and_parts (stands next z) (stands stmts z) (sym (left_stands stmts next z) ∙ k)).0)

-- ---- what is missing

-- no statement is missing from those among which all stand
pub nothing_missing : (others stmts : List Stmt) → ((z : Stmt) → stands stmts z ≡ true → stands others z ≡ true) → missing_from others stmts ≡ []
nothing_missing others [] among = refl
nothing_missing others (x ∷ xs) among =
    filter_dropped_one (λ y. not (stands others y)) x xs (not_from_true (stands others x) (among x (or_left (is_eq (statement_cmp x x)) (stands xs x) (is_eq_itself statement_exact x))))
    ∙ nothing_missing others xs (λ z k. among z (or_right (is_eq (statement_cmp x z)) (stands xs z) k))

-- those that pass a test are what is missing from the others
pub taken_are_missing : (q : Stmt → Bool) (stmts : List Stmt) → ascending statement_cmp stmts ≡ true → missing_from (filter (λ x. not (q x)) stmts) stmts ≡ filter q stmts
taken_are_missing q stmts h = members_make_set statement_exact (missing_from (filter (λ x. not (q x)) stmts) stmts) (filter q stmts)
    (missing_keeps_order (filter (λ x. not (q x)) stmts) stmts h) (filter_keeps_order statement_exact q stmts h)
    (λ z. stands_missing (filter (λ x. not (q x)) stmts) stmts z
    ∙ ap (λ b. not b && stands stmts z) (stands_filter (λ x. not (q x)) stmts z)
    ∙ passes (q z) (stands stmts z)
    ∙ sym (stands_filter q stmts z))
  where
    passes : (a b : Bool) → (not (not a && b) && b) ≡ (a && b)
    passes true true = refl
    passes true false = refl
    passes false true = refl
    passes false false = refl

-- of the statements that pass a test those are missing from the next ones that are not among those put
pub replaced_are_missing : (q : Stmt → Bool) (stmts made : List Stmt) → ascending statement_cmp stmts ≡ true
    → missing_from (with_statements (filter (λ x. not (q x)) stmts) made) stmts ≡ missing_from (sorted_set statement_cmp made) (filter q stmts)
replaced_are_missing q stmts made h =
    let left = filter (λ x. not (q x)) stmts in
    let set = sorted_set statement_cmp made in
    members_make_set statement_exact (missing_from (with_statements left made) stmts) (missing_from set (filter q stmts))
    (missing_keeps_order (with_statements left made) stmts h) (missing_keeps_order set (filter q stmts) (filter_keeps_order statement_exact q stmts h))
    (λ z. stands_missing (with_statements left made) stmts z
    ∙ ap (λ b. not b && stands stmts z) (stands_with left made z ∙ ap (λ b. stands made z || b) (stands_filter (λ x. not (q x)) stmts z))
    ∙ passes (stands made z) (q z) (stands stmts z)
    ∙ sym (stands_missing set (filter q stmts) z
    ∙ ap (λ b. not b && stands (filter q stmts) z) (set_keeps_members statement_exact made z)
    ∙ ap (λ b. not (stands made z) && b) (stands_filter q stmts z)))
  where
    passes : (m t b : Bool) → (not (m || (not t && b)) && b) ≡ (not m && (t && b))
    passes true t b = refl
    passes false true b = refl
    passes false false true = refl
    passes false false false = refl

-- of the statements put those are missing from the first ones that did not stand
pub made_are_missing : (q : Stmt → Bool) (stmts made : List Stmt) → ascending statement_cmp stmts ≡ true
    → missing_from stmts (with_statements (filter (λ x. not (q x)) stmts) made) ≡ missing_from stmts (sorted_set statement_cmp made)
made_are_missing q stmts made h =
    let left = filter (λ x. not (q x)) stmts in
    members_make_set statement_exact (missing_from stmts (with_statements left made)) (missing_from stmts (sorted_set statement_cmp made))
    (missing_keeps_order stmts (with_statements left made) (with_keeps_order left made (filter_keeps_order statement_exact (λ x. not (q x)) stmts h)))
    (missing_keeps_order stmts (sorted_set statement_cmp made) (set_is_ascending statement_exact made))
    (λ z. stands_missing stmts (with_statements left made) z
    ∙ ap (λ b. not (stands stmts z) && b) (stands_with left made z ∙ ap (λ b. stands made z || b) (stands_filter (λ x. not (q x)) stmts z))
    ∙ passes (stands made z) (q z) (stands stmts z)
    ∙ sym (stands_missing stmts (sorted_set statement_cmp made) z ∙ ap (λ b. not (stands stmts z) && b) (set_keeps_members statement_exact made z)))
  where
    passes : (m t b : Bool) → (not b && (m || (not t && b))) ≡ (not b && m)
    passes m t true = refl
    passes true t false = refl
    passes false true false = refl
    passes false false false = refl

-- a statement that did not stand is what is missing from those before it was put
pub put_is_missing : (stmts : List Stmt) (s : Stmt) → ascending statement_cmp stmts ≡ true → stands stmts s ≡ false → missing_from stmts (with_statement stmts s) ≡ s ∷ []
put_is_missing stmts s h fresh = members_make_set statement_exact (missing_from stmts (with_statement stmts s)) (s ∷ [])
    (missing_keeps_order stmts (with_statement stmts s) (put_keeps_order statement_exact stmts s h)) refl
    (λ z. stands_missing stmts (with_statement stmts s) z
    ∙ ap (λ b. not (stands stmts z) && b) (put_adds_member statement_exact stmts s z)
    ∙ elim (cases_Bool (is_eq (statement_cmp s z))) [
      | inl e ↦ let same : s ≡ z = statement_exact.exact s z (is_eq-Equal (statement_cmp s z) e) in
          let gone : stands stmts z ≡ false = ap (stands stmts) (sym same) ∙ fresh in
          ap (λ b. not b && (is_eq (statement_cmp s z) || b)) gone ∙ ap (λ b. b || false) e ∙ sym (ap (λ b. b || false) e)
      | inr e ↦ ap (λ b. not (stands stmts z) && (b || stands stmts z)) e ∙ not_both (stands stmts z) ∙ sym (ap (λ b. b || false) e)
    ])
  where
    not_both : (a : Bool) → (not a && a) ≡ false
    not_both true = refl
    not_both false = refl

-- ---- the steps of a loop over statements

-- what a statement and the later ones make of the statements so far
pub with_one : (xs : List Stmt) (i : ℕ) (x : Stmt) (now all : List Stmt) → i < length xs → x ≡ get_or xs i x
    → with_statements now (drop i xs) ≡ all → with_statements (with_statement now x) (drop (i + 1) xs) ≡ all
with_one xs i x now all h r rest =
    ap (λ y. with_statements now (y ∷ drop (i + 1) xs)) r ∙ ap (with_statements now) (sym (drop_more xs i x h)) ∙ rest

-- a base between is valid, since fewer statements stand in it than in the last one
pub between_is_valid : (c k : Catalog) (xs : List Stmt) (i : ℕ) (x y : Stmt) (now all : List Stmt) → i < length xs → x ≡ get_or xs i x → y ≡ x → k ≡ c
    → ascending statement_cmp now ≡ true → with_statements now (drop i xs) ≡ all → IsValid c all → IsValid k (with_statement now y)
between_is_valid c k xs i x y now all h r e f sorted rest v =
    subst (λ (z : Stmt). IsValid k (with_statement now z)) (sym e)
    (subst (λ (d : Catalog). IsValid d (with_statement now x)) (sym f)
    (fewer_before c (with_statement now x) (drop (i + 1) xs) (put_keeps_order statement_exact now x sorted)
    (subst (IsValid c) (sym (with_one xs i x now all h r rest)) v)))
