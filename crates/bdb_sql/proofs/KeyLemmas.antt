-- What the rules of the one table say of its rows.
use Rattle.std.proofs.Common.{◌≡◌, ℕ, pos, ℤ, Bool, true, false, not, ◌&&◌, ◌||◌, cond, List, [], ◌∷◌, drop, Some, None, Ordering, Less, Equal, Greater, refl, sym, ap, ◌∙◌, subst, subst₂, inl, arith, true≢false}
use Rattle.std.specs.Ordering.{is_eq, is_ne}
use Rattle.std.proofs.lemmas.Bool.{and_parts, and_from, not-true, both_ways, false_from_ne_true}
use Rattle.std.proofs.lemmas.Bool.Decides.{nat_tests}
use Rattle.std.proofs.lemmas.Cmp.{tied_itself}
use Rattle.std.proofs.lemmas.Int.{ints}
use Rattle.std.proofs.lemmas.Map.Lookups.{exact_bytes}
use Rattle.sqlite_value.specs.declared.value.Value.{Value}
use Rattle.sqlite_value.specs.declared.value.Value.TheVariants.{Null, Int, Real, Text, Blob}
use Rattle.sqlite_value.specs.declared.keys.Collation.TheVariants.{Binary}
use Rattle.sqlite_value.specs.Order.{Row, column, value_cmp}
use Rattle.sqlite_value.specs.Keys.{plain, first_key}
use Rattle.sqlite_value.proofs.OrderLemmas.{value_cmp_total, value_cmp-Int, value_cmp-Blob}
use Rattle.sqlite_trees.specs.Tree.{rowid, has_rowid}
use Rattle.sqlite_trees.specs.View.{is_int}
use Rattle.sqlite_schema.specs.declared.schema.Kind.TheVariants.{Integer, Blob as Bytes}
use Rattle.sqlite_schema.specs.declared.schema.Constraint.TheVariants.{Datatype, NotNull, Unique}
use Rattle.sqlite_schema.specs.Rules.{is_of, are_typed, are_present, equal, differ, agree, clashes, Obeys}
use Rattle.sqlite_sql.specs.Ops.{binary, is_null, is_true, from_truth}
use Rattle.sqlite_rules.specs.Lists.{Has}
use Rattle.sqlite_rules.specs.Edit.{id_in}
use Rattle.sqlite_rules.proofs.ListLemmas.{all_has, some_from}
use Rattle.sqlite_rules.proofs.RuleLemmas.{keeps_at}
use Rattle.sqlite_rules.proofs.PlaceLemmas.{tied_same}
use Rattle.sqlite_rules.proofs.TableLemmas.{int_is}
use Rattle.sqlite.specs.State.{State}
use Rattle.bdb_base.proofs.SetLemmas.{is_eq-Equal}
use Rattle.bdb_sql.specs.Kept.{kept_table, kept_schema}
use Rattle.bdb_sql.specs.Changes.{IsRowAt}
use Rattle.bdb_sql.specs.Tied.{HoldsTable}

-- a stored row as it is: its number, a number, and two blobs
pub record IsStored (r : Row) : Type 0 where
  pub id : ℤ
  pub tab : ℤ
  pub key : List ℕ
  pub content : List ℕ
  pub is : r ≡ Int id ∷ Int tab ∷ Blob key ∷ Blob content ∷ []

int_from : (v : Value) → is_of Integer v ≡ true → is_null v ≡ false → (n : ℤ) × (v ≡ Int n)
int_from Null typed there = absurd (true≢false there)
int_from (Int n) typed there = (n, refl)
int_from (Real x) typed there = absurd (true≢false (sym typed))
int_from (Text t) typed there = absurd (true≢false (sym typed))
int_from (Blob b) typed there = absurd (true≢false (sym typed))

blob_from : (v : Value) → is_of Bytes v ≡ true → is_null v ≡ false → (b : List ℕ) × (v ≡ Blob b)
blob_from Null typed there = absurd (true≢false there)
blob_from (Int n) typed there = absurd (true≢false (sym typed))
blob_from (Real x) typed there = absurd (true≢false (sym typed))
blob_from (Text t) typed there = absurd (true≢false (sym typed))
blob_from (Blob b) typed there = (b, refl)

not_null : (v : Value) → not (is_null v) ≡ true → is_null v ≡ false
not_null v h = not-true _ h

stored_from : (r : Row) → is_int (rowid r) ≡ true → are_typed None 0 kept_table.columns (drop 1 r) ≡ true → are_present None 0 kept_table.columns r ≡ true → IsStored r
stored_from [] id typed there = absurd (true≢false (sym id))
stored_from (i ∷ []) id typed there = absurd (true≢false (sym there))
stored_from (i ∷ a ∷ []) id typed there = absurd (true≢false (sym (and_parts (not (is_null a)) false there).1))
stored_from (i ∷ a ∷ b ∷ []) id typed there = absurd (true≢false (sym (and_parts (not (is_null b)) false (and_parts (not (is_null a)) (not (is_null b) && false) there).1).1))
stored_from (i ∷ a ∷ b ∷ c ∷ []) id typed there =
    let t = and_parts (is_of Integer a) _ typed in
    let u = and_parts (is_of Bytes b) _ t.1 in
    let v = and_parts (is_of Bytes c) true u.1 in
    let p = and_parts (not (is_null a)) _ there in
    let q = and_parts (not (is_null b)) _ p.1 in
    let s = and_parts (not (is_null c)) true q.1 in
    let x = int_from a t.0 (not_null a p.0) in
    let y = blob_from b u.0 (not_null b q.0) in
    let z = blob_from c v.0 (not_null c s.0) in
    record { id = id_in i; tab = x.0; key = y.0; content = z.0; is = λ j. int_is i id j ∷ x.1 j ∷ y.1 j ∷ z.1 j ∷ [] }
stored_from (i ∷ a ∷ b ∷ c ∷ d ∷ r) id typed there = absurd (true≢false (sym (and_parts (is_of Bytes c) _ (and_parts (is_of Bytes b) _ (and_parts (is_of Integer a) _ typed).1).1).1))

module _ (s : State) (holds : HoldsTable s) where
  obeyed : Obeys kept_schema s.now.trees
  obeyed = subst (λ c. Obeys c s.now.trees) holds.schema holds.sound.obeys

  -- each row of the table is as it should be
  pub stored : (r : Row) → Has (s.now.trees 0) r → IsStored r
  stored r there =
      let typed = keeps_at Datatype kept_schema s.now.trees kept_table r (obeyed.rules Datatype) (inl refl) there in
      let present = keeps_at NotNull kept_schema s.now.trees kept_table r (obeyed.rules NotNull) (inl refl) there in
      stored_from r (all_has _ (s.now.trees 0) r holds.shaped.1 there) (and_parts (are_typed None 0 kept_table.columns (drop 1 r)) true typed).0 present

  single : (r : Row) → Has (s.now.trees 0) r → clashes plain (1 ∷ 2 ∷ []) (s.now.trees 0) r ≡ false
  single r there = not-true _ (and_parts (not (clashes plain (1 ∷ 2 ∷ []) (s.now.trees 0) r)) true (keeps_at Unique kept_schema s.now.trees kept_table r (obeyed.rules Unique) (inl refl) there)).0

-- ---- SQL's equality

abbrev compared : Bool → Bool → Bool
compared null test = is_true (cond null Null (from_truth (Some test)))

compared_parts : (null test : Bool) → compared null test ≡ true → (null ≡ false) × (test ≡ true)
compared_parts true test h = absurd (true≢false (sym h))
compared_parts false true h = (refl, refl)
compared_parts false false h = absurd (true≢false (sym h))

pub equal_same : (a : Value) → is_null a ≡ false → equal Binary a a ≡ true
unfolding binary
equal_same a there = rw (there, tied_itself value_cmp_total a)

pub equal_tied : (a b : Value) → equal Binary a b ≡ true → value_cmp a b ≡ Equal
unfolding binary
equal_tied a b h = is_eq-Equal _ (compared_parts (is_null a || is_null b) (is_eq (value_cmp a b)) h).1

compared_not : (o : Ordering) → compared false (is_ne o) ≡ false → o ≡ Equal
compared_not Less h = absurd (true≢false h)
compared_not Equal h = refl
compared_not Greater h = absurd (true≢false h)

-- two numbers that don't differ are tied
tied_numbers : (m n : ℤ) → differ (Int m) (Int n) ≡ false → value_cmp (Int m) (Int n) ≡ Equal
unfolding binary
tied_numbers m n h = compared_not (value_cmp (Int m) (Int n)) h

pub int_same : (m n : ℤ) → value_cmp (Int m) (Int n) ≡ Equal → m ≡ n
int_same m n e = let same = sym (value_cmp-Int m n) ∙ e in grind (arith, ints, nat_tests)

blob_same : (a b : List ℕ) → value_cmp (Blob a) (Blob b) ≡ Equal → a ≡ b
blob_same a b e = exact_bytes a b (sym (value_cmp-Blob a b) ∙ e)

-- a row is where SQL's equality says it is
pub same_key : (r : Row) (tab : ℕ) (key : List ℕ) → IsStored r → equal Binary (column r 1) (Int (pos tab)) ≡ true → equal Binary (column r 2) (Blob key) ≡ true → IsRowAt tab key r
same_key r tab key s e f =
    let a : column r 1 ≡ Int s.tab = ap (λ x. column x 1) s.is in
    let b : column r 2 ≡ Blob s.key = ap (λ x. column x 2) s.is in
    let m = int_same s.tab (pos tab) (equal_tied (Int s.tab) (Int (pos tab)) (subst (λ v. equal Binary v (Int (pos tab)) ≡ true) a e)) in
    let k = blob_same s.key key (equal_tied (Blob s.key) (Blob key) (subst (λ v. equal Binary v (Blob key) ≡ true) b f)) in
    (a ∙ ap Int m, b ∙ ap Blob k)

pub key_same : (r : Row) (tab : ℕ) (key : List ℕ) → IsRowAt tab key r → (equal Binary (column r 1) (Int (pos tab)) ≡ true) × (equal Binary (column r 2) (Blob key) ≡ true)
key_same r tab key at =
    (subst (λ v. equal Binary v (Int (pos tab)) ≡ true) (sym at.0) (equal_same (Int (pos tab)) refl), subst (λ v. equal Binary v (Blob key) ≡ true) (sym at.1) (equal_same (Blob key) refl))

agree_is : (a b : Row) → agree plain (1 ∷ 2 ∷ []) a (1 ∷ 2 ∷ []) b ≡ (equal Binary (column a 1) (column b 1) && (equal Binary (column a 2) (column b 2) && true))
unfolding first_key
agree_is a b = refl

pub both_true : (a b : Bool) → a ≡ true → b ≡ true → (a && (b && true)) ≡ true
both_true a b p q = rw (p, q)

-- the number of a row
pub number_is : (r : Row) (s : IsStored r) → rowid r ≡ Int s.id
number_is r s = ap rowid s.is

pub own_number : (r : Row) → IsStored r → has_rowid (id_in (rowid r)) r ≡ true
own_number r s = subst (λ v. is_eq (value_cmp v (Int (id_in v))) ≡ true) (sym (number_is r s)) (ap is_eq (tied_itself value_cmp_total (Int s.id)))

module _ (s : State) (holds : HoldsTable s) (tab : ℕ) (key : List ℕ) where
  -- one row at most is at a table and key
  pub once_at : (a b : Row) → Has (s.now.trees 0) a → Has (s.now.trees 0) b → IsRowAt tab key a → IsRowAt tab key b → a ≡ b
  once_at a b ha hb pa pb = tied_same (s.now.trees 0) a b holds.shaped.0 ha hb tie
    where
      sa : IsStored a
      sa = stored s holds a ha

      sb : IsStored b
      sb = stored s holds b hb

      agreed : agree plain (1 ∷ 2 ∷ []) a (1 ∷ 2 ∷ []) b ≡ true
      agreed =
          let e = key_same a tab key pa in
          agree_is a b ∙ both_true _ _ (subst (λ v. equal Binary (column a 1) v ≡ true) (sym pb.0) e.0) (subst (λ v. equal Binary (column a 2) v ≡ true) (sym pb.1) e.1)

      same : differ (rowid a) (rowid b) ≡ false
      same = false_from_ne_true _ (λ other.
          both_ways _ (single s holds b hb) (some_from (λ x. agree plain (1 ∷ 2 ∷ []) x (1 ∷ 2 ∷ []) b && differ (rowid x) (rowid b)) (s.now.trees 0) a ha (and_from _ _ agreed other)))

      tie : value_cmp (rowid a) (rowid b) ≡ Equal
      tie = subst₂ (λ v w. value_cmp v w ≡ Equal) (sym (number_is a sa)) (sym (number_is b sb)) (tied_numbers sa.id sb.id (subst₂ (λ v w. differ v w ≡ false) (number_is a sa) (number_is b sb) same))
