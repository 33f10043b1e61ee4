-- The numbers under which a table has rows.
use Rattle.std.proofs.Common.{◌≡◌, ◌∙◌, ℕ, Bool, true, false, not, ◌||◌, nat_eq, cond, List, [], ◌∷◌, map, Option, Some, is_some, refl, ap, sym, subst, inl, inr}
use Rattle.std.specs.List.{AllByRecursion, list_all}
use Rattle.std.specs.declared.cmp.Ordering.{Ordering}
use Rattle.std.specs.declared.cmp.Ordering.TheVariants.{Less, Equal, Greater}
use Rattle.std.specs.Ordering.{is_eq, is_lt}
use Rattle.std.proofs.lemmas.Bool.{and_parts, and_from, or_from, or_cases, false≢true, cond-true, cond-false, eqb-true, eq-eqb}
use Rattle.bdb_base.specs.SortedSet.{ascending}
use Rattle.bdb_base.proofs.BoolLemmas.{same_tests}
use Rattle.bdb_base.proofs.Numbers.{differs_turned}
use Rattle.bdb_base.specs.Causes.{is_listed}
use Rattle.bdb_keep.specs.Tables.{Tables, bytes_cmp}
use Rattle.bdb_key.specs.Grammar.{IsNum}
use Rattle.bdb_tables.specs.Codec.{Codec, KeepsOrder, HasOneRow}
use Rattle.bdb_tables.specs.Names.{are_once}
use Rattle.bdb_tables.specs.Spans.{AreUnder, IsUnder, entry_cmp}
use Rattle.bdb_tables.specs.Writes.{Gives}
use Rattle.bdb_worlds.proofs.UnderLemmas.{row_in, under_is}
use Rattle.bdb_stored.specs.Items.{with_item, items_of}

module _ {Row : Type 0} (c : Codec ℕ Row) (order : KeepsOrder c) (test : (a b : ℕ) → is_eq (c.key_cmp a b) ≡ nat_eq a b) (fit : (k : ℕ) → c.IsKey k → IsNum k) (fits : (k : ℕ) → IsNum k → c.IsKey k) where
  abbrev numbers : List (ℕ × Row) → List ℕ
  numbers es = map (λ (e : ℕ × Row). e.0) es

  listed_in : (es : List (ℕ × Row)) (n : ℕ) → is_listed n (numbers es) ≡ is_some (row_in c order es n)
  listed_in [] n = refl
  listed_in (e ∷ es) n = ap (λ b. nat_eq n e.0 || b) (listed_in es n) ∙ by (nat_eq n e.0) e.1 (row_in c order es n) ∙ ap (λ b. is_some (cond b (Some e.1) (row_in c order es n))) (sym (test n e.0))
    where
      by : (b : Bool) (x : Row) (o : Option Row) → (b || is_some o) ≡ is_some (cond b (Some x) o)
      by true x o = refl
      by false x o = refl

  sized : (es : List (ℕ × Row)) → AllByRecursion (IsUnder c []) es → (n : ℕ) → is_listed n (numbers es) ≡ true → IsNum n
  sized [] a n e = absurd (false≢true e)
  sized (d ∷ ds) a n e = elim (or_cases (nat_eq n d.0) (is_listed n (numbers ds)) e) [
    | inl s ↦ subst IsNum (sym (eqb-true n d.0 s)) (fit d.0 a.0.key)
    | inr s ↦ sized ds a.1 n s
  ]

  -- they are those for which the table has a row
  pub numbers_are : HasOneRow c → (t : Tables) (f : ℕ → Option Row) → Gives c t f → ((n : ℕ) → is_some (f n) ≡ true → IsNum n) → (es : List (ℕ × Row)) → AreUnder c t [] es
      → (n : ℕ) → is_listed n (numbers es) ≡ is_some (f n)
  numbers_are one t f h small es under n =
      same_tests (is_listed n (numbers es)) (is_some (f n))
      (λ e. sym (here (sized es under.each n e)) ∙ e)
      (λ e. here (small n e) ∙ e)
    where
      here : IsNum n → is_listed n (numbers es) ≡ is_some (f n)
      here k = listed_in es n ∙ ap is_some (under_is c order one t f h [] es under n (fits n k) refl)

  -- each comes once
  pub numbers_once : (es : List (ℕ × Row)) → AllByRecursion (IsUnder c []) es → ascending (entry_cmp c) es ≡ true → are_once (numbers es) ≡ true
  numbers_once [] a s = refl
  numbers_once (e ∷ es) a s =
      let k = and_parts (list_all (λ d. is_lt (entry_cmp c e d)) es) (ascending (entry_cmp c) es) s in
      and_from (not (is_listed e.0 (numbers es))) (are_once (numbers es)) (ap not (none es a.1 k.0)) (numbers_once es a.1 k.1)
    where
      differs : (r : Ordering) → is_lt r ≡ true → is_eq r ≡ false
      differs Less h = refl
      differs Equal h = absurd (false≢true h)
      differs Greater h = refl

      none : (ds : List (ℕ × Row)) → AllByRecursion (IsUnder c []) ds → list_all (λ d. is_lt (entry_cmp c e d)) ds ≡ true → is_listed e.0 (numbers ds) ≡ false
      none [] b l = refl
      none (d ∷ ds) b l =
          let p = and_parts (is_lt (entry_cmp c e d)) (list_all (λ x. is_lt (entry_cmp c e x)) ds) l in
          let other : nat_eq e.0 d.0 ≡ false = sym (test e.0 d.0) ∙ sym (ap is_eq (order e.0 d.0 a.0.key b.0.key)) ∙ differs (bytes_cmp (c.key_bytes e.0) (c.key_bytes d.0)) p.0 in
          or_from (nat_eq e.0 d.0) (is_listed e.0 (numbers ds)) other (none ds b.1 p.1)

  -- ---- rows by their numbers

  -- each row is found under its number
  rows_found : (es : List (ℕ × Row)) → AllByRecursion (IsUnder c []) es → ascending (entry_cmp c) es ≡ true → AllByRecursion (λ (e : ℕ × Row). row_in c order es e.0 ≡ Some e.1) es
  rows_found [] a s = tt
  rows_found (e ∷ es) a s =
      let k = and_parts (list_all (λ d. is_lt (entry_cmp c e d)) es) (ascending (entry_cmp c) es) s in (
        cond-true (is_eq (c.key_cmp e.0 e.0)) (Some e.1) (row_in c order es e.0) (test e.0 e.0 ∙ eq-eqb e.0 e.0 refl),
        later es a.1 k.0 (rows_found es a.1 k.1),
      )
    where
      differs : (r : Ordering) → is_lt r ≡ true → is_eq r ≡ false
      differs Less h = refl
      differs Equal h = absurd (false≢true h)
      differs Greater h = refl

      later : (ds : List (ℕ × Row)) → AllByRecursion (IsUnder c []) ds → list_all (λ d. is_lt (entry_cmp c e d)) ds ≡ true → AllByRecursion (λ (d : ℕ × Row). row_in c order es d.0 ≡ Some d.1) ds
          → AllByRecursion (λ (d : ℕ × Row). row_in c order (e ∷ es) d.0 ≡ Some d.1) ds
      later [] b l f = tt
      later (d ∷ ds) b l f =
          let p = and_parts (is_lt (entry_cmp c e d)) (list_all (λ x. is_lt (entry_cmp c e x)) ds) l in
          let other : nat_eq e.0 d.0 ≡ false = sym (test e.0 d.0) ∙ sym (ap is_eq (order e.0 d.0 a.0.key b.0.key)) ∙ differs (bytes_cmp (c.key_bytes e.0) (c.key_bytes d.0)) p.0 in (
            cond-false (is_eq (c.key_cmp d.0 e.0)) (Some e.1) (row_in c order es d.0) (test d.0 e.0 ∙ differs_turned e.0 d.0 other) ∙ f.0,
            later ds b.1 p.1 f.1,
          )

  -- the items of the numbers are the rows
  pub rows_are_items : HasOneRow c → (t : Tables) (f : ℕ → Option Row) → Gives c t f → (es : List (ℕ × Row)) → AreUnder c t [] es → items_of f (numbers es) ≡ map (λ (e : ℕ × Row). e.1) es
  rows_are_items one t f h es under = each es under.each (rows_found es under.each under.sorted)
    where
      each : (ds : List (ℕ × Row)) → AllByRecursion (IsUnder c []) ds → AllByRecursion (λ (d : ℕ × Row). row_in c order es d.0 ≡ Some d.1) ds → items_of f (numbers ds) ≡ map (λ (d : ℕ × Row). d.1) ds
      each [] a r = refl
      each (d ∷ ds) a r =
          ap (λ o. with_item o (items_of f (numbers ds))) (sym (under_is c order one t f h [] es under d.0 a.0.key refl) ∙ r.0)
          ∙ ap (λ (xs : List Row). d.1 ∷ xs) (each ds a.1 r.1)
