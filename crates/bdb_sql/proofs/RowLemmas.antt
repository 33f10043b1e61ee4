-- Rows that come one after the other are those of the tables that they were put into.
use Rattle.std.proofs.Common.{◌≡◌, inl, inr, ℕ, List, [], ◌∷◌, ◌++◌, Bool, true, false, cond, Option, Some, None, map, refl, sym, ap, subst, ◌∙◌}
use Rattle.std.specs.Prelude.{IsSome, is_some, IsTrue}
use Rattle.std.specs.declared.cmp.Ordering.{Ordering}
use Rattle.std.specs.declared.cmp.Ordering.TheVariants.{Less, Equal, Greater}
use Rattle.std.specs.Ordering.{is_lt, is_le, eq_by_cmp, ordering_reverse}
use Rattle.std.specs.FinMap as fin
use Rattle.std.proofs.lemmas.Cmp.{nat_list_cmp_total, eq_by_cmp_equiv}
use mathlib.Core.Bool.{true≢false}
use Rattle.sqlite_value.specs.Order.{Row}
use Rattle.sqlite_rules.specs.Lists.{Has}
use Rattle.sqlite_rules.proofs.ListLemmas.{has_left, has_right, has_either}
use Rattle.sqlite_rules.proofs.ProbeLemmas.{has_mapped, mapped_has}
use Rattle.bdb_keep.specs.Tables.{Tables, bytes_cmp}
use Rattle.bdb_keep.proofs.Gets.{get_empty, get_after_insert}
use Rattle.bdb_keep.proofs.RowsLemmas.{same_place}
use Rattle.bdb_sql.specs.Entries.{IsFiledRow, AddsAfter}
use Rattle.bdb_sql.specs.Rows.{AreAllRows, entry}
use Rattle.bdb_sql.proofs.LoadLemmas.{AreShown}

-- no row comes after this place
abbrev pub IsUpTo : List ℕ → Tables → Type 0
IsUpTo place t = (p : List ℕ) → IsSome (fin.get t p) → IsTrue (is_le (bytes_cmp p place))

none_there : (q : List ℕ) (x : Option (List ℕ)) → x ≡ None → is_some x ≡ true → ⊥
none_there q x none some = true≢false (sym some ∙ ap is_some none)

-- the tables without rows have none after any place, and are those of no rows
pub up_to_empty : (place : List ℕ) → IsUpTo place fin.empty
up_to_empty place p some = absurd (none_there p _ (get_empty p) some)

pub rows_empty : AreAllRows [] fin.empty
rows_empty = record {
  each = λ r h. absurd h;
  all = λ tab key content some. absurd (none_there (tab ∷ key) _ (get_empty (tab ∷ key)) (ap is_some some));
}

less_not_le : (r s : Ordering) → r ≡ ordering_reverse s → IsTrue (is_lt r) → IsTrue (is_le s) → ⊥
less_not_le Less Less e l n = cc
less_not_le Less Equal e l n = cc
less_not_le Less Greater e l n = true≢false (sym n)
less_not_le Equal s e l n = true≢false (sym l)
less_not_le Greater s e l n = true≢false (sym l)

nothing : (o : Option (List ℕ)) → (IsSome o → ⊥) → o ≡ None
nothing (Some x) never = absurd (never refl)
nothing None never = refl

-- nothing stands at a place after the last
fresh : (t : Tables) (before place : List ℕ) → IsUpTo before t → IsTrue (is_lt (bytes_cmp before place)) → fin.get t place ≡ None
fresh t before place up after = nothing (fin.get t place) (λ some. less_not_le (bytes_cmp before place) (bytes_cmp place before) (nat_list_cmp_total.antisymm before place) after (up place some))

le_less : (p q r : List ℕ) → (o : Ordering) → bytes_cmp p q ≡ o → IsTrue (is_le o) → IsTrue (is_lt (bytes_cmp q r)) → IsTrue (is_le (bytes_cmp p r))
le_less p q r Less e le lt = ap is_le (nat_list_cmp_total.trans p q r e (is_less (bytes_cmp q r) lt))
  where
    is_less : (s : Ordering) → IsTrue (is_lt s) → s ≡ Less
    is_less Less h = refl
    is_less Equal h = absurd (true≢false (sym h))
    is_less Greater h = absurd (true≢false (sym h))
le_less p q r Equal e le lt = lt_le (bytes_cmp p r) (ap is_lt (nat_list_cmp_total.congr p q r e) ∙ lt)
  where
    lt_le : (s : Ordering) → IsTrue (is_lt s) → IsTrue (is_le s)
    lt_le Less h = refl
    lt_le Equal h = refl
    lt_le Greater h = absurd (true≢false (sym h))
le_less p q r Greater e le lt = absurd (true≢false (sym le))

itself : (o : Ordering) → eq_by_cmp (λ (x y : ℕ). o) 0 0 ≡ true → IsTrue (is_le o)
itself Less h = refl
itself Equal h = refl
itself Greater h = absurd (true≢false (sym h))

module _ (row : Row) (before place : List ℕ) (old new : Tables) (adds : AddsAfter row before place old new) (up : IsUpTo before old) where
  gets : (p : List ℕ) → fin.get new p ≡ cond (eq_by_cmp bytes_cmp p place) (Some adds.content) (fin.get old p)
  gets p = ap (λ t. fin.get t p) adds.added ∙ get_after_insert old place adds.content p

  -- no row comes after the one that was added
  pub up_to_next : IsUpTo place new
  up_to_next p some = go (eq_by_cmp bytes_cmp p place) refl (sym (ap is_some (gets p)) ∙ some)
    where
      go : (b : Bool) → eq_by_cmp bytes_cmp p place ≡ b → is_some (cond b (Some adds.content) (fin.get old p)) ≡ true → IsTrue (is_le (bytes_cmp p place))
      go true e s = itself (bytes_cmp p place) e
      go false e s = le_less p before place (bytes_cmp p before) refl (up p s) adds.after

  -- the rows so far, and it, are those of the tables with it
  pub one_more : (rows : List Row) → AreAllRows rows old → AreAllRows (rows ++ row ∷ []) new
  one_more rows was = record {
    each = λ r h. elim (has_either rows (row ∷ []) r h) [
      | inl there ↦ let w = was.each r there in (w.0, w.1, w.2, w.3, kept (w.0 ∷ w.1) w.2 w.4)
      | inr (inl same) ↦ (adds.tab, adds.key, adds.content, subst (λ x. IsFiledRow x adds.tab adds.key adds.content) (sym same) adds.stands, here)
      | inr (inr none) ↦ absurd none
    ];
    all = λ tab key content some. go tab key content (eq_by_cmp bytes_cmp (tab ∷ key) place) refl (sym (gets (tab ∷ key)) ∙ some);
  }
    where
      here : fin.get new (adds.tab ∷ adds.key) ≡ Some adds.content
      here = gets (adds.tab ∷ adds.key) ∙ ap (λ b. cond b (Some adds.content) (fin.get old (adds.tab ∷ adds.key)))
          (ap (eq_by_cmp bytes_cmp (adds.tab ∷ adds.key)) adds.place_is ∙ (eq_by_cmp_equiv nat_list_cmp_total).refl (adds.tab ∷ adds.key))

      none : fin.get old place ≡ None
      none = fresh old before place up adds.after

      kept : (p content : List ℕ) → fin.get old p ≡ Some content → fin.get new p ≡ Some content
      kept p content some = gets p ∙ other (eq_by_cmp bytes_cmp p place) refl
        where
          other : (b : Bool) → eq_by_cmp bytes_cmp p place ≡ b → cond b (Some adds.content) (fin.get old p) ≡ Some content
          other true e = absurd (none_there p _ (ap (fin.get old) (same_place p place e) ∙ none) (ap is_some some))
          other false e = some

      go : (tab : ℕ) (key content : List ℕ) (b : Bool) → eq_by_cmp bytes_cmp (tab ∷ key) place ≡ b → cond b (Some adds.content) (fin.get old (tab ∷ key)) ≡ Some content
          → (r : Row) × Has (rows ++ row ∷ []) r × IsFiledRow r tab key content
      go tab key content true e same = (row, has_right rows (row ∷ []) row (inl refl), stood tab key content (same_place (tab ∷ key) place e ∙ adds.place_is) same)
        where
          stood : (tab : ℕ) (key content : List ℕ) → tab ∷ key ≡ adds.tab ∷ adds.key → Some adds.content ≡ Some content → IsFiledRow row tab key content
          stood tab key content at is =
              let one : adds.tab ≡ tab = cc in
              let two : adds.key ≡ key = cc in
              let three : adds.content ≡ content = cc in
              rw (one, two, three) at adds.stands
      go tab key content false e some = let w = was.all tab key content some in (w.0, has_left rows (row ∷ []) w.0 w.1, w.2)

-- what is shown of stored rows and is of the tables stands for the stored rows too
pub shown_rows : (stored rows : List Row) (t : Tables) → AreShown stored rows → AreAllRows rows t → AreAllRows (map entry stored) t
shown_rows stored rows t shown are = record {
  each = λ r h. are.each r (there r (has_mapped entry stored r h));
  all = λ tab key content some. let w = are.all tab key content some in let s = shown.sound w.0 w.1 in (w.0, subst (Has (map entry stored)) (sym s.2) (mapped_has entry stored s.0 s.1), w.2);
}
  where
    there : (r : Row) → (x : Row) × Has stored x × (r ≡ entry x) → Has rows r
    there r x = subst (Has rows) (sym x.2) (shown.complete x.0 x.1)
