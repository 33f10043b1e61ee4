-- What respelled tables have at each place.
use Rattle.std.proofs.Common.{◌≡◌, ◌∙◌, ℕ, Bool, true, false, cond, List, [], ◌∷◌, Option, Some, None, refl, ap, sym, subst, map}
use Rattle.std.specs.FinMap as tables
use Rattle.std.specs.FinMap.{find, get-entries, get-from_entries}
use Rattle.std.specs.Option.{option_map}
use Rattle.std.specs.Ordering.{eq_by_cmp}
use Rattle.std.proofs.lemmas.Bool.{false≢true, false_from_ne_true}
use Rattle.std.proofs.lemmas.Cmp.{nat_list_cmp_total}
use Rattle.bdb_base.proofs.OptionLemmas.{same_option}
use Rattle.bdb_keep.specs.Tables.{IsPlace, LieInTables, Tables, bytes_cmp}
use Rattle.bdb_keep.proofs.Gets.{get_after_insert, get_empty, get_here, tables_from_gets, key_itself}
use Rattle.bdb_keep.proofs.RowsLemmas.{same_place}
use Rattle.bdb_former.specs.Respelled.{IsRespelled, respelled, respelled_at, respelled_entry, respelled_place}
use Rattle.bdb_former.specs.Laws.{NoOtherRowIsThere, RowsAreRespelled}
use Rattle.bdb_former.proofs.SpellLemmas.{places_stay_apart}

abbrev Entries : Type 0
Entries = List (List ℕ × List ℕ)

-- ---- respelled entries

same_from : (p q : List ℕ) → p ≡ q → eq_by_cmp bytes_cmp p q ≡ true
same_from p q e = ap (λ x. eq_by_cmp bytes_cmp p x) (sym e) ∙ key_itself p

-- places are equal where the respelled ones are
same_respelled : (p q : List ℕ) → eq_by_cmp bytes_cmp (respelled_place p) (respelled_place q) ≡ eq_by_cmp bytes_cmp p q
same_respelled p q = by (eq_by_cmp bytes_cmp p q) refl
  where
    by : (b : Bool) → eq_by_cmp bytes_cmp p q ≡ b → eq_by_cmp bytes_cmp (respelled_place p) (respelled_place q) ≡ b
    by true e = same_from (respelled_place p) (respelled_place q) (ap respelled_place (same_place p q e))
    by false e = false_from_ne_true (eq_by_cmp bytes_cmp (respelled_place p) (respelled_place q)) (λ s.
        false≢true (sym e ∙ same_from p q (places_stay_apart p q (same_place (respelled_place p) (respelled_place q) s))))

find_respelled : (p : List ℕ) (es : Entries) → find bytes_cmp (respelled_place p) (map respelled_entry es) ≡ option_map (respelled_at p) (find bytes_cmp p es)
find_respelled p [] = refl
find_respelled p (e ∷ es) =
    ap (λ b. cond b (Some (respelled_at e.0 e.1)) (find bytes_cmp (respelled_place p) (map respelled_entry es))) (same_respelled p e.0)
    ∙ ap (cond (eq_by_cmp bytes_cmp p e.0) (Some (respelled_at e.0 e.1))) (find_respelled p es)
    ∙ by (eq_by_cmp bytes_cmp p e.0) refl
  where
    by : (b : Bool) → eq_by_cmp bytes_cmp p e.0 ≡ b
        → cond b (Some (respelled_at e.0 e.1)) (option_map (respelled_at p) (find bytes_cmp p es)) ≡ option_map (respelled_at p) (cond b (Some e.1) (find bytes_cmp p es))
    by true same = ap (λ x. Some (respelled_at x e.1)) (sym (same_place p e.0 same))
    by false same = refl

-- what is found among respelled entries stands at a respelled place
record HasPlace (q : List ℕ) : Type 0 where
  place : List ℕ
  is : respelled_place place ≡ q

found_place : (q row : List ℕ) (es : Entries) → find bytes_cmp q (map respelled_entry es) ≡ Some row → HasPlace q
found_place q row [] e = absurd cc
found_place q row (x ∷ es) e = by (found_place q row es) (eq_by_cmp bytes_cmp q (respelled_place x.0)) refl e
  where
    by : (find bytes_cmp q (map respelled_entry es) ≡ Some row → HasPlace q) → (b : Bool) → eq_by_cmp bytes_cmp q (respelled_place x.0) ≡ b
        → cond b (Some (respelled_at x.0 x.1)) (find bytes_cmp q (map respelled_entry es)) ≡ Some row → HasPlace q
    by later true same f = record { place = x.0; is = sym (same_place q (respelled_place x.0) same) }
    by later false same f = later f

-- ---- respelled tables

pub rows_are_respelled : RowsAreRespelled
rows_are_respelled t p =
    get-from_entries nat_list_cmp_total (map respelled_entry (tables.entries t)) (respelled_place p)
    ∙ find_respelled p (tables.entries t)
    ∙ ap (option_map (respelled_at p)) (sym (get-entries t p))

pub no_other_row_is_there : NoOtherRowIsThere
no_other_row_is_there t q row e =
    let at = found_place q row (tables.entries t) (sym (get-from_entries nat_list_cmp_total (map respelled_entry (tables.entries t)) q) ∙ e) in
    by at (tables.get t at.place) refl (sym (rows_are_respelled t at.place) ∙ ap (tables.get (respelled t)) at.is ∙ e)
  where
    by : (at : HasPlace q) (o : Option (List ℕ)) → tables.get t at.place ≡ o → option_map (respelled_at at.place) o ≡ Some row → IsRespelled t q row
    by at None found f = absurd cc
    by at (Some former) found f = record { place = at.place; former = former; found = found; placed = at.is; spelled = let g : respelled_at at.place former ≡ row = cc in g }

-- a row of the former tables, respelled
pub row_respelled : (t : Tables) (p row : List ℕ) → tables.get t p ≡ Some row → tables.get (respelled t) (respelled_place p) ≡ Some (respelled_at p row)
row_respelled t p row e = rows_are_respelled t p ∙ ap (option_map (respelled_at p)) e

-- tables that have each row respelled, and no other, are the respelled ones
pub respelled_by : (t u : Tables) → ((p row : List ℕ) → tables.get t p ≡ Some row → tables.get u (respelled_place p) ≡ Some (respelled_at p row))
    → ((q row : List ℕ) → tables.get u q ≡ Some row → IsRespelled t q row) → u ≡ respelled t
respelled_by t u there only = tables_from_gets u (respelled t) (λ q. same_option (tables.get u q) (tables.get (respelled t) q)
    (λ row e. let r = only q row e in subst (λ x. tables.get (respelled t) x ≡ Some row) r.placed (row_respelled t r.place r.former r.found ∙ ap Some r.spelled))
    (λ row e. let r = no_other_row_is_there t q row e in subst (λ x. tables.get u x ≡ Some row) r.placed (there r.place r.former r.found ∙ ap Some r.spelled)))

pub respelled_none : respelled tables.empty ≡ tables.empty
respelled_none = sym (respelled_by tables.empty tables.empty
    (λ p row e. let none : None ≡ Some row = sym (get_empty p) ∙ e in absurd cc)
    (λ q row e. let none : None ≡ Some row = sym (get_empty q) ∙ e in absurd cc))

-- ---- one row more

module _ (t : Tables) (p row : List ℕ) where
  abbrev more : Tables
  more = tables.insert t p row

  abbrev placed : Tables
  placed = tables.insert (respelled t) (respelled_place p) (respelled_at p row)

  each_there : (q r : List ℕ) → tables.get more q ≡ Some r → tables.get placed (respelled_place q) ≡ Some (respelled_at q r)
  each_there q r e =
      get_after_insert (respelled t) (respelled_place p) (respelled_at p row) (respelled_place q)
      ∙ ap (λ b. cond b (Some (respelled_at p row)) (tables.get (respelled t) (respelled_place q))) (same_respelled q p)
      ∙ by (eq_by_cmp bytes_cmp q p) refl (sym (get_after_insert t p row q) ∙ e)
    where
      by : (b : Bool) → eq_by_cmp bytes_cmp q p ≡ b → cond b (Some row) (tables.get t q) ≡ Some r
          → cond b (Some (respelled_at p row)) (tables.get (respelled t) (respelled_place q)) ≡ Some (respelled_at q r)
      by true same f =
          let g : row ≡ r = cc in
          ap (λ x. Some (respelled_at x row)) (sym (same_place q p same)) ∙ ap (λ x. Some (respelled_at q x)) g
      by false same f = row_respelled t q r f

  no_other : (q r : List ℕ) → tables.get placed q ≡ Some r → IsRespelled more q r
  no_other q r e = by (eq_by_cmp bytes_cmp q (respelled_place p)) refl (sym (get_after_insert (respelled t) (respelled_place p) (respelled_at p row) q) ∙ e)
    where
      by : (b : Bool) → eq_by_cmp bytes_cmp q (respelled_place p) ≡ b → cond b (Some (respelled_at p row)) (tables.get (respelled t) q) ≡ Some r → IsRespelled more q r
      by true same f = record {
        place = p;
        former = row;
        found = get_here t p row;
        placed = sym (same_place q (respelled_place p) same);
        spelled = let g : respelled_at p row ≡ r = cc in g;
      }
      by false same f =
          let k = no_other_row_is_there t q r f in
          let apart : eq_by_cmp bytes_cmp k.place p ≡ false = sym (same_respelled k.place p) ∙ ap (λ x. eq_by_cmp bytes_cmp x (respelled_place p)) k.placed ∙ same in
          record {
            place = k.place;
            former = k.former;
            found = get_after_insert t p row k.place ∙ ap (λ b. cond b (Some row) (tables.get t k.place)) apart ∙ k.found;
            placed = k.placed;
            spelled = k.spelled;
          }

  pub respelled_more : placed ≡ respelled more
  respelled_more = respelled_by more placed each_there no_other

-- ---- the tables in which rows lie

pub respelled_lie : (t : Tables) → LieInTables t → LieInTables (respelled t)
respelled_lie t lie q row e = let r = no_other_row_is_there t q row e in subst IsPlace r.placed (by r.place (lie r.place r.former r.found))
  where
    by : (p : List ℕ) → IsPlace p → IsPlace (respelled_place p)
    by [] h = h
    by (tab ∷ key) h = h
