-- Where all rows make few statements, none of them make too many.
use Rattle.std.proofs.Common.{◌≡◌, ◌∙◌, ◌⊎◌, ℕ, ◌+◌, ◌≤◌, Bool, true, false, List, [], ◌∷◌, length, map, Option, Some, IfSome, refl, ap, sym, subst, inl, inr, arith}
use Rattle.std.specs.List.{AllByRecursion, flat_map, list_all}
use Rattle.std.specs.FinMap.{find}
use Rattle.std.specs.Ordering.{eq_by_cmp, is_lt, ordering_reverse}
use Rattle.std.specs.declared.cmp.Ordering.{Ordering}
use Rattle.std.specs.declared.cmp.Ordering.TheVariants.{Less, Equal, Greater}
use Rattle.std.proofs.lemmas.Bool.{cases_Bool, and_parts, cond-true, cond-false, false≢true}
use Rattle.std.proofs.lemmas.Cmp.{nat_list_cmp_total, tied_itself}
use Rattle.std.proofs.lemmas.List.{length-append}
use Rattle.std.proofs.lemmas.List.Sorted.{length_permutation}
use Rattle.bdb_base.specs.Limits.{most_statements}
use Rattle.bdb_base.specs.SortedSet.{ascending}
use Rattle.bdb_base.specs.declared.kinds.Stmt.{Stmt}
use Rattle.bdb_base.proofs.OptionLemmas.{none_is_some, same_some}
use Rattle.bdb_keep.specs.Tables.{Tables, bytes_cmp}
use Rattle.bdb_keep.proofs.RowsLemmas.{same_place}
use Rattle.bdb_key.specs.Rows.{mark_bytes}
use Rattle.bdb_tables.specs.InUse.{val_bytes, val_codec}
use Rattle.bdb_tables.specs.InUseLaws.{vals_are_one, mark_rows_are_one}
use Rattle.bdb_tables.specs.Spans.{AreUnder, IsUnder, entry_bytes, entry_cmp}
use Rattle.bdb_decode.specs.Explicit.{AreStated, Paths, TupleRows, ValRow, said}
use Rattle.bdb_decode.specs.Many.{HaveNoStatements, IsRowThere}
use Rattle.bdb_decode.proofs.RowLemmas.{misplaced_have_no_places}

pub some_holds : {X : Type 0} (Q : X → Type 0) (r : Option X) (x : X) → r ≡ Some x → IfSome r Q → Q x
some_holds Q r x e h = subst (λ o. IfSome o Q) e h

-- a row is one of these
abbrev Among : ValRow → List ValRow → Type 0
Among e [] = ⊥
Among e (x ∷ es) = (e ≡ x) ⊎ Among e es

abbrev before : ValRow → ValRow → Bool
before x y = is_lt (entry_cmp val_codec x y)

-- a row that is found among rows is one of them
found_among : (es : List ValRow) → AllByRecursion (IsUnder val_codec []) es → (e : ValRow) → IsUnder val_codec [] e
    → find bytes_cmp (val_bytes e.0) (map (entry_bytes val_codec) es) ≡ Some (mark_bytes e.1) → Among e es
found_among [] a e f found = none_is_some (mark_bytes e.1) found
found_among (x ∷ es) a e f found = elim (cases_Bool (eq_by_cmp bytes_cmp (val_bytes e.0) (val_bytes x.0))) [
  | inl same ↦
      let key : e.0 ≡ x.0 = vals_are_one e.0 x.0 f.key a.0.key (same_place (val_bytes e.0) (val_bytes x.0) same) in
      let row : x.1 ≡ e.1 = mark_rows_are_one x.1 e.1 a.0.row f.row (same_some (mark_bytes x.1) (mark_bytes e.1)
      (sym (cond-true (eq_by_cmp bytes_cmp (val_bytes e.0) (val_bytes x.0)) (Some (mark_bytes x.1)) (find bytes_cmp (val_bytes e.0) (map (entry_bytes val_codec) es)) same) ∙ found)) in
      inl (ap (λ q. (q, e.1)) key ∙ ap (λ r. (x.0, r)) (sym row))
  | inr other ↦ inr (found_among es a.1 e f
      (sym (cond-false (eq_by_cmp bytes_cmp (val_bytes e.0) (val_bytes x.0)) (Some (mark_bytes x.1)) (find bytes_cmp (val_bytes e.0) (map (entry_bytes val_codec) es)) other) ∙ found))
]

among_all : (p : ValRow → Bool) (es : List ValRow) → list_all p es ≡ true → (e : ValRow) → Among e es → p e ≡ true
among_all p [] l e a = absurd a
among_all p (x ∷ es) l e a =
    let k = and_parts (p x) (list_all p es) l in
    elim a [
      | inl same ↦ ap p same ∙ k.0
      | inr other ↦ among_all p es k.1 e other
    ]

-- of two rows that differ one is before the other, and none is before itself
not_itself : (x : ValRow) → before x x ≡ false
not_itself x = ap is_lt (tied_itself nat_list_cmp_total (val_bytes x.0))

not_turned : (x y : ValRow) → before x y ≡ true → before y x ≡ false
not_turned x y h = ap is_lt (nat_list_cmp_total.antisymm (val_bytes y.0) (val_bytes x.0)) ∙ by (bytes_cmp (val_bytes x.0) (val_bytes y.0)) h
  where
    by : (r : Ordering) → is_lt r ≡ true → is_lt (ordering_reverse r) ≡ false
    by Less e = refl
    by Equal e = absurd (false≢true e)
    by Greater e = absurd (false≢true e)

others : (x y : ValRow) (ds : List ValRow) → list_all (before y) ds ≡ true → before y x ≡ false → AllByRecursion (λ d. d ≡ x → ⊥) ds
others x y [] l n = tt
others x y (d ∷ ds) l n =
    let k = and_parts (before y d) (list_all (before y) ds) l in
    (λ e. false≢true (sym n ∙ ap (before y) (sym e) ∙ k.0), others x y ds k.1 n)

among_rest : (x : ValRow) (es ds : List ValRow) → AllByRecursion (λ d. Among d (x ∷ es)) ds → AllByRecursion (λ d. d ≡ x → ⊥) ds → AllByRecursion (λ d. Among d es) ds
among_rest x es [] a n = tt
among_rest x es (d ∷ ds) a n = (by a.0, among_rest x es ds a.1 n.1)
  where
    by : (d ≡ x) ⊎ Among d es → Among d es
    by (inl e) = absurd (n.0 e)
    by (inr b) = b

-- some of the rows make no more statements than all
no_more : (f : ValRow → List Stmt) (es ds : List ValRow) → ascending (entry_cmp val_codec) es ≡ true → ascending (entry_cmp val_codec) ds ≡ true
    → AllByRecursion (λ d. Among d es) ds → length (flat_map f ds) ≤ length (flat_map f es)
no_more f es [] s l a = omega arith
no_more f [] (d ∷ ds) s l a = absurd a.0
no_more f (x ∷ es) (d ∷ ds) s l a =
    let j = and_parts (list_all (before x) es) (ascending (entry_cmp val_codec) es) s in
    let k = and_parts (list_all (before d) ds) (ascending (entry_cmp val_codec) ds) l in
    let all : length (flat_map f (x ∷ es)) ≡ length (f x) + length (flat_map f es) = length-append (f x) (flat_map f es) in
    let some : length (flat_map f (d ∷ ds)) ≡ length (f d) + length (flat_map f ds) = length-append (f d) (flat_map f ds) in
    elim a.0 [
      | inl e ↦
          let one : length (f d) ≡ length (f x) = ap (λ y. length (f y)) e in
          let le = no_more f es ds j.1 k.1 (among_rest x es ds a.1 (others x d ds k.0 (ap (λ y. before y x) e ∙ not_itself x))) in
          omega (arith, all, some, one, le)
      | inr b ↦
          let le = no_more f es (d ∷ ds) j.1 l (b, among_rest x es ds a.1 (others x d ds k.0 (not_turned x d (among_all (before x) es j.0 d b)))) in
          omega (arith, all, le)
    ]

all_among : (t : Tables) (es ds : List ValRow) → AreUnder val_codec t [] es → AllByRecursion (IsRowThere t) ds → AllByRecursion (λ d. Among d es) ds
all_among t es [] u a = tt
all_among t es (d ∷ ds) u a = (
  found_among es u.each d (record { key = a.0.fits; row = tt; begins = refl }) (sym (u.found (val_bytes d.0) refl) ∙ a.0.found),
  all_among t es ds u a.1,
)

-- where the explicit rows make few statements, they are neither misplaced nor too many
pub few_are_right : (keys : ℕ → ℕ) (t : Tables) (worlds : Paths) (tuples : TupleRows) (stmts : List Stmt) → AreStated keys t worlds tuples stmts → length stmts ≤ most_statements → HaveNoStatements keys t worlds tuples → ⊥
few_are_right keys t worlds tuples stmts h few (inl m) = misplaced_have_no_places keys worlds tuples t h.are.rows m h.are.are
few_are_right keys t worlds tuples stmts h few (inr m) =
    let le = no_more (said worlds tuples) h.are.rows m.rows h.are.are.under.sorted m.sorted (all_among t h.are.rows m.rows h.are.are.under m.there) in
    let made : length h.made ≡ length (flat_map (said worlds tuples) h.are.rows) = ap length h.are.said in
    let same : length stmts ≡ length h.made = length_permutation h.made stmts h.moved in
    let many = m.many in
    omega (arith, le, made, same, few, many)
