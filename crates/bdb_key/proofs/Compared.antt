-- The bytes of values, of lists of values and of paths compare as what they spell does.
use Rattle.std.proofs.Common.{◌≡◌, ℕ, ℤ, pos, negsuc, ◌+◌, ◌-◌, ◌^◌, ◌<◌, ◌≤◌, true, length, List, [], ◌∷◌, ◌++◌, refl, sym, ap, ◌∙◌, arith, inl, inr, zero, suc, take}
use Rattle.std.specs.Prelude.{nat_le, FitsSigned}
use Rattle.std.specs.declared.cmp.Ordering.{Ordering}
use Rattle.std.specs.Ordering.{nat_cmp, int_cmp, ordering_then}
use Rattle.std.specs.Cmp.Lexicographic.{slice_cmp}
use Rattle.std.specs.Str.{is_utf8}
use Rattle.std.specs.Int.{w64}
use Rattle.std.specs.List.{list_all, flat_map, AllByRecursion}
use Rattle.std.specs.FinMap.{IsAntisymmetric, slice_cmp-IsAntisymmetric, nat_cmp-IsAntisymmetric, int_cmp-IsAntisymmetric}
use Rattle.std.proofs.lemmas.Bool.{and_parts}
use Rattle.std.proofs.lemmas.Bool.Decides.{nat_tests}
use Rattle.std.proofs.lemmas.Int.{ints}
use Rattle.std.proofs.lemmas.Bool.{cases_order}
use Rattle.std.proofs.lemmas.List.{append_assoc}
use Rattle.bdb_base.specs.Bases.{is_clean}
use Rattle.bdb_base.specs.Order.{value_cmp, row_cmp, path_cmp}
use Rattle.bdb_base.specs.declared.kinds.Value.{Value}
use Rattle.bdb_base.specs.declared.kinds.Value.TheVariants.{Int, Text}
use Rattle.bdb_key.specs.Bytes.{num_bytes, raised, value_bytes, values_bytes, vals_bytes, path_bytes}
use Rattle.bdb_key.specs.Grammar.{IsNum, IsPlain, IsPlainValue, ArePlain, AreKeyVals, IsKeyPath}
use Rattle.bdb_key.specs.Order.{vals_cmp}
use Rattle.bdb_base.proofs.Numbers.{less, greater, then_assoc, numbers}
use Rattle.bdb_key.proofs.Forms.{Compares, both_equal}

-- ---- numbers

pub nums : Compares IsNum num_bytes nat_cmp
nums m n x y hm hn = numbers 4 m n x y hm hn

flipped : (top m n : ℕ) → m ≤ top → n ≤ top → nat_cmp (top - m) (top - n) ≡ int_cmp (negsuc m) (negsuc n)
flipped top m n hm hn = grind (arith, nat_tests, ints)

raised_cmp : (m n : ℤ) → FitsSigned w64 m → FitsSigned w64 n → nat_cmp (raised m) (raised n) ≡ int_cmp m n
raised_cmp (pos m) (pos n) fm fn = grind (arith, nat_tests, ints)
raised_cmp (pos m) (negsuc n) fm fn = greater (m + 2 ^ 63) (2 ^ 63 - 1 - n) (omega arith)
raised_cmp (negsuc m) (pos n) fm fn = less (2 ^ 63 - 1 - m) (n + 2 ^ 63) (omega arith)
raised_cmp (negsuc m) (negsuc n) fm fn = flipped (2 ^ 63 - 1) m n (omega (arith, fm.sfits)) (omega (arith, fn.sfits))

pub raised_lt : (m : ℤ) → FitsSigned w64 m → raised m < 2 ^ 64
raised_lt (pos m) f = omega (arith, f.sfits)
raised_lt (negsuc m) f = omega arith

above : (c : ℕ) → nat_le 32 c ≡ true → 0 < c
above c h = grind (arith, nat_tests)

-- ---- texts

abbrev pub IsPrinting : List ℕ → Type 0
IsPrinting text = list_all (λ c. nat_le 32 c) text ≡ true

pub printing : (text : List ℕ) → IsPlain text → IsPrinting text
printing text h = (and_parts (is_utf8 text) _ (and_parts (nat_le (length text) 255) (is_clean text) h).1).1

texts : (s t : List ℕ) (x y : List ℕ) → IsPrinting s → IsPrinting t
    → slice_cmp nat_cmp ((s ++ 0 ∷ []) ++ x) ((t ++ 0 ∷ []) ++ y) ≡ ordering_then (slice_cmp nat_cmp s t) (slice_cmp nat_cmp x y)
texts [] [] x y hs ht = refl
texts [] (c ∷ t) x y hs ht =
    let p = and_parts (nat_le 32 c) (list_all (λ c. nat_le 32 c) t) ht in
    ap (λ o. ordering_then o (slice_cmp nat_cmp x ((t ++ 0 ∷ []) ++ y))) (less 0 c (above c p.0))
texts (b ∷ s) [] x y hs ht =
    let p = and_parts (nat_le 32 b) (list_all (λ c. nat_le 32 c) s) hs in
    ap (λ o. ordering_then o (slice_cmp nat_cmp ((s ++ 0 ∷ []) ++ x) y)) (greater b 0 (above b p.0))
texts (b ∷ s) (c ∷ t) x y hs ht =
    let p = and_parts (nat_le 32 b) (list_all (λ c. nat_le 32 c) s) hs in
    let q = and_parts (nat_le 32 c) (list_all (λ c. nat_le 32 c) t) ht in
    ap (λ o. ordering_then (nat_cmp b c) o) (texts s t x y p.1 q.1) ∙ sym (then_assoc (nat_cmp b c) (slice_cmp nat_cmp s t) (slice_cmp nat_cmp x y))

-- ---- values

pub values : Compares IsPlainValue value_bytes value_cmp
values (Int m) (Int n) x y fm fn = numbers 8 (raised m) (raised n) x y (raised_lt m fm) (raised_lt n fn) ∙ ap (λ o. ordering_then o (slice_cmp nat_cmp x y)) (raised_cmp m n fm fn)
values (Int m) (Text t) x y fm ft = refl
values (Text s) (Int n) x y fs fn = refl
values (Text s) (Text t) x y fs ft = texts s t x y (printing s fs) (printing t ft)

-- values up to the end
pub rows : (a b : List Value) → ArePlain a → ArePlain b → slice_cmp nat_cmp (values_bytes a) (values_bytes b) ≡ row_cmp a b
rows [] [] fa fb = refl
rows [] (Int n ∷ b) fa fb = refl
rows [] (Text t ∷ b) fa fb = refl
rows (Int m ∷ a) [] fa fb = refl
rows (Text s ∷ a) [] fa fb = refl
rows (v ∷ a) (w ∷ b) fa fb = values v w (values_bytes a) (values_bytes b) fa.0 fb.0 ∙ ap (λ o. ordering_then (value_cmp v w) o) (rows a b fa.1 fb.1)

-- ---- how many there are, then each

module _ {A : Type 0} (Fits : A → Type 0) (spelling : A → List ℕ) (R : A → A → Ordering) (compares : Compares Fits spelling R) where
  as_many : (a b : List A) (x y : List ℕ) → length a ≡ length b → AllByRecursion Fits a → AllByRecursion Fits b
      → slice_cmp nat_cmp (flat_map spelling a ++ x) (flat_map spelling b ++ y) ≡ ordering_then (slice_cmp R a b) (slice_cmp nat_cmp x y)
  as_many [] [] x y e fa fb = refl
  as_many [] (w ∷ b) x y e fa fb = absurd (omega arith)
  as_many (v ∷ a) [] x y e fa fb = absurd (omega arith)
  as_many (v ∷ a) (w ∷ b) x y e fa fb =
      ap (λ (z : List ℕ). slice_cmp nat_cmp z (flat_map spelling (w ∷ b) ++ y)) (append_assoc (spelling v) (flat_map spelling a) x)
      ∙ ap (λ (z : List ℕ). slice_cmp nat_cmp (spelling v ++ (flat_map spelling a ++ x)) z) (append_assoc (spelling w) (flat_map spelling b) y)
      ∙ compares v w (flat_map spelling a ++ x) (flat_map spelling b ++ y) fa.0 fb.0
      ∙ ap (λ o. ordering_then (R v w) o) (as_many a b x y (omega arith) fa.1 fb.1)
      ∙ sym (then_assoc (R v w) (slice_cmp R a b) (slice_cmp nat_cmp x y))

  counted : (a b : List A) (x y : List ℕ) → IsNum (length a) → IsNum (length b) → AllByRecursion Fits a → AllByRecursion Fits b
      → slice_cmp nat_cmp ((num_bytes (length a) ++ flat_map spelling a) ++ x) ((num_bytes (length b) ++ flat_map spelling b) ++ y)
      ≡ ordering_then (ordering_then (nat_cmp (length a) (length b)) (slice_cmp R a b)) (slice_cmp nat_cmp x y)
  counted a b x y sa sb fa fb =
      let X = slice_cmp nat_cmp (flat_map spelling a ++ x) (flat_map spelling b ++ y) in
      nums (length a) (length b) (flat_map spelling a ++ x) (flat_map spelling b ++ y) sa sb
      ∙ elim (cases_order (length a) (length b)) as (λ _. ordering_then (nat_cmp (length a) (length b)) X ≡ ordering_then (ordering_then (nat_cmp (length a) (length b)) (slice_cmp R a b)) (slice_cmp nat_cmp x y)) [
        | inl e ↦ ap (λ o. ordering_then (nat_cmp (length a) (length b)) o) (as_many a b x y e fa fb) ∙ sym (then_assoc (nat_cmp (length a) (length b)) (slice_cmp R a b) (slice_cmp nat_cmp x y))
        | inr (inl lt) ↦ let e = less (length a) (length b) lt in ap (λ o. ordering_then o X) e ∙ ap (λ o. ordering_then (ordering_then o (slice_cmp R a b)) (slice_cmp nat_cmp x y)) (sym e)
        | inr (inr gt) ↦ let e = greater (length a) (length b) gt in ap (λ o. ordering_then o X) e ∙ ap (λ o. ordering_then (ordering_then o (slice_cmp R a b)) (slice_cmp nat_cmp x y)) (sym e)
      ]

-- ---- lists of values

pub lists : Compares AreKeyVals vals_bytes vals_cmp
lists a b x y fa fb = counted IsPlainValue value_bytes value_cmp values a b x y fa.short fb.short fa.plain fb.plain

-- ---- paths

pub users : (p q : List ℕ) (x y : List ℕ) → length p ≡ length q → AllByRecursion IsNum p → AllByRecursion IsNum q
    → slice_cmp nat_cmp (flat_map num_bytes p ++ x) (flat_map num_bytes q ++ y) ≡ ordering_then (slice_cmp nat_cmp p q) (slice_cmp nat_cmp x y)
users = as_many IsNum num_bytes nat_cmp nums

pub paths : Compares IsKeyPath path_bytes path_cmp
paths p q x y fp fq = counted IsNum num_bytes nat_cmp nums p q x y fp.short fq.short fp.users fq.users

-- ---- only equal things tie

pub values_tie : IsAntisymmetric value_cmp
values_tie (Int m) (Int n) e = ap Int (int_cmp-IsAntisymmetric m n e)
values_tie (Int m) (Text t) e = absurd cc
values_tie (Text s) (Int n) e = absurd cc
values_tie (Text s) (Text t) e = ap Text (slice_cmp-IsAntisymmetric nat_cmp-IsAntisymmetric s t e)

pub rows_tie : IsAntisymmetric row_cmp
rows_tie = slice_cmp-IsAntisymmetric values_tie

pub lists_tie : IsAntisymmetric vals_cmp
lists_tie a b e = rows_tie a b (both_equal (nat_cmp (length a) (length b)) (row_cmp a b) e).1

pub paths_tie : IsAntisymmetric path_cmp
paths_tie p q e = slice_cmp-IsAntisymmetric nat_cmp-IsAntisymmetric p q (both_equal (nat_cmp (length p) (length q)) (slice_cmp nat_cmp p q) e).1

pub take_plain : (n : ℕ) (vs : List Value) → ArePlain vs → ArePlain (take n vs)
take_plain zero vs a = tt
take_plain (suc n) [] a = tt
take_plain (suc n) (v ∷ vs) a = (a.0, take_plain n vs a.1)

pub values_append : (xs ys : List Value) → values_bytes (xs ++ ys) ≡ values_bytes xs ++ values_bytes ys
values_append [] ys = refl
values_append (x ∷ xs) ys = ap (λ (r : List ℕ). value_bytes x ++ r) (values_append xs ys) ∙ sym (append_assoc (value_bytes x) (values_bytes xs) (values_bytes ys))
