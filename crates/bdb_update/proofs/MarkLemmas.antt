-- Marks and explicit signs, and the rows that marks are found in.
use Rattle.std.proofs.Common.{◌≡◌, ◌∙◌, ℕ, Bool, true, false, nat_eq, List, [], ◌∷◌, refl, ap, sym, inl, inr, Option, Some, None}
use Rattle.std.specs.List.{AllByRecursion}
use Rattle.std.proofs.lemmas.Bool.{cases_Bool, cond-true, cond-false, eqb-true}
use Rattle.bdb_base.specs.declared.kinds.Sign.{Sign}
use Rattle.bdb_tables.specs.Marks.{Mark, explicit_of}
use Rattle.bdb_val.specs.Settling.{mark_in}
use Rattle.bdb_val.specs.declared.stored.StoredRow.{StoredRow}

-- ---- marks and signs

pub explicit_is : (o : Option Mark) (s : Sign) → explicit_of o ≡ Some s → o ≡ Some (s, true)
explicit_is None s e = absurd cc
explicit_is (Some m) s e = by m.1 refl
  where
    by : (b : Bool) → m.1 ≡ b → Some m ≡ Some (s, true)
    by true k = let f : Some m.0 ≡ Some s = sym (cond-true m.1 (Some m.0) None k) ∙ e in let g : m.0 ≡ s = cc in ap (λ (b : Bool). Some (m.0, b)) k ∙ ap (λ (r : Sign). Some (r, true)) g
    by false k = let f : None ≡ Some s = sym (cond-false m.1 (Some m.0) None k) ∙ e in absurd cc

-- ---- rows

-- the row whose mark is found, with what holds of each row
pub row_found : (Q : StoredRow → Type 0) (xs : List StoredRow) (tid : ℕ) (m : Mark) → AllByRecursion Q xs → mark_in xs tid ≡ Some m → (r : StoredRow) × (r.tid ≡ tid) × (r.mark ≡ m) × Q r
row_found Q [] tid m a e = absurd cc
row_found Q (x ∷ xs) tid m a e = elim (cases_Bool (nat_eq x.tid tid)) [
  | inl c ↦
      let f : Some x.mark ≡ Some m = sym (cond-true (nat_eq x.tid tid) (Some x.mark) (mark_in xs tid) c) ∙ e in
      (x, eqb-true x.tid tid c, the_one x.mark m f, a.0)
  | inr c ↦ row_found Q xs tid m a.1 (sym (cond-false (nat_eq x.tid tid) (Some x.mark) (mark_in xs tid) c) ∙ e)
]
  where
    the_one : (a b : Mark) → Some a ≡ Some b → a ≡ b
    the_one a b e = cc

pub both : (P Q : StoredRow → Type 0) (xs : List StoredRow) → AllByRecursion P xs → AllByRecursion Q xs → AllByRecursion (λ x. P x × Q x) xs
both P Q [] p q = tt
both P Q (x ∷ xs) p q = ((p.0, q.0), both P Q xs p.1 q.1)
