-- Columns that are one, and comparisons that hold.
use Rattle.std.proofs.Common.{◌≡◌, ◌∙◌, ℕ, true, nat_eq, ap, refl, sym, Option, Some, None}
use Rattle.std.proofs.lemmas.Bool.{and_parts, eqb-true, and_from, eq-eqb, false≢true}
use Rattle.bdb_base.specs.declared.kinds.Ref.{Ref}
use Rattle.bdb_base.specs.Safety.{same_column, is_column, is_equality}
use Rattle.bdb_base.specs.declared.kinds.Operand.{Operand}
use Rattle.bdb_base.specs.declared.kinds.Operand.TheVariants.{Col, Lit}
use Rattle.bdb_base.specs.declared.kinds.Cmp.{Cmp}
use Rattle.bdb_base.specs.declared.kinds.Cmp.TheVariants.{Eq, Ne, Lt, Le, Gt, Ge}
use Rattle.bdb_base.specs.declared.kinds.Value.{Value}
use Rattle.bdb_base.specs.Conditions.{compare_so}
use Rattle.bdb_base.specs.Order.{value_cmp}
use Rattle.bdb_base.specs.OrderLemmas.{value_exact}
use Rattle.bdb_base.proofs.SetLemmas.{is_eq-Equal}

pub same_column_is : (r s : Ref) → same_column r s ≡ true → r ≡ s
same_column_is r s e =
    let parts = and_parts (nat_eq r.item s.item) (nat_eq r.col s.col) e in
    let one : r ≡ record { item = s.item; col = r.col } = ap (λ (i : ℕ). record { item = i; col = r.col }) (eqb-true r.item s.item parts.0) in
    one ∙ ap (λ (c : ℕ). record { item = s.item; col = c }) (eqb-true r.col s.col parts.1)

pub same_column_itself : (r : Ref) → same_column r r ≡ true
same_column_itself r = and_from _ _ (eq-eqb r.item r.item refl) (eq-eqb r.col r.col refl)

pub column_is : (r : Ref) (side : Operand) → is_column r side ≡ true → side ≡ Col r
column_is r (Col s) e = ap Col (sym (same_column_is r s e))
column_is r (Lit v) e = cc

pub equality_is : (c : Cmp) → is_equality c ≡ true → c ≡ Eq
equality_is Eq e = refl
equality_is Ne e = absurd (false≢true e)
equality_is Lt e = absurd (false≢true e)
equality_is Le e = absurd (false≢true e)
equality_is Gt e = absurd (false≢true e)
equality_is Ge e = absurd (false≢true e)

pub equal_sides : (a b : Option Value) → compare_so Eq a b ≡ true → (v : Value) × (a ≡ Some v) × (b ≡ Some v)
equal_sides None b h = absurd (false≢true h)
equal_sides (Some x) None h = absurd (false≢true h)
equal_sides (Some x) (Some y) h = (x, refl, ap Some (sym (value_exact.exact x y (is_eq-Equal (value_cmp x y) h))))

pub equal_value : (o : Option Value) (v : Value) → compare_so Eq o (Some v) ≡ true → o ≡ Some v
equal_value None v e = absurd (false≢true e)
equal_value (Some x) v e = ap Some (value_exact.exact x v (is_eq-Equal (value_cmp x v) e))
