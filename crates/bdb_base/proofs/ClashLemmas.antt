-- A clash is one either way round, and is told by the length of one relation's key.
use Rattle.std.proofs.Common.{◌≡◌, ◌∙◌, ℕ, Bool, ◌&&◌, not, nat_eq, inl, inr, ap, sym, refl, take}
use Rattle.std.specs.Bool.{Decides}
use Rattle.std.proofs.lemmas.Bool.{cases_Bool, eqb-true}
use Rattle.std.proofs.lemmas.Bool.Decides.{Decides-eqb, Decides-like, same_from_decides}
use Rattle.bdb_base.specs.declared.kinds.Sign.{Sign}
use Rattle.bdb_base.specs.declared.kinds.Sign.TheVariants.{Plus, Minus}
use Rattle.bdb_base.specs.declared.tuple.Tuple.{Tuple}
use Rattle.bdb_base.specs.Clash.{clash, same_key, key_of}
use Rattle.bdb_base.specs.Laws.{ClashIsSymmetric}
use Rattle.bdb_base.specs.Same.{same_tuple, same_values}
use Rattle.bdb_base.specs.SameLemmas.{same_tuple-Decides, same_values-Decides}

-- a test that decides equality is one either way round
pub turned : {X : Type 0} (E : X → X → Bool) → ((a b : X) → Decides (E a b) (a ≡ b)) → (a b : X) → E a b ≡ E b a
turned E d a b = same_from_decides (E a b) (E b a) (d a b) (Decides-like (E b a) sym sym (d b a))

pub same_tuple_turned : (a b : Tuple) → same_tuple a b ≡ same_tuple b a
same_tuple_turned a b = turned same_tuple same_tuple-Decides a b

pub same_key_turned : (keys : ℕ → ℕ) (a b : Tuple) → same_key keys a b ≡ same_key keys b a
same_key_turned keys a b =
    let r : nat_eq a.rel b.rel ≡ nat_eq b.rel a.rel = turned nat_eq Decides-eqb a.rel b.rel in
    let k : same_values (key_of keys a) (key_of keys b) ≡ same_values (key_of keys b) (key_of keys a) = turned same_values same_values-Decides (key_of keys a) (key_of keys b) in
    cc

pub clash_is_symmetric : ClashIsSymmetric
clash_is_symmetric keys a b Plus Plus =
    let k : same_key keys a b ≡ same_key keys b a = same_key_turned keys a b in
    let t : same_tuple a b ≡ same_tuple b a = same_tuple_turned a b in
    cc
clash_is_symmetric keys a b Plus Minus = same_tuple_turned a b
clash_is_symmetric keys a b Minus Plus = same_tuple_turned a b
clash_is_symmetric keys a b Minus Minus = refl

-- tuples of one relation have the same key by its length alone
pub same_key_by_length : (keys : ℕ → ℕ) (a b : Tuple) → same_key (λ _. keys a.rel) a b ≡ same_key keys a b
same_key_by_length keys a b = elim (cases_Bool (nat_eq a.rel b.rel)) [
  | inl e ↦ ap (λ r. nat_eq a.rel b.rel && same_values (key_of keys a) (take (keys r) b.vals)) (eqb-true a.rel b.rel e)
  | inr e ↦ ap (λ c. c && same_values (key_of keys a) (take (keys a.rel) b.vals)) e ∙ sym (ap (λ c. c && same_values (key_of keys a) (key_of keys b)) e)
]

-- whether two signed tuples clash is told by the length of the key of the first one's relation
pub clash_by_length : (keys : ℕ → ℕ) (a : Tuple) (s : Sign) (b : Tuple) (t : Sign) → clash (λ _. keys a.rel) a s b t ≡ clash keys a s b t
clash_by_length keys a Plus b Plus = ap (λ c. c && not (same_tuple a b)) (same_key_by_length keys a b)
clash_by_length keys a Plus b Minus = refl
clash_by_length keys a Minus b Plus = refl
clash_by_length keys a Minus b Minus = refl

pub clash_of : (keys : ℕ → ℕ) (n : ℕ) (t : Tuple) (s : Sign) (u : Tuple) (r : Sign) → n ≡ keys t.rel → clash (λ _. n) t s u r ≡ clash keys t s u r
clash_of keys n t s u r e = ap (λ k. clash (λ _. k) t s u r) e ∙ clash_by_length keys t s u r
