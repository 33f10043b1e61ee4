-- Values that the keys of rows are to begin with.
use Rattle.std.proofs.Common.{◌≡◌, ◌∙◌, ℕ, ◌≤◌, Bool, true, false, ◌&&◌, List, [], ◌∷◌, ◌++◌, length, take, ap, sym, subst, refl, arith}
use Rattle.std.specs.List.{list_all}
use Rattle.std.proofs.lemmas.List.{append_assoc}
use Rattle.std.proofs.lemmas.Bool.{and_from}
use Rattle.bdb_base.specs.declared.kinds.Value.{Value}
use Rattle.bdb_base.specs.declared.kinds.Value.TheVariants.{Int, Text}
use Rattle.bdb_key.specs.Bytes.{value_bytes, values_bytes}
use Rattle.bdb_key.specs.Grammar.{ArePlain, HasEightBytes, IsPlainValue}
use Rattle.bdb_key.proofs.Readings.{value_form}
use Rattle.bdb_base.specs.Bases.{is_written}
use Rattle.bdb_tables.specs.Prefixes.{HasPutValues}

plain_value : (v : Value) → is_written v ≡ true → HasEightBytes v → IsPlainValue v
plain_value (Int m) w h = h
plain_value (Text t) w h = w

append_nil : (xs : List ℕ) → xs ≡ xs ++ []
append_nil [] = refl
append_nil (x ∷ xs) = ap (λ (r : List ℕ). x ∷ r) (append_nil xs)

-- nothing is asked for
pub put_none : (old : List ℕ) (vs : List Value) → vs ≡ [] → HasPutValues true old old vs
put_none old vs e = subst (HasPutValues true old old) (sym e) (append_nil old, tt)

-- a value that no tuple has is asked for first
pub put_unwritten : (old new : List ℕ) (v : Value) (vs : List Value) → is_written v ≡ false → HasPutValues false old new (v ∷ vs)
put_unwritten old new v vs e = ap (λ b. b && list_all is_written vs) e

-- one that tuples may have was put, and then the others
pub put_more : (all : Bool) (old mid new : List ℕ) (v : Value) (vs : List Value) → is_written v ≡ true → HasEightBytes v → mid ≡ old ++ value_bytes v → HasPutValues all mid new vs → HasPutValues all old new (v ∷ vs)
put_more true old mid new v vs w whole e h = (
  h.0 ∙ ap (λ (x : List ℕ). x ++ values_bytes vs) e ∙ append_assoc old (value_bytes v) (values_bytes vs),
  (plain_value v w whole, h.1),
)
put_more false old mid new v vs w whole e h = ap (λ b. b && list_all is_written vs) w ∙ h

-- values whose bytes begin with those of others, which are no more, begin with them
pub values_part : (vs xs : List Value) (a b : List ℕ) → ArePlain vs → ArePlain xs → length vs ≤ length xs → values_bytes xs ++ a ≡ values_bytes vs ++ b → take (length vs) xs ≡ vs
values_part [] xs a b pv px few e = refl
values_part (v ∷ vs) [] a b pv px few e = absurd (omega (arith, few))
values_part (v ∷ vs) (x ∷ xs) a b pv px few e =
    let one = value_form x v (values_bytes xs ++ a) (values_bytes vs ++ b) px.0 pv.0 (sym (append_assoc (value_bytes x) (values_bytes xs) a) ∙ e ∙ append_assoc (value_bytes v) (values_bytes vs) b) in
    ap (λ (y : Value). y ∷ take (length vs) xs) one.0 ∙ ap (λ (ys : List Value). v ∷ ys) (values_part vs xs a b pv.1 px.1 (omega (arith, few)) one.1)

pub all_written : (vs : List Value) → ArePlain vs → list_all is_written vs ≡ true
all_written [] a = refl
all_written (Int m ∷ vs) a = all_written vs a.1
all_written (Text t ∷ vs) a = and_from (is_written (Text t)) (list_all is_written vs) a.0 (all_written vs a.1)
