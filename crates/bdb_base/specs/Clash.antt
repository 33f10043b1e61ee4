-- Keys, and when two signed tuples clash.
use Rattle.std.specs.Prelude.{ℕ, Bool, false, not, ◌&&◌, nat_eq, List, take}
use Rattle.bdb_base.specs.declared.kinds.Value.{Value}
use Rattle.bdb_base.specs.declared.kinds.Sign.{Sign}
use Rattle.bdb_base.specs.declared.kinds.Sign.TheVariants.{Plus, Minus}
use Rattle.bdb_base.specs.declared.tuple.Tuple.{Tuple}
use Rattle.bdb_base.specs.Same.{same_tuple, same_values}

-- the key of a tuple: its first values, as many as its relation's key has
abbrev pub key_of : (ℕ → ℕ) → Tuple → List Value
key_of keys t = take (keys t.rel) t.vals

-- one relation, and the same key
abbrev pub same_key : (ℕ → ℕ) → Tuple → Tuple → Bool
same_key keys a b = nat_eq a.rel b.rel && same_values (key_of keys a) (key_of keys b)

-- Both are plus, of one relation and key, and they differ; or they are one tuple with different signs.
abbrev pub clash : (ℕ → ℕ) → Tuple → Sign → Tuple → Sign → Bool
clash keys a Plus b Plus = same_key keys a b && not (same_tuple a b)
clash keys a Plus b Minus = same_tuple a b
clash keys a Minus b Plus = same_tuple a b
clash keys a Minus b Minus = false
