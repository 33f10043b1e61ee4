-- Values that the keys of rows are to begin with.
use Rattle.std.specs.Prelude.{◌≡◌, ℕ, Bool, true, false, List, [], ◌∷◌, ◌++◌, Option, None, Some}
use Rattle.std.specs.List.{list_all}
use Rattle.bdb_base.specs.Bases.{is_written}
use Rattle.bdb_base.specs.declared.kinds.Value.{Value}
use Rattle.bdb_key.specs.Bytes.{num_bytes, values_bytes}
use Rattle.bdb_key.specs.Grammar.{ArePlain}

-- a value before others; none of them where there is none
abbrev pub led_by : Option Value → List Value → List Value
led_by None vs = []
led_by (Some v) vs = v ∷ vs

-- how the keys of a world's rows of a relation begin whose tuples have a key of some length that begins with these values
abbrev pub key_prefix : ℕ → ℕ → ℕ → List Value → List ℕ
key_prefix n wid rel vs = num_bytes wid ++ num_bytes rel ++ num_bytes n ++ values_bytes vs

-- The bytes of plain values were appended, unless one of them is a value that no tuple has.
abbrev pub HasPutValues : Bool → List ℕ → List ℕ → List Value → Type 0
HasPutValues true old new vs = (new ≡ old ++ values_bytes vs) × ArePlain vs
HasPutValues false old new vs = list_all is_written vs ≡ false
