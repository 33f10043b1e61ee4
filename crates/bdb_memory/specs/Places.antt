-- Where the bytes of a place lie.
use Rattle.std.specs.Prelude.{◌≡◌, ℕ, ◌≤◌, List, ◌∷◌, take}
use Rattle.bdb_memory.specs.Heads.{padded}
use Rattle.bdb_memory.specs.declared.place.Key.{Key}
use Rattle.bdb_memory.specs.declared.place.Key.TheVariants.{Near, Far}

-- the place itself
abbrev pub place_in : Key → List ℕ
place_in (Near tab count bytes) = tab ∷ take count bytes
place_in (Far tab key) = tab ∷ key.items

-- of a key that lies in the value itself there are at most 32 bytes, with zeros behind them
abbrev pub IsPadded : Key → Type 0
IsPadded (Near tab count bytes) = (count ≤ 32) × (padded 32 (take count bytes) ≡ bytes)
IsPadded (Far tab key) = Unit {0}
