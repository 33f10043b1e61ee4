-- Going over a table key by key.
use Rattle.std.specs.Prelude.{ℕ, List, [], ◌∷◌, ◌++◌}

-- the least key above a key
abbrev pub next_key : List ℕ → List ℕ
next_key key = key ++ 0 ∷ []
