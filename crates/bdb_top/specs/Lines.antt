-- Lines that tell a number.
use Rattle.std.specs.Prelude.{ℕ, List, [], ◌∷◌, ◌++◌}
use Rattle.std.specs.Fmt.{decimal}

-- a line of what is told and a number
unfoldable pub line_with : List ℕ → ℕ → List ℕ
line_with told n = told ++ decimal n ++ 10 ∷ []
