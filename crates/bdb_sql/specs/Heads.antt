-- How files begin.
use Rattle.std.specs.Prelude.{◌≡◌, ℕ, List, [], ◌∷◌, ◌++◌, take, slice_index_or, codes}

-- a database begins with these bytes
abbrev pub magic : List ℕ
magic = codes "SQLite format 3" ++ 0 ∷ []

-- a file that begins so is a database whose changes go to a log first, as its bytes 18 and 19 say
abbrev pub IsLogged : List ℕ → Type 0
IsLogged head = (take 16 head ≡ magic) × (slice_index_or head 18 0 ≡ 2) × (slice_index_or head 19 0 ≡ 2)
