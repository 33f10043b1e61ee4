-- Lines that tell errors.
use Rattle.std.specs.Prelude.{ℕ, Bool, true, false, nat_eq, List, [], ◌∷◌, codes}
use Rattle.std.specs.List.{list_any}
use Rattle.bdb_base.specs.Segments.{is_prefix}

-- lines with a byte before them: a line feed ends an empty line, another byte is the first of the first line
abbrev pub before_lines : Bool → ℕ → List (List ℕ) → List (List ℕ)
before_lines true b lines = [] ∷ lines
before_lines false b [] = (b ∷ []) ∷ []
before_lines false b (line ∷ lines) = (b ∷ line) ∷ lines

-- the lines of a text: each up to the line feed that ends it, which the last one may lack
abbrev pub lines_of : List ℕ → List (List ℕ)
lines_of [] = []
lines_of (b ∷ bytes) = before_lines (nat_eq b 10) b (lines_of bytes)

-- a text begins with `error `
abbrev pub tells_error : List ℕ → Bool
tells_error text = is_prefix (codes "error ") text

-- a line of a text begins with `error `
abbrev pub has_error_line : List ℕ → Bool
has_error_line text = list_any tells_error (lines_of text)
