-- Keywords and the words that are no names.
use Rattle.std.specs.Prelude.{ℕ, Bool, List, [], ◌∷◌, map, nat_eq, codes}
use Rattle.std.specs.Char.{to_ascii_lowercase}
use Rattle.std.specs.Cmp.Lexicographic.{pointwise}
use Rattle.std.specs.List.{list_any}

-- a word is this keyword, in any case
abbrev pub is_keyword : List ℕ → List ℕ → Bool
is_keyword keyword word = pointwise nat_eq (map to_ascii_lowercase word) (map to_ascii_lowercase keyword)

-- the keywords that are no names
abbrev pub reserved : List (List ℕ)
reserved =
    codes "and" ∷ codes "as" ∷ codes "belief" ∷ codes "delete" ∷ codes "from" ∷ codes "insert" ∷ codes "into" ∷ codes "not" ∷ codes "or" ∷ codes "select" ∷ codes "set" ∷ codes "update" ∷ codes "values" ∷ codes "where" ∷ []

-- a word is a reserved one, in any case
abbrev pub is_reserved : List ℕ → Bool
is_reserved word = list_any (λ keyword. is_keyword keyword word) reserved
