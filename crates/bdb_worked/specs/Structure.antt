-- The structure that stands for all worlds.
use Rattle.std.specs.Prelude.{ℕ, List, [], ◌∷◌, ◌++◌, codes}
use Rattle.bdb_worked.specs.Worked.{reporting, reporting_told}

-- Carol believes that Alice saw an eagle, and Alice saw a crow; what stands for that
abbrev pub script : List (List ℕ)
script = reporting ++ codes "show tables;" ∷ []

-- the replies, and the structure in the end
abbrev pub told : List (List ℕ)
told =
    reporting_told
    ++ codes "user 1 'Alice'"
    ∷ codes "user 2 'Bob'"
    ∷ codes "user 3 'Carol'"
    ∷ codes "relation S(k text, v text)"
    ∷ codes "tuple S('s1', 'eagle')"
    ∷ codes "tuple S('s2', 'crow')"
    ∷ codes "world / depth 0"
    ∷ codes "world /'Alice' depth 1 suffix /"
    ∷ codes "world /'Carol' depth 1 suffix /"
    ∷ codes "world /'Carol'/'Alice' depth 2 suffix /'Alice'"
    ∷ codes "edge / 'Alice' /'Alice'"
    ∷ codes "edge / 'Bob' /"
    ∷ codes "edge / 'Carol' /'Carol'"
    ∷ codes "edge /'Alice' 'Bob' /"
    ∷ codes "edge /'Alice' 'Carol' /'Carol'"
    ∷ codes "edge /'Carol' 'Alice' /'Carol'/'Alice'"
    ∷ codes "edge /'Carol' 'Bob' /"
    ∷ codes "edge /'Carol'/'Alice' 'Bob' /"
    ∷ codes "edge /'Carol'/'Alice' 'Carol' /'Carol'"
    ∷ codes "row /'Alice' + S('s2', 'crow') explicit"
    ∷ codes "row /'Carol'/'Alice' + S('s1', 'eagle') explicit"
    ∷ codes "row /'Carol'/'Alice' + S('s2', 'crow') inherited"
    ∷ codes "ok 22" ∷ []
