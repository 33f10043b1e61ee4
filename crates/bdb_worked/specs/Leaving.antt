-- A user leaves, and with her all that was said of her.
use Rattle.std.specs.Prelude.{ℕ, List, [], ◌∷◌, ◌++◌, codes}
use Rattle.bdb_worked.specs.Worked.{reporting, reporting_told}

-- Carol believes that Alice saw an eagle, and Alice saw a crow; Carol leaves, and another Carol comes, who has a number of her own
abbrev pub script : List (List ℕ)
script =
    reporting
    ++ codes "drop user 'Carol';"
    ∷ codes "show world BELIEF 'Carol';"
    ∷ codes "drop user 'Carol';"
    ∷ codes "show tables;"
    ∷ codes "create user 'Carol';"
    ∷ codes "select U.uid, U.name from Users U;"
    ∷ codes "insert into BELIEF 'Alice' BELIEF 'Carol' S values('s1','raven');"
    ∷ codes "drop user 'Alice';"
    ∷ codes "select U.uid, U.name from Users U;" ∷ []

-- the replies
abbrev pub told : List (List ℕ)
told =
    reporting_told
    ++ codes "ok 1"
    ∷ codes "error user 'Carol'"
    ∷ codes "error user 'Carol'"
    ∷ codes "user 1 'Alice'"
    ∷ codes "user 2 'Bob'"
    ∷ codes "relation S(k text, v text)"
    ∷ codes "tuple S('s2', 'crow')"
    ∷ codes "world / depth 0"
    ∷ codes "world /'Alice' depth 1 suffix /"
    ∷ codes "edge / 'Alice' /'Alice'"
    ∷ codes "edge / 'Bob' /"
    ∷ codes "edge /'Alice' 'Bob' /"
    ∷ codes "row /'Alice' + S('s2', 'crow') explicit"
    ∷ codes "ok 10"
    ∷ codes "ok"
    ∷ codes "1, 'Alice'"
    ∷ codes "2, 'Bob'"
    ∷ codes "4, 'Carol'"
    ∷ codes "ok 3"
    ∷ codes "ok 1"
    ∷ codes "ok 2"
    ∷ codes "2, 'Bob'"
    ∷ codes "4, 'Carol'"
    ∷ codes "ok 2" ∷ []
