-- Keys of several columns.
use Rattle.std.specs.Prelude.{ℕ, List, [], ◌∷◌, codes}

-- a key of two columns tells tuples apart that agree in the first alone; a key has a column, and no more than there are
abbrev pub script : List (List ℕ)
script =
    codes "create relation T(a text, b int, c text) key 2;"
    ∷ codes "insert into T values('x',1,'p');"
    ∷ codes "insert into T values('x',2,'q');"
    ∷ codes "insert into T values('x',1,'r');"
    ∷ codes "create relation U2(a int) key 2;"
    ∷ codes "create relation U2(a int) key 0;"
    ∷ codes "create relation key(key int) KEY -1;"
    ∷ codes "create relation U2(a int) key 1;"
    ∷ codes "create relation U2(a int) key 2;"
    ∷ codes "create relation P(a int, b int) key 2;"
    ∷ codes "insert into P values(1,1);"
    ∷ codes "insert into P values(1,2);"
    ∷ codes "show world;"
    ∷ codes "show tables;" ∷ []

-- the replies
abbrev pub told : List (List ℕ)
told =
    codes "ok"
    ∷ codes "ok 1"
    ∷ codes "ok 1"
    ∷ codes "error clash + T('x', 1, 'p')"
    ∷ codes "error key 2"
    ∷ codes "error key 0"
    ∷ codes "error key -1"
    ∷ codes "ok"
    ∷ codes "error taken U2"
    ∷ codes "ok"
    ∷ codes "ok 1"
    ∷ codes "ok 1"
    ∷ codes "+ T('x', 1, 'p') explicit"
    ∷ codes "+ T('x', 2, 'q') explicit"
    ∷ codes "+ P(1, 1) explicit"
    ∷ codes "+ P(1, 2) explicit"
    ∷ codes "ok 4"
    ∷ codes "relation T(a text, b int, c text) key 2"
    ∷ codes "relation U2(a int)"
    ∷ codes "relation P(a int, b int) key 2"
    ∷ codes "tuple T('x', 1, 'p')"
    ∷ codes "tuple T('x', 2, 'q')"
    ∷ codes "tuple P(1, 1)"
    ∷ codes "tuple P(1, 2)"
    ∷ codes "world / depth 0"
    ∷ codes "row / + T('x', 1, 'p') explicit"
    ∷ codes "row / + T('x', 2, 'q') explicit"
    ∷ codes "row / + P(1, 1) explicit"
    ∷ codes "row / + P(1, 2) explicit"
    ∷ codes "ok 12" ∷ []
