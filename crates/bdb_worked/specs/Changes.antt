-- An update that is refused and one that is not, and a query that is safe and one that is not.
use Rattle.std.specs.Prelude.{ℕ, List, [], ◌∷◌, codes}

-- Bob can't give two birds one key, but change one
abbrev pub script : List (List ℕ)
script =
    codes "create user 'Alice'; create user 'Bob';"
    ∷ codes "create relation S(k text, v text);"
    ∷ codes "insert into BELIEF 'Bob' S values('a','x');"
    ∷ codes "insert into BELIEF 'Bob' S values('b','y');"
    ∷ codes "update BELIEF 'Bob' S set k = 'c' where v <> 'z';"
    ∷ codes "show world BELIEF 'Bob';"
    ∷ codes "update BELIEF 'Bob' S set v = 'z' where k = 'a';"
    ∷ codes "select Y.v from BELIEF 'Bob' not S Y where Y.k = 'a';"
    ∷ codes "select Y.v from BELIEF 'Bob' not S Y where Y.k = 'a' and Y.v = 'x';" ∷ []

-- the replies
abbrev pub told : List (List ℕ)
told =
    codes "ok"
    ∷ codes "ok"
    ∷ codes "ok"
    ∷ codes "ok 1"
    ∷ codes "ok 1"
    ∷ codes "error clash + S('c', 'x')"
    ∷ codes "+ S('a', 'x') explicit"
    ∷ codes "+ S('b', 'y') explicit"
    ∷ codes "ok 2"
    ∷ codes "ok 1"
    ∷ codes "error unsafe Y.v"
    ∷ codes "'x'"
    ∷ codes "ok 1" ∷ []
