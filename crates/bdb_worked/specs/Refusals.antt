-- Refusals, each by the first reason that applies.
use Rattle.std.specs.Prelude.{ℕ, List, [], ◌∷◌, codes}

-- none of the commands behind the first two lines is accepted
abbrev pub script : List (List ℕ)
script =
    codes "create user 'Alice'; create user 'Bob';"
    ∷ codes "create relation S(k text, v text);"
    ∷ codes "select X.k from T X;"
    ∷ codes "insert into BELIEF 'Zoe' T values(1);"
    ∷ codes "insert into BELIEF 'Zoe' S values(1);"
    ∷ codes "insert into S values('a');"
    ∷ codes "insert into S values('a',1);"
    ∷ codes "select X.z from S X;"
    ∷ codes "select Z.k from S X;"
    ∷ codes "select X.k from S X, S X;"
    ∷ codes "create user 'Bob';"
    ∷ codes "create relation Users(a int);" ∷ []

-- the replies
abbrev pub told : List (List ℕ)
told =
    codes "ok"
    ∷ codes "ok"
    ∷ codes "ok"
    ∷ codes "error relation T"
    ∷ codes "error relation T"
    ∷ codes "error user 'Zoe'"
    ∷ codes "error arity"
    ∷ codes "error kind v"
    ∷ codes "error column X.z"
    ∷ codes "error alias Z"
    ∷ codes "error alias twice X"
    ∷ codes "error taken 'Bob'"
    ∷ codes "error taken Users" ∷ []
