-- Changes are taken back and made again.
use Rattle.std.specs.Prelude.{ℕ, List, [], ◌∷◌, codes}

-- Bob leaves and comes back with what he said, is without it, and then leaves once more. What changes nothing leaves the redo that
-- is open, and what changes something ends it. A user who is taken back gives her number to the next one
abbrev pub script : List (List ℕ)
script =
    codes "create user 'Alice'; create user 'Bob';"
    ∷ codes "create relation S(k text, v text);"
    ∷ codes "insert into BELIEF 'Bob' S values('a','x');"
    ∷ codes "drop user 'Bob';"
    ∷ codes "undo;"
    ∷ codes "show world BELIEF 'Bob';"
    ∷ codes "undo;"
    ∷ codes "redo; redo; redo;"
    ∷ codes "undo;"
    ∷ codes "insert into BELIEF 'Bob' S values('a','x');"
    ∷ codes "redo;"
    ∷ codes "UNDO; undo;"
    ∷ codes "create user 'Carol';"
    ∷ codes "redo;"
    ∷ codes "undo;"
    ∷ codes "create user 'Dora';"
    ∷ codes "select U.uid, U.name from Users U;"
    ∷ codes "undo; undo; undo; undo; undo;"
    ∷ codes "show world;" ∷ []

-- the replies
abbrev pub told : List (List ℕ)
told =
    codes "ok"
    ∷ codes "ok"
    ∷ codes "ok"
    ∷ codes "ok 1"
    ∷ codes "ok 1"
    ∷ codes "ok"
    ∷ codes "+ S('a', 'x') explicit"
    ∷ codes "ok 1"
    ∷ codes "ok"
    ∷ codes "ok"
    ∷ codes "ok"
    ∷ codes "error no redo"
    ∷ codes "ok"
    ∷ codes "ok 0"
    ∷ codes "ok"
    ∷ codes "ok"
    ∷ codes "ok"
    ∷ codes "ok"
    ∷ codes "error no redo"
    ∷ codes "ok"
    ∷ codes "ok"
    ∷ codes "1, 'Alice'"
    ∷ codes "2, 'Bob'"
    ∷ codes "3, 'Dora'"
    ∷ codes "ok 3"
    ∷ codes "ok"
    ∷ codes "ok"
    ∷ codes "ok"
    ∷ codes "ok"
    ∷ codes "error no undo"
    ∷ codes "ok 0" ∷ []
