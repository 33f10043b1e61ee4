-- What a script is answered, line by line; and what two scripts begin with.
use Rattle.std.specs.Prelude.{◌≡◌, ℕ, List, [], ◌∷◌, ◌++◌, codes}
use Rattle.bdb_base.specs.Bases.{empty_contents}
use Rattle.bdb_session.specs.Runs.{events_of}
use Rattle.bdb_session.specs.UndoRuns.{replies}
use Rattle.bdb_undo.specs.Timelines.{started}

-- the bytes of lines, each with its line feed
abbrev pub lines : List (List ℕ) → List ℕ
lines [] = []
lines (l ∷ ls) = l ++ 10 ∷ lines ls

-- the belief machine with undo and redo answers the script, from the empty base on, with exactly these lines
abbrev pub IsAnswered : List (List ℕ) → List (List ℕ) → Type 0
IsAnswered script told = replies (started empty_contents) (events_of (lines script)) ≡ lines told

-- what two scripts begin with: Carol believes that Alice saw an eagle, and Alice saw a crow
abbrev pub reporting : List (List ℕ)
reporting =
    codes "create user 'Alice'; create user 'Bob';"
    ∷ codes "create relation S(k text, v text);"
    ∷ codes "create user 'Carol';"
    ∷ codes "insert into BELIEF 'Carol' BELIEF 'Alice' S values('s1','eagle');"
    ∷ codes "insert into BELIEF 'Alice' S values('s2','crow');" ∷ []

-- the replies to that
abbrev pub reporting_told : List (List ℕ)
reporting_told =
    codes "ok"
    ∷ codes "ok"
    ∷ codes "ok"
    ∷ codes "ok"
    ∷ codes "ok 1"
    ∷ codes "ok 1" ∷ []
