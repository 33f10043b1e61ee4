-- The number of a session before each line that it is told.
use Rattle.std.specs.Prelude.{◌≡◌, ℕ, Bool, true, false, nat_eq, List, [], ◌∷◌, ◌++◌, codes}
use Rattle.std.specs.Fmt.{decimal}
use Rattle.std.specs.List.{flat_map, list_all}
use Rattle.bdb_base.specs.Texts.{line}
use Rattle.bdb_lex.specs.Spans.{lacks}

-- what stands before each line of a session
abbrev pub label : ℕ → List ℕ
label n = decimal n ++ codes ": "

-- a line that is told a session
abbrev pub told : ℕ → List ℕ → List ℕ
told n text = label n ++ line text

-- the bytes with a label before each that begins a line, where the first begins one or doesn't
abbrev pub labelled_from : List ℕ → Bool → List ℕ → List ℕ
labelled_from m begins [] = []
labelled_from m true (b ∷ bytes) = m ++ (b ∷ labelled_from m (nat_eq b 10) bytes)
labelled_from m false (b ∷ bytes) = b ∷ labelled_from m (nat_eq b 10) bytes

-- lines, each with the label of a session before it
abbrev pub labelled : ℕ → List ℕ → List ℕ
labelled n text = labelled_from (label n) true text

-- of lines that have no line feed within, each is told the session
abbrev pub LinesAreLabelled : Type 0
LinesAreLabelled = (n : ℕ) (texts : List (List ℕ)) → list_all (lacks 10) texts ≡ true → labelled n (flat_map line texts) ≡ flat_map (told n) texts
