-- The words that open and close batches.
use Rattle.std.proofs.Common.{◌≡◌, ◌∙◌, ◌⊎◌, ℕ, true, false, map, nat_eq, cond, Option, Some, None, List, [], ◌∷◌, refl, ap, sym, subst, inl, inr}
use Rattle.std.specs.Prelude.{codes}
use Rattle.std.specs.Char.{to_ascii_lowercase}
use Rattle.std.specs.Cmp.Lexicographic.{pointwise}
use Rattle.std.proofs.lemmas.Bool.{cases_Bool, cond-true, cond-false, false≢true}
use Rattle.std.proofs.lemmas.Slice.Eq.{bytes_eq-Decides}
use Rattle.bdb_base.proofs.OptionLemmas.{none_is_some, same_some}
use Rattle.bdb_lex.specs.declared.token.Token.{Token}
use Rattle.bdb_lex.specs.declared.token.Token.TheVariants.{Word, Text, Num, Comma, Dot, ParenL, ParenR, Eq, Ne, Lt, Le, Gt, Ge}
use Rattle.bdb_lex.specs.Tokens.{tokens_of}
use Rattle.bdb_lex.proofs.SpellingLemmas.{tokens_are_spelled}
use Rattle.bdb_syntax.specs.Keywords.{is_keyword}
use Rattle.bdb_multi.specs.declared.kinds.Line.{Line}
use Rattle.bdb_multi.specs.declared.kinds.Line.TheVariants.{Begin, Commit, Abort, Cmd}
use Rattle.bdb_events.specs.Pieces.{word_of, only_word, line_by, line_of}
use Rattle.bdb_events.specs.Forms.{IsOnly, IsLine, LinesAreRead}

word_is : (t : Token) (w : List ℕ) → word_of t ≡ Some w → t ≡ Word w
word_is (Word v) w e = ap Word (same_some v w e)
word_is (Text v) w e = absurd (none_is_some w e)
word_is (Num v) w e = absurd (none_is_some w e)
word_is Comma w e = absurd (none_is_some w e)
word_is Dot w e = absurd (none_is_some w e)
word_is ParenL w e = absurd (none_is_some w e)
word_is ParenR w e = absurd (none_is_some w e)
word_is Eq w e = absurd (none_is_some w e)
word_is Ne w e = absurd (none_is_some w e)
word_is Lt w e = absurd (none_is_some w e)
word_is Le w e = absurd (none_is_some w e)
word_is Gt w e = absurd (none_is_some w e)
word_is Ge w e = absurd (none_is_some w e)

only_is : (o : Option (List Token)) (w : List ℕ) → only_word o ≡ Some w → o ≡ Some (Word w ∷ [])
only_is None w e = absurd (none_is_some w e)
only_is (Some []) w e = absurd (none_is_some w e)
only_is (Some (t ∷ [])) w e = ap (λ u. Some (u ∷ [])) (word_is t w e)
only_is (Some (t ∷ u ∷ ts)) w e = absurd (none_is_some w e)

-- a line whose only token is a keyword, by its only word
found : (k line : List ℕ) (h : IsOnly k line) → only_word (tokens_of line) ≡ Some h.word
found k line h = ap only_word ((tokens_are_spelled line (Word h.word ∷ [])).1 h.tokens)

made : (k line w : List ℕ) → only_word (tokens_of line) ≡ Some w → is_keyword k w ≡ true → IsOnly k line
made k line w e same = record { word = w; tokens = (tokens_are_spelled line (Word w ∷ [])).0 (only_is (tokens_of line) w e); same = same }

-- a line of another word, or of none
other : (k line w : List ℕ) → only_word (tokens_of line) ≡ Some w → is_keyword k w ≡ false → IsOnly k line → ⊥
other k line w e differs h =
    let same : w ≡ h.word = same_some w h.word (sym e ∙ found k line h) in
    false≢true (sym differs ∙ (ap (is_keyword k) same ∙ h.same))

none : (k line : List ℕ) → only_word (tokens_of line) ≡ None → IsOnly k line → ⊥
none k line e h = none_is_some h.word (sym e ∙ found k line h)

-- a word that is one keyword is no other
differ : (k l w : List ℕ) → is_keyword k w ≡ true → pointwise nat_eq (map to_ascii_lowercase k) (map to_ascii_lowercase l) ≡ false → is_keyword l w ≡ false
differ k l w e f =
    let same = (bytes_eq-Decides (map to_ascii_lowercase w) (map to_ascii_lowercase k)).0 e in
    ap (λ (bytes : List ℕ). pointwise nat_eq bytes (map to_ascii_lowercase l)) same ∙ f

begin_by : (w line : List ℕ) → is_keyword (codes "begin") w ≡ true → line_by (Some w) line ≡ Begin
begin_by w line h = cond-true (is_keyword (codes "begin") w) Begin
    (cond (is_keyword (codes "commit") w) Commit (cond (is_keyword (codes "abort") w) Abort (Cmd line))) h

behind_begin : (w line : List ℕ) → is_keyword (codes "begin") w ≡ false
    → line_by (Some w) line ≡ cond (is_keyword (codes "commit") w) Commit (cond (is_keyword (codes "abort") w) Abort (Cmd line))
behind_begin w line h = cond-false (is_keyword (codes "begin") w) Begin
    (cond (is_keyword (codes "commit") w) Commit (cond (is_keyword (codes "abort") w) Abort (Cmd line))) h

commit_by : (w line : List ℕ) → is_keyword (codes "begin") w ≡ false → is_keyword (codes "commit") w ≡ true → line_by (Some w) line ≡ Commit
commit_by w line b h = behind_begin w line b ∙ cond-true (is_keyword (codes "commit") w) Commit (cond (is_keyword (codes "abort") w) Abort (Cmd line)) h

behind_commit : (w line : List ℕ) → is_keyword (codes "begin") w ≡ false → is_keyword (codes "commit") w ≡ false
    → line_by (Some w) line ≡ cond (is_keyword (codes "abort") w) Abort (Cmd line)
behind_commit w line b h = behind_begin w line b ∙ cond-false (is_keyword (codes "commit") w) Commit (cond (is_keyword (codes "abort") w) Abort (Cmd line)) h

abort_by : (w line : List ℕ) → is_keyword (codes "begin") w ≡ false → is_keyword (codes "commit") w ≡ false → is_keyword (codes "abort") w ≡ true
    → line_by (Some w) line ≡ Abort
abort_by w line b c h = behind_commit w line b c ∙ cond-true (is_keyword (codes "abort") w) Abort (Cmd line) h

command_by : (w line : List ℕ) → is_keyword (codes "begin") w ≡ false → is_keyword (codes "commit") w ≡ false → is_keyword (codes "abort") w ≡ false
    → line_by (Some w) line ≡ Cmd line
command_by w line b c h = behind_commit w line b c ∙ cond-false (is_keyword (codes "abort") w) Abort (Cmd line) h

cases_word : (o : Option (List ℕ)) → (o ≡ None) ⊎ ((w : List ℕ) × (o ≡ Some w))
cases_word None = inl refl
cases_word (Some w) = inr (w, refl)

-- what is read of a line with one word is what it is
line_with : (line w : List ℕ) → only_word (tokens_of line) ≡ Some w → IsLine line (line_by (Some w) line)
line_with line w e = elim (cases_Bool (is_keyword (codes "begin") w)) [
  | inl b ↦ subst (IsLine line) (sym (begin_by w line b)) (made (codes "begin") line w e b)
  | inr b ↦ elim (cases_Bool (is_keyword (codes "commit") w)) [
    | inl c ↦ subst (IsLine line) (sym (commit_by w line b c)) (made (codes "commit") line w e c)
    | inr c ↦ elim (cases_Bool (is_keyword (codes "abort") w)) [
      | inl a ↦ subst (IsLine line) (sym (abort_by w line b c a)) (made (codes "abort") line w e a)
      | inr a ↦ subst (IsLine line) (sym (command_by w line b c a))
          (refl, other (codes "begin") line w e b, other (codes "commit") line w e c, other (codes "abort") line w e a)
    ]
  ]
]

is_line : (line : List ℕ) → IsLine line (line_of line)
unfolding line_of
is_line line = elim (cases_word (only_word (tokens_of line))) [
  | inl e ↦ subst (λ o. IsLine line (line_by o line)) (sym e)
      (refl, none (codes "begin") line e, none (codes "commit") line e, none (codes "abort") line e)
  | inr e ↦ subst (λ o. IsLine line (line_by o line)) (sym e.1) (line_with line e.0 e.1)
]

-- and nothing else
command_with : (line w : List ℕ) → only_word (tokens_of line) ≡ Some w → (IsOnly (codes "begin") line → ⊥) → (IsOnly (codes "commit") line → ⊥)
    → (IsOnly (codes "abort") line → ⊥) → line_by (Some w) line ≡ Cmd line
command_with line w e no_begin no_commit no_abort = elim (cases_Bool (is_keyword (codes "begin") w)) [
  | inl b ↦ absurd (no_begin (made (codes "begin") line w e b))
  | inr b ↦ elim (cases_Bool (is_keyword (codes "commit") w)) [
    | inl c ↦ absurd (no_commit (made (codes "commit") line w e c))
    | inr c ↦ elim (cases_Bool (is_keyword (codes "abort") w)) [
      | inl a ↦ absurd (no_abort (made (codes "abort") line w e a))
      | inr a ↦ command_by w line b c a
    ]
  ]
]

only_line : (line : List ℕ) (l : Line) → IsLine line l → line_of line ≡ l
unfolding line_of
only_line line Begin h = ap (λ o. line_by o line) (found (codes "begin") line h) ∙ begin_by h.word line h.same
only_line line Commit h = ap (λ o. line_by o line) (found (codes "commit") line h)
    ∙ commit_by h.word line (differ (codes "commit") (codes "begin") h.word h.same refl) h.same
only_line line Abort h = ap (λ o. line_by o line) (found (codes "abort") line h)
    ∙ abort_by h.word line (differ (codes "abort") (codes "begin") h.word h.same refl) (differ (codes "abort") (codes "commit") h.word h.same refl) h.same
only_line line (Cmd bytes) h = elim (cases_word (only_word (tokens_of line))) [
  | inl e ↦ ap (λ o. line_by o line) e ∙ ap Cmd (sym h.0)
  | inr e ↦ ap (λ o. line_by o line) e.1 ∙ (command_with line e.0 e.1 h.1 h.2 h.3 ∙ ap Cmd (sym h.0))
]

pub lines_are_read : LinesAreRead
lines_are_read line l = (λ e. subst (IsLine line) e (is_line line), only_line line l)
