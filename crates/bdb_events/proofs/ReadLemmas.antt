-- What a piece is, in the words of its parts.
use Rattle.std.proofs.Common.{◌≡◌, ◌∙◌, ◌⊎◌, ℕ, ◌<◌, Option, Some, None, List, [], ◌∷◌, refl, ap, sym, subst, inl, inr}
use Rattle.bdb_lex.specs.Reading.{behind_gaps}
use Rattle.bdb_lex.specs.TokenGrammar.{IsLastGap}
use Rattle.bdb_multi.specs.Sessions.{sessions}
use Rattle.bdb_multi.specs.declared.kinds.Event.{Event}
use Rattle.bdb_events.specs.declared.read.Read.{Read}
use Rattle.bdb_events.specs.Pieces.{Numbered, numbered, line_of, read_line, read_form, read_behind}
use Rattle.bdb_events.specs.Forms.{HasForm, IsReadAs, PiecesAreRead, NamesSession}
use Rattle.bdb_events.proofs.GapLemmas.{nothing_is_gaps}
use Rattle.bdb_events.proofs.FormLemmas.{forms_are_read}

cases_option : (o : Option Numbered) → (o ≡ None) ⊎ ((f : Numbered) × (o ≡ Some f))
cases_option None = inl refl
cases_option (Some f) = inr (f, refl)

cases_bytes : (bytes : List ℕ) → (bytes ≡ []) ⊎ ((b : ℕ) × (rest : List ℕ) × (bytes ≡ b ∷ rest))
cases_bytes [] = inl refl
cases_bytes (b ∷ rest) = inr (b, rest, refl)

no_nil : (b : ℕ) (rest bytes : List ℕ) → bytes ≡ b ∷ rest → bytes ≡ [] → ⊥
no_nil b rest bytes e h = cc

no_form : (o : Option Numbered) (f : Numbered) → o ≡ None → o ≡ Some f → ⊥
no_form o f e h = cc

-- what is read of what has a form
read_some : (bytes : List ℕ) (f : Numbered) → numbered bytes ≡ Some f → read_behind bytes ≡ read_line f (behind_gaps f.line)
read_some [] f e = absurd (no_form None f refl e)
read_some (b ∷ bytes) f e = ap read_form e

some_read : (bytes : List ℕ) (f : Numbered) → HasForm bytes f → read_behind (behind_gaps bytes) ≡ read_line f (behind_gaps f.line)
some_read bytes f h = read_some (behind_gaps bytes) f ((forms_are_read bytes f).1 h)

-- what is read is what the piece is
is_line : (bytes : List ℕ) (f : Numbered) → HasForm bytes f → IsReadAs bytes (read_line f (behind_gaps f.line))
is_line bytes f h = elim (cases_bytes (behind_gaps f.line)) [
  | inl none ↦
      let gap : IsLastGap f.line = (nothing_is_gaps f.line).0 none in
      subst (λ rest. IsReadAs bytes (read_line f rest)) (sym none) (f, h, gap, refl)
  | inr some ↦
      let not_gap : IsLastGap f.line → ⊥ = λ gap. no_nil some.0 some.1 (behind_gaps f.line) some.2 ((nothing_is_gaps f.line).1 gap) in
      subst (λ rest. IsReadAs bytes (read_line f rest)) (sym some.2) (f, h, not_gap, refl)
]

is_form : (bytes : List ℕ) (b : ℕ) (rest : List ℕ) → behind_gaps bytes ≡ b ∷ rest → IsReadAs bytes (read_form (numbered (behind_gaps bytes)))
is_form bytes b rest left = elim (cases_option (numbered (behind_gaps bytes))) [
  | inl none ↦
      let not_gap : IsLastGap bytes → ⊥ = λ gap. no_nil b rest (behind_gaps bytes) left ((nothing_is_gaps bytes).1 gap) in
      let not_form : (f : Numbered) → HasForm bytes f → ⊥ = λ f h. no_form (numbered (behind_gaps bytes)) f none ((forms_are_read bytes f).1 h) in
      subst (λ o. IsReadAs bytes (read_form o)) (sym none) (not_gap, not_form)
  | inr some ↦ subst (λ o. IsReadAs bytes (read_form o)) (sym some.1) (is_line bytes some.0 ((forms_are_read bytes some.0).0 some.1))
]

is_piece : (bytes : List ℕ) → IsReadAs bytes (read_behind (behind_gaps bytes))
is_piece bytes = elim (cases_bytes (behind_gaps bytes)) [
  | inl none ↦
      let gap : IsLastGap bytes = (nothing_is_gaps bytes).0 none in
      subst (λ rest. IsReadAs bytes (read_behind rest)) (sym none) gap
  | inr some ↦
      let form : IsReadAs bytes (read_form (numbered (some.0 ∷ some.1))) =
      subst (λ rest. IsReadAs bytes (read_form (numbered rest))) some.2 (is_form bytes some.0 some.1 some.2) in
      subst (λ rest. IsReadAs bytes (read_behind rest)) (sym some.2) form
]

-- and nothing else
reads_nothing : (bytes : List ℕ) → (behind_gaps bytes ≡ [] → ⊥) → numbered (behind_gaps bytes) ≡ None → read_behind (behind_gaps bytes) ≡ Read.NoSession
reads_nothing bytes some none = elim (cases_bytes (behind_gaps bytes)) [
  | inl e ↦ absurd (some e)
  | inr e ↦ ap read_behind e.2 ∙ ap read_form (ap numbered (sym e.2) ∙ none)
]

form_or_none : (bytes : List ℕ) → ((f : Numbered) → HasForm bytes f → ⊥) → numbered (behind_gaps bytes) ≡ None
form_or_none bytes none = elim (cases_option (numbered (behind_gaps bytes))) [
  | inl e ↦ e
  | inr e ↦ absurd (none e.0 ((forms_are_read bytes e.0).0 e.1))
]

event_read : (f : Numbered) → (IsLastGap f.line → ⊥) → read_line f (behind_gaps f.line) ≡ Read.Event (record { session = f.session; line = line_of f.line })
event_read f some = elim (cases_bytes (behind_gaps f.line)) [
  | inl e ↦ absurd (some ((nothing_is_gaps f.line).0 e))
  | inr e ↦ ap (read_line f) e.2
]

only_read : (bytes : List ℕ) (r : Read) → IsReadAs bytes r → read_behind (behind_gaps bytes) ≡ r
only_read bytes Read.Nothing h = ap read_behind ((nothing_is_gaps bytes).1 h)
only_read bytes Read.Long h = absurd h
only_read bytes Read.NoSession h = reads_nothing bytes (λ e. h.0 ((nothing_is_gaps bytes).0 e)) (form_or_none bytes h.1)
only_read bytes (Read.NoLine n) h =
    some_read bytes h.0 h.1 ∙ (ap (read_line h.0) ((nothing_is_gaps h.0.line).1 h.2) ∙ ap Read.NoLine (sym h.3))
only_read bytes (Read.Event e) h = some_read bytes h.0 h.1 ∙ (event_read h.0 h.2 ∙ ap Read.Event (sym h.3))

pub pieces_are_read : PiecesAreRead
pieces_are_read bytes r = (λ e. subst (IsReadAs bytes) e (is_piece bytes), only_read bytes r)

-- a session that there is
known_by : (bytes : List ℕ) (r : Read) → IsReadAs bytes r → NamesSession r
known_by bytes Read.Nothing h = tt
known_by bytes Read.Long h = tt
known_by bytes Read.NoSession h = tt
known_by bytes (Read.NoLine n) h = subst (λ m. m < sessions) (sym h.3) h.1.known
known_by bytes (Read.Event e) h = subst (λ x. x.session < sessions) (sym h.3) h.1.known

pub names_session : (bytes : List ℕ) (r : Read) → r ≡ read_behind (behind_gaps bytes) → NamesSession r
names_session bytes r e = known_by bytes r (subst (IsReadAs bytes) (sym e) (is_piece bytes))
