-- The number of a session, and its line.
use Rattle.std.proofs.Common.{◌≡◌, ◌∙◌, ℕ, ◌+◌, ◌-◌, ◌*◌, ◌<◌, true, false, ◌&&◌, nat_eq, nat_lt, cond, Some, None, List, [], ◌∷◌, ◌++◌, refl, ap, sym, subst, inl, inr}
use Rattle.std.specs.List.{list_all}
use Rattle.std.specs.Char.{is_ascii_digit}
use Rattle.std.proofs.lemmas.Bool.{cases_Bool, and_parts, and_from, and_left, or_from, cond-true, cond-false, ltb-true, lt-ltb, false≢true}
use Rattle.bdb_base.specs.Letters.{is_blank}
use Rattle.bdb_lex.specs.Reading.{begins, begins_gap, behind_gaps}
use Rattle.bdb_lex.proofs.TokenLemmas.{no_blank, blank_is, digit_no_dash}
use Rattle.bdb_multi.specs.Sessions.{sessions}
use Rattle.bdb_events.specs.Pieces.{behind_blanks, digit_of, Numbered, numbered_by, behind_number, behind_second, behind_first, numbered}
use Rattle.bdb_events.specs.Forms.{IsNumber, is_blanks, HasForm, FormsAreRead}
use Rattle.bdb_lex.proofs.GapLemmas.{nothing_passed}
use Rattle.bdb_events.proofs.GapLemmas.{gap_before, gap_passed}

-- the blanks at the front
abbrev pub blanks_of : List ℕ → List ℕ
blanks_of [] = []
blanks_of (b ∷ bytes) = cond (is_blank b) (b ∷ blanks_of bytes) []

blanks_parts : (bytes : List ℕ) → bytes ≡ blanks_of bytes ++ behind_blanks bytes
blanks_parts [] = refl
blanks_parts (b ∷ bytes) = elim (cases_Bool (is_blank b)) [
  | inl h ↦ ap (λ v. b ∷ v) (blanks_parts bytes)
      ∙ (ap (λ v. v ++ behind_blanks bytes) (sym (cond-true (is_blank b) (b ∷ blanks_of bytes) [] h))
      ∙ ap (λ v. blanks_of (b ∷ bytes) ++ v) (sym (cond-true (is_blank b) (behind_blanks bytes) (b ∷ bytes) h)))
  | inr h ↦ sym (cond-false (is_blank b) (behind_blanks bytes) (b ∷ bytes) h)
      ∙ ap (λ v. v ++ behind_blanks (b ∷ bytes)) (sym (cond-false (is_blank b) (b ∷ blanks_of bytes) [] h))
]

blanks_all : (bytes : List ℕ) → list_all is_blank (blanks_of bytes) ≡ true
blanks_all [] = refl
blanks_all (b ∷ bytes) = elim (cases_Bool (is_blank b)) [
  | inl h ↦ ap (list_all is_blank) (cond-true (is_blank b) (b ∷ blanks_of bytes) [] h) ∙ and_from (is_blank b) (list_all is_blank (blanks_of bytes)) h (blanks_all bytes)
  | inr h ↦ ap (list_all is_blank) (cond-false (is_blank b) (b ∷ blanks_of bytes) [] h)
]

blanks_some : (bytes : List ℕ) → begins is_blank bytes ≡ true → is_blanks (blanks_of bytes) ≡ true
blanks_some [] h = absurd (false≢true h)
blanks_some (b ∷ bytes) h =
    let made : blanks_of (b ∷ bytes) ≡ b ∷ blanks_of bytes = cond-true (is_blank b) (b ∷ blanks_of bytes) [] h in
    and_from (begins is_blank (blanks_of (b ∷ bytes))) (list_all is_blank (blanks_of (b ∷ bytes))) (ap (begins is_blank) made ∙ h) (blanks_all (b ∷ bytes))

blanks_end : (bytes : List ℕ) → begins is_blank (behind_blanks bytes) ≡ false
blanks_end [] = refl
blanks_end (b ∷ bytes) = elim (cases_Bool (is_blank b)) [
  | inl h ↦ ap (begins is_blank) (cond-true (is_blank b) (behind_blanks bytes) (b ∷ bytes) h) ∙ blanks_end bytes
  | inr h ↦ ap (begins is_blank) (cond-false (is_blank b) (behind_blanks bytes) (b ∷ bytes) h) ∙ h
]

-- blanks are passed
stays : (line : List ℕ) → begins is_blank line ≡ false → behind_blanks line ≡ line
stays [] h = refl
stays (b ∷ line) h = cond-false (is_blank b) (behind_blanks line) (b ∷ line) h

blanks_passed : (blanks line : List ℕ) → list_all is_blank blanks ≡ true → begins is_blank line ≡ false → behind_blanks (blanks ++ line) ≡ line
blanks_passed [] line all h = stays line h
blanks_passed (b ∷ blanks) line all h =
    let parts = and_parts (is_blank b) (list_all is_blank blanks) all in
    cond-true (is_blank b) (behind_blanks (blanks ++ line)) (b ∷ (blanks ++ line)) parts.0 ∙ blanks_passed blanks line parts.1 h

-- the bytes are a number of a session, blanks, and the line
pub record Front (bytes : List ℕ) (f : Numbered) : Type 0 where
  pub digits : List ℕ
  pub blanks : List ℕ
  pub parts : bytes ≡ digits ++ (blanks ++ f.line)
  pub number : IsNumber digits f.session
  pub known : f.session < sessions
  pub some : is_blanks blanks ≡ true
  pub first : begins is_blank f.line ≡ false

some_is : (f g : Numbered) → Some f ≡ Some g → f ≡ g
some_is f g e = cc

none_some : (f : Numbered) → None ≡ Some f → ⊥
none_some f e = cc

-- behind the digits
behind_front : (digits : List ℕ) (n : ℕ) (bytes : List ℕ) (f : Numbered) → IsNumber digits n → behind_number n bytes ≡ Some f → Front (digits ++ bytes) f
behind_front digits n bytes f is e = elim (cases_Bool (nat_lt n sessions && begins is_blank bytes)) [
  | inl h ↦
      let parts = and_parts (nat_lt n sessions) (begins is_blank bytes) h in
      let same : numbered_by n (behind_blanks bytes) ≡ f = some_is (numbered_by n (behind_blanks bytes)) f
      (sym (cond-true (nat_lt n sessions && begins is_blank bytes) (Some (numbered_by n (behind_blanks bytes))) None h) ∙ e) in
      subst (Front (digits ++ bytes)) same record {
        digits = digits;
        blanks = blanks_of bytes;
        parts = ap (λ v. digits ++ v) (blanks_parts bytes);
        number = is;
        known = ltb-true n sessions parts.0;
        some = blanks_some bytes parts.1;
        first = blanks_end bytes;
      }
  | inr h ↦ absurd (none_some f (sym (cond-false (nat_lt n sessions && begins is_blank bytes) (Some (numbered_by n (behind_blanks bytes))) None h) ∙ e))
]

digit_is : (b : ℕ) → is_ascii_digit b ≡ true → digit_of b ≡ Some (b - 48)
digit_is b h = cond-true (is_ascii_digit b) (Some (b - 48)) None h

no_digit : (b : ℕ) → is_ascii_digit b ≡ false → digit_of b ≡ None
no_digit b h = cond-false (is_ascii_digit b) (Some (b - 48)) None h

front_of : (bytes : List ℕ) (f : Numbered) → numbered bytes ≡ Some f → Front bytes f
front_of [] f e = absurd (none_some f e)
front_of (a ∷ []) f e = elim (cases_Bool (is_ascii_digit a)) [
  | inl h ↦ absurd (none_some f (sym (ap (λ o. behind_first o []) (digit_is a h)) ∙ e))
  | inr h ↦ absurd (none_some f (sym (ap (λ o. behind_first o []) (no_digit a h)) ∙ e))
]
front_of (a ∷ b ∷ bytes) f e = elim (cases_Bool (is_ascii_digit a)) [
  | inl h ↦
      let one : behind_second (a - 48) (digit_of b) b bytes ≡ Some f = sym (ap (λ o. behind_first o (b ∷ bytes)) (digit_is a h)) ∙ e in
      elim (cases_Bool (is_ascii_digit b)) [
        | inl k ↦ behind_front (a ∷ b ∷ []) (10 * (a - 48) + (b - 48)) bytes f (h, k, refl)
            (sym (ap (λ o. behind_second (a - 48) o b bytes) (digit_is b k)) ∙ one)
        | inr k ↦ behind_front (a ∷ []) (a - 48) (b ∷ bytes) f (h, refl) (sym (ap (λ o. behind_second (a - 48) o b bytes) (no_digit b k)) ∙ one)
      ]
  | inr h ↦ absurd (none_some f (sym (ap (λ o. behind_first o (b ∷ bytes)) (no_digit a h)) ∙ e))
]

-- and back
blank_no_digit : (b : ℕ) → is_blank b ≡ true → is_ascii_digit b ≡ false
blank_no_digit b h = blank_is is_ascii_digit b h refl refl refl refl

number_read : (n : ℕ) (blanks line : List ℕ) → n < sessions → is_blanks blanks ≡ true → begins is_blank line ≡ false
    → behind_number n (blanks ++ line) ≡ Some (numbered_by n line)
number_read n [] line lt some h = absurd (false≢true some)
number_read n (b ∷ blanks) line lt some h =
    let parts = and_parts (is_blank b) (list_all is_blank (b ∷ blanks)) some in
    cond-true (nat_lt n sessions && is_blank b) (Some (numbered_by n (behind_blanks (b ∷ (blanks ++ line))))) None
    (and_from (nat_lt n sessions) (is_blank b) (lt-ltb n sessions lt) parts.0)
    ∙ ap (λ v. Some (numbered_by n v)) (blanks_passed (b ∷ blanks) line parts.1 h)

digits_read : (digits blanks line : List ℕ) (n : ℕ) → IsNumber digits n → n < sessions → is_blanks blanks ≡ true → begins is_blank line ≡ false
    → numbered (digits ++ (blanks ++ line)) ≡ Some (numbered_by n line)
digits_read [] blanks line n is lt some h = absurd is
digits_read (a ∷ []) [] line n is lt some h = absurd (false≢true some)
digits_read (a ∷ []) (b ∷ blanks) line n is lt some h =
    let parts = and_parts (is_blank b) (list_all is_blank (b ∷ blanks)) some in
    ap (λ o. behind_first o (b ∷ (blanks ++ line))) (digit_is a is.0)
    ∙ (ap (λ o. behind_second (a - 48) o b (blanks ++ line)) (no_digit b (blank_no_digit b parts.0))
    ∙ (ap (λ m. behind_number m (b ∷ (blanks ++ line))) (sym is.1) ∙ number_read n (b ∷ blanks) line lt some h))
digits_read (a ∷ b ∷ []) blanks line n is lt some h =
    ap (λ o. behind_first o (b ∷ (blanks ++ line))) (digit_is a is.0)
    ∙ (ap (λ o. behind_second (a - 48) o b (blanks ++ line)) (digit_is b is.1)
    ∙ (ap (λ m. behind_number m (blanks ++ line)) (sym is.2) ∙ number_read n blanks line lt some h))
digits_read (a ∷ b ∷ c ∷ bytes) blanks line n is lt some h = absurd is

digit_no_gap : (b : ℕ) (bytes : List ℕ) → is_ascii_digit b ≡ true → begins_gap (b ∷ bytes) ≡ false
digit_no_gap b bytes h = or_from (is_blank b) (nat_eq b 45 && begins (λ c. nat_eq c 45) bytes)
    (no_blank is_ascii_digit b h refl refl refl refl)
    (and_left (nat_eq b 45) (begins (λ c. nat_eq c 45) bytes) (digit_no_dash b h))

number_no_gap : (digits rest : List ℕ) (n : ℕ) → IsNumber digits n → begins_gap (digits ++ rest) ≡ false
number_no_gap [] rest n is = absurd is
number_no_gap (a ∷ []) rest n is = digit_no_gap a rest is.0
number_no_gap (a ∷ b ∷ []) rest n is = digit_no_gap a (b ∷ rest) is.0
number_no_gap (a ∷ b ∷ c ∷ bytes) rest n is = absurd is

-- something is left where a number is read
left : (bytes : List ℕ) (f : Numbered) → numbered bytes ≡ Some f → (x : ℕ) × (xs : List ℕ) × (bytes ≡ x ∷ xs)
left [] f e = absurd (none_some f e)
left (x ∷ xs) f e = (x, xs, refl)

has_form : (bytes : List ℕ) (f : Numbered) → numbered (behind_gaps bytes) ≡ Some f → HasForm bytes f
has_form bytes f e =
    let some = left (behind_gaps bytes) f e in
    let g = gap_before bytes some.0 some.1 some.2 in
    let front = front_of (behind_gaps bytes) f e in
    record {
      gap = g.gap;
      digits = front.digits;
      blanks = front.blanks;
      parts = g.whole ∙ ap (λ v. g.gap ++ v) front.parts;
      between = g.between;
      number = front.number;
      known = front.known;
      some = front.some;
      first = front.first;
    }

is_read : (bytes : List ℕ) (f : Numbered) → HasForm bytes f → numbered (behind_gaps bytes) ≡ Some f
is_read bytes f h =
    let rest = h.digits ++ (h.blanks ++ f.line) in
    ap (λ v. numbered (behind_gaps v)) h.parts
    ∙ (ap numbered (gap_passed h.gap rest h.between)
    ∙ (ap numbered (nothing_passed rest (number_no_gap h.digits (h.blanks ++ f.line) f.session h.number))
    ∙ digits_read h.digits h.blanks f.line f.session h.number h.known h.some h.first))

pub forms_are_read : FormsAreRead
forms_are_read bytes f = (has_form bytes f, is_read bytes f)
