-- How tokens are read from their spelling.
use Rattle.std.proofs.Common.{◌≡◌, ℕ, suc, zero, ◌<◌, ◌≤◌, lit<, take, drop, length-take, length-drop, length-append, Bool, true, false, ◌&&◌, ◌||◌, nat_eq, nat_le, List, [], ◌∷◌, ◌++◌, length, Option, Some, None, Err, refl, sym, ap, ◌∙◌, arith, append_assoc, inl, inr}
use Rattle.std.proofs.lemmas.Bool.{false≢true, and_parts, or_cases, cond-true, cond-false, cases_Bool, eqb-true, or_left, or_right, or_parts, and_from, lt-leb, le-leb, not-true}
use Rattle.std.proofs.lemmas.Bool.Decides.{nat_tests}
use Rattle.std.proofs.lemmas.List.{append-nil, take-append-drop}
use Rattle.std.proofs.lemmas.Str.{is_utf8-from_IsUtf8, IsUtf8-from_ascii}
use Rattle.std.specs.Str.{IsAscii, is_utf8}
use Rattle.std.specs.List.{list_all}
use Rattle.std.specs.Result.{IsErrOf}
use Rattle.std.specs.Char.{is_ascii_digit}
use Rattle.bdb_base.specs.Bases.{is_clean}
use Rattle.bdb_base.specs.Letters.{is_blank, is_letter, is_word_byte}
use Rattle.bdb_lex.specs.declared.token.Token.{Token}
use Rattle.bdb_lex.specs.declared.token.Token.TheVariants.{Word, Text, Num, Ne}
use Rattle.bdb_lex.specs.Tokens.{started, extended, finished, joined, tokens_from, tokens_of}
use Rattle.bdb_lex.specs.Tokens.Reading.{between, whole, in_text, after_dash, after_bang, failed}
use Rattle.bdb_lex.specs.Reading.{begins, is_digits, is_num, is_word, begins_gap, is_no_quote, begins_num, IsSingle, Reads, ReadsOn, IsParted}

pub joined_nothing : (x : Option (List Token)) → joined (Some []) x ≡ x
joined_nothing None = refl
joined_nothing (Some ts) = refl

pub joined_done : (x : Option (List Token)) → joined x (Some []) ≡ x
joined_done None = refl
joined_done (Some ts) = ap Some (append-nil ts)

pub joined_more : (a b : List Token) (x : Option (List Token)) → joined (Some a) (joined (Some b) x) ≡ joined (Some (a ++ b)) x
joined_more a b None = refl
joined_more a b (Some ts) = ap Some (sym (append_assoc a b ts))

pub tokens_failed : (bytes : List ℕ) → tokens_from failed bytes ≡ None
tokens_failed [] = refl
tokens_failed (b ∷ bytes) = ap (joined (Some [])) (tokens_failed bytes)

-- the first byte starts a reading
pub tokens_at : (b : ℕ) (bytes : List ℕ) → tokens_of (b ∷ bytes) ≡ tokens_from (started b) bytes
tokens_at b bytes = joined_nothing _

-- a token doesn't go on with these bytes
abbrev pub StopsAt : Token → List ℕ → Type 0
StopsAt t [] = Unit {0}
StopsAt t (b ∷ bytes) = extended t b ≡ None

pub stops : (t : Token) (rest : List ℕ) → StopsAt t rest → tokens_from (whole t) rest ≡ joined (finished (whole t)) (tokens_of rest)
stops t [] h = sym (joined_done _)
stops t (b ∷ bytes) h = rw h (ap (joined (finished (whole t))) (sym (tokens_at b bytes)))

-- a run of bytes that a token goes on with
pub run_on : (make : List ℕ → Token) (test : ℕ → Bool)
    → ((w : List ℕ) (b : ℕ) → test b ≡ true → extended (make w) b ≡ Some (whole (make (w ++ b ∷ []))))
    → (w a rest : List ℕ) → list_all test a ≡ true → tokens_from (whole (make w)) (a ++ rest) ≡ tokens_from (whole (make (w ++ a))) rest
run_on make test on w [] rest h = ap (λ v. tokens_from (whole (make v)) rest) (sym (append-nil w))
run_on make test on w (b ∷ a) rest h =
    let parts = and_parts (test b) (list_all test a) h in
    let e : extended (make w) b ≡ Some (whole (make (w ++ b ∷ []))) = on w b parts.0 in
    rw e (joined_nothing _ ∙ (run_on make test on (w ++ b ∷ []) a rest parts.1
    ∙ ap (λ v. tokens_from (whole (make v)) rest) (append_assoc w (b ∷ []) a)))

-- what a blank isn't
pub blank_is : (test : ℕ → Bool) (b : ℕ) → is_blank b ≡ true → test 32 ≡ false → test 9 ≡ false → test 10 ≡ false → test 13 ≡ false → test b ≡ false
blank_is test b h t32 t9 t10 t13 = elim (or_cases (nat_eq b 32 || nat_eq b 9 || nat_eq b 10) (nat_eq b 13) h) [
  | inl h' ↦ elim (or_cases (nat_eq b 32 || nat_eq b 9) (nat_eq b 10) h') [
    | inl h'' ↦ elim (or_cases (nat_eq b 32) (nat_eq b 9) h'') [
      | inl e ↦ ap test (eqb-true b 32 e) ∙ t32
      | inr e ↦ ap test (eqb-true b 9 e) ∙ t9
    ]
    | inr e ↦ ap test (eqb-true b 10 e) ∙ t10
  ]
  | inr e ↦ ap test (eqb-true b 13 e) ∙ t13
]

-- a test that no blank passes
pub no_blank : (test : ℕ → Bool) (b : ℕ) → test b ≡ true → test 32 ≡ false → test 9 ≡ false → test 10 ≡ false → test 13 ≡ false → is_blank b ≡ false
no_blank test b h t32 t9 t10 t13 = elim (cases_Bool (is_blank b)) [
  | inl e ↦ absurd (false≢true (sym (blank_is test b e t32 t9 t10 t13) ∙ h))
  | inr e ↦ e
]

pub digit_no_letter : (b : ℕ) → is_ascii_digit b ≡ true → is_letter b ≡ false
digit_no_letter b h = grind (arith, nat_tests)

pub started_blank : (b : ℕ) → is_blank b ≡ true → started b ≡ between
started_blank b e = rw e refl

pub started_letter : (b : ℕ) → is_letter b ≡ true → started b ≡ whole (Word (b ∷ []))
started_letter b e = let blank : is_blank b ≡ false = no_blank is_letter b e refl refl refl refl in rw (blank, e) refl

pub started_digit : (b : ℕ) → is_ascii_digit b ≡ true → started b ≡ whole (Num (b ∷ []))
started_digit b e =
    let blank : is_blank b ≡ false = no_blank is_ascii_digit b e refl refl refl refl in
    let letter : is_letter b ≡ false = digit_no_letter b e in
    rw (blank, letter, e) refl

pub word_stops : (w rest : List ℕ) → begins is_word_byte rest ≡ false → StopsAt (Word w) rest
word_stops w [] h = tt
word_stops w (b ∷ rest) h = rw h refl

pub num_stops : (n rest : List ℕ) → begins is_ascii_digit rest ≡ false → StopsAt (Num n) rest
num_stops n [] h = tt
num_stops n (b ∷ rest) h = rw h refl

-- a word with its end
pub spelled_word : (a rest : List ℕ) → is_word a ≡ true → begins is_word_byte rest ≡ false
    → tokens_of (a ++ rest) ≡ joined (finished (whole (Word a))) (tokens_of rest)
spelled_word [] rest h end = absurd (false≢true h)
spelled_word (b ∷ a) rest h end =
    let parts = and_parts (is_letter b) (list_all is_word_byte (b ∷ a)) h in
    let all = and_parts (is_word_byte b) (list_all is_word_byte a) parts.1 in
    tokens_at b (a ++ rest) ∙ (ap (λ r. tokens_from r (a ++ rest)) (started_letter b parts.0)
    ∙ (run_on Word is_word_byte (λ w c e. rw e refl) (b ∷ []) a rest all.1 ∙ stops (Word (b ∷ a)) rest (word_stops (b ∷ a) rest end)))

-- bytes by their front and the rest
pub parts_are : (len : ℕ) (bytes : List ℕ) → tokens_of (take len bytes ++ drop len bytes) ≡ tokens_of bytes
parts_are len bytes = ap tokens_of (take-append-drop len bytes)

pub word_nonempty : (len : ℕ) (bytes : List ℕ) → begins is_letter bytes ≡ true → begins is_word_byte (drop len bytes) ≡ false → 0 < len
word_nonempty len [] h end = absurd (false≢true h)
word_nonempty zero (b ∷ bytes) h end = absurd (false≢true (sym end ∙ or_left (is_letter b) (is_ascii_digit b) h))
word_nonempty (suc len) (b ∷ bytes) h end = omega arith

pub begins_taken : (test : ℕ → Bool) (len : ℕ) (bytes : List ℕ) → 0 < len → begins test bytes ≡ true → begins test (take len bytes) ≡ true
begins_taken test len [] lt h = absurd (false≢true h)
begins_taken test zero (b ∷ bytes) lt h = absurd (omega arith)
begins_taken test (suc len) (b ∷ bytes) lt h = h

-- what the word at the front is read as
pub word_read : (len : ℕ) (bytes : List ℕ) → begins is_letter bytes ≡ true → list_all is_word_byte (take len bytes) ≡ true
    → begins is_word_byte (drop len bytes) ≡ false
    → tokens_of bytes ≡ joined (finished (whole (Word (take len bytes)))) (tokens_of (drop len bytes))
word_read len bytes h all end =
    let first : begins is_letter (take len bytes) ≡ true = begins_taken is_letter len bytes (word_nonempty len bytes h end) h in
    sym (parts_are len bytes) ∙ spelled_word (take len bytes) (drop len bytes) (and_from _ _ first all) end

pub word_too_long : (w : List ℕ) → 255 < length w → finished (whole (Word w)) ≡ None
word_too_long w h = let e : nat_le (length w) 255 ≡ false = lt-leb (length w) 255 h in cond-false _ _ _ e

pub word_allowed : (w : List ℕ) → length w ≤ 255 → finished (whole (Word w)) ≡ Some (Word w ∷ [])
word_allowed w h = let e : nat_le (length w) 255 ≡ true = le-leb (length w) 255 h in cond-true _ _ _ e

pub word_fails : (len : ℕ) (bytes : List ℕ) → len ≤ length bytes → begins is_letter bytes ≡ true → list_all is_word_byte (take len bytes) ≡ true
    → begins is_word_byte (drop len bytes) ≡ false → 255 < len → tokens_of bytes ≡ None
word_fails len bytes bound h all end long =
    word_read len bytes h all end ∙ ap (λ x. joined x (tokens_of (drop len bytes))) (word_too_long (take len bytes) (omega (arith, length-take len bytes)))

pub word_reads : (len : ℕ) (bytes text front rest : List ℕ) → len ≤ length bytes → begins is_letter bytes ≡ true
    → list_all is_word_byte (take len bytes) ≡ true → begins is_word_byte (drop len bytes) ≡ false → len ≤ 255
    → text ≡ front → front ≡ take len bytes → rest ≡ drop len bytes → Reads bytes (Word text) rest
word_reads len bytes text front rest bound h all end short e f g =
    let some = word_nonempty len bytes h end in
    rw (e, f, g) record {
      tokens = word_read len bytes h all end
          ∙ ap (λ x. joined x (tokens_of (drop len bytes))) (word_allowed (take len bytes) (omega (arith, length-take len bytes)));
      shorter = omega (arith, length-drop len bytes, some);
    }

-- bytes of a test that only ASCII passes are UTF-8
pub ascii_from : (test : ℕ → Bool) → ((b : ℕ) → test b ≡ true → b < 128) → (a : List ℕ) → list_all test a ≡ true → IsAscii a
ascii_from test low [] h i = lit< tt
ascii_from test low (b ∷ a) h zero = low b (and_parts (test b) (list_all test a) h).0
ascii_from test low (b ∷ a) h (suc i) = ascii_from test low a (and_parts (test b) (list_all test a) h).1 i

pub utf8_from : (test : ℕ → Bool) → ((b : ℕ) → test b ≡ true → b < 128) → (a : List ℕ) → list_all test a ≡ true → is_utf8 a ≡ true
utf8_from test low a h = is_utf8-from_IsUtf8 a (IsUtf8-from_ascii a (ascii_from test low a h))

pub word_byte_low : (b : ℕ) → is_word_byte b ≡ true → b < 128
word_byte_low b h = grind (arith, nat_tests)

pub num_byte_low : (b : ℕ) → (is_ascii_digit b || nat_eq b 45) ≡ true → b < 128
num_byte_low b h = grind (arith, nat_tests)

pub digit_no_dash : (b : ℕ) → is_ascii_digit b ≡ true → nat_eq b 45 ≡ false
digit_no_dash b h = grind (arith, nat_tests)

-- a number with its end
pub spelled_dashed : (a rest : List ℕ) → is_digits a ≡ true → begins is_ascii_digit rest ≡ false
    → tokens_of (45 ∷ (a ++ rest)) ≡ joined (Some (Num (45 ∷ a) ∷ [])) (tokens_of rest)
spelled_dashed [] rest h end = absurd (false≢true h)
spelled_dashed (d ∷ a) rest h end =
    let parts = and_parts (is_ascii_digit d) (list_all is_ascii_digit (d ∷ a)) h in
    let all = and_parts (is_ascii_digit d) (list_all is_ascii_digit a) parts.1 in
    let dash : nat_eq d 45 ≡ false = digit_no_dash d parts.0 in
    let digit : is_ascii_digit d ≡ true = parts.0 in
    let second : tokens_from after_dash (d ∷ (a ++ rest)) ≡ tokens_from (whole (Num (45 ∷ d ∷ []))) (a ++ rest) =
    rw (dash, digit) (joined_nothing _) in
    tokens_at 45 (d ∷ (a ++ rest)) ∙ (second
    ∙ (run_on Num is_ascii_digit (λ w c e. rw e refl) (45 ∷ d ∷ []) a rest all.1 ∙ stops (Num (45 ∷ d ∷ a)) rest (num_stops (45 ∷ d ∷ a) rest end)))

pub spelled_digits : (a rest : List ℕ) → is_digits a ≡ true → begins is_ascii_digit rest ≡ false
    → tokens_of (a ++ rest) ≡ joined (Some (Num a ∷ [])) (tokens_of rest)
spelled_digits [] rest h end = absurd (false≢true h)
spelled_digits (d ∷ a) rest h end =
    let parts = and_parts (is_ascii_digit d) (list_all is_ascii_digit (d ∷ a)) h in
    let all = and_parts (is_ascii_digit d) (list_all is_ascii_digit a) parts.1 in
    tokens_at d (a ++ rest) ∙ (ap (λ r. tokens_from r (a ++ rest)) (started_digit d parts.0)
    ∙ (run_on Num is_ascii_digit (λ w c e. rw e refl) (d ∷ []) a rest all.1 ∙ stops (Num (d ∷ a)) rest (num_stops (d ∷ a) rest end)))

pub spelled_num : (a rest : List ℕ) → is_num a ≡ true → begins is_ascii_digit rest ≡ false
    → tokens_of (a ++ rest) ≡ joined (Some (Num a ∷ [])) (tokens_of rest)
spelled_num [] rest h end = absurd (false≢true h)
spelled_num (b ∷ a) rest h end = elim (cases_Bool (nat_eq b 45)) [
  | inl e ↦ let is_dash : b ≡ 45 = eqb-true b 45 e in
      rw is_dash (spelled_dashed a rest (sym (cond-true _ _ _ e) ∙ h) end)
  | inr e ↦ spelled_digits (b ∷ a) rest (sym (cond-false _ _ _ e) ∙ h) end
]

pub num_read : (len : ℕ) (bytes : List ℕ) → is_num (take len bytes) ≡ true → begins is_ascii_digit (drop len bytes) ≡ false
    → tokens_of bytes ≡ joined (Some (Num (take len bytes) ∷ [])) (tokens_of (drop len bytes))
num_read len bytes h end = sym (parts_are len bytes) ∙ spelled_num (take len bytes) (drop len bytes) h end

pub num_reads : (len : ℕ) (bytes text front rest : List ℕ) → len ≤ length bytes → (len ≡ 0 → ⊥)
    → (0 < len → is_num (take len bytes) ≡ true) → begins is_ascii_digit (drop len bytes) ≡ false
    → text ≡ front → front ≡ take len bytes → rest ≡ drop len bytes → Reads bytes (Num text) rest
num_reads len bytes text front rest bound some h end e f g =
    rw (e, f, g) record {
      tokens = num_read len bytes (h (omega (arith, some))) end;
      shorter = omega (arith, length-drop len bytes, some);
    }

pub digits_bytes : (a : List ℕ) → list_all is_ascii_digit a ≡ true → list_all (λ b. is_ascii_digit b || nat_eq b 45) a ≡ true
digits_bytes [] h = refl
digits_bytes (b ∷ a) h =
    let parts = and_parts (is_ascii_digit b) (list_all is_ascii_digit a) h in
    and_from _ _ (or_left (is_ascii_digit b) (nat_eq b 45) parts.0) (digits_bytes a parts.1)

pub num_bytes : (a : List ℕ) → is_num a ≡ true → list_all (λ b. is_ascii_digit b || nat_eq b 45) a ≡ true
num_bytes [] h = refl
num_bytes (b ∷ a) h = elim (cases_Bool (nat_eq b 45)) [
  | inl e ↦ and_from _ _ (or_right (is_ascii_digit b) (nat_eq b 45) e)
      (digits_bytes a (and_parts (begins is_ascii_digit a) (list_all is_ascii_digit a) (sym (cond-true _ _ _ e) ∙ h)).1)
  | inr e ↦ digits_bytes (b ∷ a) (and_parts (is_ascii_digit b) (list_all is_ascii_digit (b ∷ a)) (sym (cond-false _ _ _ e) ∙ h)).1
]

pub num_utf8 : (a : List ℕ) → is_num a ≡ true → is_utf8 a ≡ true
num_utf8 a h = utf8_from (λ b. is_ascii_digit b || nat_eq b 45) num_byte_low a (num_bytes a h)

pub dash_alone : (bytes : List ℕ) → begins (λ c. nat_eq c 45) bytes ≡ false → begins is_ascii_digit bytes ≡ false → tokens_from after_dash bytes ≡ None
dash_alone [] dash digit = refl
dash_alone (b ∷ bytes) dash digit = rw (dash, digit) (ap (joined (Some [])) (tokens_failed bytes))

pub and_at : (x y : Bool) → x ≡ true → (x && y) ≡ y
and_at x y e = rw e refl

-- a dash that neither a dash nor a digit follows
pub no_num : (bytes : List ℕ) → begins (λ b. is_ascii_digit b || nat_eq b 45) bytes ≡ true → begins_gap bytes ≡ false → begins_num bytes ≡ false
    → tokens_of bytes ≡ None
no_num [] h gap none = absurd (false≢true h)
no_num (b ∷ bytes) h gap none = elim (cases_Bool (nat_eq b 45)) [
  | inl e ↦ let is_dash : b ≡ 45 = eqb-true b 45 e in
      let no_dash = or_parts _ _ gap in
      rw is_dash (tokens_at 45 bytes ∙ dash_alone bytes (sym (and_at _ _ e) ∙ no_dash.1) (sym (cond-true _ _ _ e) ∙ none))
  | inr e ↦ elim (or_cases _ _ h) [
    | inl digit ↦ absurd (false≢true (sym none ∙ (cond-false _ _ _ e ∙ digit)))
    | inr dash ↦ absurd (false≢true (sym e ∙ dash))
  ]
]

-- bytes in a text
pub text_run : (c part rest : List ℕ) → list_all is_no_quote part ≡ true → tokens_from (in_text c) (part ++ rest) ≡ tokens_from (in_text (c ++ part)) rest
text_run c [] rest h = ap (λ v. tokens_from (in_text v) rest) (sym (append-nil c))
text_run c (b ∷ part) rest h =
    let parts = and_parts (is_no_quote b) (list_all is_no_quote part) h in
    let e : nat_eq b 39 ≡ false = not-true _ parts.0 in
    rw e (joined_nothing _ ∙ (text_run (c ++ b ∷ []) part rest parts.1 ∙ ap (λ v. tokens_from (in_text v) rest) (append_assoc c (b ∷ []) part)))

pub text_unclosed : (c bytes : List ℕ) → list_all is_no_quote bytes ≡ true → tokens_from (in_text c) bytes ≡ None
text_unclosed c [] h = refl
text_unclosed c (b ∷ bytes) h =
    let parts = and_parts (is_no_quote b) (list_all is_no_quote bytes) h in
    let e : nat_eq b 39 ≡ false = not-true _ parts.0 in
    rw e (joined_nothing _ ∙ text_unclosed (c ++ b ∷ []) bytes parts.1)

pub text_parted : (c bytes part rest : List ℕ) → bytes ≡ part ++ 39 ∷ rest → list_all is_no_quote part ≡ true
    → tokens_from (in_text c) bytes ≡ tokens_from (whole (Text (c ++ part))) rest
text_parted c bytes part rest e h = ap (tokens_from (in_text c)) e ∙ (text_run c part (39 ∷ rest) h ∙ joined_nothing _)

pub text_doubled : (c rest : List ℕ) → tokens_from (whole (Text c)) (39 ∷ rest) ≡ tokens_from (in_text (c ++ 39 ∷ [])) rest
text_doubled c rest = joined_nothing _

pub text_stops : (c rest : List ℕ) → begins (λ b. nat_eq b 39) rest ≡ false → StopsAt (Text c) rest
text_stops c [] h = tt
text_stops c (b ∷ rest) h = rw h refl

pub text_closed : (c rest : List ℕ) → begins (λ b. nat_eq b 39) rest ≡ false
    → tokens_from (whole (Text c)) rest ≡ joined (finished (whole (Text c))) (tokens_of rest)
text_closed c rest h = stops (Text c) rest (text_stops c rest h)

-- the first byte by itself
pub tokens_behind : (first : ℕ) (bytes : List ℕ) → begins (λ b. nat_eq first b) bytes ≡ true → tokens_of bytes ≡ tokens_from (started first) (drop 1 bytes)
tokens_behind first [] h = absurd (false≢true h)
tokens_behind first (b ∷ bytes) h = tokens_at b bytes ∙ ap (λ v. tokens_from (started v) bytes) (sym (eqb-true first b h))

-- a mark by itself
pub single_stops : (t : Token) (bytes : List ℕ) → IsSingle t → StopsAt t bytes
single_stops t [] h = tt
single_stops t (b ∷ bytes) h = h.1 b

pub single_stopped : (t : Token) (bytes : List ℕ) → IsSingle t → tokens_from (whole t) bytes ≡ joined (Some (t ∷ [])) (tokens_of bytes)
single_stopped t bytes h = stops t bytes (single_stops t bytes h) ∙ ap (λ x. joined x (tokens_of bytes)) h.0

pub single_read : (b : ℕ) (t : Token) (bytes : List ℕ) → started b ≡ whole t → IsSingle t
    → tokens_from (started b) bytes ≡ joined (Some (t ∷ [])) (tokens_of bytes)
single_read b t bytes e h =
    ap (λ r. tokens_from r bytes) e ∙ single_stopped t bytes h

pub failed_read : (b : ℕ) (bytes : List ℕ) → started b ≡ failed → tokens_from (started b) bytes ≡ None
failed_read b bytes e = ap (λ r. tokens_from r bytes) e ∙ tokens_failed bytes

-- an exclamation mark without an equals sign
pub bang_alone : (bytes : List ℕ) → begins (λ b. nat_eq b 61) bytes ≡ false → tokens_from after_bang bytes ≡ None
bang_alone [] h = refl
bang_alone (b ∷ bytes) h = rw h (ap (joined (Some [])) (tokens_failed bytes))

-- what follows a text that is closed
pub text_reads : (c content bytes part after : List ℕ) (token : Token) → content ≡ c ++ part → IsParted bytes part after
    → begins (λ b. nat_eq b 39) after ≡ false → is_clean content ≡ true → token ≡ Text content
    → tokens_from (in_text c) bytes ≡ joined (Some (token ∷ [])) (tokens_of after)
text_reads c content bytes part after token e parted end allowed t =
    rw t (text_parted c bytes part after parted.whole parted.unquoted ∙ (ap (λ v. tokens_from (whole (Text v)) after) (sym e)
    ∙ (text_closed content after end ∙ ap (λ x. joined x (tokens_of after)) (cond-true _ _ _ allowed))))

pub text_fails : (c content bytes part after : List ℕ) → content ≡ c ++ part → IsParted bytes part after
    → begins (λ b. nat_eq b 39) after ≡ false → is_clean content ≡ false → tokens_from (in_text c) bytes ≡ None
text_fails c content bytes part after e parted end wrong =
    text_parted c bytes part after parted.whole parted.unquoted ∙ (ap (λ v. tokens_from (whole (Text v)) after) (sym e)
    ∙ (text_closed content after end ∙ ap (λ x. joined x (tokens_of after)) (cond-false _ _ _ wrong)))

pub text_goes_on : (c content more bytes part after others : List ℕ) → content ≡ c ++ part → more ≡ content ++ 39 ∷ []
    → IsParted bytes part after → after ≡ 39 ∷ others → tokens_from (in_text c) bytes ≡ tokens_from (in_text more) others
text_goes_on c content more bytes part after others e f parted g =
    text_parted c bytes part after parted.whole parted.unquoted ∙ (ap (λ v. tokens_from (whole (Text v)) after) (sym e)
    ∙ (ap (tokens_from (whole (Text content))) g ∙ (text_doubled content others ∙ ap (λ v. tokens_from (in_text v) others) (sym f))))

pub parted_shorter : (bytes part after : List ℕ) → IsParted bytes part after → length after < length bytes
parted_shorter bytes part after parted = omega (arith, simp length-append at (ap length parted.whole))

-- from the bytes behind the first one to the bytes
pub reads_behind : (first : ℕ) (bytes rest : List ℕ) (token : Token) (after : List ℕ) → begins (λ b. nat_eq first b) bytes ≡ true → rest ≡ drop 1 bytes
    → ReadsOn (started first) rest token after → Reads bytes token after
reads_behind first [] rest token after h e on = absurd (false≢true h)
reads_behind first (b ∷ bytes) rest token after h e on = record {
  tokens = tokens_behind first (b ∷ bytes) h ∙ (ap (tokens_from (started first)) (sym e) ∙ on.tokens);
  shorter = omega (arith, on.shorter, ap length e);
}

pub fails_behind : (first : ℕ) (bytes rest : List ℕ) → begins (λ b. nat_eq first b) bytes ≡ true → rest ≡ drop 1 bytes
    → tokens_from (started first) rest ≡ None → tokens_of bytes ≡ None
fails_behind first bytes rest h e on = tokens_behind first bytes h ∙ (ap (tokens_from (started first)) (sym e) ∙ on)

pub bang_equals : (bytes rest : List ℕ) → bytes ≡ 61 ∷ rest → ReadsOn after_bang bytes Ne rest
bang_equals bytes rest e = rw e record {
  tokens = joined_nothing _ ∙ single_stopped Ne rest (refl, λ b. refl);
  shorter = omega arith;
}

-- one error under two results
pub err_again : {A B E : Type 0} {x y : E} → IsErrOf {T = A} (Err x) y → IsErrOf {T = B} (Err x) y
err_again {A} {B} {E} {x} {y} h = let e : x ≡ y = cc in ap Err e
