-- What is found in a piece is what is spelled there.
use Rattle.std.proofs.Common.{◌≡◌, ◌⊎◌, ℕ, Bool, true, false, not, cond, nat_eq, List, [], ◌∷◌, ◌++◌, Option, Some, None, refl, sym, ap, subst, ◌∙◌, append_assoc, inl, inr}
use Rattle.std.specs.Option.{option_and_then}
use Rattle.std.proofs.lemmas.Bool.{false≢true, and_parts, and_from, cond-true, cond-false, cases_Bool, eqb-true, or_left, not-true}
use Rattle.std.proofs.lemmas.List.{append-nil}
use Rattle.std.specs.List.{list_all}
use Rattle.std.specs.Char.{is_ascii_digit}
use Rattle.bdb_base.proofs.ListLemmas.{list_all_push}
use Rattle.bdb_base.specs.Letters.{is_blank, is_letter, is_word_byte}
use Rattle.bdb_lex.specs.declared.token.Token.{Token}
use Rattle.bdb_lex.specs.declared.token.Token.TheVariants.{Word, Text, Num, Comma, Dot, ParenL, ParenR, Eq, Ne, Lt, Le, Gt, Ge}
use Rattle.bdb_lex.specs.Reading.{is_digits, is_num, is_word}
use Rattle.bdb_lex.specs.Spans.{Span, spelled, bytes_of, lacks, may_stand, all_stand}
use Rattle.bdb_lex.specs.Spans.Span.{end, text, comment, byte, open_text, open_comment}
use Rattle.bdb_lex.specs.Tokens.{Reading, started, extended, continued, finished, joined, ended_tokens, next_reading, tokens_from, tokens_of, is_allowed}
use Rattle.bdb_lex.specs.Tokens.Reading.{between, whole, in_text, after_dash, after_bang, in_comment, failed}
use Rattle.bdb_lex.specs.TokenGrammar.{is_gap, is_last_gap, IsGap, doubled, Spells, IsLongest, IsTokens, TokensAreSpelled, TokensAreFormed, is_formed}
use Rattle.bdb_lex.proofs.SpanLemmas.{byte_stands, lacks_more}
use Rattle.bdb_lex.proofs.TokenLemmas.{joined_nothing, tokens_at, StopsAt, stops, blank_is, started_letter, started_digit, digit_no_dash}
use Rattle.bdb_lex.proofs.GapLemmas.{blank_tokens, dash_tokens}

-- where a reading goes with these bytes, if it goes on with each
abbrev pub goes : List ℕ → Option Reading → Option Reading
goes [] o = o
goes (b ∷ s) o = goes s (option_and_then (λ r. continued r b) o)

pub goes-none : (s : List ℕ) → goes s None ≡ None
goes-none [] = refl
goes-none (b ∷ s) = goes-none s

pub goes-append : (a b : List ℕ) (o : Option Reading) → goes (a ++ b) o ≡ goes b (goes a o)
goes-append [] b o = refl
goes-append (x ∷ a) b o = goes-append a b (option_and_then (λ r. continued r x) o)

no_some : {A : Type 0} {x : A} {P : Type 0} → None ≡ Some x → P
no_some h = cc

-- the tokens behind such bytes
goes_step : (r q : Reading) (b : ℕ) (s rest : List ℕ) (o : Option Reading) → continued r b ≡ o → goes s o ≡ Some q
    → ((p : Reading) → goes s (Some p) ≡ Some q → tokens_from p (s ++ rest) ≡ tokens_from q rest) → tokens_from r (b ∷ (s ++ rest)) ≡ tokens_from q rest
goes_step r q b s rest None e h ih = no_some (sym (goes-none s) ∙ h)
goes_step r q b s rest (Some p) e h ih = rw e (joined_nothing _ ∙ ih p h)

pub goes_read : (s : List ℕ) (r q : Reading) (rest : List ℕ) → goes s (Some r) ≡ Some q → tokens_from r (s ++ rest) ≡ tokens_from q rest
goes_read [] r q rest h = let e : r ≡ q = cc in ap (λ v. tokens_from v rest) e
goes_read (b ∷ s) r q rest h = goes_step r q b s rest (continued r b) refl h (λ p k. goes_read s p q rest k)

-- a spelling starts a reading, which goes on to the whole token
pub record Starts (t : Token) (s : List ℕ) : Type 0 where
  pub first : ℕ
  pub more : List ℕ
  pub is : s ≡ first ∷ more
  pub goes_on : goes more (Some (started first)) ≡ Some (whole t)

run_goes : (make : List ℕ → Token) (test : ℕ → Bool)
    → ((w : List ℕ) (b : ℕ) → test b ≡ true → extended (make w) b ≡ Some (whole (make (w ++ b ∷ []))))
    → (w a : List ℕ) → list_all test a ≡ true → goes a (Some (whole (make w))) ≡ Some (whole (make (w ++ a)))
run_goes make test on w [] h = ap (λ v. Some (whole (make v))) (sym (append-nil w))
run_goes make test on w (b ∷ a) h =
    let parts = and_parts (test b) (list_all test a) h in
    ap (goes a) (on w b parts.0) ∙ (run_goes make test on (w ++ b ∷ []) a parts.1 ∙ ap (λ v. Some (whole (make v))) (append_assoc w (b ∷ []) a))

word_goes : (w : List ℕ) → is_word w ≡ true → Starts (Word w) w
word_goes [] h = absurd (false≢true h)
word_goes (b ∷ a) h =
    let parts = and_parts (is_letter b) (list_all is_word_byte (b ∷ a)) h in
    let all = and_parts (is_word_byte b) (list_all is_word_byte a) parts.1 in
    record {
      first = b;
      more = a;
      is = refl;
      goes_on = ap (λ r. goes a (Some r)) (started_letter b parts.0) ∙ run_goes Word is_word_byte (λ w c e. rw e refl) (b ∷ []) a all.1;
    }

dashed_goes : (a : List ℕ) → is_digits a ≡ true → goes a (Some after_dash) ≡ Some (whole (Num (45 ∷ a)))
dashed_goes [] h = absurd (false≢true h)
dashed_goes (d ∷ a) h =
    let parts = and_parts (is_ascii_digit d) (list_all is_ascii_digit (d ∷ a)) h in
    let all = and_parts (is_ascii_digit d) (list_all is_ascii_digit a) parts.1 in
    let second : continued after_dash d ≡ Some (whole (Num (45 ∷ d ∷ []))) =
    ap Some (cond-false _ _ _ (digit_no_dash d parts.0) ∙ cond-true _ _ _ parts.0) in
    ap (goes a) second ∙ run_goes Num is_ascii_digit (λ w c e. rw e refl) (45 ∷ d ∷ []) a all.1

digits_goes : (n : List ℕ) → is_digits n ≡ true → Starts (Num n) n
digits_goes [] h = absurd (false≢true h)
digits_goes (d ∷ a) h =
    let parts = and_parts (is_ascii_digit d) (list_all is_ascii_digit (d ∷ a)) h in
    let all = and_parts (is_ascii_digit d) (list_all is_ascii_digit a) parts.1 in
    record {
      first = d;
      more = a;
      is = refl;
      goes_on = ap (λ r. goes a (Some r)) (started_digit d parts.0) ∙ run_goes Num is_ascii_digit (λ w c e. rw e refl) (d ∷ []) a all.1;
    }

num_goes : (n : List ℕ) → is_num n ≡ true → Starts (Num n) n
num_goes [] h = absurd (false≢true h)
num_goes (b ∷ a) h = elim (cases_Bool (nat_eq b 45)) [
  | inl e ↦ let is : b ≡ 45 = eqb-true b 45 e in
      rw is record { first = 45; more = a; is = refl; goes_on = dashed_goes a (sym (cond-true _ _ _ e) ∙ h) }
  | inr e ↦ digits_goes (b ∷ a) (sym (cond-false _ _ _ e) ∙ h)
]

content_goes : (c a : List ℕ) → goes (doubled c) (Some (in_text a)) ≡ Some (in_text (a ++ c))
content_goes [] a = ap (λ v. Some (in_text v)) (sym (append-nil a))
content_goes (b ∷ c) a = elim (cases_Bool (nat_eq b 39)) [
  | inl e ↦ let is : b ≡ 39 = eqb-true b 39 e in
      rw is (content_goes c (a ++ 39 ∷ []) ∙ ap (λ v. Some (in_text v)) (append_assoc a (39 ∷ []) c))
  | inr e ↦ ap (λ v. goes (v ++ doubled c) (Some (in_text a))) (cond-false _ _ _ e)
      ∙ (ap (λ v. goes (doubled c) (Some v)) (cond-false _ _ _ e)
      ∙ (content_goes c (a ++ b ∷ []) ∙ ap (λ v. Some (in_text v)) (append_assoc a (b ∷ []) c)))
]

text_goes : (c : List ℕ) → goes (doubled c ++ 39 ∷ []) (Some (in_text [])) ≡ Some (whole (Text c))
text_goes c = goes-append (doubled c) (39 ∷ []) (Some (in_text [])) ∙ ap (goes (39 ∷ [])) (content_goes c [])

starts_at : (t : Token) (s a : List ℕ) → s ≡ a → Starts t a → Starts t s
starts_at t s a e h = record { first = h.first; more = h.more; is = e ∙ h.is; goes_on = h.goes_on }

pub spells_goes : (t : Token) (s : List ℕ) → Spells t s → Starts t s
spells_goes (Word w) s h = starts_at (Word w) s w h.0 (word_goes w h.1)
spells_goes (Num n) s h = starts_at (Num n) s n h.0 (num_goes n h.1)
spells_goes (Text c) s h = record { first = 39; more = doubled c ++ 39 ∷ []; is = h; goes_on = text_goes c }
spells_goes Comma s h = record { first = 44; more = []; is = h; goes_on = refl }
spells_goes Dot s h = record { first = 46; more = []; is = h; goes_on = refl }
spells_goes ParenL s h = record { first = 40; more = []; is = h; goes_on = refl }
spells_goes ParenR s h = record { first = 41; more = []; is = h; goes_on = refl }
spells_goes Eq s h = record { first = 61; more = []; is = h; goes_on = refl }
spells_goes Ne s h = elim h [
  | inl e ↦ record { first = 60; more = 62 ∷ []; is = e; goes_on = refl }
  | inr e ↦ record { first = 33; more = 61 ∷ []; is = e; goes_on = refl }
]
spells_goes Lt s h = record { first = 60; more = []; is = h; goes_on = refl }
spells_goes Le s h = record { first = 60; more = 61 ∷ []; is = h; goes_on = refl }
spells_goes Gt s h = record { first = 62; more = []; is = h; goes_on = refl }
spells_goes Ge s h = record { first = 62; more = 61 ∷ []; is = h; goes_on = refl }

-- a token that doesn't go on with the next byte is the longest
longest_more : (t u : Token) (s : List ℕ) (b : ℕ) (more : List ℕ) → Spells t s → extended t b ≡ None → Spells u (s ++ b ∷ more) → ⊥
longest_more t u s b more spells none longer =
    let one = spells_goes t s spells in
    let two = spells_goes u (s ++ b ∷ more) longer in
    let same : two.first ∷ two.more ≡ one.first ∷ (one.more ++ b ∷ more) = sym two.is ∙ ap (λ v. v ++ b ∷ more) one.is in
    let first : two.first ≡ one.first = cc same in
    let rest : two.more ≡ one.more ++ b ∷ more = cc same in
    let on : goes (one.more ++ b ∷ more) (Some (started one.first)) ≡ Some (whole u) =
    ap (λ v. goes v (Some (started one.first))) (sym rest) ∙ (ap (λ v. goes two.more (Some (started v))) (sym first) ∙ two.goes_on) in
    no_some (sym (goes-append one.more (b ∷ more) (Some (started one.first))
    ∙ (ap (goes (b ∷ more)) one.goes_on ∙ (ap (goes more) none ∙ goes-none more))) ∙ on)

pub is_longest : (t : Token) (s : List ℕ) (b : ℕ) (bytes : List ℕ) → Spells t s → extended t b ≡ None → IsLongest s (b ∷ bytes)
is_longest t s b bytes spells none u [] after e longer = refl
is_longest t s b bytes spells none u (x ∷ more) after e longer =
    let same : x ≡ b = cc in
    absurd (longest_more t u s x more spells (ap (extended t) same ∙ none) longer)

pub longest_at_end : (s : List ℕ) → IsLongest s []
longest_at_end s u [] after e longer = refl
longest_at_end s u (x ∷ more) after e longer = absurd (let h : [] ≡ x ∷ (more ++ after) = e in cc)

-- blanks and comments before the bytes
last_gap_too : (span : Span) → is_gap span ≡ true → is_last_gap span ≡ true
last_gap_too end h = h
last_gap_too (text c) h = h
last_gap_too (comment c) h = h
last_gap_too (byte b) h = h
last_gap_too (open_text c) h = h
last_gap_too (open_comment c) h = refl

pub prepend_span : (span : Span) → is_gap span ≡ true → ((spans : List Span) → may_stand span spans ≡ true)
    → (bytes : List ℕ) (ts : List Token) → IsTokens bytes ts → IsTokens (spelled span ++ bytes) ts
prepend_span span gap stands bytes [] h = record {
  spans = span ∷ h.spans;
  are = record { bytes = ap (λ v. spelled span ++ v) h.are.bytes; stand = and_from _ _ (stands h.spans) h.are.stand };
  gaps = and_from _ _ (last_gap_too span gap) h.gaps;
}
prepend_span span gap stands bytes (t ∷ ts) h =
    let f = h.0 in (
      record {
        gap = spelled span ++ f.gap;
        spelling = f.spelling;
        rest = f.rest;
        parts = ap (λ v. spelled span ++ v) f.parts ∙ sym (append_assoc (spelled span) f.gap (f.spelling ++ f.rest));
        between = record {
          spans = span ∷ f.between.spans;
          are = record { bytes = ap (λ v. spelled span ++ v) f.between.are.bytes; stand = and_from _ _ (stands f.between.spans) f.between.are.stand };
          gaps = and_from _ _ gap f.between.gaps;
        };
        spells = f.spells;
        longest = f.longest;
        allowed = f.allowed;
      },
      h.1,
    )

prepend_blank : (b : ℕ) → is_blank b ≡ true → (bytes : List ℕ) (ts : List Token) → IsTokens bytes ts → IsTokens (b ∷ bytes) ts
prepend_blank b e = prepend_span (byte b) e (λ spans. byte_stands b spans (blank_is (λ x. nat_eq x 59) b e refl refl refl refl)
    (blank_is (λ x. nat_eq x 39) b e refl refl refl refl) (blank_is (λ x. nat_eq x 45) b e refl refl refl refl))

-- no bytes are no tokens
pub no_gap : IsGap []
no_gap = record { spans = []; are = record { bytes = refl; stand = refl }; gaps = refl }

pub no_tokens : IsTokens [] []
no_tokens = record { spans = []; are = record { bytes = refl; stand = refl }; gaps = refl }

-- a token, and then the tokens of the rest
one_more : (t : Token) (s rest : List ℕ) (ts : List Token) → Spells t s → IsLongest s rest → is_allowed t ≡ true → IsTokens rest ts
    → IsTokens (s ++ rest) (t ∷ ts)
one_more t s rest ts spells longest allowed h = (
  record {
    gap = [];
    spelling = s;
    rest = rest;
    parts = refl;
    between = no_gap;
    spells = spells;
    longest = longest;
    allowed = allowed;
  },
  h,
)

-- the bytes that a reading has read since the token before
abbrev pub IsRead : Reading → List ℕ → Type 0
IsRead between front = (bytes : List ℕ) (ts : List Token) → IsTokens bytes ts → IsTokens (front ++ bytes) ts
IsRead (whole t) front = Spells t front
IsRead (in_text c) front = front ≡ 39 ∷ doubled c
IsRead after_dash front = front ≡ 45 ∷ []
IsRead after_bang front = front ≡ 33 ∷ []
IsRead in_comment front = (c : List ℕ) × ((front ≡ 45 ∷ 45 ∷ c) × (lacks 10 c ≡ true))
IsRead failed front = Unit {0}

one_digit : (b : ℕ) → is_ascii_digit b ≡ true → is_digits (b ∷ []) ≡ true
one_digit b e = and_from _ _ e (and_from _ _ e refl)

-- what a byte starts, as a table of tests
abbrev pub picked : List (Bool × Reading) → Reading
picked [] = failed
picked (x ∷ xs) = cond x.0 x.1 (picked xs)

abbrev pub EachOf : (Reading → Type 0) → List (Bool × Reading) → Type 0
EachOf P [] = P failed
EachOf P (x ∷ xs) = (x.0 ≡ true → P x.1) × EachOf P xs

picked_is : (P : Reading → Type 0) (xs : List (Bool × Reading)) → EachOf P xs → P (picked xs)
picked_is P [] h = h
picked_is P (x ∷ xs) h = elim (cases_Bool x.0) [
  | inl e ↦ subst P (sym (cond-true x.0 x.1 (picked xs) e)) (h.0 e)
  | inr e ↦ subst P (sym (cond-false x.0 x.1 (picked xs) e)) (picked_is P xs h.1)
]

abbrev pub starting : ℕ → List (Bool × Reading)
starting b =
    (is_blank b, between) ∷ (is_letter b, whole (Word (b ∷ []))) ∷ (is_ascii_digit b, whole (Num (b ∷ []))) ∷ (nat_eq b 39, in_text [])
    ∷ (nat_eq b 45, after_dash) ∷ (nat_eq b 33, after_bang) ∷ (nat_eq b 44, whole Comma) ∷ (nat_eq b 46, whole Dot) ∷ (nat_eq b 40, whole ParenL)
    ∷ (nat_eq b 41, whole ParenR) ∷ (nat_eq b 61, whole Eq) ∷ (nat_eq b 60, whole Lt) ∷ (nat_eq b 62, whole Gt) ∷ []

letter_read : (b : ℕ) → is_letter b ≡ true → Spells (Word (b ∷ [])) (b ∷ [])
letter_read b e = (refl, and_from _ _ e (and_from _ _ (or_left (is_letter b) (is_ascii_digit b) e) refl))

digit_read : (b : ℕ) → is_ascii_digit b ≡ true → Spells (Num (b ∷ [])) (b ∷ [])
digit_read b e = (refl, cond-false _ _ _ (digit_no_dash b e) ∙ one_digit b e)

one_is : (b n : ℕ) → nat_eq b n ≡ true → b ∷ [] ≡ n ∷ []
one_is b n e = ap (λ v. v ∷ []) (eqb-true b n e)

read_start : (b : ℕ) → IsRead (started b) (b ∷ [])
read_start b =
    let P : Reading → Type 0 = λ r. IsRead r (b ∷ []) in
    let each : EachOf P (starting b) = (
      λ e. prepend_blank b e,
      (
        λ e. letter_read b e,
        (
          λ e. digit_read b e,
          (
            λ e. one_is b 39 e,
            (
              λ e. one_is b 45 e,
              (
                λ e. one_is b 33 e,
                (
                  λ e. one_is b 44 e,
                  (
                    λ e. one_is b 46 e,
                    (
                      λ e. one_is b 40 e,
                      (
                        λ e. one_is b 41 e,
                        (
                          λ e. one_is b 61 e,
                          (
                            λ e. one_is b 60 e,
                            (λ e. one_is b 62 e, tt),
                          ),
                        ),
                      ),
                    ),
                  ),
                ),
              ),
            ),
          ),
        ),
      ),
    ) in
    picked_is P (starting b) each

pub is_word_more : (w : List ℕ) (b : ℕ) → is_word w ≡ true → is_word_byte b ≡ true → is_word (w ++ b ∷ []) ≡ true
is_word_more [] b h e = absurd (false≢true h)
is_word_more (c ∷ w) b h e =
    let parts = and_parts (is_letter c) (list_all is_word_byte (c ∷ w)) h in
    and_from _ _ parts.0 (list_all_push is_word_byte (c ∷ w) b parts.1 e)

is_digits_more : (n : List ℕ) (b : ℕ) → is_digits n ≡ true → is_ascii_digit b ≡ true → is_digits (n ++ b ∷ []) ≡ true
is_digits_more [] b h e = absurd (false≢true h)
is_digits_more (c ∷ n) b h e =
    let parts = and_parts (is_ascii_digit c) (list_all is_ascii_digit (c ∷ n)) h in
    and_from _ _ parts.0 (list_all_push is_ascii_digit (c ∷ n) b parts.1 e)

pub is_num_more : (n : List ℕ) (b : ℕ) → is_num n ≡ true → is_ascii_digit b ≡ true → is_num (n ++ b ∷ []) ≡ true
is_num_more [] b h e = absurd (false≢true h)
is_num_more (c ∷ n) b h e = elim (cases_Bool (nat_eq c 45)) [
  | inl dash ↦ cond-true _ _ _ dash ∙ is_digits_more n b (sym (cond-true _ _ _ dash) ∙ h) e
  | inr other ↦ cond-false _ _ _ other ∙ is_digits_more (c ∷ n) b (sym (cond-false _ _ _ other) ∙ h) e
]

doubled_more : (c : List ℕ) (b : ℕ) → doubled (c ++ b ∷ []) ≡ doubled c ++ cond (nat_eq b 39) (39 ∷ 39 ∷ []) (b ∷ [])
doubled_more [] b = append-nil (cond (nat_eq b 39) (39 ∷ 39 ∷ []) (b ∷ []))
doubled_more (x ∷ c) b =
    ap (λ v. cond (nat_eq x 39) (39 ∷ 39 ∷ []) (x ∷ []) ++ v) (doubled_more c b)
    ∙ sym (append_assoc (cond (nat_eq x 39) (39 ∷ 39 ∷ []) (x ∷ [])) (doubled c) (cond (nat_eq b 39) (39 ∷ 39 ∷ []) (b ∷ [])))

-- which way a test went
chosen : {A : Type 0} (b : Bool) (x y z : A) → cond b x y ≡ z → ((b ≡ true) × (x ≡ z)) ⊎ ((b ≡ false) × (y ≡ z))
chosen true x y z h = inl (refl, h)
chosen false x y z h = inr (refl, h)

some_is : {A : Type 0} {x y : A} → Some x ≡ Some y → x ≡ y
some_is h = cc

-- a closed text and a quote more is open again
text_more : (c : List ℕ) (b : ℕ) (front : List ℕ) → b ≡ 39 → front ≡ 39 ∷ (doubled c ++ 39 ∷ []) → front ++ b ∷ [] ≡ 39 ∷ doubled (c ++ b ∷ [])
text_more c b front is h =
    ap (λ v. v ++ b ∷ []) h ∙ (ap (λ v. 39 ∷ ((doubled c ++ 39 ∷ []) ++ v ∷ [])) is
    ∙ (ap (λ v. 39 ∷ v) (append_assoc (doubled c) (39 ∷ []) (39 ∷ []) ∙ sym (doubled_more c 39)) ∙ ap (λ v. 39 ∷ doubled (c ++ v ∷ [])) (sym is)))

-- what a whole token goes on to has read the byte too
extended_read : (t : Token) (b : ℕ) (q : Reading) (front : List ℕ) → extended t b ≡ Some q → Spells t front → IsRead q (front ++ b ∷ [])
extended_read (Word w) b q front e h =
    let P : Reading → Type 0 = λ r. IsRead r (front ++ b ∷ []) in
    elim (chosen (is_word_byte b) (Some (whole (Word (w ++ b ∷ [])))) None (Some q) e) [
      | inl (test, is) ↦ subst P (some_is is) (ap (λ v. v ++ b ∷ []) h.0, is_word_more w b h.1 test)
      | inr (test, is) ↦ no_some is
    ]
extended_read (Num n) b q front e h =
    let P : Reading → Type 0 = λ r. IsRead r (front ++ b ∷ []) in
    elim (chosen (is_ascii_digit b) (Some (whole (Num (n ++ b ∷ [])))) None (Some q) e) [
      | inl (test, is) ↦ subst P (some_is is) (ap (λ v. v ++ b ∷ []) h.0, is_num_more n b h.1 test)
      | inr (test, is) ↦ no_some is
    ]
extended_read (Text c) b q front e h =
    let P : Reading → Type 0 = λ r. IsRead r (front ++ b ∷ []) in
    elim (chosen (nat_eq b 39) (Some (in_text (c ++ b ∷ []))) None (Some q) e) [
      | inl (test, is) ↦ subst P (some_is is) (text_more c b front (eqb-true b 39 test) h)
      | inr (test, is) ↦ no_some is
    ]
extended_read Lt b q front e h =
    let P : Reading → Type 0 = λ r. IsRead r (front ++ b ∷ []) in
    elim (chosen (nat_eq b 61) (Some (whole Le)) (cond (nat_eq b 62) (Some (whole Ne)) None) (Some q) e) [
      | inl (test, is) ↦ subst P (some_is is) (ap (λ v. v ++ b ∷ []) h ∙ ap (λ v. 60 ∷ v ∷ []) (eqb-true b 61 test))
      | inr (test, is) ↦ elim (chosen (nat_eq b 62) (Some (whole Ne)) None (Some q) is) [
        | inl (test', is') ↦ subst P (some_is is') (inl (ap (λ v. v ++ b ∷ []) h ∙ ap (λ v. 60 ∷ v ∷ []) (eqb-true b 62 test')))
        | inr (test', is') ↦ no_some is'
      ]
    ]
extended_read Gt b q front e h =
    let P : Reading → Type 0 = λ r. IsRead r (front ++ b ∷ []) in
    elim (chosen (nat_eq b 61) (Some (whole Ge)) None (Some q) e) [
      | inl (test, is) ↦ subst P (some_is is) (ap (λ v. v ++ b ∷ []) h ∙ ap (λ v. 62 ∷ v ∷ []) (eqb-true b 61 test))
      | inr (test, is) ↦ no_some is
    ]
extended_read Comma b q front e h = no_some e
extended_read Dot b q front e h = no_some e
extended_read ParenL b q front e h = no_some e
extended_read ParenR b q front e h = no_some e
extended_read Eq b q front e h = no_some e
extended_read Ne b q front e h = no_some e
extended_read Le b q front e h = no_some e
extended_read Ge b q front e h = no_some e

-- what a reading goes on to has read the byte too
text_at : (c : List ℕ) (b : ℕ) (front : List ℕ) → nat_eq b 39 ≡ false → front ≡ 39 ∷ doubled c → front ++ b ∷ [] ≡ 39 ∷ doubled (c ++ b ∷ [])
text_at c b front other h =
    ap (λ v. v ++ b ∷ []) h ∙ ap (λ v. 39 ∷ v) (ap (λ v. doubled c ++ v) (sym (cond-false _ _ _ other)) ∙ sym (doubled_more c b))

comment_ends : (c front : List ℕ) (b : ℕ) → b ≡ 10 → front ≡ 45 ∷ 45 ∷ c → lacks 10 c ≡ true → IsRead between (front ++ b ∷ [])
comment_ends c front b is e h bytes ts later =
    let same : 45 ∷ 45 ∷ (c ++ 10 ∷ []) ≡ front ++ b ∷ [] = ap (λ v. 45 ∷ 45 ∷ (c ++ v ∷ [])) (sym is) ∙ ap (λ v. v ++ b ∷ []) (sym e) in
    let P : List ℕ → Type 0 = λ v. IsTokens (v ++ bytes) ts in
    subst P same (prepend_span (comment c) refl (λ spans. h) bytes ts later)

pub read_more : (r : Reading) (b : ℕ) (q : Reading) (front : List ℕ) → continued r b ≡ Some q → IsRead r front → IsRead q (front ++ b ∷ [])
read_more between b q front e h = no_some e
read_more (whole t) b q front e h = extended_read t b q front e h
read_more (in_text c) b q front e h =
    let P : Reading → Type 0 = λ r. IsRead r (front ++ b ∷ []) in
    elim (chosen (nat_eq b 39) (whole (Text c)) (in_text (c ++ b ∷ [])) q (some_is e)) [
      | inl (test, is) ↦ subst P is (ap (λ v. v ++ b ∷ []) h ∙ ap (λ v. 39 ∷ (doubled c ++ v ∷ [])) (eqb-true b 39 test))
      | inr (test, is) ↦ subst P is (text_at c b front test h)
    ]
read_more after_dash b q front e h =
    let P : Reading → Type 0 = λ r. IsRead r (front ++ b ∷ []) in
    elim (chosen (nat_eq b 45) in_comment (cond (is_ascii_digit b) (whole (Num (45 ∷ b ∷ []))) failed) q (some_is e)) [
      | inl (test, is) ↦ subst P is ([], (ap (λ v. v ++ b ∷ []) h ∙ ap (λ v. 45 ∷ v ∷ []) (eqb-true b 45 test), refl))
      | inr (test, is) ↦ elim (chosen (is_ascii_digit b) (whole (Num (45 ∷ b ∷ []))) failed q is) [
        | inl (test', is') ↦ subst P is' (ap (λ v. v ++ b ∷ []) h, one_digit b test')
        | inr (test', is') ↦ subst P is' tt
      ]
    ]
read_more after_bang b q front e h =
    let P : Reading → Type 0 = λ r. IsRead r (front ++ b ∷ []) in
    elim (chosen (nat_eq b 61) (whole Ne) failed q (some_is e)) [
      | inl (test, is) ↦ subst P is (inr (ap (λ v. v ++ b ∷ []) h ∙ ap (λ v. 33 ∷ v ∷ []) (eqb-true b 61 test)))
      | inr (test, is) ↦ subst P is tt
    ]
read_more in_comment b q front e h =
    let P : Reading → Type 0 = λ r. IsRead r (front ++ b ∷ []) in
    elim (chosen (nat_eq b 10) between in_comment q (some_is e)) [
      | inl (test, is) ↦ subst P is (comment_ends h.0 front b (eqb-true b 10 test) h.1.0 h.1.1)
      | inr (test, is) ↦ subst P is (h.0 ++ b ∷ [], (ap (λ v. v ++ b ∷ []) h.1.0, lacks_more 10 h.0 b h.1.1 test))
    ]
read_more failed b q front e h =
    let P : Reading → Type 0 = λ r. IsRead r (front ++ b ∷ []) in
    subst P (some_is e) tt

-- what is found at the end is spelled
open_gap : (c : List ℕ) → lacks 10 c ≡ true → IsTokens (45 ∷ 45 ∷ c) []
open_gap c h = record {
  spans = open_comment c ∷ [];
  are = record { bytes = sym (append-nil (45 ∷ 45 ∷ c)); stand = and_from _ _ (and_from _ _ h refl) refl };
  gaps = refl;
}

read_end : (r : Reading) (front : List ℕ) (ts : List Token) → IsRead r front → finished r ≡ Some ts → IsTokens (front ++ []) ts
read_end between front ts h e =
    let P : List Token → Type 0 = λ v. IsTokens (front ++ []) v in
    subst P (some_is e) (h [] [] no_tokens)
read_end (whole t) front ts h e =
    let P : List Token → Type 0 = λ v. IsTokens (front ++ []) v in
    elim (chosen (is_allowed t) (Some (t ∷ [])) None (Some ts) e) [
      | inl (test, is) ↦ subst P (some_is is) (one_more t front [] [] h (longest_at_end front) test no_tokens)
      | inr (test, is) ↦ no_some is
    ]
read_end (in_text c) front ts h e = no_some e
read_end after_dash front ts h e = no_some e
read_end after_bang front ts h e = no_some e
read_end in_comment front ts h e =
    let P : List Token → Type 0 = λ v. IsTokens (front ++ []) v in
    let Q : List ℕ → Type 0 = λ v. IsTokens v [] in
    subst P (some_is e) (subst Q (sym h.1.0 ∙ sym (append-nil front)) (open_gap h.0 h.1.1))
read_end failed front ts h e = no_some e

-- a token, and what is found behind it
ended_by : (t : Token) (front : List ℕ) (b : ℕ) (bytes : List ℕ) (ts : List Token) (found : Option (List Token)) → Spells t front
    → extended t b ≡ None → is_allowed t ≡ true → joined (Some (t ∷ [])) found ≡ Some ts
    → ((us : List Token) → found ≡ Some us → IsTokens (b ∷ bytes) us) → IsTokens (front ++ b ∷ bytes) ts
ended_by t front b bytes ts None h stop allowed e ih = no_some e
ended_by t front b bytes ts (Some us) h stop allowed e ih =
    let P : List Token → Type 0 = λ v. IsTokens (front ++ b ∷ bytes) v in
    subst P (some_is e) (one_more t front (b ∷ bytes) us h (is_longest t front b bytes h stop) allowed (ih us refl))

-- a reading that ends before a byte
read_ends : (r : Reading) (front : List ℕ) (b : ℕ) (bytes : List ℕ) (ts : List Token) (found : Option (List Token)) → IsRead r front
    → continued r b ≡ None → joined (finished r) found ≡ Some ts
    → ((us : List Token) → found ≡ Some us → IsTokens (b ∷ bytes) us) → IsTokens (front ++ b ∷ bytes) ts
read_ends between front b bytes ts found h stop e ih = h (b ∷ bytes) ts (ih ts (sym (joined_nothing found) ∙ e))
read_ends (whole t) front b bytes ts found h stop e ih = elim (cases_Bool (is_allowed t)) [
  | inl allowed ↦ ended_by t front b bytes ts found h stop allowed (ap (λ v. joined v found) (sym (cond-true _ _ _ allowed)) ∙ e) ih
  | inr refused ↦ no_some (ap (λ v. joined v found) (sym (cond-false _ _ _ refused)) ∙ e)
]
read_ends (in_text c) front b bytes ts found h stop e ih = no_some (sym stop)
read_ends after_dash front b bytes ts found h stop e ih = no_some (sym stop)
read_ends after_bang front b bytes ts found h stop e ih = no_some (sym stop)
read_ends in_comment front b bytes ts found h stop e ih = no_some (sym stop)
read_ends failed front b bytes ts found h stop e ih = no_some (sym stop)

-- one byte more
sound_step : (r : Reading) (front : List ℕ) (b : ℕ) (bytes : List ℕ) (ts : List Token) (o : Option Reading) → IsRead r front → continued r b ≡ o
    → joined (ended_tokens o r) (tokens_from (next_reading o b) bytes) ≡ Some ts
    → ((q : Reading) (new : List ℕ) (us : List Token) → IsRead q new → tokens_from q bytes ≡ Some us → IsTokens (new ++ bytes) us)
    → IsTokens (front ++ b ∷ bytes) ts
sound_step r front b bytes ts None h is e ih =
    read_ends r front b bytes ts (tokens_from (started b) bytes) h is e (λ us k. ih (started b) (b ∷ []) us (read_start b) k)
sound_step r front b bytes ts (Some q) h is e ih =
    let P : List ℕ → Type 0 = λ v. IsTokens v ts in
    subst P (append_assoc front (b ∷ []) bytes)
    (ih q (front ++ b ∷ []) ts (read_more r b q front is h) (sym (joined_nothing (tokens_from q bytes)) ∙ e))

pub sound : (bytes : List ℕ) (r : Reading) (front : List ℕ) (ts : List Token) → IsRead r front → tokens_from r bytes ≡ Some ts → IsTokens (front ++ bytes) ts
sound [] r front ts h e = read_end r front ts h e
sound (b ∷ bytes) r front ts h e = sound_step r front b bytes ts (continued r b) h refl e (sound bytes)

-- gaps are passed
comment_run : (c rest : List ℕ) → lacks 10 c ≡ true → tokens_from in_comment (c ++ rest) ≡ tokens_from in_comment rest
comment_run [] rest h = refl
comment_run (b ∷ c) rest h =
    let parts = and_parts (not (nat_eq b 10)) (lacks 10 c) h in
    let e : nat_eq b 10 ≡ false = not-true _ parts.0 in
    rw e (joined_nothing _ ∙ comment_run c rest parts.1)

comment_passed : (c rest : List ℕ) → lacks 10 c ≡ true → tokens_of (45 ∷ 45 ∷ ((c ++ 10 ∷ []) ++ rest)) ≡ tokens_of rest
comment_passed c rest h =
    dash_tokens ((c ++ 10 ∷ []) ++ rest) ∙ (ap (tokens_from in_comment) (append_assoc c (10 ∷ []) rest)
    ∙ (comment_run c (10 ∷ rest) h ∙ joined_nothing _))

open_passed : (c : List ℕ) → lacks 10 c ≡ true → tokens_of (45 ∷ 45 ∷ c) ≡ Some []
open_passed c h = dash_tokens c ∙ (ap (tokens_from in_comment) (sym (append-nil c)) ∙ comment_run c [] h)

pub gap_passed : (spans : List Span) (rest : List ℕ) → all_stand spans ≡ true → list_all is_gap spans ≡ true
    → tokens_of (bytes_of spans ++ rest) ≡ tokens_of rest
gap_passed [] rest s g = refl
gap_passed (byte b ∷ spans) rest s g =
    let stand = and_parts (may_stand (byte b) spans) (all_stand spans) s in
    let gap = and_parts (is_blank b) (list_all is_gap spans) g in
    blank_tokens b (bytes_of spans ++ rest) gap.0 ∙ gap_passed spans rest stand.1 gap.1
gap_passed (comment c ∷ spans) rest s g =
    let stand = and_parts (lacks 10 c) (all_stand spans) s in
    ap tokens_of (append_assoc (spelled (comment c)) (bytes_of spans) rest)
    ∙ (comment_passed c (bytes_of spans ++ rest) stand.0 ∙ gap_passed spans rest stand.1 g)
gap_passed (end ∷ spans) rest s g = absurd (false≢true g)
gap_passed (text c ∷ spans) rest s g = absurd (false≢true g)
gap_passed (open_text c ∷ spans) rest s g = absurd (false≢true g)
gap_passed (open_comment c ∷ spans) rest s g = absurd (false≢true g)

pub last_gap_passed : (spans : List Span) → all_stand spans ≡ true → list_all is_last_gap spans ≡ true → tokens_of (bytes_of spans) ≡ Some []
last_gap_passed [] s g = refl
last_gap_passed (byte b ∷ spans) s g =
    let stand = and_parts (may_stand (byte b) spans) (all_stand spans) s in
    let gap = and_parts (is_blank b) (list_all is_last_gap spans) g in
    blank_tokens b (bytes_of spans) gap.0 ∙ last_gap_passed spans stand.1 gap.1
last_gap_passed (comment c ∷ spans) s g =
    let stand = and_parts (lacks 10 c) (all_stand spans) s in
    comment_passed c (bytes_of spans) stand.0 ∙ last_gap_passed spans stand.1 g
last_gap_passed (end ∷ spans) s g = absurd (false≢true g)
last_gap_passed (text c ∷ spans) s g = absurd (false≢true g)
last_gap_passed (open_text c ∷ spans) s g = absurd (false≢true g)
last_gap_passed (open_comment c ∷ []) s g =
    let parts = and_parts (lacks 10 c) true (and_parts (may_stand (open_comment c) []) true s).0 in
    ap tokens_of (append-nil (45 ∷ 45 ∷ c)) ∙ open_passed c parts.0
last_gap_passed (open_comment c ∷ span ∷ spans) s g =
    absurd (false≢true (and_parts (lacks 10 c) false (and_parts (may_stand (open_comment c) (span ∷ spans)) (all_stand (span ∷ spans)) s).0).1)

other_byte : (b : ℕ) (s x : List ℕ) → nat_eq b 39 ≡ false → 39 ∷ s ≡ b ∷ x → ⊥
other_byte b s x other e = let is : b ≡ 39 = cc in false≢true (sym other ∙ ap (λ v. nat_eq v 39) is)

dash_no_quote : (r x : List ℕ) → 39 ∷ r ≡ 45 ∷ x → ⊥
dash_no_quote r x e = other_byte 45 r x refl e

one_is_some : (b : ℕ) → b ∷ [] ≡ [] → ⊥
one_is_some b e = cc

-- a gap doesn't begin with a quote
gap_no_quote : (spans : List Span) (r x : List ℕ) → 39 ∷ r ≡ bytes_of spans ++ x → list_all is_gap spans ≡ true → bytes_of spans ≡ []
gap_no_quote [] r x e g = refl
gap_no_quote (byte b ∷ spans) r x e g =
    let gap = and_parts (is_blank b) (list_all is_gap spans) g in
    let is : b ≡ 39 = cc in
    absurd (false≢true (ap is_blank (sym is) ∙ gap.0))
gap_no_quote (comment c ∷ spans) r x e g = absurd (dash_no_quote r _ e)
gap_no_quote (end ∷ spans) r x e g = absurd (false≢true g)
gap_no_quote (text c ∷ spans) r x e g = absurd (false≢true g)
gap_no_quote (open_text c ∷ spans) r x e g = absurd (false≢true g)
gap_no_quote (open_comment c ∷ spans) r x e g = absurd (false≢true g)

last_gap_no_quote : (spans : List Span) (r : List ℕ) → 39 ∷ r ≡ bytes_of spans → list_all is_last_gap spans ≡ true → ⊥
last_gap_no_quote [] r e g = cc
last_gap_no_quote (byte b ∷ spans) r e g =
    let gap = and_parts (is_blank b) (list_all is_last_gap spans) g in
    let is : b ≡ 39 = cc in
    absurd (false≢true (ap is_blank (sym is) ∙ gap.0))
last_gap_no_quote (comment c ∷ spans) r e g = absurd (dash_no_quote r _ e)
last_gap_no_quote (end ∷ spans) r e g = absurd (false≢true g)
last_gap_no_quote (text c ∷ spans) r e g = absurd (false≢true g)
last_gap_no_quote (open_text c ∷ spans) r e g = absurd (false≢true g)
last_gap_no_quote (open_comment c ∷ spans) r e g = absurd (dash_no_quote r _ e)

-- a spelling that begins with a quote is that of a text
text_first : (u : Token) (s : List ℕ) → Spells u (39 ∷ s) → (c : List ℕ) × (u ≡ Text c)
text_first (Word w) s h = absurd (false≢true (ap is_word h.0 ∙ h.1))
text_first (Num n) s h = absurd (false≢true (ap is_num h.0 ∙ h.1))
text_first (Text c) s h = (c, refl)
text_first Comma s h = absurd (other_byte 44 s [] refl h)
text_first Dot s h = absurd (other_byte 46 s [] refl h)
text_first ParenL s h = absurd (other_byte 40 s [] refl h)
text_first ParenR s h = absurd (other_byte 41 s [] refl h)
text_first Eq s h = absurd (other_byte 61 s [] refl h)
text_first Ne s h = absurd (elim h [ inl e ↦ other_byte 60 s (62 ∷ []) refl e | inr e ↦ other_byte 33 s (61 ∷ []) refl e ])
text_first Lt s h = absurd (other_byte 60 s [] refl h)
text_first Le s h = absurd (other_byte 60 s (61 ∷ []) refl h)
text_first Gt s h = absurd (other_byte 62 s [] refl h)
text_first Ge s h = absurd (other_byte 62 s (61 ∷ []) refl h)

-- a text and a text are one text, with a quote between
doubled_append : (a b : List ℕ) → doubled (a ++ b) ≡ doubled a ++ doubled b
doubled_append [] b = refl
doubled_append (x ∷ a) b =
    ap (λ v. cond (nat_eq x 39) (39 ∷ 39 ∷ []) (x ∷ []) ++ v) (doubled_append a b)
    ∙ sym (append_assoc (cond (nat_eq x 39) (39 ∷ 39 ∷ []) (x ∷ [])) (doubled a) (doubled b))

texts_join : (a b s u : List ℕ) → Spells (Text a) s → Spells (Text b) u → Spells (Text (a ++ 39 ∷ b)) (s ++ u)
texts_join a b s u h k =
    ap (λ v. v ++ u) h ∙ (ap (λ v. (39 ∷ (doubled a ++ 39 ∷ [])) ++ v) k
    ∙ ap (λ v. 39 ∷ v) (append_assoc (doubled a) (39 ∷ []) (39 ∷ (doubled b ++ 39 ∷ []))
    ∙ (sym (append_assoc (doubled a) (39 ∷ 39 ∷ doubled b) (39 ∷ [])) ∙ ap (λ v. v ++ 39 ∷ []) (sym (doubled_append a (39 ∷ b))))))

-- behind the longest text stands no quote that tokens go on with
text_next : (c s r : List ℕ) (ts : List Token) → Spells (Text c) s → IsLongest s (39 ∷ r) → IsTokens (39 ∷ r) ts → ⊥
text_next c s r [] h longest later = last_gap_no_quote later.spans r later.are.bytes later.gaps
text_next c s r (u ∷ us) h longest later =
    let f = later.0 in
    let parts : 39 ∷ r ≡ bytes_of f.between.spans ++ (f.spelling ++ f.rest) = f.parts ∙ ap (λ v. v ++ (f.spelling ++ f.rest)) f.between.are.bytes in
    let nothing : bytes_of f.between.spans ≡ [] = gap_no_quote f.between.spans r (f.spelling ++ f.rest) parts f.between.gaps in
    let front : 39 ∷ r ≡ f.spelling ++ f.rest = parts ∙ ap (λ v. v ++ (f.spelling ++ f.rest)) nothing in
    let start = spells_goes u f.spelling f.spells in
    let joint : 39 ∷ r ≡ start.first ∷ (start.more ++ f.rest) = front ∙ ap (λ v. v ++ f.rest) start.is in
    let first : start.first ≡ 39 = cc joint in
    let spelling : f.spelling ≡ 39 ∷ start.more = start.is ∙ ap (λ v. v ∷ start.more) first in
    let P : List ℕ → Type 0 = λ v. Spells u v in
    let is_text = text_first u start.more (subst P spelling f.spells) in
    let Q : Token → Type 0 = λ v. Spells v f.spelling in
    let both : Spells (Text (c ++ 39 ∷ is_text.0)) (s ++ f.spelling) = texts_join c is_text.0 s f.spelling h (subst Q is_text.1 f.spells) in
    let none : f.spelling ≡ [] = longest (Text (c ++ 39 ∷ is_text.0)) f.spelling f.rest front both in
    let impossible : 39 ∷ start.more ≡ [] = sym spelling ∙ none in
    cc

-- the longest token doesn't go on with the next byte
longest_stops : (t : Token) (s : List ℕ) (b : ℕ) (r : List ℕ) (ts : List Token) → Spells t s → IsLongest s (b ∷ r) → IsTokens (b ∷ r) ts → extended t b ≡ None
longest_stops (Word w) s b r ts h longest later = elim (cases_Bool (is_word_byte b)) [
  | inl e ↦ absurd (one_is_some b (longest (Word (w ++ b ∷ [])) (b ∷ []) r refl (ap (λ v. v ++ b ∷ []) h.0, is_word_more w b h.1 e)))
  | inr e ↦ cond-false _ _ _ e
]
longest_stops (Num n) s b r ts h longest later = elim (cases_Bool (is_ascii_digit b)) [
  | inl e ↦ absurd (one_is_some b (longest (Num (n ++ b ∷ [])) (b ∷ []) r refl (ap (λ v. v ++ b ∷ []) h.0, is_num_more n b h.1 e)))
  | inr e ↦ cond-false _ _ _ e
]
longest_stops (Text c) s b r ts h longest later = elim (cases_Bool (nat_eq b 39)) [
  | inl e ↦
      let P : ℕ → Type 0 = λ v. IsLongest s (v ∷ r) in
      let Q : ℕ → Type 0 = λ v. IsTokens (v ∷ r) ts in
      absurd (text_next c s r ts h (subst P (eqb-true b 39 e) longest) (subst Q (eqb-true b 39 e) later))
  | inr e ↦ cond-false _ _ _ e
]
longest_stops Lt s b r ts h longest later = elim (cases_Bool (nat_eq b 61)) [
  | inl e ↦ absurd (one_is_some b (longest Le (b ∷ []) r refl (ap (λ v. v ++ b ∷ []) h ∙ ap (λ v. 60 ∷ v ∷ []) (eqb-true b 61 e))))
  | inr e ↦ elim (cases_Bool (nat_eq b 62)) [
    | inl k ↦ absurd (one_is_some b (longest Ne (b ∷ []) r refl (inl (ap (λ v. v ++ b ∷ []) h ∙ ap (λ v. 60 ∷ v ∷ []) (eqb-true b 62 k)))))
    | inr k ↦ cond-false _ _ _ e ∙ cond-false _ _ _ k
  ]
]
longest_stops Gt s b r ts h longest later = elim (cases_Bool (nat_eq b 61)) [
  | inl e ↦ absurd (one_is_some b (longest Ge (b ∷ []) r refl (ap (λ v. v ++ b ∷ []) h ∙ ap (λ v. 62 ∷ v ∷ []) (eqb-true b 61 e))))
  | inr e ↦ cond-false _ _ _ e
]
longest_stops Comma s b r ts h longest later = refl
longest_stops Dot s b r ts h longest later = refl
longest_stops ParenL s b r ts h longest later = refl
longest_stops ParenR s b r ts h longest later = refl
longest_stops Eq s b r ts h longest later = refl
longest_stops Ne s b r ts h longest later = refl
longest_stops Le s b r ts h longest later = refl
longest_stops Ge s b r ts h longest later = refl

stops_here : (t : Token) (s rest : List ℕ) (ts : List Token) → Spells t s → IsLongest s rest → IsTokens rest ts → StopsAt t rest
stops_here t s [] ts h longest later = tt
stops_here t s (b ∷ r) ts h longest later = longest_stops t s b r ts h longest later

-- what is spelled is found
pub complete : (ts : List Token) (bytes : List ℕ) → IsTokens bytes ts → tokens_of bytes ≡ Some ts
complete [] bytes h = ap tokens_of h.are.bytes ∙ last_gap_passed h.spans h.are.stand h.gaps
complete (t ∷ ts) bytes h =
    let f = h.0 in
    let start = spells_goes t f.spelling f.spells in
    let past : tokens_of bytes ≡ tokens_of (f.spelling ++ f.rest) =
    ap tokens_of (f.parts ∙ ap (λ v. v ++ (f.spelling ++ f.rest)) f.between.are.bytes)
    ∙ gap_passed f.between.spans (f.spelling ++ f.rest) f.between.are.stand f.between.gaps in
    let read : tokens_of (f.spelling ++ f.rest) ≡ tokens_from (whole t) f.rest =
    ap (λ v. tokens_of (v ++ f.rest)) start.is
    ∙ (tokens_at start.first (start.more ++ f.rest) ∙ goes_read start.more (started start.first) (whole t) f.rest start.goes_on) in
    let ends : tokens_from (whole t) f.rest ≡ joined (finished (whole t)) (tokens_of f.rest) =
    stops t f.rest (stops_here t f.spelling f.rest ts f.spells f.longest h.1) in
    past ∙ (read ∙ (ends ∙ (ap (λ v. joined v (tokens_of f.rest)) (cond-true _ _ _ f.allowed) ∙ ap (joined (Some (t ∷ []))) (complete ts f.rest h.1))))

pub tokens_are_spelled : TokensAreSpelled
tokens_are_spelled piece ts = (λ e. sound piece between [] ts (λ bytes us h. h) e, λ h. complete ts piece h)

-- each token that is spelled is well formed
formed_token : (t : Token) (s : List ℕ) → Spells t s → is_allowed t ≡ true → is_formed t ≡ true
formed_token (Word w) s h allowed = and_from _ _ h.1 allowed
formed_token (Num n) s h allowed = h.1
formed_token (Text c) s h allowed = allowed
formed_token Comma s h allowed = refl
formed_token Dot s h allowed = refl
formed_token ParenL s h allowed = refl
formed_token ParenR s h allowed = refl
formed_token Eq s h allowed = refl
formed_token Ne s h allowed = refl
formed_token Lt s h allowed = refl
formed_token Le s h allowed = refl
formed_token Gt s h allowed = refl
formed_token Ge s h allowed = refl

formed_tokens : (ts : List Token) (bytes : List ℕ) → IsTokens bytes ts → list_all is_formed ts ≡ true
formed_tokens [] bytes h = refl
formed_tokens (t ∷ ts) bytes h = and_from _ _ (formed_token t h.0.spelling h.0.spells h.0.allowed) (formed_tokens ts h.0.rest h.1)

pub tokens_are_formed : TokensAreFormed
tokens_are_formed piece ts e = formed_tokens ts piece (sound piece between [] ts (λ bytes us h. h) e)
