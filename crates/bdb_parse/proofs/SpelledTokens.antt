-- How words, texts and numbers read back from their spelling.
use Rattle.std.proofs.Common.{◌≡◌, ℕ, suc, ◌<◌, ◌^◌, true, false, ◌&&◌, nat_eq, nat_le, List, [], ◌∷◌, ◌++◌, length, Some, refl, sym, ap, ◌∙◌, arith, append_assoc, inl, inr, ℤ, pos, negsuc}
use Rattle.std.specs.Prelude.{codes}
use Rattle.std.specs.List.{list_all, flat_map}
use Rattle.std.specs.Char.{is_ascii_digit}
use Rattle.std.specs.Fmt.{decimal}
use Rattle.std.proofs.lemmas.Bool.{false≢true, and_parts, and_from, cond-true, cond-false, cases_Bool, eqb-true, ltb-true}
use Rattle.std.proofs.lemmas.Bool.Decides.{nat_tests}
use Rattle.std.proofs.lemmas.List.{append-nil}
use Rattle.std.proofs.lemmas.Str.{is_utf8-from_IsUtf8}
use Rattle.std.proofs.lemmas.Fmt.{digits_decimal, decimal_nonempty}
use Rattle.bdb_base.specs.declared.kinds.Cmp.{Cmp}
use Rattle.bdb_base.specs.declared.kinds.Cmp.TheVariants as cmp
use Rattle.bdb_base.specs.declared.kinds.Value.{Value}
use Rattle.bdb_base.specs.declared.kinds.Value.TheVariants as value
use Rattle.bdb_base.specs.Texts.{quoted, quoted_byte, int_text, cmp_text, value_text}
use Rattle.bdb_base.specs.Bases.{is_clean}
use Rattle.bdb_base.specs.Letters.{is_letter, is_word_byte}
use Rattle.bdb_lex.specs.declared.token.Token.TheVariants.{Word, Text, Num, Eq, Ne, Lt, Le, Gt, Ge}
use Rattle.bdb_lex.specs.Tokens.{extended, tokens_from}
use Rattle.bdb_lex.specs.Tokens.Reading.{whole, in_text, after_dash}
use Rattle.bdb_lex.proofs.TokenLemmas.{joined_nothing, started_letter, started_digit, digit_no_dash}
use Rattle.bdb_syntax.specs.Printable.{is_short_word, IsContent, IsPrintableValue}
use Rattle.bdb_parse.specs.Numbers.{is_i64}
use Rattle.bdb_parse.specs.Fits.{value_fits}
use Rattle.bdb_parse.proofs.PrintedTokens.{cmp_token, value_tokens}
use Rattle.bdb_parse.proofs.RoundTripLexing.{is_edge_byte, is_edge, StopsAt, stops, word_stops, num_stops, text_stops, Reads, ends_mark, reads_mark, reads_from_ends}
use Rattle.bdb_parse.proofs.NumberLemmas.{digits_own}

word_run : (w a rest : List ℕ) → list_all is_word_byte a ≡ true → tokens_from (whole (Word w)) (a ++ rest) ≡ tokens_from (whole (Word (w ++ a))) rest
word_run w [] rest h = ap (λ v. tokens_from (whole (Word v)) rest) (sym (append-nil w))
word_run w (b ∷ a) rest h =
    let p = and_parts (is_word_byte b) (list_all is_word_byte a) h in
    let e : extended (Word w) b ≡ Some (whole (Word (w ++ b ∷ []))) = cond-true (is_word_byte b) _ _ p.0 in
    rw e (joined_nothing _ ∙ (word_run (w ++ b ∷ []) a rest p.1 ∙ ap (λ v. tokens_from (whole (Word v)) rest) (append_assoc w (b ∷ []) a)))

pub word_reads : (w : List ℕ) → is_short_word w ≡ true → Reads w (Word w ∷ [])
word_reads [] h = absurd (false≢true h)
word_reads (b ∷ w) h =
    let p = and_parts (is_letter b) (list_all is_word_byte w && nat_le (length (b ∷ w)) 255) h in
    let q = and_parts (list_all is_word_byte w) (nat_le (length (b ∷ w)) 255) p.1 in
    record {
      reads = λ rest e. joined_nothing _ ∙ (ap (λ r. tokens_from r (w ++ rest)) (started_letter b p.0)
          ∙ (word_run (b ∷ []) w rest q.0 ∙ stops (Word (b ∷ w)) rest (word_stops (b ∷ w) rest e) q.1));
    }

text_run : (c t rest : List ℕ) → tokens_from (in_text c) (flat_map quoted_byte t ++ 39 ∷ rest) ≡ tokens_from (whole (Text (c ++ t))) rest
text_run c [] rest = joined_nothing _ ∙ ap (λ v. tokens_from (whole (Text v)) rest) (sym (append-nil c))
text_run c (b ∷ t) rest = elim (cases_Bool (nat_eq b 39)) [
  | inl e ↦ let is_quote : b ≡ 39 = eqb-true b 39 e in
      rw is_quote (joined_nothing _ ∙ (joined_nothing _ ∙ (text_run (c ++ 39 ∷ []) t rest ∙ ap (λ v. tokens_from (whole (Text v)) rest) (append_assoc c (39 ∷ []) t))))
  | inr e ↦ ap (λ piece. tokens_from (in_text c) (piece ++ flat_map quoted_byte t ++ 39 ∷ rest)) (cond-false (nat_eq b 39) (39 ∷ 39 ∷ []) (b ∷ []) e)
      ∙ (joined_nothing _ ∙ (ap (λ r. tokens_from r (flat_map quoted_byte t ++ 39 ∷ rest)) (cond-false (nat_eq b 39) (whole (Text c)) (in_text (c ++ b ∷ [])) e)
      ∙ (text_run (c ++ b ∷ []) t rest ∙ ap (λ v. tokens_from (whole (Text v)) rest) (append_assoc c (b ∷ []) t))))
]

pub text_reads : (t : List ℕ) → IsContent t → Reads (quoted t) (Text t ∷ [])
text_reads t h =
    let ok : is_clean t ≡ true = and_from _ _ (is_utf8-from_IsUtf8 t h.0) h.1 in
    record {
      reads = λ rest e. joined_nothing _ ∙ (ap (tokens_from (in_text [])) (append_assoc (flat_map quoted_byte t) (39 ∷ []) rest)
          ∙ (text_run [] t rest ∙ stops (Text t) rest (text_stops t rest e) ok));
    }

num_run : (w a rest : List ℕ) → list_all is_ascii_digit a ≡ true → tokens_from (whole (Num w)) (a ++ rest) ≡ tokens_from (whole (Num (w ++ a))) rest
num_run w [] rest h = ap (λ v. tokens_from (whole (Num v)) rest) (sym (append-nil w))
num_run w (b ∷ a) rest h =
    let p = and_parts (is_ascii_digit b) (list_all is_ascii_digit a) h in
    let e : extended (Num w) b ≡ Some (whole (Num (w ++ b ∷ []))) = cond-true (is_ascii_digit b) _ _ p.0 in
    rw e (joined_nothing _ ∙ (num_run (w ++ b ∷ []) a rest p.1 ∙ ap (λ v. tokens_from (whole (Num v)) rest) (append_assoc w (b ∷ []) a)))

digits_read : (a : List ℕ) → list_all is_ascii_digit a ≡ true → 0 < length a → Reads a (Num a ∷ [])
digits_read [] h n = absurd (omega arith)
digits_read (b ∷ a) h n =
    let p = and_parts (is_ascii_digit b) (list_all is_ascii_digit a) h in
    record {
      reads = λ rest e. joined_nothing _ ∙ (ap (λ r. tokens_from r (a ++ rest)) (started_digit b p.0)
          ∙ (num_run (b ∷ []) a rest p.1 ∙ stops (Num (b ∷ a)) rest (num_stops (b ∷ a) rest e) refl));
    }

dashed_read : (a : List ℕ) → list_all is_ascii_digit a ≡ true → 0 < length a → Reads (45 ∷ a) (Num (45 ∷ a) ∷ [])
dashed_read [] h n = absurd (omega arith)
dashed_read (b ∷ a) h n =
    let p = and_parts (is_ascii_digit b) (list_all is_ascii_digit a) h in
    let dash : nat_eq b 45 ≡ false = digit_no_dash b p.0 in
    let digit : is_ascii_digit b ≡ true = p.0 in
    let second : (rest : List ℕ) → tokens_from after_dash (b ∷ (a ++ rest)) ≡ tokens_from (whole (Num (45 ∷ b ∷ []))) (a ++ rest) = λ rest. rw (dash, digit) (joined_nothing _) in
    record {
      reads = λ rest e. joined_nothing _ ∙ (second rest
          ∙ (num_run (45 ∷ b ∷ []) a rest p.1 ∙ stops (Num (45 ∷ b ∷ a)) rest (num_stops (45 ∷ b ∷ a) rest e) refl));
    }

pub int_reads : (n : ℤ) → is_i64 n ≡ true → Reads (int_text n) (Num (int_text n) ∷ [])
int_reads (pos n) h =
    let small : n < 2 ^ 63 = ltb-true n (2 ^ 63) h in
    let fits : n < 2 ^ 64 = omega arith in
    digits_read (decimal n) (digits_decimal digits_own n fits) (decimal_nonempty n fits)
int_reads (negsuc n) h =
    let small : n < 2 ^ 63 = ltb-true n (2 ^ 63) h in
    let fits : suc n < 2 ^ 64 = omega arith in
    dashed_read (decimal (suc n)) (digits_decimal digits_own (suc n) fits) (decimal_nonempty (suc n) fits)

pub value_reads : (v : Value) → IsPrintableValue v → value_fits v ≡ true → Reads (value_text v) (value_tokens v)
value_reads (value.Int n) p f = int_reads n f
value_reads (value.Text t) p f = text_reads t p

edge_no_equal : (b : ℕ) → is_edge_byte b ≡ true → nat_eq b 61 ≡ false
edge_no_equal b h = grind (arith, nat_tests)

edge_no_greater : (b : ℕ) → is_edge_byte b ≡ true → nat_eq b 62 ≡ false
edge_no_greater b h = grind (arith, nat_tests)

lt_stops : (rest : List ℕ) → is_edge rest ≡ true → StopsAt Lt rest
lt_stops [] h = tt
lt_stops (b ∷ rest) h = cond-false (nat_eq b 61) _ _ (edge_no_equal b h) ∙ cond-false (nat_eq b 62) _ _ (edge_no_greater b h)

gt_stops : (rest : List ℕ) → is_edge rest ≡ true → StopsAt Gt rest
gt_stops [] h = tt
gt_stops (b ∷ rest) h = cond-false (nat_eq b 61) _ _ (edge_no_equal b h)

pub cmp_reads : (c : Cmp) → Reads (cmp_text c) (cmp_token c ∷ [])
cmp_reads cmp.Eq = reads_from_ends (ends_mark (codes "=") [] Eq refl refl (λ b. refl) refl)
cmp_reads cmp.Ne = reads_from_ends (ends_mark (codes "<>") [] Ne refl refl (λ b. refl) refl)
cmp_reads cmp.Lt = reads_mark (codes "<") [] Lt refl refl lt_stops refl
cmp_reads cmp.Le = reads_from_ends (ends_mark (codes "<=") [] Le refl refl (λ b. refl) refl)
cmp_reads cmp.Gt = reads_mark (codes ">") [] Gt refl refl gt_stops refl
cmp_reads cmp.Ge = reads_from_ends (ends_mark (codes ">=") [] Ge refl refl (λ b. refl) refl)
