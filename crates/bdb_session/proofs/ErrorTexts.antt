-- Texts without a line feed, and lines that tell no error.
use Rattle.std.proofs.Common.{◌≡◌, ◌∙◌, ℕ, ℤ, pos, negsuc, suc, ◌<◌, ◌/◌, ◌%◌, ◌==◌, Bool, true, false, not, ◌&&◌, ◌||◌, nat_eq, List, [], ◌∷◌, ◌++◌, map, refl, ap, sym, inl, inr, arith, append_assoc}
use Prim.Native.Nat.{zero}
use Rattle.std.specs.Prelude.{codes}
use Rattle.std.specs.Char.{is_ascii_digit}
use Rattle.std.specs.Fmt.{decimal, digits, digits_onto, digit_glyph}
use Rattle.std.specs.List.{flat_map, list_all, list_any}
use Rattle.std.proofs.lemmas.Bool.{false≢true, and_cases, and_from, and_left, and_parts, and_right, agree_below_at, cond_both, not-true, not_from_false}
use Rattle.std.proofs.lemmas.Bool.Decides.{nat_tests}
use Rattle.std.proofs.lemmas.List.{append-nil}
use Rattle.std.proofs.lemmas.List.Concat.{flat_map-append}
use Rattle.std.proofs.lemmas.List.Folds.{flat_map-map, list_all-append, list_all-map, list_any-append}
use Rattle.bdb_base.specs.declared.kinds.Value.{Value}
use Rattle.bdb_base.specs.declared.kinds.Value.TheVariants.{Int, Text}
use Rattle.bdb_base.specs.Segments.{is_prefix}
use Rattle.bdb_base.specs.Texts.{int_text, joined, quoted, quoted_byte, value_text, line}
use Rattle.bdb_base.proofs.ListLemmas.{list_all_weaker}
use Rattle.bdb_base.proofs.WorldRowsLemmas.{list_all-flat_map}
use Rattle.bdb_lex.specs.Spans.{lacks}
use Rattle.bdb_render.specs.Replies.{row_text}
use Rattle.bdb_session.specs.ErrorLines.{before_lines, has_error_line, lines_of, tells_error}

-- ---- texts without a line feed

abbrev pub IsFlat : List ℕ → Type 0
IsFlat text = lacks 10 text ≡ true

abbrev is_other : ℕ → Bool
is_other c = not (nat_eq c 10)

pub flat_append : (a b : List ℕ) → IsFlat a → IsFlat b → IsFlat (a ++ b)
flat_append a b f g = list_all-append is_other a b ∙ and_from (lacks 10 a) (lacks 10 b) f g

pub flat_parts : {X : Type 0} (p : X → Bool) (f : X → List ℕ) → ((x : X) → p x ≡ true → IsFlat (f x)) → (xs : List X) → list_all p xs ≡ true → IsFlat (flat_map f xs)
flat_parts p f h xs e = list_all-flat_map p is_other f h xs e

pub flat_each : {X : Type 0} (f : X → List ℕ) → ((x : X) → IsFlat (f x)) → (xs : List X) → IsFlat (flat_map f xs)
flat_each f h [] = refl
flat_each f h (x ∷ xs) = flat_append (f x) (flat_map f xs) (h x) (flat_each f h xs)

quoted_byte_flat : (c : ℕ) → is_other c ≡ true → IsFlat (quoted_byte c)
quoted_byte_flat c h = cond_both (c == 39) (39 ∷ 39 ∷ []) (c ∷ []) (λ t. IsFlat t) (λ e. refl) (λ e. and_from (is_other c) true h refl)

pub quoted_flat : (t : List ℕ) → IsFlat t → IsFlat (quoted t)
quoted_flat t h =
    let mid = flat_map quoted_byte t in
    flat_append (39 ∷ [] ++ mid) (39 ∷ []) (flat_append (39 ∷ []) mid refl (flat_parts is_other quoted_byte quoted_byte_flat t h)) refl

pub joined_flat : (texts : List (List ℕ)) → list_all (lacks 10) texts ≡ true → IsFlat (joined texts)
joined_flat [] h = refl
joined_flat (t ∷ ts) h =
    let k = and_parts (lacks 10 t) (list_all (lacks 10) ts) h in
    flat_append t (flat_map (λ x. codes ", " ++ x) ts) k.0
    (flat_parts (lacks 10) (λ x. codes ", " ++ x) (λ x e. flat_append (codes ", ") x refl e) ts k.1)

-- ---- numbers

-- digits, one at least
abbrev pub are_digits : List ℕ → Bool
are_digits [] = false
are_digits (d ∷ ds) = is_ascii_digit d && list_all is_ascii_digit ds

more_digits : (d : ℕ) (ds : List ℕ) → is_ascii_digit d ≡ true → are_digits ds ≡ true → are_digits (d ∷ ds) ≡ true
more_digits d [] h k = absurd (false≢true k)
more_digits d (e ∷ es) h k = and_from (is_ascii_digit d) (is_ascii_digit e && list_all is_ascii_digit es) h k

last_digit : (n : ℕ) → n % 10 < 10
last_digit n = omega arith

glyph_is_digit : (d : ℕ) → d < 10 → is_ascii_digit (digit_glyph false d) ≡ true
glyph_is_digit d h = agree_below_at (λ n. is_ascii_digit (digit_glyph false n)) (λ n. true) 10 d refl h

onto_digits : (k n : ℕ) (acc : List ℕ) → are_digits acc ≡ true → are_digits (digits_onto k 10 false n acc) ≡ true
onto_digits zero n acc h = h
onto_digits (suc k) n acc h =
    let g = digit_glyph false (n % 10) in
    let m : are_digits (g ∷ acc) ≡ true = more_digits g acc (glyph_is_digit (n % 10) (last_digit n)) h in
    cond_both (n / 10 == 0) (g ∷ acc) (digits_onto k 10 false (n / 10) (g ∷ acc)) (λ x. are_digits x ≡ true) (λ e. m) (λ e. onto_digits k (n / 10) (g ∷ acc) m)

onto_nothing : (k n : ℕ) → are_digits (digits_onto (suc k) 10 false n []) ≡ true
onto_nothing k n =
    let g = digit_glyph false (n % 10) in
    let m : are_digits (g ∷ []) ≡ true = and_from (is_ascii_digit g) true (glyph_is_digit (n % 10) (last_digit n)) refl in
    cond_both (n / 10 == 0) (g ∷ []) (digits_onto k 10 false (n / 10) (g ∷ [])) (λ x. are_digits x ≡ true) (λ e. m) (λ e. onto_digits k (n / 10) (g ∷ []) m)

pub decimal_digits : (n : ℕ) → are_digits (decimal n) ≡ true
unfolding digits
decimal_digits n = onto_nothing 63 n

digit_is_other : (c : ℕ) → is_ascii_digit c ≡ true → is_other c ≡ true
digit_is_other c h = grind (arith, nat_tests)

digits_flat : (ds : List ℕ) → are_digits ds ≡ true → IsFlat ds
digits_flat [] h = refl
digits_flat (d ∷ ds) h =
    let k = and_parts (is_ascii_digit d) (list_all is_ascii_digit ds) h in
    and_from (is_other d) (lacks 10 ds) (digit_is_other d k.0) (list_all_weaker is_ascii_digit is_other digit_is_other ds k.1)

pub decimal_flat : (n : ℕ) → IsFlat (decimal n)
decimal_flat n = digits_flat (decimal n) (decimal_digits n)

int_flat : (n : ℤ) → IsFlat (int_text n)
int_flat (pos n) = decimal_flat n
int_flat (negsuc n) = and_from true (lacks 10 (decimal (suc n))) refl (decimal_flat (suc n))

-- ---- values

-- a text has no line feed
abbrev pub is_flat_value : Value → Bool
is_flat_value (Int n) = true
is_flat_value (Text t) = lacks 10 t

pub value_flat : (v : Value) → is_flat_value v ≡ true → IsFlat (value_text v)
value_flat (Int n) h = int_flat n
value_flat (Text t) h = quoted_flat t h

pub row_flat : (vals : List Value) → list_all is_flat_value vals ≡ true → IsFlat (row_text vals)
row_flat vals h = joined_flat (map value_text vals)
    (list_all-map (lacks 10) value_text vals ∙ list_all_weaker is_flat_value (λ v. lacks 10 (value_text v)) value_flat vals h)

digit_is_no_e : (d : ℕ) → is_ascii_digit d ≡ true → nat_eq 101 d ≡ false
digit_is_no_e d h = grind (arith, nat_tests)

pub digits_tell_none : (ds rest : List ℕ) → are_digits ds ≡ true → tells_error (ds ++ rest) ≡ false
digits_tell_none [] rest h = absurd (false≢true h)
digits_tell_none (d ∷ ds) rest h =
    and_left (nat_eq 101 d) (is_prefix (codes "rror ") (ds ++ rest)) (digit_is_no_e d (and_parts (is_ascii_digit d) (list_all is_ascii_digit ds) h).0)

int_tells_none : (n : ℤ) (rest : List ℕ) → tells_error (int_text n ++ rest) ≡ false
int_tells_none (pos n) rest = digits_tell_none (decimal n) rest (decimal_digits n)
int_tells_none (negsuc n) rest = refl

value_tells_none : (v : Value) (rest : List ℕ) → tells_error (value_text v ++ rest) ≡ false
value_tells_none (Int n) rest = int_tells_none n rest
value_tells_none (Text t) rest = refl

pub row_tells_none : (vals : List Value) → tells_error (row_text vals) ≡ false
row_tells_none [] = refl
row_tells_none (v ∷ vals) = value_tells_none v (flat_map (λ text. codes ", " ++ text) (map value_text vals))

-- ---- quiet lines

-- a line has no line feed within, and tells no error
abbrev pub is_quiet : List ℕ → Bool
is_quiet text = lacks 10 text && not (tells_error text)

pub quiet_from : (text : List ℕ) → IsFlat text → tells_error text ≡ false → is_quiet text ≡ true
quiet_from text f e = and_from (lacks 10 text) (not (tells_error text)) f (not_from_false (tells_error text) e)

-- a text is lines that tell no error, each ended by a line feed
pub record IsQuiet (text : List ℕ) : Type 0 where
  pub texts : List (List ℕ)
  pub is : text ≡ flat_map line texts
  pub quiet : list_all is_quiet texts ≡ true

pub quiet_nothing : IsQuiet []
quiet_nothing = record { texts = []; is = refl; quiet = refl }

pub quiet_line : (text : List ℕ) → is_quiet text ≡ true → IsQuiet (line text)
quiet_line text h = record { texts = text ∷ []; is = sym (append-nil (line text)); quiet = and_from (is_quiet text) true h refl }

pub quiet_append : (a b : List ℕ) → IsQuiet a → IsQuiet b → IsQuiet (a ++ b)
quiet_append a b f g = record {
  texts = f.texts ++ g.texts;
  is = ap (λ x. x ++ b) f.is ∙ ap (λ y. flat_map line f.texts ++ y) g.is ∙ sym (flat_map-append line f.texts g.texts);
  quiet = list_all-append is_quiet f.texts g.texts ∙ and_from (list_all is_quiet f.texts) (list_all is_quiet g.texts) f.quiet g.quiet;
}

pub quiet_lines : {X : Type 0} (p : X → Bool) (f : X → List ℕ) → ((x : X) → p x ≡ true → is_quiet (f x) ≡ true) → (xs : List X) → list_all p xs ≡ true
    → IsQuiet (flat_map (λ x. line (f x)) xs)
quiet_lines p f h xs e = record {
  texts = map f xs;
  is = sym (flat_map-map line f xs);
  quiet = list_all-map is_quiet f xs ∙ list_all_weaker p (λ x. is_quiet (f x)) h xs e;
}

-- ---- the lines of a text

pub lines_before : (t rest : List ℕ) → IsFlat t → lines_of (t ++ 10 ∷ rest) ≡ t ∷ lines_of rest
lines_before [] rest h = refl
lines_before (b ∷ t) rest h =
    let k = and_parts (is_other b) (lacks 10 t) h in
    ap (λ x. before_lines x b (lines_of (t ++ 10 ∷ rest))) (not-true (nat_eq b 10) k.0) ∙ ap (before_lines false b) (lines_before t rest k.1)

-- lines, each ended by a line feed, and what stands behind them
pub lines_are : (texts : List (List ℕ)) (rest : List ℕ) → list_all (lacks 10) texts ≡ true → lines_of (flat_map line texts ++ rest) ≡ texts ++ lines_of rest
lines_are [] rest h = refl
lines_are (t ∷ ts) rest h =
    let k = and_parts (lacks 10 t) (list_all (lacks 10) ts) h in
    let more = flat_map line ts in
    ap lines_of (append_assoc (line t) more rest ∙ append_assoc t (10 ∷ []) (more ++ rest))
    ∙ (lines_before t (more ++ rest) k.0 ∙ ap (λ ls. t ∷ ls) (lines_are ts rest k.1))

quiet_is_flat : (t : List ℕ) → is_quiet t ≡ true → lacks 10 t ≡ true
quiet_is_flat t h = (and_parts (lacks 10 t) (not (tells_error t)) h).0

pub quiet_are_flat : (texts : List (List ℕ)) → list_all is_quiet texts ≡ true → list_all (lacks 10) texts ≡ true
quiet_are_flat texts h = list_all_weaker is_quiet (lacks 10) quiet_is_flat texts h

quiet_tell_none : (texts : List (List ℕ)) → list_all is_quiet texts ≡ true → list_any tells_error texts ≡ false
quiet_tell_none [] h = refl
quiet_tell_none (t ∷ ts) h =
    let k = and_parts (is_quiet t) (list_all is_quiet ts) h in
    let q = and_parts (lacks 10 t) (not (tells_error t)) k.0 in
    ap (λ b. b || list_any tells_error ts) (not-true (tells_error t) q.1) ∙ quiet_tell_none ts k.1

-- behind lines that tell no error
pub behind_quiet : (text rest : List ℕ) → IsQuiet text → has_error_line (text ++ rest) ≡ has_error_line rest
behind_quiet text rest q =
    ap (λ x. has_error_line (x ++ rest)) q.is
    ∙ (ap (list_any tells_error) (lines_are q.texts rest (quiet_are_flat q.texts q.quiet))
    ∙ (list_any-append tells_error q.texts (lines_of rest)
    ∙ ap (λ b. b || list_any tells_error (lines_of rest)) (quiet_tell_none q.texts q.quiet)))

-- such lines tell no error
pub quiet_has_none : (text : List ℕ) → IsQuiet text → has_error_line text ≡ false
quiet_has_none text q = ap has_error_line (sym (append-nil text)) ∙ behind_quiet text [] q

-- what isn't the beginning of a line isn't that of a text which the line begins
still_none : (front t rest : List ℕ) → lacks 10 front ≡ true → is_prefix front t ≡ false → is_prefix front ((t ++ 10 ∷ []) ++ rest) ≡ false
still_none [] t rest f h = h
still_none (b ∷ front) [] rest f h = and_left (nat_eq b 10) (is_prefix front rest) (not-true (nat_eq b 10) (and_parts (is_other b) (lacks 10 front) f).0)
still_none (b ∷ front) (c ∷ t) rest f h = elim (and_cases (nat_eq b c) (is_prefix front t) h) [
  | inl e ↦ and_left (nat_eq b c) (is_prefix front ((t ++ 10 ∷ []) ++ rest)) e
  | inr e ↦ and_right (nat_eq b c) (is_prefix front ((t ++ 10 ∷ []) ++ rest)) (still_none front t rest (and_parts (is_other b) (lacks 10 front) f).1 e)
]

first_tells_none : (texts : List (List ℕ)) → list_all is_quiet texts ≡ true → tells_error (flat_map line texts) ≡ false
first_tells_none [] h = refl
first_tells_none (t ∷ ts) h =
    let q = and_parts (lacks 10 t) (not (tells_error t)) (and_parts (is_quiet t) (list_all is_quiet ts) h).0 in
    still_none (codes "error ") t (flat_map line ts) refl (not-true (tells_error t) q.1)

pub begins_quiet : (text : List ℕ) → IsQuiet text → tells_error text ≡ false
begins_quiet text q = ap tells_error q.is ∙ first_tells_none q.texts q.quiet

-- ---- a text that begins with `error `

pub error_tells : (text : List ℕ) → has_error_line (codes "error " ++ text) ≡ true
error_tells text = first (lines_of text)
  where
    first : (lines : List (List ℕ))
        → list_any tells_error (before_lines false 101 (before_lines false 114 (before_lines false 114 (before_lines false 111 (before_lines false 114 (before_lines false 32 lines)))))) ≡ true
    first [] = refl
    first (l ∷ ls) = refl
