-- Blanks and comments at the front of bytes.
use Rattle.std.proofs.Common.{◌≡◌, ◌∙◌, ℕ, Bool, true, false, not, ◌&&◌, nat_eq, Some, List, [], ◌∷◌, ◌++◌, refl, ap, sym, subst, append_assoc, inl, inr}
use Rattle.std.specs.List.{list_all}
use Rattle.std.proofs.lemmas.Bool.{cases_Bool, or_left, and_parts, and_from, eqb-true, false≢true, not-true, not_from_false}
use Rattle.bdb_base.specs.Letters.{is_blank}
use Rattle.bdb_lex.specs.Reading.{begins, begins_gap, behind, behind_gaps}
use Rattle.bdb_lex.specs.Spans.{Span, spelled, bytes_of, lacks, may_stand, all_stand}
use Rattle.bdb_lex.specs.Spans.Span.{end, text, comment, byte, open_text, open_comment}
use Rattle.bdb_lex.specs.Tokens.{tokens_of}
use Rattle.bdb_lex.specs.TokenGrammar.{is_gap, is_last_gap, IsGap, IsLastGap}
use Rattle.bdb_lex.proofs.GapLemmas.{no_dash, blank_passed, nothing_passed, comment_ends, comment_goes_on, begins_no_gap, gap_begins, gap_of_one, tokens_behind}
use Rattle.bdb_lex.proofs.SpanLemmas.{byte_stands}
use Rattle.bdb_lex.proofs.SpellingLemmas.{no_gap, tokens_are_spelled}
use Rattle.bdb_lex.proofs.TokenLemmas.{blank_is}
use Rattle.bdb_events.specs.Forms.{NothingIsGaps}

-- blanks and comments alone that begin with neither are nothing
no_last_gap : (bytes : List ℕ) (spans : List Span) → bytes ≡ bytes_of spans → list_all is_last_gap spans ≡ true → begins_gap bytes ≡ false → bytes ≡ []
no_last_gap bytes [] e g h = e
no_last_gap bytes (byte b ∷ spans) e g h =
    let gap = and_parts (is_blank b) (list_all is_last_gap spans) g in
    absurd (false≢true (sym h ∙ (ap begins_gap e ∙ or_left (is_blank b) (nat_eq b 45 && begins (λ c. nat_eq c 45) (bytes_of spans)) gap.0)))
no_last_gap bytes (comment c ∷ spans) e g h = absurd (false≢true (sym h ∙ ap begins_gap e))
no_last_gap bytes (open_comment c ∷ spans) e g h = absurd (false≢true (sym h ∙ ap begins_gap e))
no_last_gap bytes (end ∷ spans) e g h = absurd (false≢true g)
no_last_gap bytes (text c ∷ spans) e g h = absurd (false≢true g)
no_last_gap bytes (open_text c ∷ spans) e g h = absurd (false≢true g)

pub nothing_is_gaps : NothingIsGaps
nothing_is_gaps bytes = (
  λ e. (tokens_are_spelled bytes []).0 (tokens_behind bytes ∙ ap tokens_of e),
  λ gap.
      let left : tokens_of (behind_gaps bytes) ≡ Some [] = sym (tokens_behind bytes) ∙ (tokens_are_spelled bytes []).1 gap in
      let rest : IsLastGap (behind_gaps bytes) = (tokens_are_spelled (behind_gaps bytes) []).0 left in
      no_last_gap (behind_gaps bytes) rest.spans rest.are.bytes rest.gaps (begins_no_gap bytes),
)

-- the bytes are a gap, and what is left behind it
pub record Gone (bytes : List ℕ) : Type 0 where
  pub gap : List ℕ
  pub whole : bytes ≡ gap ++ behind_gaps bytes
  pub between : IsGap gap

-- the bytes are those of a comment up to its end, a gap, and what is left behind it
pub record Closed (bytes : List ℕ) : Type 0 where
  pub inner : List ℕ
  pub gap : List ℕ
  pub whole : bytes ≡ (inner ++ 10 ∷ []) ++ (gap ++ behind true bytes)
  pub lacks_end : lacks 10 inner ≡ true
  pub between : IsGap gap

abbrev pub Fronts : Bool → List ℕ → Type 0
Fronts true bytes = Closed bytes
Fronts false bytes = Gone bytes

span_more : (span : Span) (gap : List ℕ) → is_gap span ≡ true → ((spans : List Span) → may_stand span spans ≡ true) → IsGap gap → IsGap (spelled span ++ gap)
span_more span gap is stands g = record {
  spans = span ∷ g.spans;
  are = record {
    bytes = ap (λ v. spelled span ++ v) g.are.bytes;
    stand = and_from (may_stand span g.spans) (all_stand g.spans) (stands g.spans) g.are.stand;
  };
  gaps = and_from (is_gap span) (list_all is_gap g.spans) is g.gaps;
}

gone_blank : (b : ℕ) (bytes : List ℕ) → is_blank b ≡ true → Gone bytes → Gone (b ∷ bytes)
gone_blank b bytes h g = record {
  gap = b ∷ g.gap;
  whole = ap (λ v. b ∷ v) (g.whole ∙ ap (λ v. g.gap ++ v) (sym (blank_passed b bytes h)));
  between = span_more (byte b) g.gap h (λ spans. byte_stands b spans (blank_is (λ x. nat_eq x 59) b h refl refl refl refl)
      (blank_is (λ x. nat_eq x 39) b h refl refl refl refl) (no_dash b h)) g.between;
}

gone_dashes : (bytes : List ℕ) → Closed bytes → Gone (45 ∷ 45 ∷ bytes)
gone_dashes bytes g = record {
  gap = 45 ∷ 45 ∷ ((g.inner ++ 10 ∷ []) ++ g.gap);
  whole = ap (λ v. 45 ∷ 45 ∷ v) (g.whole ∙ sym (append_assoc (g.inner ++ 10 ∷ []) g.gap (behind true bytes)));
  between = span_more (comment g.inner) g.gap refl (λ spans. g.lacks_end) g.between;
}

nothing_gone : (bytes : List ℕ) → begins_gap bytes ≡ false → Gone bytes
nothing_gone bytes h = record { gap = []; whole = sym (nothing_passed bytes h); between = no_gap }

closed_here : (b : ℕ) (bytes : List ℕ) → nat_eq b 10 ≡ true → Gone bytes → Closed (b ∷ bytes)
closed_here b bytes h g = record {
  inner = [];
  gap = g.gap;
  whole = ap (λ x. x ∷ bytes) (eqb-true b 10 h) ∙ ap (λ v. 10 ∷ v) (g.whole ∙ ap (λ v. g.gap ++ v) (sym (comment_ends b bytes h)));
  lacks_end = refl;
  between = g.between;
}

closed_later : (b : ℕ) (bytes : List ℕ) → nat_eq b 10 ≡ false → Closed bytes → Closed (b ∷ bytes)
closed_later b bytes h g = record {
  inner = b ∷ g.inner;
  gap = g.gap;
  whole = ap (λ v. b ∷ v) (g.whole ∙ ap (λ v. (g.inner ++ 10 ∷ []) ++ (g.gap ++ v)) (sym (comment_goes_on b bytes h)));
  lacks_end = and_from (not (nat_eq b 10)) (lacks 10 g.inner) (not_from_false (nat_eq b 10) h) g.lacks_end;
  between = g.between;
}

nil_cons : (b : ℕ) (bytes : List ℕ) → [] ≡ b ∷ bytes → ⊥
nil_cons b bytes e = cc

-- where something is left, the gap before it is closed
fronts : (inside : Bool) (bytes : List ℕ) (x : ℕ) (xs : List ℕ) → behind inside bytes ≡ x ∷ xs → Fronts inside bytes
fronts true [] x xs e = absurd (nil_cons x xs e)
fronts false [] x xs e = absurd (nil_cons x xs e)
fronts true (b ∷ bytes) x xs e = elim (cases_Bool (nat_eq b 10)) [
  | inl h ↦ closed_here b bytes h (fronts false bytes x xs (sym (comment_ends b bytes h) ∙ e))
  | inr h ↦ closed_later b bytes h (fronts true bytes x xs (sym (comment_goes_on b bytes h) ∙ e))
]
fronts false (b ∷ []) x xs e = elim (cases_Bool (begins_gap (b ∷ []))) [
  | inl h ↦ absurd (nil_cons x xs (sym (blank_passed b [] (gap_of_one b h)) ∙ e))
  | inr h ↦ nothing_gone (b ∷ []) h
]
fronts false (b ∷ c ∷ bytes) x xs e = elim (cases_Bool (begins_gap (b ∷ c ∷ bytes))) [
  | inl h ↦ elim (gap_begins b c bytes h) [
    | inl blank ↦ gone_blank b (c ∷ bytes) blank (fronts false (c ∷ bytes) x xs (sym (blank_passed b (c ∷ bytes) blank) ∙ e))
    | inr dashes ↦ subst Gone dashes (gone_dashes bytes (fronts true bytes x xs (ap behind_gaps dashes ∙ e)))
  ]
  | inr h ↦ nothing_gone (b ∷ c ∷ bytes) h
]

pub gap_before : (bytes : List ℕ) (x : ℕ) (xs : List ℕ) → behind_gaps bytes ≡ x ∷ xs → Gone bytes
gap_before bytes x xs e = fronts false bytes x xs e

-- a gap is passed
comment_passed : (c rest : List ℕ) → lacks 10 c ≡ true → behind true (c ++ 10 ∷ rest) ≡ behind_gaps rest
comment_passed [] rest h = refl
comment_passed (b ∷ c) rest h =
    let parts = and_parts (not (nat_eq b 10)) (lacks 10 c) h in
    comment_goes_on b (c ++ 10 ∷ rest) (not-true (nat_eq b 10) parts.0) ∙ comment_passed c rest parts.1

spans_passed : (spans : List Span) (rest : List ℕ) → all_stand spans ≡ true → list_all is_gap spans ≡ true → behind_gaps (bytes_of spans ++ rest) ≡ behind_gaps rest
spans_passed [] rest s g = refl
spans_passed (byte b ∷ spans) rest s g =
    let stand = and_parts (may_stand (byte b) spans) (all_stand spans) s in
    let gap = and_parts (is_blank b) (list_all is_gap spans) g in
    blank_passed b (bytes_of spans ++ rest) gap.0 ∙ spans_passed spans rest stand.1 gap.1
spans_passed (comment c ∷ spans) rest s g =
    let stand = and_parts (lacks 10 c) (all_stand spans) s in
    ap behind_gaps (append_assoc (spelled (comment c)) (bytes_of spans) rest)
    ∙ (ap (behind true) (append_assoc c (10 ∷ []) (bytes_of spans ++ rest))
    ∙ (comment_passed c (bytes_of spans ++ rest) stand.0 ∙ spans_passed spans rest stand.1 g))
spans_passed (end ∷ spans) rest s g = absurd (false≢true g)
spans_passed (text c ∷ spans) rest s g = absurd (false≢true g)
spans_passed (open_text c ∷ spans) rest s g = absurd (false≢true g)
spans_passed (open_comment c ∷ spans) rest s g = absurd (false≢true g)

pub gap_passed : (gap rest : List ℕ) → IsGap gap → behind_gaps (gap ++ rest) ≡ behind_gaps rest
gap_passed gap rest g = ap (λ v. behind_gaps (v ++ rest)) g.are.bytes ∙ spans_passed g.spans rest g.are.stand g.gaps
