-- Blanks and comments at the front of bytes: what is left behind them, and its tokens.
use Rattle.std.proofs.Common.{◌≡◌, ◌∙◌, ◌⊎◌, ℕ, Bool, true, false, not, ◌&&◌, nat_eq, cond, List, [], ◌∷◌, refl, ap, sym, inl, inr}
use Rattle.std.proofs.lemmas.Bool.{cases_Bool, or_cases, or_left, and_parts, cond-true, cond-false, eqb-true, false≢true}
use Rattle.bdb_base.specs.Letters.{is_blank}
use Rattle.bdb_lex.specs.Reading.{begins, begins_gap, behind, behind_gaps}
use Rattle.bdb_lex.specs.Tokens.{tokens_of, tokens_from}
use Rattle.bdb_lex.specs.Tokens.Reading.{between, in_comment}
use Rattle.bdb_lex.proofs.TokenLemmas.{joined_nothing, tokens_at, blank_is, started_blank}

pub no_dash : (b : ℕ) → is_blank b ≡ true → nat_eq b 45 ≡ false
no_dash b h = blank_is (λ x. nat_eq x 45) b h refl refl refl refl

-- a blank is passed
pub blank_passed : (b : ℕ) (bytes : List ℕ) → is_blank b ≡ true → behind_gaps (b ∷ bytes) ≡ behind_gaps bytes
blank_passed b bytes h =
    cond-true (begins_gap (b ∷ bytes)) (behind (nat_eq b 45) bytes) (b ∷ bytes)
    (or_left (is_blank b) (nat_eq b 45 && begins (λ c. nat_eq c 45) bytes) h)
    ∙ ap (λ d. behind d bytes) (no_dash b h)

-- so are two dashes, into the comment
dashes_passed : (bytes : List ℕ) → behind_gaps (45 ∷ 45 ∷ bytes) ≡ behind true bytes
dashes_passed bytes = refl

-- where neither is, nothing is passed
pub nothing_passed : (bytes : List ℕ) → begins_gap bytes ≡ false → behind_gaps bytes ≡ bytes
nothing_passed [] h = refl
nothing_passed (b ∷ bytes) h = cond-false (begins_gap (b ∷ bytes)) (behind (nat_eq b 45) bytes) (b ∷ bytes) h

-- the end of a comment, and any other byte of it
pub comment_ends : (b : ℕ) (bytes : List ℕ) → nat_eq b 10 ≡ true → behind true (b ∷ bytes) ≡ behind_gaps bytes
comment_ends b bytes h = ap (λ d. behind (not d) bytes) h

pub comment_goes_on : (b : ℕ) (bytes : List ℕ) → nat_eq b 10 ≡ false → behind true (b ∷ bytes) ≡ behind true bytes
comment_goes_on b bytes h = ap (λ d. behind (not d) bytes) h

-- what is left begins with neither
past : (inside : Bool) (bytes : List ℕ) → begins_gap (behind inside bytes) ≡ false
past true [] = refl
past false [] = refl
past true (b ∷ bytes) = past (not (nat_eq b 10)) bytes
past false (b ∷ bytes) = elim (cases_Bool (begins_gap (b ∷ bytes))) [
  | inl h ↦ ap begins_gap (cond-true (begins_gap (b ∷ bytes)) (behind (nat_eq b 45) bytes) (b ∷ bytes) h) ∙ past (nat_eq b 45) bytes
  | inr h ↦ ap begins_gap (cond-false (begins_gap (b ∷ bytes)) (behind (nat_eq b 45) bytes) (b ∷ bytes) h) ∙ h
]

pub begins_no_gap : (bytes : List ℕ) → begins_gap (behind_gaps bytes) ≡ false
begins_no_gap bytes = past false bytes

-- two dashes in front, by a test
two_dashes : (b c : ℕ) (bytes : List ℕ) → (nat_eq b 45 && nat_eq c 45) ≡ true → 45 ∷ 45 ∷ bytes ≡ b ∷ c ∷ bytes
two_dashes b c bytes h =
    let parts = and_parts (nat_eq b 45) (nat_eq c 45) h in
    ap (λ x. x ∷ 45 ∷ bytes) (sym (eqb-true b 45 parts.0)) ∙ ap (λ x. b ∷ x ∷ bytes) (sym (eqb-true c 45 parts.1))

-- how a gap begins: with a blank, or with two dashes
pub gap_begins : (b c : ℕ) (bytes : List ℕ) → begins_gap (b ∷ c ∷ bytes) ≡ true → (is_blank b ≡ true) ⊎ (45 ∷ 45 ∷ bytes ≡ b ∷ c ∷ bytes)
gap_begins b c bytes h = elim (or_cases (is_blank b) (nat_eq b 45 && nat_eq c 45) h) [
  | inl blank ↦ inl blank
  | inr dashes ↦ inr (two_dashes b c bytes dashes)
]

pub gap_of_one : (b : ℕ) → begins_gap (b ∷ []) ≡ true → is_blank b ≡ true
gap_of_one b h = elim (or_cases (is_blank b) (nat_eq b 45 && false) h) [
  | inl blank ↦ blank
  | inr dashes ↦ absurd (false≢true (and_parts (nat_eq b 45) false dashes).1)
]

-- what is left has the same tokens, within a comment and outside
pub blank_tokens : (b : ℕ) (bytes : List ℕ) → is_blank b ≡ true → tokens_of (b ∷ bytes) ≡ tokens_of bytes
blank_tokens b bytes e = tokens_at b bytes ∙ ap (λ r. tokens_from r bytes) (started_blank b e)

pub dash_tokens : (bytes : List ℕ) → tokens_of (45 ∷ 45 ∷ bytes) ≡ tokens_from in_comment bytes
dash_tokens bytes = tokens_at 45 (45 ∷ bytes) ∙ joined_nothing _

comment_tokens : (b : ℕ) (bytes : List ℕ) → tokens_from in_comment (b ∷ bytes) ≡ tokens_from (cond (nat_eq b 10) between in_comment) bytes
comment_tokens b bytes = joined_nothing _

abbrev pub SameTokens : Bool → List ℕ → Type 0
SameTokens true bytes = tokens_from in_comment bytes ≡ tokens_of (behind true bytes)
SameTokens false bytes = tokens_of bytes ≡ tokens_of (behind false bytes)

same_tokens : (inside : Bool) (bytes : List ℕ) → SameTokens inside bytes
same_tokens true [] = refl
same_tokens false [] = refl
same_tokens true (b ∷ bytes) = elim (cases_Bool (nat_eq b 10)) [
  | inl h ↦ comment_tokens b bytes ∙ (ap (λ d. tokens_from (cond d between in_comment) bytes) h
      ∙ (same_tokens false bytes ∙ ap tokens_of (sym (comment_ends b bytes h))))
  | inr h ↦ comment_tokens b bytes ∙ (ap (λ d. tokens_from (cond d between in_comment) bytes) h
      ∙ (same_tokens true bytes ∙ ap tokens_of (sym (comment_goes_on b bytes h))))
]
same_tokens false (b ∷ []) = elim (cases_Bool (begins_gap (b ∷ []))) [
  | inl h ↦ let blank = gap_of_one b h in blank_tokens b [] blank ∙ ap tokens_of (sym (blank_passed b [] blank))
  | inr h ↦ ap tokens_of (sym (nothing_passed (b ∷ []) h))
]
same_tokens false (b ∷ c ∷ bytes) = elim (cases_Bool (begins_gap (b ∷ c ∷ bytes))) [
  | inl h ↦ elim (gap_begins b c bytes h) [
    | inl blank ↦ blank_tokens b (c ∷ bytes) blank ∙ (same_tokens false (c ∷ bytes) ∙ ap tokens_of (sym (blank_passed b (c ∷ bytes) blank)))
    | inr dashes ↦ ap tokens_of (sym dashes) ∙ (dash_tokens bytes ∙ (same_tokens true bytes ∙ ap (λ x. tokens_of (behind_gaps x)) dashes))
  ]
  | inr h ↦ ap tokens_of (sym (nothing_passed (b ∷ c ∷ bytes) h))
]

-- outside of one it is what follows the blanks and comments
pub tokens_behind : (bytes : List ℕ) → tokens_of bytes ≡ tokens_of (behind_gaps bytes)
tokens_behind bytes = same_tokens false bytes
