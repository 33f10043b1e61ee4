-- A script is spans in one way, and its pieces and its rest are those of its spans.
use Rattle.std.proofs.Common.{◌≡◌, ℕ, Bool, true, false, not, cond, ◌&&◌, ◌||◌, nat_eq, List, [], ◌∷◌, ◌++◌, length, refl, sym, ap, ◌∙◌, arith, append_assoc, inl, inr}
use Rattle.std.proofs.lemmas.Bool.{false≢true, and_parts, and_from, cond-true, cond-false, cases_Bool, cases_lt, eqb-true, not-true, not_from_false, le-leb, lt-leb}
use Rattle.std.proofs.lemmas.List.{append-nil}
use Rattle.std.proofs.lemmas.List.Folds.{list_all-append}
use Rattle.std.proofs.lemmas.Grind.{flat_map-append}
use Rattle.std.specs.List.{list_any}
use Rattle.bdb_base.proofs.ListLemmas.{or_false}
use Rattle.bdb_base.proofs.BoolLemmas.{and_true, or_true, or_assoc}
use Rattle.bdb_base.specs.Letters.{is_blank}
use Rattle.bdb_lex.specs.declared.mode.Mode.{Mode}
use Rattle.bdb_lex.specs.declared.mode.Mode.TheVariants.{Plain, Dash, Quoted, Comment}
use Rattle.bdb_lex.specs.declared.token.Piece.{Piece}
use Rattle.bdb_lex.specs.declared.token.Piece.TheVariants.{Cmd}
use Rattle.bdb_lex.specs.Cut.{CutState, start, longer, grown, is_end, ended, next_mode, next_state, outside_mode, pieces_from, pieces_of, state_after, has_rest, holds_something}
use Rattle.bdb_lex.specs.Runs.{state_of, longer_by}
use Rattle.bdb_lex.specs.Spans.{Span, spelled, bytes_of, lacks, begins_dash, may_stand, all_stand, piece_of, pieces_between, is_end_span, after_last_end, is_something, EachScriptIsSpans, SpansAreOneList, PiecesAreOfSpans, RestIsOfSpans}
use Rattle.bdb_lex.specs.Spans.Span.{end, text, comment, byte, open_text, open_comment}
use Rattle.bdb_lex.proofs.CutLemmas.{longer_by-append, longer_by-fits, longer_by-over}

-- the span that a script stands in, with its bytes so far
pub data Open : Type 0 where
  outside : Open
  dashed : Open
  quoting : List ℕ → Open
  commenting : List ℕ → Open

abbrev pub outside_spans : ℕ → List Span
outside_spans b = cond (nat_eq b 59) (end ∷ []) (cond (nat_eq b 39) [] (cond (nat_eq b 45) [] (byte b ∷ [])))

abbrev pub outside_next : ℕ → Open
outside_next b = cond (nat_eq b 39) (quoting []) (cond (nat_eq b 45) dashed outside)

-- the spans that end with a byte
abbrev pub ended_spans : Open → ℕ → List Span
ended_spans outside b = outside_spans b
ended_spans dashed b = cond (nat_eq b 45) [] (byte 45 ∷ outside_spans b)
ended_spans (quoting c) b = cond (nat_eq b 39) (text c ∷ []) []
ended_spans (commenting c) b = cond (nat_eq b 10) (comment c ∷ []) []

abbrev pub next_open : Open → ℕ → Open
next_open outside b = outside_next b
next_open dashed b = cond (nat_eq b 45) (commenting []) (outside_next b)
next_open (quoting c) b = cond (nat_eq b 39) outside (quoting (c ++ b ∷ []))
next_open (commenting c) b = cond (nat_eq b 10) outside (commenting (c ++ b ∷ []))

abbrev pub last_spans : Open → List Span
last_spans outside = []
last_spans dashed = byte 45 ∷ []
last_spans (quoting c) = open_text c ∷ []
last_spans (commenting c) = open_comment c ∷ []

-- the spans of a script
abbrev pub spans_from : Open → List ℕ → List Span
spans_from m [] = last_spans m
spans_from m (b ∷ s) = ended_spans m b ++ spans_from (next_open m b) s

-- the bytes of the span so far
abbrev pub front_of : Open → List ℕ
front_of outside = []
front_of dashed = 45 ∷ []
front_of (quoting c) = 39 ∷ c
front_of (commenting c) = 45 ∷ 45 ∷ c

pub bytes_more : (a b : List Span) → bytes_of (a ++ b) ≡ bytes_of a ++ bytes_of b
bytes_more a b = flat_map-append spelled a b

-- the spans have the bytes
outside_bytes : (b : ℕ) (s : List ℕ) → bytes_of (outside_spans b) ++ (front_of (outside_next b) ++ s) ≡ b ∷ s
outside_bytes b s = elim (cases_Bool (nat_eq b 59)) [
  | inl e ↦ let is : b ≡ 59 = eqb-true b 59 e in rw is refl
  | inr semi ↦ elim (cases_Bool (nat_eq b 39)) [
    | inl e ↦ let is : b ≡ 39 = eqb-true b 39 e in rw is refl
    | inr quote ↦ elim (cases_Bool (nat_eq b 45)) [
      | inl e ↦ let is : b ≡ 45 = eqb-true b 45 e in rw is refl
      | inr dash ↦ rw (semi, quote, dash) refl
    ]
  ]
]

step_bytes : (m : Open) (b : ℕ) (s : List ℕ) → bytes_of (ended_spans m b) ++ (front_of (next_open m b) ++ s) ≡ front_of m ++ b ∷ s
step_bytes outside b s = outside_bytes b s
step_bytes dashed b s = elim (cases_Bool (nat_eq b 45)) [
  | inl e ↦ let is : b ≡ 45 = eqb-true b 45 e in rw is refl
  | inr e ↦ let spans : ended_spans dashed b ≡ byte 45 ∷ outside_spans b = cond-false _ _ _ e in
      let now : next_open dashed b ≡ outside_next b = cond-false _ _ _ e in
      ap (λ v. bytes_of v ++ (front_of (next_open dashed b) ++ s)) spans
      ∙ (ap (λ v. bytes_of (byte 45 ∷ outside_spans b) ++ (front_of v ++ s)) now ∙ ap (λ v. 45 ∷ v) (outside_bytes b s))
]
step_bytes (quoting c) b s = elim (cases_Bool (nat_eq b 39)) [
  | inl e ↦ let is : b ≡ 39 = eqb-true b 39 e in rw is (ap (λ v. 39 ∷ v) (ap (λ v. v ++ s) (append-nil (c ++ 39 ∷ [])) ∙ append_assoc c (39 ∷ []) s))
  | inr e ↦ rw e (ap (λ v. 39 ∷ v) (append_assoc c (b ∷ []) s))
]
step_bytes (commenting c) b s = elim (cases_Bool (nat_eq b 10)) [
  | inl e ↦ let is : b ≡ 10 = eqb-true b 10 e in rw is (ap (λ v. 45 ∷ 45 ∷ v) (ap (λ v. v ++ s) (append-nil (c ++ 10 ∷ [])) ∙ append_assoc c (10 ∷ []) s))
  | inr e ↦ rw e (ap (λ v. 45 ∷ 45 ∷ v) (append_assoc c (b ∷ []) s))
]

last_bytes : (m : Open) → bytes_of (last_spans m) ≡ front_of m ++ []
last_bytes outside = refl
last_bytes dashed = refl
last_bytes (quoting c) = refl
last_bytes (commenting c) = refl

pub spans_bytes : (s : List ℕ) (m : Open) → bytes_of (spans_from m s) ≡ front_of m ++ s
spans_bytes [] m = last_bytes m
spans_bytes (b ∷ s) m =
    bytes_more (ended_spans m b) (spans_from (next_open m b) s)
    ∙ (ap (λ v. bytes_of (ended_spans m b) ++ v) (spans_bytes s (next_open m b)) ∙ step_bytes m b s)

dashed_alone : (s : List ℕ) → begins_dash s ≡ false → spans_from dashed s ≡ byte 45 ∷ spans_from outside s
dashed_alone [] h = refl
dashed_alone (b ∷ s) h = rw h refl

-- a span may stand open with these bytes
abbrev pub IsOpen : Open → Type 0
IsOpen outside = Unit {0}
IsOpen dashed = Unit {0}
IsOpen (quoting c) = lacks 39 c ≡ true
IsOpen (commenting c) = lacks 10 c ≡ true

pub lacks_more : (b : ℕ) (c : List ℕ) (d : ℕ) → lacks b c ≡ true → nat_eq d b ≡ false → lacks b (c ++ d ∷ []) ≡ true
lacks_more b c d h e = list_all-append (λ x. not (nat_eq x b)) c (d ∷ []) ∙ and_from _ _ h (and_from _ _ (not_from_false _ e) refl)

pub byte_stands : (b : ℕ) (spans : List Span) → nat_eq b 59 ≡ false → nat_eq b 39 ≡ false → nat_eq b 45 ≡ false → may_stand (byte b) spans ≡ true
byte_stands b spans semi quote dash = rw (semi, quote, dash) refl

outside_stands : (b : ℕ) (s : List ℕ) → ((m : Open) → IsOpen m → all_stand (spans_from m s) ≡ true) → all_stand (spans_from outside (b ∷ s)) ≡ true
outside_stands b s ih = elim (cases_Bool (nat_eq b 59)) [
  | inl e ↦ let is : b ≡ 59 = eqb-true b 59 e in rw is (ih outside tt)
  | inr semi ↦ elim (cases_Bool (nat_eq b 39)) [
    | inl e ↦ let is : b ≡ 39 = eqb-true b 39 e in rw is (ih (quoting []) refl)
    | inr quote ↦ elim (cases_Bool (nat_eq b 45)) [
      | inl e ↦ let is : b ≡ 45 = eqb-true b 45 e in rw is (ih dashed tt)
      | inr dash ↦ rw (semi, quote, dash) (and_from _ _ (byte_stands b (spans_from outside s) semi quote dash) (ih outside tt))
    ]
  ]
]

pub spans_stand : (s : List ℕ) (m : Open) → IsOpen m → all_stand (spans_from m s) ≡ true
spans_stand [] outside h = refl
spans_stand [] dashed h = refl
spans_stand [] (quoting c) h = and_from _ _ (and_from _ _ h refl) refl
spans_stand [] (commenting c) h = and_from _ _ (and_from _ _ h refl) refl
spans_stand (b ∷ s) outside h = outside_stands b s (spans_stand s)
spans_stand (b ∷ s) dashed h = elim (cases_Bool (nat_eq b 45)) [
  | inl e ↦ rw e (spans_stand s (commenting []) refl)
  | inr e ↦
      let none : begins_dash (bytes_of (spans_from outside (b ∷ s))) ≡ false = ap begins_dash (spans_bytes (b ∷ s) outside) ∙ e in
      ap all_stand (dashed_alone (b ∷ s) e) ∙ and_from _ _ (not_from_false _ none) (outside_stands b s (spans_stand s))
]
spans_stand (b ∷ s) (quoting c) h = elim (cases_Bool (nat_eq b 39)) [
  | inl e ↦ rw e (and_from _ _ h (spans_stand s outside tt))
  | inr e ↦ rw e (spans_stand s (quoting (c ++ b ∷ [])) (lacks_more 39 c b h e))
]
spans_stand (b ∷ s) (commenting c) h = elim (cases_Bool (nat_eq b 10)) [
  | inl e ↦ rw e (and_from _ _ h (spans_stand s outside tt))
  | inr e ↦ rw e (spans_stand s (commenting (c ++ b ∷ [])) (lacks_more 10 c b h e))
]

pub each_script_is_spans : EachScriptIsSpans
each_script_is_spans script = (spans_from outside script, record { bytes = sym (spans_bytes script outside); stand = spans_stand script outside tt })

-- spans are found again in their bytes
quoting_run : (a c rest : List ℕ) → lacks 39 c ≡ true → spans_from (quoting a) (c ++ rest) ≡ spans_from (quoting (a ++ c)) rest
quoting_run a [] rest h = ap (λ v. spans_from (quoting v) rest) (sym (append-nil a))
quoting_run a (b ∷ c) rest h =
    let parts = and_parts (not (nat_eq b 39)) (lacks 39 c) h in
    let e : nat_eq b 39 ≡ false = not-true _ parts.0 in
    rw e (quoting_run (a ++ b ∷ []) c rest parts.1 ∙ ap (λ v. spans_from (quoting v) rest) (append_assoc a (b ∷ []) c))

commenting_run : (a c rest : List ℕ) → lacks 10 c ≡ true → spans_from (commenting a) (c ++ rest) ≡ spans_from (commenting (a ++ c)) rest
commenting_run a [] rest h = ap (λ v. spans_from (commenting v) rest) (sym (append-nil a))
commenting_run a (b ∷ c) rest h =
    let parts = and_parts (not (nat_eq b 10)) (lacks 10 c) h in
    let e : nat_eq b 10 ≡ false = not-true _ parts.0 in
    rw e (commenting_run (a ++ b ∷ []) c rest parts.1 ∙ ap (λ v. spans_from (commenting v) rest) (append_assoc a (b ∷ []) c))

byte_found : (b : ℕ) (rest : List ℕ) → nat_eq b 59 ≡ false → nat_eq b 39 ≡ false → (nat_eq b 45 && begins_dash rest) ≡ false
    → spans_from outside (b ∷ rest) ≡ byte b ∷ spans_from outside rest
byte_found b rest semi quote dash = elim (cases_Bool (nat_eq b 45)) [
  | inl e ↦ let is : b ≡ 45 = eqb-true b 45 e in
      let none : begins_dash rest ≡ false = sym (ap (λ v. v && begins_dash rest) e) ∙ dash in
      rw is (dashed_alone rest none)
  | inr e ↦ rw (semi, quote, e) refl
]

pub spans_found : (spans : List Span) → all_stand spans ≡ true → spans_from outside (bytes_of spans) ≡ spans
spans_found [] h = refl
spans_found (end ∷ spans) h = ap (λ v. end ∷ v) (spans_found spans h)
spans_found (text c ∷ spans) h =
    let parts = and_parts (lacks 39 c) (all_stand spans) h in
    ap (spans_from (quoting [])) (append_assoc c (39 ∷ []) (bytes_of spans))
    ∙ (quoting_run [] c (39 ∷ bytes_of spans) parts.0 ∙ ap (λ v. text c ∷ v) (spans_found spans parts.1))
spans_found (comment c ∷ spans) h =
    let parts = and_parts (lacks 10 c) (all_stand spans) h in
    ap (spans_from (commenting [])) (append_assoc c (10 ∷ []) (bytes_of spans))
    ∙ (commenting_run [] c (10 ∷ bytes_of spans) parts.0 ∙ ap (λ v. comment c ∷ v) (spans_found spans parts.1))
spans_found (byte b ∷ spans) h =
    let parts = and_parts (may_stand (byte b) spans) (all_stand spans) h in
    let tests = and_parts (not (nat_eq b 59)) (not (nat_eq b 39) && not (nat_eq b 45 && begins_dash (bytes_of spans))) parts.0 in
    let later = and_parts (not (nat_eq b 39)) (not (nat_eq b 45 && begins_dash (bytes_of spans))) tests.1 in
    byte_found b (bytes_of spans) (not-true _ tests.0) (not-true _ later.0) (not-true _ later.1) ∙ ap (λ v. byte b ∷ v) (spans_found spans parts.1)
spans_found (open_text c ∷ []) h =
    let parts = and_parts (lacks 39 c) true (and_parts (may_stand (open_text c) []) true h).0 in
    quoting_run [] c [] parts.0
spans_found (open_text c ∷ span ∷ spans) h =
    absurd (false≢true (and_parts (lacks 39 c) false (and_parts (may_stand (open_text c) (span ∷ spans)) (all_stand (span ∷ spans)) h).0).1)
spans_found (open_comment c ∷ []) h =
    let parts = and_parts (lacks 10 c) true (and_parts (may_stand (open_comment c) []) true h).0 in
    commenting_run [] c [] parts.0
spans_found (open_comment c ∷ span ∷ spans) h =
    absurd (false≢true (and_parts (lacks 10 c) false (and_parts (may_stand (open_comment c) (span ∷ spans)) (all_stand (span ∷ spans)) h).0).1)

pub spans_are_one_list : SpansAreOneList
spans_are_one_list script a b s t =
    sym (spans_found a s.stand) ∙ (ap (spans_from outside) (sym s.bytes ∙ t.bytes) ∙ spans_found b t.stand)

-- from one state over these bytes the pieces and the rest are those from the other over the rest
pub record Same (s : CutState) (bytes : List ℕ) (now : CutState) (rest : List ℕ) : Type 0 where
  pub pieces : pieces_from s bytes ≡ pieces_from now rest
  pub holds : holds_something (state_after s bytes) ≡ holds_something (state_after now rest)

abbrev pub plain : Piece → Bool → CutState
plain p h = state_of Plain p h

same_on : (s now then : CutState) (bytes rest after : List ℕ) → Same s bytes now rest → Same now rest then after → Same s bytes then after
same_on s now then bytes rest after a b = record { pieces = a.pieces ∙ b.pieces; holds = a.holds ∙ b.holds }

-- a byte that ends no piece
step_same : (s : CutState) (b : ℕ) (now : CutState) (bytes : List ℕ) → is_end s.mode b ≡ false → grown s b ≡ now → Same s (b ∷ bytes) now bytes
step_same s b now bytes e g =
    let next : next_state s b ≡ now = cond-false _ _ _ e ∙ g in
    let none : ended s b ≡ [] = cond-false _ _ _ e in
    record {
      pieces = ap (λ v. v ++ pieces_from (next_state s b) bytes) none ∙ ap (λ v. pieces_from v bytes) next;
      holds = ap (λ v. holds_something (state_after v bytes)) next;
    }

-- a state by its mode and by what it holds
state_is : (m n : Mode) (p : Piece) (h k : Bool) → m ≡ n → h ≡ k → state_of m p h ≡ state_of n p k
state_is m n p h k e f = ap (λ v. state_of v p h) e ∙ ap (λ v. state_of n p v) f

same_state : (s now : CutState) (bytes : List ℕ) → s ≡ now → Same s bytes now bytes
same_state s now bytes e = record { pieces = ap (λ v. pieces_from v bytes) e; holds = ap (λ v. holds_something (state_after v bytes)) e }

-- a dash that no dash follows is a byte like another
dash_is_plain : (p : Piece) (h : Bool) (s : List ℕ) → begins_dash s ≡ false → Same (state_of Dash p h) s (plain p true) s
dash_is_plain p h [] e = record { pieces = refl; holds = or_true h }
dash_is_plain p h (b ∷ s) e =
    let shown : (h || not (nat_eq b 45)) ≡ true = rw e (or_true h) in
    let now : grown (state_of Dash p h) b ≡ grown (plain p true) b =
    state_is (next_mode Dash b) (outside_mode b) (longer p b) (h || not (nat_eq b 45)) true (cond-false _ _ _ e) shown in
    record {
      pieces = ap (λ g. cond (nat_eq b 59) (p ∷ []) [] ++ pieces_from (cond (nat_eq b 59) start g) s) now;
      holds = ap (λ g. holds_something (state_after (cond (nat_eq b 59) start g) s)) now;
    }

quoted_run : (p : Piece) (c rest : List ℕ) → lacks 39 c ≡ true → Same (state_of Quoted p true) (c ++ rest) (state_of Quoted (longer_by p c) true) rest
quoted_run p [] rest h = record { pieces = refl; holds = refl }
quoted_run p (b ∷ c) rest h =
    let parts = and_parts (not (nat_eq b 39)) (lacks 39 c) h in
    let e : nat_eq b 39 ≡ false = not-true _ parts.0 in
    same_on _ (state_of Quoted (longer p b) true) _ _ (c ++ rest) _
    (step_same (state_of Quoted p true) b _ (c ++ rest) refl
    (state_is (next_mode Quoted b) Quoted (longer p b) true true (cond-false _ _ _ e) refl))
    (quoted_run (longer p b) c rest parts.1)

comment_run : (p : Piece) (h : Bool) (c rest : List ℕ) → lacks 10 c ≡ true → Same (state_of Comment p h) (c ++ rest) (state_of Comment (longer_by p c) h) rest
comment_run p h [] rest l = record { pieces = refl; holds = refl }
comment_run p h (b ∷ c) rest l =
    let parts = and_parts (not (nat_eq b 10)) (lacks 10 c) l in
    let e : nat_eq b 10 ≡ false = not-true _ parts.0 in
    same_on _ (state_of Comment (longer p b) h) _ _ (c ++ rest) _
    (step_same (state_of Comment p h) b _ (c ++ rest) refl
    (state_is (next_mode Comment b) Comment (longer p b) (h || false) h (cond-false _ _ _ e) (or_false h)))
    (comment_run (longer p b) h c rest parts.1)

-- over a text, closed or not
text_same : (p : Piece) (h : Bool) (c rest : List ℕ) → lacks 39 c ≡ true
    → Same (plain p h) (39 ∷ (c ++ rest)) (state_of Quoted (longer_by p (39 ∷ c)) true) rest
text_same p h c rest l =
    same_on _ (state_of Quoted (longer p 39) true) _ _ (c ++ rest) _
    (step_same (plain p h) 39 _ (c ++ rest) refl (state_is Quoted Quoted (longer p 39) (h || true) true refl (or_true h)))
    (quoted_run (longer p 39) c rest l)

-- over a comment, closed or not
comment_same : (p : Piece) (h : Bool) (c rest : List ℕ) → lacks 10 c ≡ true
    → Same (plain p h) (45 ∷ 45 ∷ (c ++ rest)) (state_of Comment (longer_by p (45 ∷ 45 ∷ c)) h) rest
comment_same p h c rest l =
    same_on _ (state_of Dash (longer p 45) h) _ _ (45 ∷ (c ++ rest)) _
    (step_same (plain p h) 45 _ (45 ∷ (c ++ rest)) refl (state_is Dash Dash (longer p 45) (h || false) h refl (or_false h)))
    (same_on _ (state_of Comment (longer (longer p 45) 45) h) _ _ (c ++ rest) _
    (step_same (state_of Dash (longer p 45) h) 45 _ (c ++ rest) refl
    (state_is Comment Comment (longer (longer p 45) 45) (h || false) h refl (or_false h)))
    (comment_run (longer (longer p 45) 45) h c rest l))

-- over a byte
byte_same : (p : Piece) (h : Bool) (b : ℕ) (rest : List ℕ) → nat_eq b 59 ≡ false → nat_eq b 39 ≡ false → (nat_eq b 45 && begins_dash rest) ≡ false
    → Same (plain p h) (b ∷ rest) (plain (longer p b) (h || not (is_blank b))) rest
byte_same p h b rest semi quote dash = elim (cases_Bool (nat_eq b 45)) [
  | inl e ↦ let is : b ≡ 45 = eqb-true b 45 e in
      let none : begins_dash rest ≡ false = sym (ap (λ v. v && begins_dash rest) e) ∙ dash in
      rw is (same_on _ (state_of Dash (longer p 45) h) _ _ rest _
      (step_same (plain p h) 45 _ rest refl (state_is Dash Dash (longer p 45) (h || false) h refl (or_false h)))
      (same_on _ (plain (longer p 45) true) _ _ rest _ (dash_is_plain (longer p 45) h rest none)
      (same_state (plain (longer p 45) true) (plain (longer p 45) (h || true)) rest (state_is Plain Plain (longer p 45) true (h || true) refl (sym (or_true h))))))
  | inr e ↦
      let mode : outside_mode b ≡ Plain = cond-false _ _ _ quote ∙ cond-false _ _ _ e in
      let shown : (h || (not (is_blank b) && not (nat_eq b 45))) ≡ (h || not (is_blank b)) = ap (λ v. h || (not (is_blank b) && not v)) e ∙ ap (λ v. h || v) (and_true (not (is_blank b))) in
      step_same (plain p h) b _ rest semi (state_is (outside_mode b) Plain (longer p b) _ _ mode shown)
]

-- over a closed text or comment
text_closed : (p : Piece) (h : Bool) (c rest : List ℕ) → lacks 39 c ≡ true
    → Same (plain p h) (39 ∷ ((c ++ 39 ∷ []) ++ rest)) (plain (longer_by p (39 ∷ (c ++ 39 ∷ []))) (h || true)) rest
text_closed p h c rest l =
    let apart : (c ++ 39 ∷ []) ++ rest ≡ c ++ 39 ∷ rest = append_assoc c (39 ∷ []) rest in
    let grew : longer_by p (39 ∷ (c ++ 39 ∷ [])) ≡ longer (longer_by p (39 ∷ c)) 39 = longer_by-append p (39 ∷ c) (39 ∷ []) in
    rw (apart, grew, or_true h) (same_on _ (state_of Quoted (longer_by p (39 ∷ c)) true) _ _ (39 ∷ rest) _ (text_same p h c (39 ∷ rest) l)
    (step_same (state_of Quoted (longer_by p (39 ∷ c)) true) 39 _ rest refl refl))

comment_closed : (p : Piece) (h : Bool) (c rest : List ℕ) → lacks 10 c ≡ true
    → Same (plain p h) (45 ∷ 45 ∷ ((c ++ 10 ∷ []) ++ rest)) (plain (longer_by p (45 ∷ 45 ∷ (c ++ 10 ∷ []))) (h || false)) rest
comment_closed p h c rest l =
    let apart : (c ++ 10 ∷ []) ++ rest ≡ c ++ 10 ∷ rest = append_assoc c (10 ∷ []) rest in
    let grew : longer_by p (45 ∷ 45 ∷ (c ++ 10 ∷ [])) ≡ longer (longer_by p (45 ∷ 45 ∷ c)) 10 = longer_by-append p (45 ∷ 45 ∷ c) (10 ∷ []) in
    rw (apart, grew) (same_on _ (state_of Comment (longer_by p (45 ∷ 45 ∷ c)) h) _ _ (10 ∷ rest) _ (comment_same p h c (10 ∷ rest) l)
    (step_same (state_of Comment (longer_by p (45 ∷ 45 ∷ c)) h) 10 _ rest refl refl))

-- whether something stands behind the last end, where so much is known before these spans
abbrev pub rest_by : Bool → List Span → Bool
rest_by h [] = h
rest_by h (end ∷ spans) = rest_by false spans
rest_by h (span ∷ spans) = rest_by (h || is_something span) spans

pub piece_is : (front : List ℕ) → longer_by (Cmd []) front ≡ piece_of front
piece_is front = elim (cases_lt 65536 (length front)) [
  | inl long ↦ longer_by-over [] front (omega arith) (omega arith) ∙ sym (cond-false _ _ _ (lt-leb (length front) 65536 long))
  | inr short ↦ longer_by-fits [] front (omega arith) ∙ sym (cond-true _ _ _ (le-leb (length front) 65536 short))
]

-- what the cutter finds from here on is what the spans say
pub record Cuts (front : List ℕ) (h : Bool) (spans : List Span) (pieces : List Piece) (holds : Bool) : Type 0 where
  pub ended : pieces_from (plain (longer_by (Cmd []) front) h) (bytes_of spans) ≡ pieces
  pub left : holds_something (state_after (plain (longer_by (Cmd []) front) h) (bytes_of spans)) ≡ holds

-- over a span that is no end
over : (front : List ℕ) (h : Bool) (bytes : List ℕ) (spans : List Span) (k : Bool) (pieces : List Piece) (holds : Bool) (all : List ℕ)
    → Same (plain (longer_by (Cmd []) front) h) all (plain (longer_by (longer_by (Cmd []) front) bytes) k) (bytes_of spans)
    → Cuts (front ++ bytes) k spans pieces holds
    → (pieces_from (plain (longer_by (Cmd []) front) h) all ≡ pieces)
    × (holds_something (state_after (plain (longer_by (Cmd []) front) h) all) ≡ holds)
over front h bytes spans k pieces holds all same rest =
    let grew : longer_by (longer_by (Cmd []) front) bytes ≡ longer_by (Cmd []) (front ++ bytes) = sym (longer_by-append (Cmd []) front bytes) in (
      same.pieces ∙ (ap (λ v. pieces_from (plain v k) (bytes_of spans)) grew ∙ rest.ended),
      same.holds ∙ (ap (λ v. holds_something (state_after (plain v k) (bytes_of spans))) grew ∙ rest.left),
    )

cuts_from : (front : List ℕ) (h : Bool) (spans : List Span) (pieces : List Piece) (holds : Bool)
    → (pieces_from (plain (longer_by (Cmd []) front) h) (bytes_of spans) ≡ pieces)
    × (holds_something (state_after (plain (longer_by (Cmd []) front) h) (bytes_of spans)) ≡ holds)
    → Cuts front h spans pieces holds
cuts_from front h spans pieces holds both = record { ended = both.0; left = both.1 }

-- an open span at the end
open_over : (s now : CutState) (k : Bool) (bytes all : List ℕ) → Same s all now [] → holds_something now ≡ k
    → (pieces_from s all ≡ []) × (holds_something (state_after s all) ≡ k)
open_over s now k bytes all same e = (same.pieces, same.holds ∙ e)

pub cut_spans : (spans : List Span) (front : List ℕ) (h : Bool) → all_stand spans ≡ true
    → Cuts front h spans (pieces_between front spans) (rest_by h spans)
cut_spans [] front h s = record { ended = refl; left = or_false h }
cut_spans (end ∷ spans) front h s =
    let rest = cut_spans spans [] false s in
    record { ended = ap (λ v. v ∷ pieces_from start (bytes_of spans)) (piece_is front) ∙ ap (λ v. piece_of front ∷ v) rest.ended; left = rest.left }
cut_spans (text c ∷ spans) front h s =
    let parts = and_parts (lacks 39 c) (all_stand spans) s in
    cuts_from front h (text c ∷ spans) _ _ (over front h (spelled (text c)) spans (h || true) _ _ _
    (text_closed (longer_by (Cmd []) front) h c (bytes_of spans) parts.0) (cut_spans spans (front ++ spelled (text c)) (h || true) parts.1))
cut_spans (comment c ∷ spans) front h s =
    let parts = and_parts (lacks 10 c) (all_stand spans) s in
    cuts_from front h (comment c ∷ spans) _ _ (over front h (spelled (comment c)) spans (h || false) _ _ _
    (comment_closed (longer_by (Cmd []) front) h c (bytes_of spans) parts.0) (cut_spans spans (front ++ spelled (comment c)) (h || false) parts.1))
cut_spans (byte b ∷ spans) front h s =
    let parts = and_parts (may_stand (byte b) spans) (all_stand spans) s in
    let tests = and_parts (not (nat_eq b 59)) (not (nat_eq b 39) && not (nat_eq b 45 && begins_dash (bytes_of spans))) parts.0 in
    let later = and_parts (not (nat_eq b 39)) (not (nat_eq b 45 && begins_dash (bytes_of spans))) tests.1 in
    cuts_from front h (byte b ∷ spans) _ _ (over front h (b ∷ []) spans (h || not (is_blank b)) _ _ _
    (byte_same (longer_by (Cmd []) front) h b (bytes_of spans) (not-true _ tests.0) (not-true _ later.0) (not-true _ later.1))
    (cut_spans spans (front ++ b ∷ []) (h || not (is_blank b)) parts.1))
cut_spans (open_text c ∷ []) front h s =
    let parts = and_parts (lacks 39 c) true (and_parts (may_stand (open_text c) []) true s).0 in
    cuts_from front h (open_text c ∷ []) _ _ (open_over _ _ (h || true) [] _ (text_same (longer_by (Cmd []) front) h c [] parts.0) (sym (or_true h)))
cut_spans (open_text c ∷ span ∷ spans) front h s =
    absurd (false≢true (and_parts (lacks 39 c) false (and_parts (may_stand (open_text c) (span ∷ spans)) (all_stand (span ∷ spans)) s).0).1)
cut_spans (open_comment c ∷ []) front h s =
    let parts = and_parts (lacks 10 c) true (and_parts (may_stand (open_comment c) []) true s).0 in
    cuts_from front h (open_comment c ∷ []) _ _ (open_over _ _ (h || false) [] _ (comment_same (longer_by (Cmd []) front) h c [] parts.0) refl)
cut_spans (open_comment c ∷ span ∷ spans) front h s =
    absurd (false≢true (and_parts (lacks 10 c) false (and_parts (may_stand (open_comment c) (span ∷ spans)) (all_stand (span ∷ spans)) s).0).1)

pub pieces_are_of_spans : PiecesAreOfSpans
pieces_are_of_spans script spans s = ap pieces_of s.bytes ∙ (cut_spans spans [] false s.stand).ended

-- without an end all the spans stand behind the last one
no_end : (spans : List Span) → list_any is_end_span spans ≡ false → after_last_end spans ≡ spans
no_end [] e = refl
no_end (span ∷ spans) e = cond-false _ _ _ e

-- what the rest holds, from the spans behind the last end
abbrev pub rest_of_spans : Bool → List Span → Bool
rest_of_spans h spans = cond (list_any is_end_span spans) (list_any is_something (after_last_end spans)) (h || list_any is_something spans)

past : (h : Bool) (span : Span) (spans : List Span) → is_end_span span ≡ false → rest_of_spans (h || is_something span) spans ≡ rest_of_spans h (span ∷ spans)
past h span spans e =
    let same : list_any is_end_span (span ∷ spans) ≡ list_any is_end_span spans = ap (λ v. v || list_any is_end_span spans) e in
    elim (cases_Bool (list_any is_end_span spans)) [
      | inl some ↦ cond-true _ _ _ some ∙ (ap (list_any is_something) (sym (cond-true _ _ _ (same ∙ some))) ∙ sym (cond-true _ _ _ (same ∙ some)))
      | inr none ↦ cond-false _ _ _ none ∙ (or_assoc h (is_something span) (list_any is_something spans) ∙ sym (cond-false _ _ _ (same ∙ none)))
    ]

pub rest_is : (spans : List Span) (h : Bool) → rest_by h spans ≡ rest_of_spans h spans
rest_is [] h = sym (or_false h)
rest_is (end ∷ spans) h = rest_is spans false ∙ elim (cases_Bool (list_any is_end_span spans)) [
  | inl some ↦ cond-true _ _ _ some
  | inr none ↦ cond-false _ _ _ none ∙ ap (list_any is_something) (sym (no_end spans none))
]
rest_is (text c ∷ spans) h = rest_is spans (h || true) ∙ past h (text c) spans refl
rest_is (comment c ∷ spans) h = rest_is spans (h || false) ∙ past h (comment c) spans refl
rest_is (byte b ∷ spans) h = rest_is spans (h || not (is_blank b)) ∙ past h (byte b) spans refl
rest_is (open_text c ∷ spans) h = rest_is spans (h || true) ∙ past h (open_text c) spans refl
rest_is (open_comment c ∷ spans) h = rest_is spans (h || false) ∙ past h (open_comment c) spans refl

all_rest : (spans : List Span) → rest_of_spans false spans ≡ list_any is_something (after_last_end spans)
all_rest spans = elim (cases_Bool (list_any is_end_span spans)) [
  | inl some ↦ cond-true _ _ _ some
  | inr none ↦ cond-false _ _ _ none ∙ ap (list_any is_something) (sym (no_end spans none))
]

pub rest_is_of_spans : RestIsOfSpans
rest_is_of_spans script spans s = ap has_rest s.bytes ∙ ((cut_spans spans [] false s.stand).left ∙ (rest_is spans false ∙ all_rest spans))
