-- What isn't fine is told by an error, and nothing else is.
use Rattle.std.proofs.Common.{◌≡◌, ◌∙◌, ℕ, ◌+◌, Bool, true, false, not, ◌&&◌, ◌||◌, nat_eq, MatchBool, List, [], ◌∷◌, ◌++◌, length, refl, ap, sym, append_assoc}
use Rattle.std.specs.Prelude.{codes}
use Rattle.std.specs.Char.{is_ascii_digit}
use Rattle.std.specs.Fmt.{decimal}
use Rattle.std.specs.List.{flat_map, list_all, list_any}
use Rattle.std.proofs.lemmas.Bool.{false≢true, and_from, and_parts, cond-true, cond_both, not-true, or_right}
use Rattle.std.proofs.lemmas.List.{append-nil}
use Rattle.bdb_base.specs.Segments.{is_prefix}
use Rattle.bdb_base.specs.Texts.{line}
use Rattle.bdb_events.specs.declared.read.Read.{Read}
use Rattle.bdb_lex.specs.Spans.{lacks}
use Rattle.bdb_many.specs.Many.{Batches, act_next, act_reply, end_text}
use Rattle.bdb_many.specs.Labels.{label, labelled, labelled_from, told}
use Rattle.bdb_many.proofs.LabelLemmas.{one_line}
use Rattle.bdb_multi.specs.Sessions.{Commands, act_after}
use Rattle.bdb_multi.specs.declared.kinds.Act.{Act}
use Rattle.bdb_multi.specs.declared.kinds.Act.TheVariants.{Begun, Queued, Aborted, ErrBegun, ErrNotBegun, ErrBatch, One, Batch}
use Rattle.bdb_session.specs.Batches.{batch_state, pieces}
use Rattle.bdb_session.specs.ErrorLaws.{HasValidBase}
use Rattle.bdb_session.specs.ErrorLines.{before_lines, lines_of, tells_error}
use Rattle.bdb_session.specs.Machine.{next_state}
use Rattle.bdb_session.specs.Outcome.{State}
use Rattle.bdb_session.specs.Runs.{accepts_all}
use Rattle.bdb_session.specs.Runs as runs
use Rattle.bdb_session.specs.declared.event.ScriptEvent.{ScriptEvent}
use Rattle.bdb_session.proofs.ErrorBatches.{AreTold, batch_told}
use Rattle.bdb_session.proofs.ErrorTexts.{IsFlat, are_digits, decimal_digits, decimal_flat, digits_tell_none, flat_append, is_quiet, lines_before, quiet_are_flat}
use Rattle.bdb_session.proofs.ErrorValid.{bases_stay_valid}
use Rattle.bdb_crowd.specs.Asked.{Asked, Point, all_fine, is_fine, next_point, piece, read_is_fine, replies, reply_of, unfinished}
use Rattle.bdb_crowd.specs.Due.{act_is_fine, session_batches}
use Rattle.bdb_crowd.specs.TellsErrors.{RepliesTellErrors, StreamsTellErrors, behind_digits, has_error, tells_any_error, tells_session_error}

-- ---- lines with a label

label_flat : (n : ℕ) → IsFlat (label n)
label_flat n = flat_append (decimal n) (codes ": ") (decimal_flat n) refl

behind_all : (ds t : List ℕ) → list_all is_ascii_digit ds ≡ true → behind_digits ((ds ++ codes ": ") ++ t) ≡ codes ": " ++ t
behind_all [] t h = refl
behind_all (d ∷ ds) t h =
    let k = and_parts (is_ascii_digit d) (list_all is_ascii_digit ds) h in
    let rest = (ds ++ codes ": ") ++ t in
    cond-true (is_ascii_digit d) (behind_digits rest) (d ∷ rest) k.0 ∙ behind_all ds t k.1

-- a labelled line tells a session an error exactly where the line tells one
labelled_tells : (ds t : List ℕ) → are_digits ds ≡ true → tells_session_error ((ds ++ codes ": ") ++ t) ≡ tells_error t
labelled_tells [] t h = absurd (false≢true h)
labelled_tells (d ∷ ds) t h =
    let k = and_parts (is_ascii_digit d) (list_all is_ascii_digit ds) h in
    ap (λ b. b && is_prefix (codes ": error ") (behind_digits ((ds ++ codes ": ") ++ t))) k.0 ∙ ap (is_prefix (codes ": error ")) (behind_all ds t k.1)

told_tells : (n : ℕ) (t : List ℕ) → tells_any_error (label n ++ t) ≡ tells_error t
told_tells n t =
    ap (λ b. b || tells_session_error (label n ++ t)) (ap tells_error (append_assoc (decimal n) (codes ": ") t) ∙ digits_tell_none (decimal n) (codes ": " ++ t) (decimal_digits n))
    ∙ labelled_tells (decimal n) t (decimal_digits n)

-- the lines of a text that a line begins
told_lines : (n : ℕ) (t rest : List ℕ) → IsFlat t → lines_of (told n t ++ rest) ≡ (label n ++ t) ∷ lines_of rest
told_lines n t rest h =
    ap lines_of (append_assoc (label n) (line t) rest ∙ ap (λ x. label n ++ x) (append_assoc t (10 ∷ []) rest) ∙ sym (append_assoc (label n) t (10 ∷ rest)))
    ∙ lines_before (label n ++ t) rest (flat_append (label n) t (label_flat n) h)

-- behind a line without an error
behind_told : (n : ℕ) (t rest : List ℕ) → is_quiet t ≡ true → has_error (told n t ++ rest) ≡ has_error rest
behind_told n t rest h =
    let k = and_parts (lacks 10 t) (not (tells_error t)) h in
    ap (list_any tells_any_error) (told_lines n t rest k.0)
    ∙ ap (λ b. b || list_any tells_any_error (lines_of rest)) (told_tells n t ∙ not-true (tells_error t) k.1)

behind_lines : (n : ℕ) (texts : List (List ℕ)) (rest : List ℕ) → list_all is_quiet texts ≡ true → has_error (flat_map (told n) texts ++ rest) ≡ has_error rest
behind_lines n [] rest h = refl
behind_lines n (t ∷ ts) rest h =
    let k = and_parts (is_quiet t) (list_all is_quiet ts) h in
    ap has_error (append_assoc (told n t) (flat_map (told n) ts) rest) ∙ (behind_told n t (flat_map (told n) ts ++ rest) k.0 ∙ behind_lines n ts rest k.1)

-- ---- lines that tell an error

record FirstLine (front text : List ℕ) : Type 0 where
  rest : List ℕ
  more : List (List ℕ)
  are : lines_of text ≡ (front ++ rest) ∷ more

one_byte : (b : ℕ) (lines : List (List ℕ)) (text : List ℕ) → lines_of text ≡ before_lines false b lines → FirstLine (b ∷ []) text
one_byte b [] text e = record { rest = []; more = []; are = e }
one_byte b (l ∷ ls) text e = record { rest = l; more = ls; are = e }

-- the first line of a text that begins with bytes without a line feed begins with them
first_line : (b : ℕ) (front y : List ℕ) → IsFlat (b ∷ front) → FirstLine (b ∷ front) (b ∷ (front ++ y))
first_line b [] y h = one_byte b (lines_of y) (b ∷ y) (ap (λ x. before_lines x b (lines_of y)) (not-true (nat_eq b 10) (and_parts (not (nat_eq b 10)) true h).0))
first_line b (c ∷ front) y h =
    let k = and_parts (not (nat_eq b 10)) (lacks 10 (c ∷ front)) h in
    let f = first_line c front y k.1 in
    record {
      rest = f.rest;
      more = f.more;
      are = ap (λ x. before_lines x b (lines_of (c ∷ (front ++ y)))) (not-true (nat_eq b 10) k.0) ∙ ap (before_lines false b) f.are;
    }

labelled_error : (ds y : List ℕ) → are_digits ds ≡ true → lacks 10 ds ≡ true → has_error ((ds ++ codes ": ") ++ (codes "error " ++ y)) ≡ true
labelled_error [] y h flat = absurd (false≢true h)
labelled_error (d ∷ ds) y h flat =
    let front = (ds ++ codes ": ") ++ codes "error " in
    let whole = (d ∷ ds) ++ codes ": " in
    let f = first_line d front y (flat_append whole (codes "error ") (flat_append (d ∷ ds) (codes ": ") flat refl) refl) in
    ap has_error (sym (append_assoc whole (codes "error ") y))
    ∙ (ap (list_any tells_any_error) f.are
    ∙ ap (λ b. b || list_any tells_any_error f.more)
    (or_right (tells_error ((d ∷ front) ++ f.rest)) (tells_session_error ((d ∷ front) ++ f.rest))
    (ap tells_session_error (append_assoc whole (codes "error ") f.rest) ∙ labelled_tells (d ∷ ds) (codes "error " ++ f.rest) h)))

told_error : (n : ℕ) (y : List ℕ) → has_error (label n ++ (codes "error " ++ y)) ≡ true
told_error n y = labelled_error (decimal n) y (decimal_digits n) (decimal_flat n)

plain_error : (y : List ℕ) → has_error (codes "error " ++ y) ≡ true
plain_error y = first (lines_of y)
  where
    first : (lines : List (List ℕ))
        → list_any tells_any_error (before_lines false 101 (before_lines false 114 (before_lines false 114 (before_lines false 111 (before_lines false 114 (before_lines false 32 lines)))))) ≡ true
    first [] = refl
    first (l ∷ ls) = refl

-- ---- what a batch is told

-- lines and what stands behind them, with labels
labelled_lines : (n : ℕ) (texts : List (List ℕ)) (last : List ℕ) → list_all (lacks 10) texts ≡ true
    → labelled n (flat_map line texts ++ last) ≡ flat_map (told n) texts ++ labelled n last
labelled_lines n [] last h = refl
labelled_lines n (t ∷ ts) last h =
    let k = and_parts (lacks 10 t) (list_all (lacks 10) ts) h in
    let behind = flat_map line ts ++ last in
    let rest = flat_map (told n) ts ++ labelled n last in
    ap (labelled n) (append_assoc (line t) (flat_map line ts) last ∙ append_assoc t (10 ∷ []) behind)
    ∙ (one_line (label n) t behind k.0
    ∙ (ap (λ v. label n ++ (t ++ 10 ∷ v)) (labelled_lines n ts last k.1)
    ∙ (ap (λ v. label n ++ v) (sym (append_assoc t (10 ∷ []) rest))
    ∙ (sym (append_assoc (label n) (line t) rest) ∙ sym (append_assoc (told n t) (flat_map (told n) ts) (labelled n last))))))

-- a text tells an error exactly where it isn't fine, or what stands behind it does
abbrev Tells : Bool → List ℕ → Type 0
Tells fine text = (rest : List ℕ) → has_error (text ++ rest) ≡ (not fine || has_error rest)

ends_tell : (n : ℕ) (fine : Bool) (last : List ℕ) → MatchBool fine (last ≡ []) ((more : List ℕ) × (last ≡ codes "error " ++ more)) → Tells fine (labelled n last)
ends_tell n true last h rest = ap (λ x. has_error (labelled n x ++ rest)) h
ends_tell n false last h rest =
    let more = labelled_from (label n) false h.0 in
    ap (λ x. has_error (labelled n x ++ rest)) h.1
    ∙ (ap has_error (append_assoc (label n) (codes "error " ++ more) rest) ∙ told_error n (more ++ rest))

labelled_tell : (n : ℕ) (fine : Bool) (text : List ℕ) → AreTold fine text → Tells fine (labelled n text)
labelled_tell n fine text h rest =
    ap (λ x. has_error (labelled n x ++ rest)) h.is
    ∙ (ap (λ x. has_error (x ++ rest)) (labelled_lines n h.texts h.last (quiet_are_flat h.texts h.quiet))
    ∙ (ap has_error (append_assoc (flat_map (told n) h.texts) (labelled n h.last) rest)
    ∙ (behind_lines n h.texts (labelled n h.last ++ rest) h.quiet ∙ ends_tell n fine h.last h.ends rest)))

-- ---- acts

line_tells : (n : ℕ) (t : List ℕ) → is_quiet t ≡ true → Tells true (told n t)
line_tells n t h rest = behind_told n t rest h

error_line_tells : (n : ℕ) (t : List ℕ) → Tells false (told n (codes "error " ++ t))
error_line_tells n t rest =
    ap has_error (append_assoc (label n) (line (codes "error " ++ t)) rest)
    ∙ (ap (λ x. has_error (label n ++ x)) (append_assoc (codes "error " ++ t) (10 ∷ []) rest ∙ append_assoc (codes "error ") t (10 ∷ rest)) ∙ told_error n (t ++ 10 ∷ rest))

word_quiet : (word text : List ℕ) → IsFlat word → IsFlat text → tells_error (word ++ text) ≡ false → is_quiet (word ++ text) ≡ true
word_quiet word text w f e = and_from (lacks 10 (word ++ text)) (not (tells_error (word ++ text))) (flat_append word text w f) (ap not e)

-- ---- batches, whatever runs them

-- over good states a batch tells an error exactly where it isn't whole, and a good state is followed by a good one
record Telling {S : Type 0} (m : Batches S) (IsGood : S → Type 0) : Type 0 where
  told : (s : S) (q : Commands) → IsGood s → AreTold (m.is_whole s q) (m.text s q)
  next : (s : S) (q : Commands) → IsGood s → IsGood (m.next s q)

end_quiet : {S : Type 0} (m : Batches S) (s : S) (q : Commands) → is_quiet (end_text m s q) ≡ true
end_quiet m s q =
    let accepted = m.accepted s q + 1 in
    cond_both (m.is_whole s q) (codes "committed " ++ decimal (length q)) (codes "aborted " ++ decimal accepted) (λ t. is_quiet t ≡ true)
    (λ e. word_quiet (codes "committed ") (decimal (length q)) refl (decimal_flat (length q)) refl) (λ e. word_quiet (codes "aborted ") (decimal accepted) refl (decimal_flat accepted) refl)

act_tells : {S : Type 0} (m : Batches S) (IsGood : S → Type 0) → Telling m IsGood → (s : S) (n : ℕ) (a : Act) → IsGood s → Tells (act_is_fine m s a) (act_reply m s n a)
act_tells m G t s n Begun v = line_tells n (codes "begun") refl
act_tells m G t s n Queued v = line_tells n (codes "queued") refl
act_tells m G t s n Aborted v = line_tells n (codes "aborted") refl
act_tells m G t s n ErrBegun v = error_line_tells n (codes "begun")
act_tells m G t s n ErrNotBegun v = error_line_tells n (codes "not begun")
act_tells m G t s n ErrBatch v = error_line_tells n (codes "batch")
act_tells m G t s n (One c) v = labelled_tell n (m.is_whole s (c ∷ [])) (m.text s (c ∷ [])) (t.told s (c ∷ []) v)
act_tells m G t s n (Batch q) v = λ rest.
    let text = labelled n (m.text s q) in
    let end = told n (end_text m s q) in
    ap has_error (append_assoc text end rest)
    ∙ (labelled_tell n (m.is_whole s q) (m.text s q) (t.told s q v) (end ++ rest) ∙ ap (λ b. not (m.is_whole s q) || b) (behind_told n (end_text m s q) rest (end_quiet m s q)))

act_good : {S : Type 0} (m : Batches S) (IsGood : S → Type 0) → Telling m IsGood → (s : S) (a : Act) → IsGood s → IsGood (act_next m s a)
act_good m G t s Begun v = v
act_good m G t s Queued v = v
act_good m G t s Aborted v = v
act_good m G t s ErrBegun v = v
act_good m G t s ErrNotBegun v = v
act_good m G t s ErrBatch v = v
act_good m G t s (One c) v = t.next s (c ∷ []) v
act_good m G t s (Batch q) v = t.next s q v

-- ---- the batches of the belief machine

after_valid : (s : State) (es : List ScriptEvent) → HasValidBase s → HasValidBase (runs.after s es)
after_valid s [] v = v
after_valid s (e ∷ es) v = after_valid (next_state s e) es (bases_stay_valid s e v)

batch_valid : (s : State) (es : List ScriptEvent) → HasValidBase s → HasValidBase (batch_state s es)
batch_valid s es v = cond_both (accepts_all s es) (runs.after s es) s HasValidBase (λ e. after_valid s es v) (λ e. v)

session_tells : Telling session_batches HasValidBase
session_tells = record { told = λ s q v. batch_told s (pieces q) v; next = λ s q v. batch_valid s (pieces q) v }

read_tells : (p : Point) (r : Read) → HasValidBase p.state → Tells (read_is_fine p r) (reply_of p (piece r))
read_tells p Read.Nothing v = λ rest. refl
read_tells p Read.Long v = λ rest. plain_error (codes "long" ++ 10 ∷ rest)
read_tells p Read.NoSession v = λ rest. plain_error (codes "session" ++ 10 ∷ rest)
read_tells p (Read.NoLine n) v = error_line_tells n (codes "line")
read_tells p (Read.Event e) v = act_tells session_batches HasValidBase session_tells p.state e.session (act_after p.before e) v

reply_tells : (p : Point) (a : Asked) → HasValidBase p.state → Tells (is_fine p a) (reply_of p a)
reply_tells p (piece r) v = read_tells p r v
reply_tells p unfinished v = λ rest. plain_error (codes "unfinished" ++ 10 ∷ rest)

-- ---- streams

read_valid : (p : Point) (r : Read) → HasValidBase p.state → HasValidBase (next_point p (piece r)).state
read_valid p Read.Nothing v = v
read_valid p Read.Long v = v
read_valid p Read.NoSession v = v
read_valid p (Read.NoLine n) v = v
read_valid p (Read.Event e) v = act_good session_batches HasValidBase session_tells p.state (act_after p.before e) v

next_valid : (p : Point) (a : Asked) → HasValidBase p.state → HasValidBase (next_point p a).state
next_valid p (piece r) v = read_valid p r v
next_valid p unfinished v = v

or_nothing : (b : Bool) → (not b || false) ≡ not b
or_nothing true = refl
or_nothing false = refl

either_not : (a b : Bool) → (not a || not b) ≡ not (a && b)
either_not true b = refl
either_not false b = refl

pub replies_tell_errors : RepliesTellErrors
replies_tell_errors p a v = ap has_error (sym (append-nil (reply_of p a))) ∙ (reply_tells p a v [] ∙ or_nothing (is_fine p a))

pub streams_tell_errors : StreamsTellErrors
streams_tell_errors p [] v = refl
streams_tell_errors p (a ∷ asked) v =
    reply_tells p a v (replies (next_point p a) asked)
    ∙ (ap (λ b. not (is_fine p a) || b) (streams_tell_errors (next_point p a) asked (next_valid p a v)) ∙ either_not (is_fine p a) (all_fine (next_point p a) asked))
