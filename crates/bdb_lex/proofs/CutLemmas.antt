-- What runs of bytes do to the piece and to the state of a cutter.
use Rattle.std.proofs.Common.{◌≡◌, ℕ, suc, ◌+◌, ◌<◌, ◌≤◌, Bool, true, false, cond, ◌||◌, List, [], ◌∷◌, ◌++◌, length, get_or, take, drop, refl, sym, ap, ◌∙◌, arith, append_assoc, add-one, drop-cons, length-append, nat_lt, nat_eq, inl, inr, not, ◌&&◌, slice_get, IfSome}
use Rattle.std.proofs.Math.Seq.{take-suc, take-add}
use Rattle.std.proofs.Math.Bool.{or-false, or_assoc}
use Rattle.std.proofs.lemmas.Bool.{lt-ltb, le-ltb, cases_lt, cond-true, cond-false, le-leb, cases_Bool, and_from, and_parts, not-true, false≢true}
use Rattle.std.proofs.lemmas.List.{append-nil, drop-drop, take-append-drop}
use Rattle.std.proofs.lemmas.Option.{slice_get-get_or}
use Rattle.std.proofs.Math.Path.{transport}
use Rattle.bdb_base.specs.Limits.{longest_command}
use Rattle.bdb_lex.specs.declared.mode.Mode.{Mode}
use Rattle.bdb_lex.specs.declared.token.Piece.{Piece}
use Rattle.bdb_lex.specs.declared.token.Piece.TheVariants.{Cmd, Long}
use Rattle.std.specs.List.{list_all, list_any}
use Rattle.std.proofs.lemmas.List.Folds.{list_all-append}
use Rattle.bdb_lex.specs.Cut.{CutState, start, longer, is_end, shows, next_mode, pieces_from, state_after, ended, next_state, grown, is_short}
use Rattle.bdb_lex.specs.CutLaws.{NothingIsNoPiece, PiecesComeInParts, StatesComeInParts, PiecesAreShort}
use Rattle.bdb_lex.specs.Runs.{state_of, longer_by, LeadsAlike, Runs, is_quiet}
use Rattle.bdb_lex.specs.declared.run.Run.{Run}
use Rattle.bdb_lex.specs.declared.mode.Mode.TheVariants.{Plain, Dash, Quoted, Comment}

pub longer_by-long : (bytes : List ℕ) → longer_by Long bytes ≡ Long
longer_by-long [] = refl
longer_by-long (b ∷ bytes) = longer_by-long bytes

pub longer_by-append : (p : Piece) (a b : List ℕ) → longer_by p (a ++ b) ≡ longer_by (longer_by p a) b
longer_by-append p [] b = refl
longer_by-append p (x ∷ a) b = longer_by-append (longer p x) a b

-- nothing is lost as long as the piece isn't long
pub longer_by-fits : (a bytes : List ℕ) → length a + length bytes ≤ 65536 → longer_by (Cmd a) bytes ≡ Cmd (a ++ bytes)
longer_by-fits a [] h = ap Cmd (sym (append-nil a))
longer_by-fits a (b ∷ bytes) h =
    let e : nat_lt (length a) 65536 ≡ true = lt-ltb (length a) 65536 (omega arith) in
    let more : longer (Cmd a) b ≡ Cmd (a ++ b ∷ []) = cond-true _ _ _ e in
    ap (λ p. longer_by p bytes) more ∙ (longer_by-fits (a ++ b ∷ []) bytes (omega (arith, length-append a (b ∷ [])))
    ∙ ap Cmd (append_assoc a (b ∷ []) bytes))

pub longer_by-over : (a bytes : List ℕ) → length a ≤ 65536 → 65536 < length a + length bytes → longer_by (Cmd a) bytes ≡ Long
longer_by-over a [] fits over = absurd (omega arith)
longer_by-over a (b ∷ bytes) fits over = elim (cases_lt (length a) 65536) [
  | inl lt ↦ let more : longer (Cmd a) b ≡ Cmd (a ++ b ∷ []) = cond-true _ _ _ (lt-ltb (length a) 65536 lt) in
      ap (λ p. longer_by p bytes) more ∙ longer_by-over (a ++ b ∷ []) bytes (omega (arith, length-append a (b ∷ []))) (omega (arith, length-append a (b ∷ [])))
  | inr ge ↦ let more : longer (Cmd a) b ≡ Long = cond-false _ _ _ (le-ltb (length a) 65536 ge) in
      ap (λ p. longer_by p bytes) more ∙ longer_by-long bytes
]

-- a byte that ends no piece leads to the grown state
pub leads_byte : (m : Mode) (p : Piece) (h : Bool) (b : ℕ) (bytes : List ℕ) → is_end m b ≡ false
    → LeadsAlike (state_of m p h) (b ∷ bytes) (state_of (next_mode m b) (longer p b) (h || shows m b)) bytes
leads_byte m p h b bytes e = record { pieces = rw e refl; state = rw e refl }

-- a run with a byte more, and whether it holds something then
pub runs_more : (m : Mode) (h : Bool) (bytes : List ℕ) (r : Run) (something : Bool) → r.len < length bytes
    → IfSome (slice_get bytes r.len) (λ b. is_end r.mode b ≡ false) → something ≡ (r.holds || shows r.mode (get_or bytes r.len 0))
    → Runs m h bytes r → Runs m h bytes (record { len = r.len + 1; mode = next_mode r.mode (get_or bytes r.len 0); holds = something })
runs_more m h bytes r something lt goes_on holds before p =
    let b = get_or bytes r.len 0 in
    let e : is_end r.mode b ≡ false =
    transport (ap (λ o. IfSome o (λ b. is_end r.mode b ≡ false)) (slice_get-get_or bytes r.len 0 lt)) goes_on in
    let cut : drop r.len bytes ≡ b ∷ drop (suc r.len) bytes = drop-cons bytes r.len 0 lt in
    let grew : longer_by p (take (suc r.len) bytes) ≡ longer (longer_by p (take r.len bytes)) b =
    ap (longer_by p) (take-suc bytes r.len 0 lt) ∙ longer_by-append p (take r.len bytes) (b ∷ []) in
    let step = leads_byte r.mode (longer_by p (take r.len bytes)) r.holds b (drop (suc r.len) bytes) e in
    let so_far = before p in
    rw (add-one, grew, holds) record {
      pieces = so_far.pieces ∙ (ap (pieces_from (state_of r.mode (longer_by p (take r.len bytes)) r.holds)) cut ∙ step.pieces);
      state = so_far.state ∙ (ap (state_after (state_of r.mode (longer_by p (take r.len bytes)) r.holds)) cut ∙ step.state);
    }

-- a quiet byte changes no mode
quiet_stays : (m : Mode) (b : ℕ) → is_quiet m b ≡ true → next_mode m b ≡ m
quiet_stays Plain b q =
    let parts = and_parts (not (nat_eq b 59)) (not (nat_eq b 39) && not (nat_eq b 45)) q in
    let more = and_parts (not (nat_eq b 39)) (not (nat_eq b 45)) parts.1 in
    rw (not-true (nat_eq b 39) more.0, not-true (nat_eq b 45) more.1) refl
quiet_stays Dash b q = absurd (false≢true q)
quiet_stays Quoted b q = rw (not-true (nat_eq b 39) q) refl
quiet_stays Comment b q = rw (not-true (nat_eq b 10) q) refl

-- and ends no piece
quiet_goes_on : (m : Mode) (b : ℕ) → is_quiet m b ≡ true → is_end m b ≡ false
quiet_goes_on Plain b q = not-true (nat_eq b 59) (and_parts (not (nat_eq b 59)) (not (nat_eq b 39) && not (nat_eq b 45)) q).0
quiet_goes_on Dash b q = absurd (false≢true q)
quiet_goes_on Quoted b q = refl
quiet_goes_on Comment b q = refl

-- quiet bytes make the piece longer, and may show something
leads_quiet : (m : Mode) (p : Piece) (h : Bool) (quiet rest : List ℕ) → list_all (is_quiet m) quiet ≡ true
    → LeadsAlike (state_of m p h) (quiet ++ rest) (state_of m (longer_by p quiet) (h || list_any (shows m) quiet)) rest
leads_quiet m p h [] rest q = rw (or-false h) record { pieces = refl; state = refl }
leads_quiet m p h (b ∷ quiet) rest q =
    let parts = and_parts (is_quiet m b) (list_all (is_quiet m) quiet) q in
    let stays : next_mode m b ≡ m = quiet_stays m b parts.0 in
    let one = leads_byte m p h b (quiet ++ rest) (quiet_goes_on m b parts.0) in
    let more = leads_quiet m (longer p b) (h || shows m b) quiet rest parts.1 in
    let holds : (h || shows m b || list_any (shows m) quiet) ≡ (h || (shows m b || list_any (shows m) quiet)) = or_assoc h (shows m b) (list_any (shows m) quiet) in
    rw (sym holds) record {
      pieces = one.pieces ∙ (ap (λ now. pieces_from (state_of now (longer p b) (h || shows m b)) (quiet ++ rest)) stays ∙ more.pieces);
      state = one.state ∙ (ap (λ now. state_after (state_of now (longer p b) (h || shows m b)) (quiet ++ rest)) stays ∙ more.state);
    }

-- a run with quiet bytes more
pub runs_quiet : (m : Mode) (h : Bool) (bytes behind : List ℕ) (r : Run) (n : ℕ) (something : Bool) → behind ≡ drop r.len bytes
    → list_all (is_quiet r.mode) (take n behind) ≡ true
    → something ≡ (r.holds || list_any (shows r.mode) (take n behind)) → Runs m h bytes r
    → Runs m h bytes (record { len = r.len + n; mode = r.mode; holds = something })
runs_quiet m h bytes behind r n something is q holds before p =
    let quiet = take n behind in
    let rest = drop (r.len + n) bytes in
    let cut : drop r.len bytes ≡ quiet ++ rest =
    sym is ∙ (sym (take-append-drop n behind) ∙ ap (λ x. quiet ++ x) (ap (drop n) is ∙ drop-drop n r.len bytes)) in
    let grew : longer_by p (take (r.len + n) bytes) ≡ longer_by (longer_by p (take r.len bytes)) quiet =
    ap (longer_by p) (take-add r.len n bytes ∙ ap (λ x. take r.len bytes ++ take n x) (sym is)) ∙ longer_by-append p (take r.len bytes) quiet in
    let step = leads_quiet r.mode (longer_by p (take r.len bytes)) r.holds quiet rest q in
    let so_far = before p in
    rw (grew, holds) record {
      pieces = so_far.pieces ∙ (ap (pieces_from (state_of r.mode (longer_by p (take r.len bytes)) r.holds)) cut ∙ step.pieces);
      state = so_far.state ∙ (ap (state_after (state_of r.mode (longer_by p (take r.len bytes)) r.holds)) cut ∙ step.state);
    }

-- the piece of a long flag and of bytes that are kept
pub kept_fits : (p : Piece) (is_long : Bool) (old new run : List ℕ) → is_long ≡ false → cond is_long Long (Cmd old) ≡ p → new ≡ old ++ run
    → length old + length run ≤ 65536 → cond is_long Long (Cmd new) ≡ longer_by p run
kept_fits p is_long old new run short is_p grew fits =
    let was : p ≡ Cmd old = sym is_p ∙ cond-false _ _ _ short in
    let now : cond is_long Long (Cmd new) ≡ Cmd (old ++ run) = cond-false _ _ _ short ∙ ap Cmd grew in
    now ∙ (sym (longer_by-fits old run fits) ∙ ap (λ q. longer_by q run) (sym was))

pub kept_over : (p : Piece) (is_long : Bool) (old run : List ℕ) → is_long ≡ false → cond is_long Long (Cmd old) ≡ p
    → length old ≤ 65536 → 65536 < length old + length run → Long ≡ longer_by p run
kept_over p is_long old run short is_p fits over =
    let was : p ≡ Cmd old = sym is_p ∙ cond-false _ _ _ short in
    sym (longer_by-over old run fits over) ∙ ap (λ q. longer_by q run) (sym was)

pub kept_long : (p : Piece) (is_long : Bool) (old run : List ℕ) → is_long ≡ true → cond is_long Long (Cmd old) ≡ p → p ≡ longer_by p run
kept_long p is_long old run long is_p =
    let was : p ≡ Long = sym is_p ∙ cond-true _ _ _ long in
    was ∙ (sym (longer_by-long run) ∙ ap (λ q. longer_by q run) (sym was))

-- a piece that had no byte is the bytes behind it
pub whole_piece : (p : Piece) (run : List ℕ) → p ≡ Cmd [] → length run ≤ longest_command → Cmd run ≡ longer_by p run
whole_piece p run none fits = sym (longer_by-fits [] run (omega arith)) ∙ ap (λ q. longer_by q run) (sym none)

-- a piece of few bytes is short, and so is a long one
pub kept_short : (is_long : Bool) (bytes : List ℕ) → length bytes ≤ longest_command → is_short (cond is_long Long (Cmd bytes)) ≡ true
kept_short true bytes few = refl
kept_short false bytes few = le-leb (length bytes) longest_command few

-- a test that looks at the second part only where the first fails
pub or_later : (x y z b : Bool) → x ≡ false → z ≡ b → y ≡ b → z ≡ (x || y)
or_later x y z b e f g = rw e (f ∙ sym g)

pub or_first : (x y z : Bool) → x ≡ true → z ≡ x → z ≡ (x || y)
or_first x y z e f = rw e (f ∙ e)

-- the cut goes on from part to part
pub nothing_is_no_piece : NothingIsNoPiece
nothing_is_no_piece = (refl, refl)

pub pieces_come_in_parts : PiecesComeInParts
pieces_come_in_parts s [] b = refl
pieces_come_in_parts s (x ∷ a) b =
    ap (λ v. ended s x ++ v) (pieces_come_in_parts (next_state s x) a b)
    ∙ sym (append_assoc (ended s x) (pieces_from (next_state s x) a) (pieces_from (state_after (next_state s x) a) b))

pub states_come_in_parts : StatesComeInParts
states_come_in_parts s [] b = refl
states_come_in_parts s (x ∷ a) b = states_come_in_parts (next_state s x) a b

-- pieces are short
longer_short : (p : Piece) (b : ℕ) → is_short p ≡ true → is_short (longer p b) ≡ true
longer_short Long b h = refl
longer_short (Cmd bytes) b h = elim (cases_lt (length bytes) 65536) [
  | inl lt ↦ ap is_short (cond-true _ _ _ (lt-ltb (length bytes) 65536 lt))
      ∙ le-leb (length (bytes ++ b ∷ [])) 65536 (omega (arith, length-append bytes (b ∷ [])))
  | inr ge ↦ ap is_short (cond-false _ _ _ (le-ltb (length bytes) 65536 ge))
]

next_short : (s : CutState) (b : ℕ) → is_short s.piece ≡ true → is_short (next_state s b).piece ≡ true
next_short s b h = elim (cases_Bool (is_end s.mode b)) [
  | inl e ↦ ap (λ v. is_short v.piece) (cond-true (is_end s.mode b) start (grown s b) e)
  | inr e ↦ ap (λ v. is_short v.piece) (cond-false (is_end s.mode b) start (grown s b) e) ∙ longer_short s.piece b h
]

ended_short : (s : CutState) (b : ℕ) → is_short s.piece ≡ true → list_all is_short (ended s b) ≡ true
ended_short s b h = elim (cases_Bool (is_end s.mode b)) [
  | inl e ↦ ap (list_all is_short) (cond-true (is_end s.mode b) (s.piece ∷ []) [] e) ∙ and_from _ _ h refl
  | inr e ↦ ap (list_all is_short) (cond-false (is_end s.mode b) (s.piece ∷ []) [] e)
]

short_from : (bytes : List ℕ) (s : CutState) → is_short s.piece ≡ true
    → (list_all is_short (pieces_from s bytes) ≡ true) × (is_short (state_after s bytes).piece ≡ true)
short_from [] s h = (refl, h)
short_from (b ∷ bytes) s h =
    let rest = short_from bytes (next_state s b) (next_short s b h) in
    (list_all-append is_short (ended s b) (pieces_from (next_state s b) bytes) ∙ and_from _ _ (ended_short s b h) rest.0, rest.1)

pub pieces_are_short : PiecesAreShort
pieces_are_short script = short_from script start refl
