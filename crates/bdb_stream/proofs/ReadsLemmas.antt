-- Runs over what a source gives, block by block.
use Rattle.std.proofs.Common.{◌≡◌, ◌≢◌, ◌∙◌, ℕ, ◌+◌, ◌-◌, ◌<◌, ◌≤◌, Bool, true, false, ◌&&◌, List, [], ◌++◌, length, map, take, drop, Option, Some, None, Ok, Err, IfSome, refl, ap, sym, subst, append_assoc, arith}
use Rattle.std.specs.Io.KnownBytes.{Appends, Consumes, IsAtEnd, Keeps}
use Rattle.std.proofs.KnownBytes.{Appends-nil, Appends-trans, Consumes-kept, Consumes-nil, Consumes-trans}
use Rattle.std.proofs.lemmas.List.{map-append, append-nil, length-append, take-append-drop, take-append-le, take_all}
use Rattle.bdb_base.specs.Limits.{longest_script}
use Rattle.bdb_keep.specs.Seen.{Seen}
use Rattle.bdb_lex.specs.Cut.{CutterState, ready, start, pieces_of, pieces_from, state_after, holds_something, rest_of}
use Rattle.bdb_lex.proofs.CutLemmas.{pieces_come_in_parts, states_come_in_parts}
use Rattle.bdb_lex.specs.declared.token.Rest.{Rest}
use Rattle.bdb_stream.specs.Handled.{Comes, EndsEarly, Writes}
use Rattle.bdb_stream.specs.Handling.{Handling, IsAt, IsFrontOf, IsInOrder, asked_of, ended_in}
use Rattle.bdb_stream.specs.Reads.{longest_read, before_last_read, status_of, AreAnswered, Streams}
use Rattle.bdb_stream.specs.declared.error.RunError.{RunError}
use Rattle.bdb_stream.specs.declared.error.RunError.TheVariants.{Source, Sink, Keeper, Memory, Large}
use Rattle.bdb_stream.proofs.HandledLemmas.{comes_none, comes_on, ends_on, grows_as, is_there, replies-append}

-- ---- bytes that are taken

-- what was taken up to the end is the script
whole_of : (xs ys taken : List ℕ) → xs ≡ taken ++ ys → ys ≡ [] → xs ≡ taken
whole_of xs ys taken h end = h ∙ ap (λ l. taken ++ l) end ∙ append-nil taken

pub at_end : (P : List ℕ → Type 0) (before left : Option (List ℕ)) (taken : List ℕ) → Consumes before left taken → IsAtEnd left → P taken → IfSome before P
at_end P None left taken h end k = tt
at_end P (Some xs) None taken h end k = absurd h
at_end P (Some xs) (Some ys) taken h end k = subst P (sym (whole_of xs ys taken h end)) k

few_left : (n m k : ℕ) → m ≤ k → n + m - k ≤ n
few_left n m k h = omega arith

-- the status of a run that neither the source nor too much of it stopped
not_read : (stop : RunError) → (stop ≡ Source → ⊥) → (stop ≡ Large → ⊥) → (status_of (Err stop) ≢ 3) × (status_of (Err stop) ≢ 8)
not_read Source h k = absurd (h refl)
not_read Sink h k = (λ e. omega (arith, e), λ e. omega (arith, e))
not_read Keeper h k = (λ e. omega (arith, e), λ e. omega (arith, e))
not_read Memory h k = (λ e. omega (arith, e), λ e. omega (arith, e))
not_read Large h k = absurd (k refl)

not_status : (accepted : Bool) → (status_of (Ok accepted) ≢ 3) × (status_of (Ok accepted) ≢ 8)
not_status true = (λ e. omega (arith, e), λ e. omega (arith, e))
not_status false = (λ e. omega (arith, e), λ e. omega (arith, e))

-- nothing was taken
pub consumes_zero : (a b : Option (List ℕ)) (n : ℕ) (bytes : List ℕ) → n ≡ 0 → Consumes a b (take n bytes) → Consumes a b []
consumes_zero a b n bytes none h = subst (λ (m : ℕ). Consumes a b (take m bytes)) none h

-- a script that was read to its end is as long as what was read, and one that goes on is longer
pub short_by : (before mid left : Option (List ℕ)) (bytes : List ℕ) → Consumes before mid bytes → Consumes mid left [] → IsAtEnd left → length bytes ≤ longest_script
    → IfSome before (λ text. length text ≤ longest_script)
short_by before mid left bytes h k end few =
    at_end (λ text. length text ≤ longest_script) before left bytes (subst (λ (l : List ℕ). Consumes before left l) (append-nil bytes) (Consumes-trans before mid left bytes [] h k)) end few

pub many_by : (before mid left : Option (List ℕ)) (bytes part : List ℕ) → Consumes before mid bytes → Consumes mid left part → length bytes ≡ longest_script → 0 < length part
    → IfSome before (λ text. longest_script < length text)
many_by None mid left bytes part h k all some = tt
many_by (Some xs) None left bytes part h k all some = absurd h
many_by (Some xs) (Some ys) None bytes part h k all some = absurd k
many_by (Some xs) (Some ys) (Some zs) bytes part h k all some =
    let long = ap length (h ∙ ap (λ l. bytes ++ l) k) in
    omega (arith, long, length-append bytes (part ++ zs), length-append part zs, all, some)

-- The bytes that were read so far were fed to the cutter, and the run has come through the pieces that end in them.
pub record Reads {H : Type 0} (m : Handling H) (p : m.Point) (before left : Option (List ℕ)) (bytes : List ℕ) (cutter : CutterState) (hand : H) (first now : Seen) (old new : Option (List ℕ)) (fine : Bool) : Type 0 where
  pub taken : Consumes before left bytes
  pub cut : cutter ≡ ready (state_after start bytes)
  pub come : Comes m p (ended_in m bytes) hand first now old new fine

module _ {H : Type 0} (m : Handling H) (o : IsInOrder m) where
  -- ---- pieces that end in bytes

  ended-append : (bytes part : List ℕ) → ended_in m (bytes ++ part) ≡ ended_in m bytes ++ map m.asked_by (pieces_from (state_after start bytes) part)
  ended-append bytes part = ap (map m.asked_by) (pieces_come_in_parts start bytes part) ∙ map-append m.asked_by (pieces_of bytes) (pieces_from (state_after start bytes) part)

  -- the pieces that end in the first bytes are the first of those that end in all
  ended_front : (k : ℕ) (bytes : List ℕ) → IsFrontOf (ended_in m (take k bytes)) (ended_in m bytes)
  ended_front k bytes = (map m.asked_by (pieces_from (state_after start (take k bytes)) (drop k bytes)), ap (ended_in m) (sym (take-append-drop k bytes)) ∙ ended-append (take k bytes) (drop k bytes))

  front_on : (xs ys zs : List m.Asked) → IsFrontOf xs ys → IsFrontOf ys zs → IsFrontOf xs zs
  front_on xs ys zs h k = (h.0 ++ k.0, k.1 ∙ ap (λ l. l ++ k.0) h.1 ∙ append_assoc xs h.0 k.0)

  -- the pieces that end in bytes that were taken are the first events of the script
  ended_first : (bytes ys : List ℕ) → IsFrontOf (ended_in m bytes) (asked_of m (bytes ++ ys))
  ended_first bytes ys =
      let more = map m.asked_by (pieces_from (state_after start bytes) ys) in
      let rest = m.rest_asks (rest_of (holds_something (state_after start (bytes ++ ys)))) in
      (more ++ rest, ap (λ l. l ++ rest) (ended-append bytes ys) ∙ append_assoc (ended_in m bytes) more rest)

  front_in : (before left : Option (List ℕ)) (taken : List ℕ) (done : List m.Asked) → Consumes before left taken → IsFrontOf done (ended_in m taken) → IfSome before (λ text. IsFrontOf done (asked_of m text))
  front_in None left taken done h k = tt
  front_in (Some xs) None taken done h k = absurd h
  front_in (Some xs) (Some ys) taken done h k =
      subst (λ (l : List ℕ). IsFrontOf done (asked_of m l)) (sym h) (front_on done (ended_in m taken) (asked_of m (taken ++ ys)) k (ended_first taken ys))

  -- the first bytes of a script are those that were taken, where these are as many
  first_taken : (before left : Option (List ℕ)) (taken : List ℕ) → Consumes before left taken → length taken ≡ longest_script → IfSome before (λ text. ended_in m taken ≡ ended_in m (take longest_script text))
  first_taken None left taken h many = tt
  first_taken (Some xs) None taken h many = absurd h
  first_taken (Some xs) (Some ys) taken h many = ap (ended_in m) (sym (ap (take longest_script) h ∙ take-append-le longest_script taken ys (omega (arith, many)) ∙ take_all longest_script taken (omega (arith, many))))

  -- ---- events that are answered

  answered_less : (p : m.Point) (xs ys done : List m.Asked) (old new : Option (List ℕ)) → IsFrontOf xs ys → AreAnswered m p ys done old new → AreAnswered m p xs done old new
  answered_less p xs ys done old new h c = record {
    first = front_on xs ys done h c.first;
    replied = (
      m.replies (m.after p xs) h.0 ++ c.replied.0,
      grows_as old new (m.replies p ys ++ c.replied.0) (m.replies p xs ++ (m.replies (m.after p xs) h.0 ++ c.replied.0))
          (ap (λ l. l ++ c.replied.0) (ap (m.replies p) h.1 ∙ (replies-append m o) p xs h.0) ∙ append_assoc (m.replies p xs) (m.replies (m.after p xs) h.0) c.replied.0) c.replied.1,
    );
  }

  -- what is answered of the bytes before the last read is answered of all but the last 65,536 with it
  caught_up : (p : m.Point) (bytes part : List ℕ) (done : List m.Asked) (old new : Option (List ℕ)) → length part ≤ longest_read
      → AreAnswered m p (ended_in m bytes) done old new → AreAnswered m p (ended_in m (before_last_read (bytes ++ part))) done old new
  caught_up p bytes part done old new few c =
      let k = length (bytes ++ part) - longest_read in
      let low : k ≤ length bytes = subst (λ (n : ℕ). n - longest_read ≤ length bytes) (sym (length-append bytes part)) (few_left (length bytes) (length part) longest_read few) in
      answered_less p (ended_in m (take k (bytes ++ part))) (ended_in m bytes) done old new
      (subst (λ (l : List ℕ). IsFrontOf (ended_in m l) (ended_in m bytes)) (sym (take-append-le k bytes part low)) (ended_front k bytes)) c

  -- events behind which others were written
  wrote : (p : m.Point) (done : List m.Asked) (old new : Option (List ℕ)) (stop : RunError) → Writes m stop p done old new → (text : List ℕ) × Appends old new text
  wrote p done old new Sink w = (m.replies p w.front ++ take w.part (m.reply_of (m.after p w.front) w.last), w.written)
  wrote p done old new Source w = (m.replies p done, w)
  wrote p done old new Keeper w = (m.replies p done, w)
  wrote p done old new Memory w = (m.replies p done, w)
  wrote p done old new Large w = (m.replies p done, w)

  answered_all : (p : m.Point) (xs more : List m.Asked) (text : List ℕ) (old middle new : Option (List ℕ)) → Appends old middle (m.replies p xs) → Appends middle new text → AreAnswered m p xs (xs ++ more) old new
  answered_all p xs more text old middle new h k = record { first = (more, refl); replied = (text, Appends-trans old middle new (m.replies p xs) text h k) }

  answered_these : (p : m.Point) (xs : List m.Asked) (old new : Option (List ℕ)) → Appends old new (m.replies p xs) → AreAnswered m p xs xs old new
  answered_these p xs old new h = record { first = ([], sym (append-nil xs)); replied = ([], grows_as old new (m.replies p xs) (m.replies p xs ++ []) (sym (append-nil (m.replies p xs))) h) }

  -- ---- the run as it reads

  -- nothing was read yet
  pub reads_none : (p : m.Point) (before : Option (List ℕ)) (cutter : CutterState) (hand : H) (first : Seen) (old : Option (List ℕ))
      → cutter ≡ ready start → IsAt m first.kept hand p → Reads m p before before [] cutter hand first first old old true
  reads_none p before cutter hand first old cut a = record {
    taken = Consumes-nil before;
    cut = cut;
    come = (comes_none m o) p hand first old old a (Appends-nil old);
  }

  -- a block of the script was read and answered
  pub reads_on : (p : m.Point) (before mid left : Option (List ℕ)) (bytes part : List ℕ) (cutter next_cutter : CutterState) (hand next : H) (first seen now : Seen) (old middle new : Option (List ℕ)) (fine more : Bool)
      → Reads m p before mid bytes cutter hand first seen old middle fine → Consumes mid left part
      → next_cutter ≡ ready (state_after cutter.state part)
      → ((x : m.Point) → IsAt m seen.kept hand x → Comes m x (map m.asked_by (pieces_from cutter.state part)) next seen now middle new more)
      → Reads m p before left (bytes ++ part) next_cutter next first now old new (fine && more)
  reads_on p before mid left bytes part cutter next_cutter hand next first seen now old middle new fine more reads taken cut come = record {
    taken = Consumes-trans before mid left bytes part reads.taken taken;
    cut = cut ∙ ap (λ (c : CutterState). ready (state_after c.state part)) reads.cut ∙ ap ready (sym (states_come_in_parts start bytes part));
    come = (comes_on m o) p (ended_in m bytes) (map m.asked_by (pieces_from cutter.state part)) (ended_in m (bytes ++ part)) hand next first seen now old middle new fine more
        (ended-append bytes part ∙ ap (λ (c : CutterState). ended_in m bytes ++ map m.asked_by (pieces_from c.state part)) (sym reads.cut)) reads.come (come (m.after p (ended_in m bytes)) ((is_there m o) p (ended_in m bytes) hand first seen old middle fine reads.come));
  }

  -- a read failed
  pub read_fails : (p : m.Point) (before mid left : Option (List ℕ)) (bytes : List ℕ) (cutter : CutterState) (hand : H) (first now : Seen) (old new : Option (List ℕ)) (fine : Bool)
      → Reads m p before mid bytes cutter hand first now old new fine → Keeps mid left → Streams m p before left (m.session_of hand) first now old new (Err Source)
  read_fails p before mid left bytes cutter hand first now old new fine reads kept =
      let consumed = Consumes-kept before mid left bytes reads.taken kept in
      record {
        done = ended_in m bytes;
        front = front_in before left bytes (ended_in m bytes) consumed ([], sym (append-nil (ended_in m bytes)));
        all = tt;
        fine = tt;
        carried = reads.come.carried;
        written = reads.come.written;
        keeps_up = record {
          taken = bytes;
          consumed = consumed;
          caught = answered_less p (ended_in m (before_last_read bytes)) (ended_in m bytes) (ended_in m bytes) old new (ended_front (length bytes - longest_read) bytes) (answered_these p (ended_in m bytes) old new reads.come.written);
          source = λ _. refl;
          large = λ e. absurd (omega (arith, e));
        };
      }

  -- the script goes on behind as many bytes as a script may have
  pub read_over : (p : m.Point) (before mid left : Option (List ℕ)) (bytes part : List ℕ) (cutter : CutterState) (hand : H) (first now : Seen) (old new : Option (List ℕ)) (fine : Bool)
      → Reads m p before mid bytes cutter hand first now old new fine → Consumes mid left part → length bytes ≡ longest_script → length part ≤ longest_read
      → Streams m p before left (m.session_of hand) first now old new (Err Large)
  read_over p before mid left bytes part cutter hand first now old new fine reads taken many few = record {
    done = ended_in m bytes;
    front = front_in before mid bytes (ended_in m bytes) reads.taken ([], sym (append-nil (ended_in m bytes)));
    all = tt;
    fine = tt;
    carried = reads.come.carried;
    written = reads.come.written;
    keeps_up = record {
      taken = bytes ++ part;
      consumed = Consumes-trans before mid left bytes part reads.taken taken;
      caught = caught_up p bytes part (ended_in m bytes) old new few (answered_these p (ended_in m bytes) old new reads.come.written);
      source = λ e. absurd (omega (arith, e));
      large = λ _. first_taken before mid bytes reads.taken many;
    };
  }

  -- a run stopped behind the pieces of what was read
  stopped_behind : (p : m.Point) (before left : Option (List ℕ)) (bytes part : List ℕ) (events : List m.Asked) (hand next : H) (first seen now : Seen) (old middle new : Option (List ℕ)) (fine : Bool) (stop : RunError)
      → Comes m p (ended_in m bytes) hand first seen old middle fine → Consumes before left (bytes ++ part) → length part ≤ longest_read
      → (stop ≡ Source → ⊥) → (stop ≡ Large → ⊥)
      → (ends : EndsEarly m (m.after p (ended_in m bytes)) events (m.session_of next) seen now middle new stop)
      → IfSome before (λ text. IsFrontOf (ended_in m bytes ++ ends.done) (asked_of m text))
      → Streams m p before left (m.session_of next) first now old new (Err stop)
  stopped_behind p before left bytes part events hand next first seen now old middle new fine stop come consumed few not_source not_large ends front =
      let all = (ends_on m o) p (ended_in m bytes ++ events) (ended_in m bytes) events hand (m.session_of next) first seen now old middle new fine stop refl come ends in
      record {
        done = all.done;
        front = front;
        all = tt;
        fine = tt;
        carried = all.carried;
        written = all.written;
        keeps_up = record {
          taken = bytes ++ part;
          consumed = consumed;
          caught = caught_up p bytes part (ended_in m bytes ++ ends.done) old new few
              (answered_all p (ended_in m bytes) ends.done (wrote (m.after p (ended_in m bytes)) ends.done middle new stop ends.written).0 old middle new come.written (wrote (m.after p (ended_in m bytes)) ends.done middle new stop ends.written).1);
          source = λ e. absurd ((not_read stop not_source not_large).0 e);
          large = λ e. absurd ((not_read stop not_source not_large).1 e);
        };
      }

  front_behind : (xs ys zs : List m.Asked) → IsFrontOf ys zs → IsFrontOf (xs ++ ys) (xs ++ zs)
  front_behind xs ys zs h = (h.0, ap (λ l. xs ++ l) h.1 ∙ sym (append_assoc xs ys h.0))

  -- the run stopped at a piece that ends in the block that was read last
  pub block_stops : (p : m.Point) (before mid left : Option (List ℕ)) (bytes part : List ℕ) (cutter : CutterState) (hand next : H) (first seen now : Seen) (old middle new : Option (List ℕ)) (fine : Bool) (stop : RunError)
      → Reads m p before mid bytes cutter hand first seen old middle fine → Consumes mid left part → length part ≤ longest_read
      → (stop ≡ Source → ⊥) → (stop ≡ Large → ⊥)
      → ((x : m.Point) → IsAt m seen.kept hand x → EndsEarly m x (map m.asked_by (pieces_from cutter.state part)) (m.session_of next) seen now middle new stop)
      → Streams m p before left (m.session_of next) first now old new (Err stop)
  block_stops p before mid left bytes part cutter hand next first seen now old middle new fine stop reads taken few not_source not_large stops =
      let ends = stops (m.after p (ended_in m bytes)) ((is_there m o) p (ended_in m bytes) hand first seen old middle fine reads.come) in
      let consumed = Consumes-trans before mid left bytes part reads.taken taken in
      let events = map m.asked_by (pieces_from cutter.state part) in
      stopped_behind p before left bytes part events hand next first seen now old middle new fine stop reads.come consumed few not_source not_large ends
      (front_in before left (bytes ++ part) (ended_in m bytes ++ ends.done) consumed
      (subst (λ (l : List m.Asked). IsFrontOf (ended_in m bytes ++ ends.done) l)
      (sym (ended-append bytes part ∙ ap (λ (c : CutterState). ended_in m bytes ++ map m.asked_by (pieces_from c.state part)) (sym reads.cut)))
      (front_behind (ended_in m bytes) ends.done events ends.front)))

  -- the events of a script are the pieces that end in it, and what its rest asks for
  rest_behind : (bytes : List ℕ) (cutter : CutterState) (rest : Rest) → cutter ≡ ready (state_after start bytes) → rest ≡ rest_of (holds_something cutter.state) → asked_of m bytes ≡ ended_in m bytes ++ m.rest_asks rest
  rest_behind bytes cutter rest cut is = ap (λ (c : CutterState). ended_in m bytes ++ m.rest_asks (rest_of (holds_something c.state))) (sym cut) ∙ ap (λ (r : Rest). ended_in m bytes ++ m.rest_asks r) (sym is)

  -- the script was read to its end, and the run stopped at its rest
  pub rest_stops : (p : m.Point) (before mid left : Option (List ℕ)) (bytes : List ℕ) (cutter : CutterState) (rest : Rest) (hand next : H) (first seen now : Seen) (old middle new : Option (List ℕ)) (fine : Bool) (stop : RunError)
      → Reads m p before mid bytes cutter hand first seen old middle fine → Consumes mid left [] → IsAtEnd left → rest ≡ rest_of (holds_something cutter.state)
      → (stop ≡ Source → ⊥) → (stop ≡ Large → ⊥)
      → ((x : m.Point) → IsAt m seen.kept hand x → EndsEarly m x (m.rest_asks rest) (m.session_of next) seen now middle new stop)
      → Streams m p before left (m.session_of next) first now old new (Err stop)
  rest_stops p before mid left bytes cutter rest hand next first seen now old middle new fine stop reads taken end is not_source not_large stops =
      let ends = stops (m.after p (ended_in m bytes)) ((is_there m o) p (ended_in m bytes) hand first seen old middle fine reads.come) in
      let consumed = Consumes-trans before mid left bytes [] reads.taken taken in
      let events = m.rest_asks rest in
      stopped_behind p before left bytes [] events hand next first seen now old middle new fine stop reads.come consumed (omega arith) not_source not_large ends
      (at_end (λ text. IsFrontOf (ended_in m bytes ++ ends.done) (asked_of m text)) before left bytes (subst (λ (l : List ℕ). Consumes before left l) (append-nil bytes) consumed) end
      (subst (λ (l : List m.Asked). IsFrontOf (ended_in m bytes ++ ends.done) l) (sym (rest_behind bytes cutter rest reads.cut is))
      (front_behind (ended_in m bytes) ends.done events ends.front)))

  -- the script was read to its end, and its rest was answered
  pub reads_all : (p : m.Point) (before mid left : Option (List ℕ)) (bytes : List ℕ) (cutter : CutterState) (rest : Rest) (hand next : H) (first seen now : Seen) (old middle new : Option (List ℕ)) (fine more : Bool)
      → Reads m p before mid bytes cutter hand first seen old middle fine → Consumes mid left [] → IsAtEnd left → rest ≡ rest_of (holds_something cutter.state)
      → ((x : m.Point) → IsAt m seen.kept hand x → Comes m x (m.rest_asks rest) next seen now middle new more)
      → Streams m p before left (m.session_of next) first now old new (Ok (fine && more))
  reads_all p before mid left bytes cutter rest hand next first seen now old middle new fine more reads taken end is comes =
      let come = comes (m.after p (ended_in m bytes)) ((is_there m o) p (ended_in m bytes) hand first seen old middle fine reads.come) in
      let consumed = subst (λ (l : List ℕ). Consumes before left l) (append-nil bytes) (Consumes-trans before mid left bytes [] reads.taken taken) in
      let events = m.rest_asks rest in
      let all = (comes_on m o) p (ended_in m bytes) events (asked_of m bytes) hand next first seen now old middle new fine more (rest_behind bytes cutter rest reads.cut is) reads.come come in
      record {
        done = asked_of m bytes;
        front = at_end (λ text. IsFrontOf (asked_of m bytes) (asked_of m text)) before left bytes consumed end ([], sym (append-nil (asked_of m bytes)));
        all = at_end (λ text. asked_of m bytes ≡ asked_of m text) before left bytes consumed end refl;
        fine = all.told_fine;
        carried = all.carried;
        written = all.written;
        keeps_up = record {
          taken = bytes;
          consumed = consumed;
          caught = answered_less p (ended_in m (before_last_read bytes)) (ended_in m bytes) (asked_of m bytes) old new (ended_front (length bytes - longest_read) bytes)
              (subst (λ (l : List m.Asked). AreAnswered m p (ended_in m bytes) l old new) (sym (rest_behind bytes cutter rest reads.cut is))
              (answered_all p (ended_in m bytes) events (m.replies (m.after p (ended_in m bytes)) events) old middle new reads.come.written come.written));
          source = λ e. absurd ((not_status (fine && more)).0 e);
          large = λ e. absurd ((not_status (fine && more)).1 e);
        };
      }
