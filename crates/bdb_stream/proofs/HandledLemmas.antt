-- The steps of a run over what a stream asks for.
use Rattle.std.proofs.Common.{◌≡◌, ◌∙◌, ℕ, ◌+◌, Bool, true, false, ◌&&◌, List, [], ◌∷◌, ◌++◌, take, Option, Ok, Err, Result, refl, ap, sym, subst, append_assoc, arith}
use Rattle.std.specs.Io.KnownBytes.{Appends}
use Rattle.std.proofs.KnownBytes.{Appends-trans}
use Rattle.std.proofs.lemmas.List.{append-nil}
use Rattle.bdb_base.specs.Causes.{Rises}
use Rattle.bdb_keep.specs.Seen.{Seen, NeverFall}
use Rattle.bdb_lex.specs.declared.token.Rest.{Rest}
use Rattle.bdb_session.specs.Known.{Known}
use Rattle.bdb_stream.specs.Handled.{Carried, Comes, EndsEarly, RunEnds, TellsAnswer, Writes, WritesPart}
use Rattle.bdb_stream.specs.Handling.{Handling, IsAt, IsInOrder}
use Rattle.bdb_stream.specs.declared.error.RunError.{RunError}
use Rattle.bdb_stream.specs.declared.error.RunError.TheVariants.{Source, Sink, Keeper, Memory, Large}

zero_and : (n : ℕ) → n ≡ 0 + n
zero_and n = omega arith

three : (k m n : ℕ) → k + (m + n) ≡ k + m + n
three k m n = omega arith

and_assoc : (a b c : Bool) → (a && b) && c ≡ a && (b && c)
and_assoc true b c = refl
and_assoc false b c = refl

and_true : (a : Bool) → a && true ≡ a
and_true true = refl
and_true false = refl

-- one rise behind another
rises_on : (m n k a b c : ℕ) → k ≡ m + n → Rises m a b → Rises n b c → Rises k a c
rises_on m n k a b c is h i below =
    let last = i below in
    let first = h (omega arith) in
    omega arith

-- counts that don't fall twice don't fall
pub never_fall_on : (a b c : Seen) → NeverFall a b → NeverFall b c → NeverFall a c
never_fall_on a b c h k = record { faults = omega arith; reads = omega arith; writes = omega arith; commits = omega arith }

-- a text that is another one was written
pub grows_as : (a b : Option (List ℕ)) (x y : List ℕ) → x ≡ y → Appends a b x → Appends a b y
grows_as a b x y e h = subst (λ (l : List ℕ). Appends a b l) e h

-- how one was answered, whichever point was reached
abbrev pub AnswersOf : {H : Type 0} (m : Handling H) → m.Asked → H → H → Seen → Seen → Option (List ℕ) → Option (List ℕ) → Result Bool RunError → Type 0
AnswersOf m a before now first last old new result = (p : m.Point) → IsAt m first.kept before p → TellsAnswer m p a now first last old new result

module _ {H : Type 0} (m : Handling H) (o : IsInOrder m) where
  -- ---- several things behind others

  after-append : (p : m.Point) (xs ys : List m.Asked) → m.after p (xs ++ ys) ≡ m.after (m.after p xs) ys
  after-append p [] ys = ap (λ (q : m.Point). m.after q ys) (sym (o.stays p))
  after-append p (x ∷ xs) ys = o.leads p x (xs ++ ys) ∙ after-append (m.next_point p x) xs ys ∙ ap (λ (q : m.Point). m.after q ys) (sym (o.leads p x xs))

  pub replies-append : (p : m.Point) (xs ys : List m.Asked) → m.replies p (xs ++ ys) ≡ m.replies p xs ++ m.replies (m.after p xs) ys
  replies-append p [] ys = ap (λ (q : m.Point). m.replies q ys) (sym (o.stays p)) ∙ ap (λ l. l ++ m.replies (m.after p []) ys) (sym (o.no_reply p))
  replies-append p (x ∷ xs) ys =
      let n = m.next_point p x in
      o.replies p x (xs ++ ys)
      ∙ ap (λ l. m.reply_of p x ++ l) (replies-append n xs ys)
      ∙ sym (append_assoc (m.reply_of p x) (m.replies n xs) (m.replies (m.after n xs) ys))
      ∙ ap (λ l. l ++ m.replies (m.after n xs) ys) (sym (o.replies p x xs))
      ∙ ap (λ (q : m.Point). m.replies p (x ∷ xs) ++ m.replies q ys) (sym (o.leads p x xs))

  committed-append : (p : m.Point) (xs ys : List m.Asked) → m.committed p (xs ++ ys) ≡ m.committed p xs + m.committed (m.after p xs) ys
  committed-append p [] ys =
      ap (λ (q : m.Point). m.committed q ys) (sym (o.stays p)) ∙ zero_and (m.committed (m.after p []) ys) ∙ ap (λ n. n + m.committed (m.after p []) ys) (sym (o.no_commit p))
  committed-append p (x ∷ xs) ys =
      let n = m.next_point p x in
      o.commits p x (xs ++ ys)
      ∙ ap (λ k. m.commits_by p x + k) (committed-append n xs ys)
      ∙ three (m.commits_by p x) (m.committed n xs) (m.committed (m.after n xs) ys)
      ∙ ap (λ k. k + m.committed (m.after n xs) ys) (sym (o.commits p x xs))
      ∙ ap (λ (q : m.Point). m.committed p (x ∷ xs) + m.committed q ys) (sym (o.leads p x xs))

  all_fine-append : (p : m.Point) (xs ys : List m.Asked) → m.all_fine p (xs ++ ys) ≡ m.all_fine p xs && m.all_fine (m.after p xs) ys
  all_fine-append p [] ys = ap (λ (q : m.Point). m.all_fine q ys) (sym (o.stays p)) ∙ ap (λ t. t && m.all_fine (m.after p []) ys) (sym (o.none_fine p))
  all_fine-append p (x ∷ xs) ys =
      let n = m.next_point p x in
      o.fine p x (xs ++ ys)
      ∙ ap (λ t. m.is_fine p x && t) (all_fine-append n xs ys)
      ∙ sym (and_assoc (m.is_fine p x) (m.all_fine n xs) (m.all_fine (m.after n xs) ys))
      ∙ ap (λ t. t && m.all_fine (m.after n xs) ys) (sym (o.fine p x xs))
      ∙ ap (λ (q : m.Point). m.all_fine p (x ∷ xs) && m.all_fine q ys) (sym (o.leads p x xs))

  -- ---- the run goes on

  -- more was carried out
  pub carried_on : (p : m.Point) (xs ys zs : List m.Asked) (now next : Known) (first mid last : Seen) → zs ≡ xs ++ ys
      → Carried m p xs now first mid → Carried m (m.after p xs) ys next mid last → Carried m p zs next first last
  carried_on p xs ys zs now next first mid last is come then = record {
    agrees = subst (λ (q : m.Point). m.Agrees last.kept next q) (sym (ap (m.after p) is ∙ after-append p xs ys)) then.agrees;
    commits = rises_on (m.committed p xs) (m.committed (m.after p xs) ys) (m.committed p zs) first.commits mid.commits last.commits
        (ap (m.committed p) is ∙ committed-append p xs ys) come.commits then.commits;
  }

  -- the run has come through more
  pub comes_on : (p : m.Point) (xs ys zs : List m.Asked) (now next : H) (first mid last : Seen) (old middle new : Option (List ℕ)) (fine more : Bool) → zs ≡ xs ++ ys
      → Comes m p xs now first mid old middle fine → Comes m (m.after p xs) ys next mid last middle new more → Comes m p zs next first last old new (fine && more)
  comes_on p xs ys zs now next first mid last old middle new fine more is come then = record {
    carried = carried_on p xs ys zs (m.session_of now) (m.session_of next) first mid last is come.carried then.carried;
    stands = subst (λ (q : m.Point). m.StandsFor next q) (sym (ap (m.after p) is ∙ after-append p xs ys)) then.stands;
    written = grows_as old new (m.replies p xs ++ m.replies (m.after p xs) ys) (m.replies p zs) (sym (ap (m.replies p) is ∙ replies-append p xs ys))
        (Appends-trans old middle new (m.replies p xs) (m.replies (m.after p xs) ys) come.written then.written);
    told_fine = ap (λ t. t && more) come.told_fine ∙ ap (λ t. m.all_fine p xs && t) then.told_fine ∙ sym (ap (m.all_fine p) is ∙ all_fine-append p xs ys);
  }

  -- the replies to more were written, but perhaps a part of the last
  part_on : (p : m.Point) (xs done : List m.Asked) (old middle new : Option (List ℕ)) → Appends old middle (m.replies p xs) → WritesPart m (m.after p xs) done middle new → WritesPart m p (xs ++ done) old new
  part_on p xs done old middle new h w =
      let q = m.after p xs in
      let reply = take w.part (m.reply_of (m.after q w.front) w.last) in
      record {
        front = xs ++ w.front;
        last = w.last;
        is = ap (λ l. xs ++ l) w.is ∙ sym (append_assoc xs w.front (w.last ∷ []));
        part = w.part;
        written = grows_as old new (m.replies p xs ++ (m.replies q w.front ++ reply)) (m.replies p (xs ++ w.front) ++ take w.part (m.reply_of (m.after p (xs ++ w.front)) w.last))
            (sym (append_assoc (m.replies p xs) (m.replies q w.front) reply)
            ∙ ap (λ l. l ++ reply) (sym (replies-append p xs w.front))
            ∙ ap (λ (x : m.Point). m.replies p (xs ++ w.front) ++ take w.part (m.reply_of x w.last)) (sym (after-append p xs w.front)))
            (Appends-trans old middle new (m.replies p xs) (m.replies q w.front ++ reply) h w.written);
      }

  whole_on : (p : m.Point) (xs done : List m.Asked) (old middle new : Option (List ℕ)) → Appends old middle (m.replies p xs) → Appends middle new (m.replies (m.after p xs) done) → Appends old new (m.replies p (xs ++ done))
  whole_on p xs done old middle new h w =
      grows_as old new (m.replies p xs ++ m.replies (m.after p xs) done) (m.replies p (xs ++ done)) (sym (replies-append p xs done)) (Appends-trans old middle new (m.replies p xs) (m.replies (m.after p xs) done) h w)

  pub writes_on : (p : m.Point) (xs done : List m.Asked) (old middle new : Option (List ℕ)) (stop : RunError) → Appends old middle (m.replies p xs) → Writes m stop (m.after p xs) done middle new → Writes m stop p (xs ++ done) old new
  writes_on p xs done old middle new Sink h w = part_on p xs done old middle new h w
  writes_on p xs done old middle new Source h w = whole_on p xs done old middle new h w
  writes_on p xs done old middle new Keeper h w = whole_on p xs done old middle new h w
  writes_on p xs done old middle new Memory h w = whole_on p xs done old middle new h w
  writes_on p xs done old middle new Large h w = whole_on p xs done old middle new h w

  -- the run comes through some, and stops at one of those behind
  abbrev pub ends_on : (p : m.Point) (asked xs ys : List m.Asked) (now : H) (next : Known) (first mid last : Seen) (old middle new : Option (List ℕ)) (fine : Bool) (stop : RunError) → asked ≡ xs ++ ys
      → Comes m p xs now first mid old middle fine → EndsEarly m (m.after p xs) ys next mid last middle new stop → EndsEarly m p asked next first last old new stop
  ends_on p asked xs ys now next first mid last old middle new fine stop is come ends = record {
    done = xs ++ ends.done;
    front = (ends.front.0, is ∙ ap (λ l. xs ++ l) ends.front.1 ∙ sym (append_assoc xs ends.done ends.front.0));
    carried = carried_on p xs ends.done (xs ++ ends.done) (m.session_of now) next first mid last refl come.carried ends.carried;
    written = writes_on p xs ends.done old middle new stop come.written ends.written;
  }

  -- one was answered, and the run comes through it
  pub one_comes : (p : m.Point) (a : m.Asked) (next : H) (first last : Seen) (old new : Option (List ℕ)) (fine : Bool) → TellsAnswer m p a next first last old new (Ok fine) → Comes m p (a ∷ []) next first last old new fine
  one_comes p a next first last old new fine answer =
      let q = m.next_point p a in
      record {
        carried = answer.carried;
        stands = subst (m.StandsFor next) (sym (o.leads p a [] ∙ o.stays q)) answer.stands;
        written = grows_as old new (m.reply_of p a) (m.replies p (a ∷ [])) (sym (o.replies p a [] ∙ ap (λ l. m.reply_of p a ++ l) (o.no_reply q) ∙ append-nil (m.reply_of p a))) answer.written;
        told_fine = answer.told_fine ∙ sym (o.fine p a [] ∙ ap (λ t. m.is_fine p a && t) (o.none_fine q) ∙ and_true (m.is_fine p a));
      }

  -- nothing was written
  none_written : (p : m.Point) (old new : Option (List ℕ)) → Appends old new [] → Appends old new (m.replies p [])
  none_written p old new none = grows_as old new [] (m.replies p []) (sym (o.no_reply p)) none

  -- or stops at it
  pub one_stops : (p : m.Point) (a : m.Asked) (rest : List m.Asked) (next : H) (first last : Seen) (old new : Option (List ℕ)) (stop : RunError) → TellsAnswer m p a next first last old new (Err stop)
      → EndsEarly m p (a ∷ rest) (m.session_of next) first last old new stop
  one_stops p a rest next first last old new Sink answer = record {
    done = a ∷ [];
    front = (rest, refl);
    carried = answer.0;
    written = record {
      front = [];
      last = a;
      is = refl;
      part = answer.1.0;
      written = grows_as old new (take answer.1.0 (m.reply_of p a)) (m.replies p [] ++ take answer.1.0 (m.reply_of (m.after p []) a))
          (sym (ap (λ l. l ++ take answer.1.0 (m.reply_of (m.after p []) a)) (o.no_reply p) ∙ ap (λ (q : m.Point). take answer.1.0 (m.reply_of q a)) (o.stays p))) answer.1.1;
    };
  }
  one_stops p a rest next first last old new Source answer = record { done = []; front = (a ∷ rest, refl); carried = answer.0; written = none_written p old new answer.1 }
  one_stops p a rest next first last old new Keeper answer = record { done = []; front = (a ∷ rest, refl); carried = answer.0; written = none_written p old new answer.1 }
  one_stops p a rest next first last old new Memory answer = record { done = []; front = (a ∷ rest, refl); carried = answer.0; written = none_written p old new answer.1 }
  one_stops p a rest next first last old new Large answer = record { done = []; front = (a ∷ rest, refl); carried = answer.0; written = none_written p old new answer.1 }

  -- where a run has come, it is
  pub is_there : (p : m.Point) (xs : List m.Asked) (now : H) (first mid : Seen) (old middle : Option (List ℕ)) (fine : Bool) → Comes m p xs now first mid old middle fine → IsAt m mid.kept now (m.after p xs)
  is_there p xs now first mid old middle fine come = record { agrees = come.carried.agrees; stands = come.stands }

  -- the run has come through one more
  pub comes_one : (p : m.Point) (xs ys : List m.Asked) (a : m.Asked) (now next : H) (first mid last : Seen) (old middle new : Option (List ℕ)) (fine more : Bool) → ys ≡ xs ++ a ∷ []
      → Comes m p xs now first mid old middle fine → AnswersOf m a now next mid last middle new (Ok more) → Comes m p ys next first last old new (fine && more)
  comes_one p xs ys a now next first mid last old middle new fine more is come answers =
      comes_on p xs (a ∷ []) ys now next first mid last old middle new fine more is come
      (one_comes (m.after p xs) a next mid last middle new more (answers (m.after p xs) (is_there p xs now first mid old middle fine come)))

  -- the run stops at one
  pub comes_stops : (p : m.Point) (asked xs : List m.Asked) (a : m.Asked) (rest : List m.Asked) (now next : H) (first mid last : Seen) (old middle new : Option (List ℕ)) (fine : Bool) (stop : RunError)
      → asked ≡ xs ++ (a ∷ rest) → Comes m p xs now first mid old middle fine → AnswersOf m a now next mid last middle new (Err stop) → EndsEarly m p asked (m.session_of next) first last old new stop
  comes_stops p asked xs a rest now next first mid last old middle new fine stop is come answers =
      ends_on p asked xs (a ∷ rest) now (m.session_of next) first mid last old middle new fine stop is come
      (one_stops (m.after p xs) a rest next mid last middle new stop (answers (m.after p xs) (is_there p xs now first mid old middle fine come)))

  -- before the first nothing is done
  pub comes_none : (p : m.Point) (hand : H) (now : Seen) (old new : Option (List ℕ)) → IsAt m now.kept hand p → Appends old new [] → Comes m p [] hand now now old new true
  comes_none p hand now old new at none = record {
    carried = record {
      agrees = subst (m.Agrees now.kept (m.session_of hand)) (sym (o.stays p)) at.agrees;
      commits = subst (λ (n : ℕ). Rises n now.commits now.commits) (sym (o.no_commit p)) (λ _. omega arith);
    };
    stands = subst (m.StandsFor hand) (sym (o.stays p)) at.stands;
    written = none_written p old new none;
    told_fine = sym (o.none_fine p);
  }

  -- what stands behind the last semicolon was answered, where it asks for nothing, and where it asks for something
  pub nothing_ends : (p : m.Point) (rest is : Rest) (hand : H) (now : Seen) (old new : Option (List ℕ)) → rest ≡ is → m.rest_asks is ≡ [] → IsAt m now.kept hand p → Appends old new []
      → RunEnds m p (m.rest_asks rest) hand now now old new (Ok true)
  nothing_ends p rest is hand now old new e asks at none =
      subst (λ (l : List m.Asked). RunEnds m p l hand now now old new (Ok true)) (sym (ap m.rest_asks e ∙ asks)) (comes_none p hand now old new at none)

  pub one_ends : (p : m.Point) (rest is : Rest) (a : m.Asked) (next : H) (first last : Seen) (old new : Option (List ℕ)) (result : Result Bool RunError) → rest ≡ is → m.rest_asks is ≡ a ∷ []
      → TellsAnswer m p a next first last old new result → RunEnds m p (m.rest_asks rest) next first last old new result
  one_ends p rest is a next first last old new result e asks answer =
      subst (λ (l : List m.Asked). RunEnds m p l next first last old new result) (sym (ap m.rest_asks e ∙ asks)) (by_result result answer)
    where
      by_result : (r : Result Bool RunError) → TellsAnswer m p a next first last old new r → RunEnds m p (a ∷ []) next first last old new r
      by_result (Ok fine) h = one_comes p a next first last old new fine h
      by_result (Err stop) h = one_stops p a [] next first last old new stop h
