-- What is due to acts, and how it is done.
use Rattle.std.proofs.Common.{◌≡◌, ◌∙◌, ℕ, ◌+◌, ◌≤◌, suc, Bool, true, false, not, cond, nat_lt, List, [], ◌∷◌, ◌++◌, length, take, Option, Some, None, Result, Ok, Err, OnOk, codes, refl, ap, sym, subst, append_assoc, arith}
use Rattle.std.specs.Fmt.{decimal}
use Rattle.std.specs.Io.KnownBytes.{Appends}
use Rattle.std.proofs.lemmas.List.{append-nil, length-map, length-take}
use Rattle.bdb_base.specs.Causes.{Rises}
use Rattle.bdb_base.specs.Texts.{line}
use Rattle.bdb_base.proofs.BoolLemmas.{not_twice}
use Rattle.bdb_events.specs.Forms.{NamesSession}
use Rattle.bdb_events.specs.declared.read.Read.{Read}
use Rattle.bdb_keep.specs.Seen.{Seen, Unchanged}
use Rattle.bdb_keep.specs.Tables.{Tables}
use Rattle.bdb_many.specs.Many.{end_text, rest_reply}
use Rattle.bdb_many.specs.Labels.{label, labelled, told}
use Rattle.bdb_multi.specs.declared.kinds.Act.{Act}
use Rattle.bdb_multi.specs.declared.kinds.Act.TheVariants.{Begun, Queued, Aborted, ErrBegun, ErrNotBegun, ErrBatch, One, Batch}
use Rattle.bdb_multi.specs.declared.kinds.Event.{Event}
use Rattle.bdb_multi.specs.declared.kinds.Line.{Line}
use Rattle.bdb_multi.specs.declared.kinds.Line.TheVariants.{Begin, Commit, Abort, Cmd}
use Rattle.bdb_multi.specs.Sessions.{Commands, act_after, act_by, mine, most_queued, open_batch}
use Rattle.bdb_multi.specs.Slots.{AreSlotsOf}
use Rattle.bdb_session.specs.Batches.{pieces, before_refused, batch_commits, batch_state, batch_text, IsBatchReply}
use Rattle.bdb_session.specs.Known.{Known, Agrees, RemembersSome}
use Rattle.bdb_session.specs.Machine.{accepts, next_state}
use Rattle.bdb_session.specs.Outcome.{State}
use Rattle.bdb_session.specs.Runs.{accepts_all}
use Rattle.bdb_session.specs.declared.batch.BatchReply.{BatchReply}
use Rattle.bdb_session.specs.declared.event.ScriptEvent as asked
use Rattle.bdb_stream.specs.declared.error.RunError.{RunError}
use Rattle.bdb_stream.specs.declared.error.RunError.TheVariants.{Source, Sink, Keeper, Memory, Large}
use Rattle.bdb_crowd.specs.Asked.{Asked, Point, commits_by, is_fine, next_point, piece, reply_of, unfinished}
use Rattle.bdb_crowd.specs.Carried.{AtHand, Carried, IsAt, IsAtSome, TellsAnswer}
use Rattle.bdb_crowd.specs.Due.{Due, IsDone, IsRunBy, IsTextTold, IsWaiting, Lands, due_to, end_line, session_batches}
use Rattle.bdb_stream.proofs.HandledLemmas.{grows_as}

-- ---- nothing is run

-- nothing has changed
pub stays : (s : State) (before now : Known) (first last : Seen) → now ≡ before → Unchanged first last → Agrees first.kept before s → Lands s 0 now first last
stays s before now first last is same a = record {
  agrees = subst (λ (t : Tables). Agrees t now s) (sym same.kept) (subst (λ (k : Known). Agrees first.kept k s) (sym is) a);
  rises = λ _. let e = same.commits in omega arith;
}

pub still_here : (s : State) (k : Known) (now : Seen) → Agrees now.kept k s → Lands s 0 k now now
still_here s k now a = record { agrees = a; rises = λ _. omega arith }

-- a line alone was told
told_done : (s : State) (text : List ℕ) (fine : Bool) (k : Known) (now : Seen) (old new : Option (List ℕ)) (result : Result Bool RunError)
    → Agrees now.kept k s → IsTextTold text fine old new result → IsDone s (record { reply = text; fine = fine; next = s; commits = 0 }) k now now old new result
told_done s text fine k now old new (Ok is) a h = (still_here s k now a, h.0, h.1)
told_done s text fine k now old new (Err Sink) a h = (still_here s k now a, h)
told_done s text fine k now old new (Err Source) a h = absurd h
told_done s text fine k now old new (Err Keeper) a h = absurd h
told_done s text fine k now old new (Err Memory) a h = absurd h
told_done s text fine k now old new (Err Large) a h = absurd h

module _ (s : State) (n : ℕ) (act : Act) (k : Known) (now : Seen) (old new : Option (List ℕ)) (result : Result Bool RunError) (a : Agrees now.kept k s) where
  -- an act that tells a line alone is done where the line was told
  pub begun_done : act ≡ Begun → IsTextTold (told n (codes "begun")) true old new result → IsDone s (due_to s n act) k now now old new result
  begun_done is h = subst (λ (x : Act). IsDone s (due_to s n x) k now now old new result) (sym is) (told_done s (told n (codes "begun")) true k now old new result a h)

  pub queued_done : act ≡ Queued → IsTextTold (told n (codes "queued")) true old new result → IsDone s (due_to s n act) k now now old new result
  queued_done is h = subst (λ (x : Act). IsDone s (due_to s n x) k now now old new result) (sym is) (told_done s (told n (codes "queued")) true k now old new result a h)

  pub aborted_done : act ≡ Aborted → IsTextTold (told n (codes "aborted")) true old new result → IsDone s (due_to s n act) k now now old new result
  aborted_done is h = subst (λ (x : Act). IsDone s (due_to s n x) k now now old new result) (sym is) (told_done s (told n (codes "aborted")) true k now old new result a h)

  pub err_begun_done : act ≡ ErrBegun → IsTextTold (told n (codes "error begun")) false old new result → IsDone s (due_to s n act) k now now old new result
  err_begun_done is h = subst (λ (x : Act). IsDone s (due_to s n x) k now now old new result) (sym is) (told_done s (told n (codes "error begun")) false k now old new result a h)

  pub err_not_begun_done : act ≡ ErrNotBegun → IsTextTold (told n (codes "error not begun")) false old new result → IsDone s (due_to s n act) k now now old new result
  err_not_begun_done is h = subst (λ (x : Act). IsDone s (due_to s n x) k now now old new result) (sym is) (told_done s (told n (codes "error not begun")) false k now old new result a h)

  pub err_batch_done : act ≡ ErrBatch → IsTextTold (told n (codes "error batch")) false old new result → IsDone s (due_to s n act) k now now old new result
  err_batch_done is h = subst (λ (x : Act). IsDone s (due_to s n x) k now now old new result) (sym is) (told_done s (told n (codes "error batch")) false k now old new result a h)

-- ---- a batch is run

fewer : (b : Bool) (m n : ℕ) → m ≤ n → cond b (m + 1) 0 ≤ n + 1
fewer true m n h = omega (arith, h)
fewer false m n h = omega arith

one_and : (n m : ℕ) → n ≤ m + 1 → n ≤ suc m
one_and n m h = omega (arith, h)

before_few : (s : State) (es : List asked.ScriptEvent) → before_refused s es ≤ length es
before_few s [] = omega arith
before_few s (e ∷ es) = one_and (before_refused s (e ∷ es)) (length es) (fewer (accepts s e) (before_refused (next_state s e) es) (length es) (before_few (next_state s e) es))

-- no more commands come before the first that is refused than there are
pub accepted_few : (s : State) (q : Commands) (accepted : ℕ) → accepted ≡ before_refused s (pieces q) → length q ≤ most_queued → accepted ≤ most_queued
accepted_few s q accepted is few =
    let some = before_few s (pieces q) in
    let many : length (pieces q) ≡ length q = length-map q _ in
    omega (arith, is, few, some, many)

pub run_by : (s : State) (q : Commands) (r : BatchReply) (now : Known) (first last : Seen) → r.refused ≡ not (accepts_all s (pieces q)) → r.accepted ≡ before_refused s (pieces q)
    → r.text ≡ batch_text s (pieces q) → Agrees last.kept now (batch_state s (pieces q)) → Rises (batch_commits s (pieces q)) first.commits last.commits
    → IsRunBy s q now first last (Ok r)
run_by s q r now first last refused accepted text next commits = (record { refused = refused; accepted = accepted; text = text }, record { agrees = next; rises = commits })

fine_by : (refused whole : Bool) → refused ≡ not whole → not refused ≡ whole
fine_by refused whole is = ap not is ∙ not_twice whole

one_due : (s : State) (n : ℕ) (c : List ℕ) (now : Known) (first last : Seen) (r : BatchReply) → IsRunBy s (c ∷ []) now first last (Ok r)
    → Lands (due_to s n (One c)).next (due_to s n (One c)).commits now first last × (not r.refused ≡ (due_to s n (One c)).fine) × (labelled n r.text ≡ (due_to s n (One c)).reply)
one_due s n c now first last r h = (
  record { agrees = h.1.agrees; rises = h.1.rises },
  fine_by r.refused (accepts_all s (pieces (c ∷ []))) h.0.refused,
  ap (labelled n) h.0.text,
)

module _ (s : State) (n : ℕ) (c : List ℕ) (lines : Commands) (now : Known) (first last : Seen) (old new : Option (List ℕ)) (r : BatchReply) (is : lines ≡ c ∷ []) (h : IsRunBy s lines now first last (Ok r)) where
  pub one_done : Appends old new (labelled n r.text) → IsDone s (due_to s n (One c)) now first last old new (Ok (not r.refused))
  one_done w =
      let d = one_due s n c now first last r (subst (λ (q : Commands). IsRunBy s q now first last (Ok r)) is h) in
      (d.0, d.1, grows_as old new (labelled n r.text) (due_to s n (One c)).reply d.2 w)

  pub one_part : (k : ℕ) × (k ≤ length (labelled n r.text)) × Appends old new (take k (labelled n r.text)) → IsDone s (due_to s n (One c)) now first last old new (Err Sink)
  one_part w =
      let d = one_due s n c now first last r (subst (λ (q : Commands). IsRunBy s q now first last (Ok r)) is h) in
      (d.0, (w.0, grows_as old new (take w.0 (labelled n r.text)) (take w.0 (due_to s n (One c)).reply) (ap (take w.0) d.2) w.2))

flipped : {X : Type 0} (b : Bool) (x y : X) → cond (not b) x y ≡ cond b y x
flipped true x y = refl
flipped false x y = refl

-- the line that tells how a batch ended
end_is : (s : State) (n : ℕ) (q : Commands) (r : BatchReply) (count : ℕ) → IsBatchReply s (pieces q) r → count ≡ length q
    → end_line n r.refused r.accepted count ≡ told n (end_text session_batches s q)
end_is s n q r count h many =
    ap (λ b. end_line n b r.accepted count) h.refused
    ∙ ap (λ k. end_line n (not (accepts_all s (pieces q))) k count) h.accepted
    ∙ ap (λ k. end_line n (not (accepts_all s (pieces q))) (before_refused s (pieces q)) k) many
    ∙ ap (told n) (flipped (accepts_all s (pieces q)) (codes "aborted " ++ decimal (before_refused s (pieces q) + 1)) (codes "committed " ++ decimal (length q)))

batch_due : (s : State) (n : ℕ) (q : Commands) (now : Known) (first last : Seen) (r : BatchReply) (count : ℕ) → IsRunBy s q now first last (Ok r) → count ≡ length q
    → Lands (due_to s n (Batch q)).next (due_to s n (Batch q)).commits now first last × (not r.refused ≡ (due_to s n (Batch q)).fine)
    × (labelled n r.text ++ end_line n r.refused r.accepted count ≡ (due_to s n (Batch q)).reply)
batch_due s n q now first last r count h many = (
  record { agrees = h.1.agrees; rises = h.1.rises },
  fine_by r.refused (accepts_all s (pieces q)) h.0.refused,
  ap (λ t. labelled n t ++ end_line n r.refused r.accepted count) h.0.text ∙ ap (λ t. labelled n (batch_text s (pieces q)) ++ t) (end_is s n q r count h.0 many),
)

module _ (s : State) (n : ℕ) (q : Commands) (now : Known) (first last : Seen) (old new : Option (List ℕ)) (r : BatchReply) (count : ℕ) (h : IsRunBy s q now first last (Ok r)) (many : count ≡ length q) where
  pub batch_done : Appends old new (labelled n r.text ++ end_line n r.refused r.accepted count) → IsDone s (due_to s n (Batch q)) now first last old new (Ok (not r.refused))
  batch_done w =
      let d = batch_due s n q now first last r count h many in
      (d.0, d.1, grows_as old new (labelled n r.text ++ end_line n r.refused r.accepted count) (due_to s n (Batch q)).reply d.2 w)

  pub batch_part : (k : ℕ) × (k ≤ length (labelled n r.text ++ end_line n r.refused r.accepted count)) × Appends old new (take k (labelled n r.text ++ end_line n r.refused r.accepted count))
      → IsDone s (due_to s n (Batch q)) now first last old new (Err Sink)
  batch_part w =
      let text = labelled n r.text ++ end_line n r.refused r.accepted count in
      let d = batch_due s n q now first last r count h many in
      (d.0, (w.0, grows_as old new (take w.0 text) (take w.0 (due_to s n (Batch q)).reply) (ap (take w.0) d.2) w.2))

-- a batch that was not run
pub unrun : (s : State) (act : Act) (n : ℕ) (q : Commands) (now : Known) (first last : Seen) (old : Option (List ℕ)) (stop : RunError) → (stop ≡ Sink → ⊥) → IsRunBy s q now first last (Err stop) → Appends old old []
    → IsDone s (due_to s n act) now first last old old (Err stop)
unrun s act n q now first last old Sink other h none = absurd (other refl)
unrun s act n q now first last old Source other h none = (h, none)
unrun s act n q now first last old Keeper other h none = (h, none)
unrun s act n q now first last old Memory other h none = (h, none)
unrun s act n q now first last old Large other h none = (h, none)

regroup : (m t d : List ℕ) → (m ++ t) ++ (d ++ 10 ∷ []) ≡ m ++ ((t ++ d) ++ 10 ∷ [])
regroup m t d = append_assoc m t (d ++ 10 ∷ []) ∙ ap (λ l. m ++ l) (sym (append_assoc t d (10 ∷ [])))

pub end_aborted : (n : ℕ) (refused : Bool) (accepted count : ℕ) → refused ≡ true → (label n ++ codes "aborted ") ++ (decimal (accepted + 1) ++ 10 ∷ []) ≡ end_line n refused accepted count
end_aborted n refused accepted count is = regroup (label n) (codes "aborted ") (decimal (accepted + 1)) ∙ ap (λ b. end_line n b accepted count) (sym is)

pub end_committed : (n : ℕ) (refused : Bool) (accepted count : ℕ) → refused ≡ false → (label n ++ codes "committed ") ++ (decimal count ++ 10 ∷ []) ≡ end_line n refused accepted count
end_committed n refused accepted count is = regroup (label n) (codes "committed ") (decimal count) ∙ ap (λ b. end_line n b accepted count) (sym is)

-- ---- what waits

least : (n : ℕ) (q : Commands) → length (take n q) ≤ n
least n q = omega (arith, length-take n q)

act_waits : (waiting : Option Commands) (l : Line) → IsWaiting (act_by waiting l)
act_waits None Begin = tt
act_waits None Commit = tt
act_waits None Abort = tt
act_waits None (Cmd c) = tt
act_waits (Some q) Begin = tt
act_waits (Some q) Commit = least most_queued q
act_waits (Some q) Abort = tt
act_waits (Some q) (Cmd c) = elim (nat_lt (length q) most_queued) as (λ b. IsWaiting (cond b Queued ErrBatch)) [ true ↦ tt | false ↦ tt ]

pub waits : (act : Act) (es : List Event) (e : Event) → act ≡ act_after es e → IsWaiting act
waits act es e is = subst IsWaiting (sym is) (act_waits (open_batch (mine e.session es)) e.line)

-- ---- what a stream asks for

and_none : (n : ℕ) → n ≡ n + 0
and_none n = omega arith

lands_carried : (p : Point) (a : Asked) (k : Known) (first last : Seen) → Lands (next_point p a).state (commits_by p a) k first last → Carried p (a ∷ []) k first last
lands_carried p a k first last h = record { agrees = h.agrees; commits = subst (λ (n : ℕ). Rises n first.commits last.commits) (and_none (commits_by p a)) h.rises }

stays_carried : (p : Point) (k : Known) (first last : Seen) → Lands p.state 0 k first last → Carried p [] k first last
stays_carried p k first last h = record { agrees = h.agrees; commits = h.rises }

-- what is due to what a stream asks for
abbrev due_of : Point → Asked → Due
due_of p a = record { reply = reply_of p a; fine = is_fine p a; next = (next_point p a).state; commits = commits_by p a }

-- what is due where a line alone is told
abbrev due_line : State → List ℕ → Bool → Due
due_line s text fine = record { reply = text; fine = fine; next = s; commits = 0 }

-- where what is due was done, and what waits is what the events leave open, it was answered
pub due_answers : (p : Point) (a : Asked) (d : Due) (hand : AtHand) (first last : Seen) (old new : Option (List ℕ)) (result : Result Bool RunError)
    → d ≡ due_of p a
    → IsDone p.state d hand.session first last old new result → OnOk result (AreSlotsOf hand.slots (next_point p a).before) → TellsAnswer p a hand first last old new result
due_answers p a d hand first last old new result is done stands =
    by_result result (subst (λ (x : Due). IsDone p.state x hand.session first last old new result) is done) stands
  where
    by_result : (r : Result Bool RunError) → IsDone p.state (due_of p a) hand.session first last old new r → OnOk r (AreSlotsOf hand.slots (next_point p a).before) → TellsAnswer p a hand first last old new r
    by_result (Ok fine) h s = record { carried = lands_carried p a hand.session first last h.0; stands = s; written = h.2; told_fine = h.1 }
    by_result (Err Sink) h s = (lands_carried p a hand.session first last h.0, h.1)
    by_result (Err Source) h s = (stays_carried p hand.session first last h.0, h.1)
    by_result (Err Keeper) h s = (stays_carried p hand.session first last h.0, h.1)
    by_result (Err Memory) h s = (stays_carried p hand.session first last h.0, h.1)
    by_result (Err Large) h s = (stays_carried p hand.session first last h.0, h.1)

-- an act was answered, which is that of an event
pub event_answers : (p : Point) (n : ℕ) (l : Line) (act : Act) (hand : AtHand) (first last : Seen) (old new : Option (List ℕ)) (result : Result Bool RunError)
    → act ≡ act_after p.before (record { session = n; line = l }) → IsDone p.state (due_to p.state n act) hand.session first last old new result
    → AreSlotsOf hand.slots (p.before ++ record { session = n; line = l } ∷ []) → TellsAnswer p (piece (Read.Event (record { session = n; line = l }))) hand first last old new result
event_answers p n l act hand first last old new result is done stands =
    due_answers p (piece (Read.Event (record { session = n; line = l }))) (due_to p.state n act) hand first last old new result (ap (due_to p.state n) is) done (on_ok result stands)
  where
    on_ok : (r : Result Bool RunError) → AreSlotsOf hand.slots (p.before ++ record { session = n; line = l } ∷ []) → OnOk r (AreSlotsOf hand.slots (p.before ++ record { session = n; line = l } ∷ []))
    on_ok (Ok b) s = s
    on_ok (Err e) s = tt

-- a line alone was told, of what is no event
pub line_answers : (p : Point) (a : Asked) (text : List ℕ) (fine : Bool) (hand : AtHand) (now : Seen) (old new : Option (List ℕ)) (result : Result Bool RunError)
    → due_line p.state text fine ≡ due_of p a → (next_point p a).before ≡ p.before ++ [] → IsAt now.kept hand p → IsTextTold text fine old new result → TellsAnswer p a hand now now old new result
line_answers p a text fine hand now old new result is kept at h =
    due_answers p a (due_line p.state text fine) hand now now old new result is (told_done p.state text fine hand.session now old new result at.agrees h)
    (on_ok result (subst (AreSlotsOf hand.slots) (sym (kept ∙ append-nil p.before)) at.stands))
  where
    on_ok : (r : Result Bool RunError) → AreSlotsOf hand.slots (next_point p a).before → OnOk r (AreSlotsOf hand.slots (next_point p a).before)
    on_ok (Ok b) s = s
    on_ok (Err e) s = tt

-- after an Ok what is at hand has come to some point
pub answer_at : (p : Point) (a : Asked) (hand : AtHand) (first now : Seen) (old new : Option (List ℕ)) (result : Result Bool RunError) → TellsAnswer p a hand first now old new result
    → RemembersSome now.kept hand.session → OnOk result (IsAtSome now.kept hand)
answer_at p a hand first now old new (Ok fine) h k =
    record { point = next_point p a; at = record { agrees = h.carried.agrees; stands = h.stands }; remembers = k }
answer_at p a hand first now old new (Err stop) h k = tt

-- what was not answered
pub unanswered : (p : Point) (k : Known) (now : Seen) → Agrees now.kept k p.state → Carried p [] k now now
unanswered p k now agrees = record { agrees = agrees; commits = λ _. omega arith }

pub some_timeline : (t : Tables) (hand : AtHand) → IsAtSome t hand → RemembersSome t hand.session
some_timeline t hand h = h.remembers

-- a piece that is no event was answered by a line, or by nothing
module _ (p : Point) (r : Read) (hand : AtHand) (now : Seen) (old new : Option (List ℕ)) (result : Result Bool RunError) (at : IsAt now.kept hand p) where
  pub nothing_answers : r ≡ Read.Nothing → IsTextTold [] true old new result → TellsAnswer p (piece r) hand now now old new result
  nothing_answers is h = subst (λ (x : Read). TellsAnswer p (piece x) hand now now old new result) (sym is) (line_answers p (piece Read.Nothing) [] true hand now old new result refl refl at h)

  pub long_answers : r ≡ Read.Long → IsTextTold (line (codes "error long")) false old new result → TellsAnswer p (piece r) hand now now old new result
  long_answers is h = subst (λ (x : Read). TellsAnswer p (piece x) hand now now old new result) (sym is) (line_answers p (piece Read.Long) (line (codes "error long")) false hand now old new result refl refl at h)

  pub no_session_answers : r ≡ Read.NoSession → IsTextTold (line (codes "error session")) false old new result → TellsAnswer p (piece r) hand now now old new result
  no_session_answers is h =
      subst (λ (x : Read). TellsAnswer p (piece x) hand now now old new result) (sym is) (line_answers p (piece Read.NoSession) (line (codes "error session")) false hand now old new result refl refl at h)

  pub no_line_answers : (n : ℕ) → r ≡ Read.NoLine n → IsTextTold (told n (codes "error line")) false old new result → TellsAnswer p (piece r) hand now now old new result
  no_line_answers n is h =
      subst (λ (x : Read). TellsAnswer p (piece x) hand now now old new result) (sym is) (line_answers p (piece (Read.NoLine n)) (told n (codes "error line")) false hand now old new result refl refl at h)

-- a rest that holds something was told
pub unfinished_answers : (p : Point) (hand : AtHand) (now : Seen) (old new : Option (List ℕ)) (result : Result Bool RunError) → IsAt now.kept hand p → IsTextTold (rest_reply true) false old new result
    → TellsAnswer p unfinished hand now now old new result
unfinished_answers p hand now old new result at h = line_answers p unfinished (rest_reply true) false hand now old new result refl (sym (append-nil p.before)) at h

pub named : (r s : Read) → r ≡ s → NamesSession r → NamesSession s
named r s is h = subst NamesSession is h
