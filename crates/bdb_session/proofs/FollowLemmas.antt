-- What a session remembers of the bases before and ahead, by what it does over the base held.
use Rattle.std.proofs.Common.{◌≡◌, ◌∙◌, ℕ, true, List, [], Result, Ok, Err, IfOk, refl, sym, ap, subst, arith}
use Rattle.bdb_base.specs.Bases.{Contents}
use Rattle.bdb_base.specs.declared.kinds.Catalog.{Catalog}
use Rattle.bdb_keep.specs.Seen.{Seen, IsStill}
use Rattle.bdb_keep.specs.Tables.{Tables}
use Rattle.bdb_render.specs.declared.refusal.Refusal.{Refusal}
use Rattle.bdb_syntax.specs.declared.command.Command.{Command}
use Rattle.bdb_undo.specs.Timelines.{Timeline, arrived}
use Rattle.bdb_undo.proofs.TimelineLemmas.{staying_arrives}
use Rattle.bdb_session.specs.Following.{Follows, FollowsEvent, IsFollowed, Moves, moved_by, next_on, outcome_on, said_next, said_outcome}
use Rattle.bdb_session.specs.Known.{Known, Agrees, AgreesOnSome, Remembers, RemembersSome}
use Rattle.bdb_session.specs.Machine.{reading_outcome}
use Rattle.bdb_session.specs.Outcome.{State, Outcome, Blank, Refused, text_of, is_accepted, answer_count, start_from, state_after}
use Rattle.bdb_session.specs.Reading.{reading_of}
use Rattle.bdb_session.specs.Served.{IsReply, AnswersAlone, Serves}
use Rattle.bdb_session.specs.Undoing.{course_of_command, course_of_reading, next_by, next_state, outcome_by, outcome_of}
use Rattle.bdb_session.specs.declared.course.Course.{Course}
use Rattle.bdb_session.specs.declared.course.Course.TheVariants.{Back, Forth, Onward}
use Rattle.bdb_session.specs.declared.event.ScriptEvent.{ScriptEvent}
use Rattle.bdb_session.specs.declared.event.ScriptEvent.TheVariants.{Piece}
use Rattle.bdb_session.specs.declared.reading.Reading.{Reading}
use Rattle.bdb_session.specs.declared.reading.Reading.TheVariants as reading
use Rattle.bdb_session.specs.declared.reply.Reply.{Reply}
use Rattle.bdb_session.specs.declared.error.StopError.{StopError}
use Rattle.bdb_session.specs.declared.error.StopError.TheVariants.{Fault}
use Rattle.bdb_session.proofs.ServedLemmas.{as_it_was, nothing_falls, refused_serves, still_agrees, ends_well}

-- ---- what is known

-- a session agrees by its catalog and sizes alone
pub agrees_as : (t : Tables) (k j : Known) (s : State) → j.catalog ≡ k.catalog → j.counts ≡ k.counts → Agrees t k s → Agrees t j s
agrees_as t k j s e f a = record { base = a.base; catalog = e ∙ a.catalog; counts = f ∙ a.counts }

-- it agrees on the base of a state
pub agrees_on : (t : Tables) (k : Known) (s : State) (b : Contents) → s.base ≡ b → Agrees t k s → Agrees t k (start_from b)
agrees_on t k s b e a = subst (λ (c : Contents). Agrees t k (start_from c)) e (record { base = a.base; catalog = a.catalog; counts = a.counts })

-- where it remembers a timeline, it agrees on its base
pub some_agree : (t : Tables) (k : Known) → RemembersSome t k → AgreesOnSome t k
some_agree t k r = record { state = start_from r.timeline.now; agrees = r.remembers.agrees }

pub still_remembers : (t u : Tables) (k : Known) (l : Timeline) → u ≡ t → Remembers t k l → Remembers u k l
still_remembers t u k l e r = record { agrees = still_agrees t u k (start_from l.now) e r.agrees; history = r.history }

-- ---- what is done over the base held

-- what is served over the base held, and moves along with it, follows
pub moves_follow : (outcome : State → Outcome) (before now : Known) (old new : Seen) (result : Result Reply StopError) → Serves outcome before now old new result
    → Moves outcome before now old new result → Follows (λ t. outcome (start_from t.now)) (moved_by outcome) before now old new result
moves_follow outcome before now old new result s m = record {
  served = λ t r.
      let h = s.served (start_from t.now) r.agrees in
      record { reply = h.reply; next = m t r; commits = h.commits; alone = h.alone };
  ends = s.ends;
}

-- where the base stays, the timeline stays
stays_moved : (outcome : State → Outcome) (t : Timeline) → (state_after (start_from t.now) (outcome (start_from t.now))).base ≡ t.now → moved_by outcome t ≡ t
stays_moved outcome t e = ap (λ (b : Contents). arrived b t) e ∙ staying_arrives t

pub same_moves : (outcome : State → Outcome) (k : Known) (old new : Seen) (result : Result Reply StopError) → new.kept ≡ old.kept
    → ((s : State) → Agrees old.kept k s → (state_after s (outcome s)).base ≡ s.base) → Moves outcome k k old new result
same_moves outcome k old new (Ok q) kept is = λ t r.
    subst (λ (u : Timeline). Remembers new.kept k u) (sym (stays_moved outcome t (is (start_from t.now) r.agrees))) (still_remembers old.kept new.kept k t kept r)
same_moves outcome k old new (Err stop) kept is = λ t r. tt

pub refused_moves : (outcome : State → Outcome) (x : Refusal) (k : Known) (old new : Seen) (result : Result Reply StopError) → new.kept ≡ old.kept
    → ((s : State) → Agrees old.kept k s → outcome s ≡ Refused x) → Moves outcome k k old new result
refused_moves outcome x k old new result kept is = same_moves outcome k old new result kept (λ s a. ap (λ (o : Outcome). (state_after s o).base) (is s a))

pub stop_moves : (outcome : State → Outcome) (before now : Known) (old new : Seen) (stop : StopError) → Moves outcome before now old new (Err stop)
stop_moves outcome before now old new stop = λ t r. tt

-- by what comes of it, where that is known
pub moves_as : (outcome known : State → Outcome) (before now : Known) (old new : Seen) (result : Result Reply StopError)
    → ((s : State) → Agrees old.kept before s → outcome s ≡ known s) → Moves known before now old new result → Moves outcome before now old new result
moves_as outcome known before now old new (Ok q) is m = λ t r.
    subst (λ (o : Outcome). Remembers new.kept now (arrived (state_after (start_from t.now) o).base t)) (sym (is (start_from t.now) r.agrees)) (m t r)
moves_as outcome known before now old new (Err stop) is m = λ t r. tt

-- ---- what follows

-- by what comes of it and where it leads, where these are known
pub follows_as : (outcome known : Timeline → Outcome) (next there : Timeline → Timeline) (before now : Known) (old new : Seen) (result : Result Reply StopError)
    → ((t : Timeline) → Remembers old.kept before t → outcome t ≡ known t) → ((t : Timeline) → Remembers old.kept before t → next t ≡ there t)
    → Follows known there before now old new result → Follows outcome next before now old new result
follows_as outcome known next there before now old new result e f h = record {
  served = λ t r.
      subst (λ (o : Outcome). IsFollowed t o (next t) now old new result) (sym (e t r))
      (subst (λ (u : Timeline). IsFollowed t (known t) u now old new result) (sym (f t r)) (h.served t r));
  ends = h.ends;
}

-- what is refused follows, and leads nowhere
pub refused_follows : (outcome : Timeline → Outcome) (next : Timeline → Timeline) (x : Refusal) (k : Known) (old : Seen) (result : Result Reply StopError)
    → ((t : Timeline) → Remembers old.kept k t → outcome t ≡ Refused x) → ((t : Timeline) → Remembers old.kept k t → next t ≡ t) → IsStill old
    → AnswersAlone k.catalog (Refused x) result → Follows outcome next k k old old result
refused_follows outcome next x k old result is stays still told =
    follows_as outcome (λ t. Refused x) next (moved_by (λ s. Refused x)) k k old old result is
    (λ t r. stays t r ∙ sym (stays_moved (λ s. Refused x) t refl))
    (moves_follow (λ s. Refused x) k k old old result (refused_serves (λ s. Refused x) x k old result (λ s a. refl) still told)
    (refused_moves (λ s. Refused x) x k old old result refl (λ s a. refl)))

-- a session that remembered some timeline still does
pub remembers_after : (outcome : Timeline → Outcome) (next : Timeline → Timeline) (before now : Known) (old new : Seen) (result : Result Reply StopError) → RemembersSome old.kept before
    → Follows outcome next before now old new result → RemembersSome new.kept now
remembers_after outcome next before now old new (Ok q) some h = record { timeline = next some.timeline; remembers = (h.served some.timeline some.remembers).next }
remembers_after outcome next before now old new (Err stop) some h = record {
  timeline = some.timeline;
  remembers = subst (λ (k : Known). Remembers new.kept k some.timeline) (sym h.ends.same)
      (still_remembers old.kept new.kept before some.timeline h.ends.err.kept some.remembers);
}

-- nothing is said, and nothing is done
pub blank_follows : (outcome : Timeline → Outcome) (next : Timeline → Timeline) (k : Known) (old : Seen) (r : Reply) → ((t : Timeline) → outcome t ≡ Blank)
    → ((t : Timeline) → next t ≡ t) → IsStill old → r.text ≡ [] → r.accepted ≡ true → r.answers ≡ 0 → Follows outcome next k k old old (Ok r)
blank_follows outcome next k old r is stays still text accepted answers =
    follows_as outcome (λ t. Blank) next (λ t. t) k k old old (Ok r) (λ t m. is t) (λ t m. stays t) (record {
      served = λ t m. record {
        reply = record { text = text; accepted = accepted; answers = answers };
        next = m;
        commits = λ _. omega arith;
        alone = λ _. as_it_was old;
      };
      ends = ends_well k k old old r still (nothing_falls old);
    })

-- out of memory, with nothing done
pub stop_follows : (outcome : Timeline → Outcome) (next : Timeline → Timeline) (k : Known) (old : Seen) (stop : StopError) → IsStill old → (stop ≡ Fault → ⊥)
    → Follows outcome next k k old old (Err stop)
stop_follows outcome next k old stop still memory = record {
  served = λ t m. record { reply = tt; next = tt; commits = tt; alone = tt };
  ends = record {
    same = refl;
    still = still;
    never_fall = nothing_falls old;
    cause = record { later = omega arith; rose = λ e. absurd (memory (let is : stop ≡ Fault = cc in is)) };
    err = as_it_was old;
  };
}

-- ---- what a piece comes to, by what it says

module _ (t : Timeline) (bytes : List ℕ) where
  blank_is : reading_of bytes ≡ reading.Nothing → outcome_of t (Piece bytes) ≡ Blank
  blank_is e = ap (λ (x : Reading). outcome_by (course_of_reading x) t (Piece bytes)) e ∙ ap (reading_outcome (start_from t.now)) e

  refused_is : (x : Refusal) → reading_of bytes ≡ reading.Refused x → outcome_of t (Piece bytes) ≡ Refused x
  refused_is x e = ap (λ (y : Reading). outcome_by (course_of_reading y) t (Piece bytes)) e ∙ ap (reading_outcome (start_from t.now)) e

  -- where what it comes to leaves the base, and leads onward, the timeline stays
  onward_stays : course_of_reading (reading_of bytes) ≡ Onward → (state_after (start_from t.now) (reading_outcome (start_from t.now) (reading_of bytes))).base ≡ t.now
      → next_state t (Piece bytes) ≡ t
  onward_stays e f = ap (λ x. next_by x t (Piece bytes)) e ∙ ap (λ (b : Contents). arrived b t) f ∙ staying_arrives t

  blank_stays : reading_of bytes ≡ reading.Nothing → next_state t (Piece bytes) ≡ t
  blank_stays e = onward_stays (ap course_of_reading e) (ap (λ (y : Reading). (state_after (start_from t.now) (reading_outcome (start_from t.now) y)).base) e)

  refused_stays : (x : Refusal) → reading_of bytes ≡ reading.Refused x → next_state t (Piece bytes) ≡ t
  refused_stays x e = onward_stays (ap course_of_reading e) (ap (λ (y : Reading). (state_after (start_from t.now) (reading_outcome (start_from t.now) y)).base) e)

  said_is : (c : Command) → reading_of bytes ≡ reading.Says c → outcome_of t (Piece bytes) ≡ said_outcome c t
  said_is c e = ap (λ (x : Reading). outcome_by (course_of_reading x) t (Piece bytes)) e ∙ by (course_of_command c)
    where
      by : (x : Course) → outcome_by x t (Piece bytes) ≡ outcome_on x c t
      by Back = refl
      by Forth = refl
      by Onward = ap (reading_outcome (start_from t.now)) e

  said_leads : (c : Command) → reading_of bytes ≡ reading.Says c → next_state t (Piece bytes) ≡ said_next c t
  said_leads c e = ap (λ (x : Reading). next_by (course_of_reading x) t (Piece bytes)) e ∙ by (course_of_command c)
    where
      by : (x : Course) → next_by x t (Piece bytes) ≡ next_on x c t
      by Back = refl
      by Forth = refl
      by Onward = ap (λ (y : Reading). arrived (state_after (start_from t.now) (reading_outcome (start_from t.now) y)).base t) e

module _ (bytes : List ℕ) (k : Known) (old : Seen) where
  pub blank_piece : (r : Reply) → reading_of bytes ≡ reading.Nothing → IsStill old → r.text ≡ [] → r.accepted ≡ true → r.answers ≡ 0
      → FollowsEvent (Piece bytes) k k old old (Ok r)
  blank_piece r e still text accepted answers =
      blank_follows (λ t. outcome_of t (Piece bytes)) (λ t. next_state t (Piece bytes)) k old r (λ t. blank_is t bytes e) (λ t. blank_stays t bytes e) still text accepted answers

  pub refused_piece : (x : Refusal) (result : Result Reply StopError) → reading_of bytes ≡ reading.Refused x → IsStill old → AnswersAlone k.catalog (Refused x) result
      → FollowsEvent (Piece bytes) k k old old result
  refused_piece x result e still told =
      refused_follows (λ t. outcome_of t (Piece bytes)) (λ t. next_state t (Piece bytes)) x k old result (λ t m. refused_is t bytes x e) (λ t m. refused_stays t bytes x e) still told

pub said_piece : (bytes : List ℕ) (c : Command) (before now : Known) (old new : Seen) (result : Result Reply StopError) → reading_of bytes ≡ reading.Says c
    → Follows (said_outcome c) (said_next c) before now old new result → FollowsEvent (Piece bytes) before now old new result
said_piece bytes c before now old new result e h =
    follows_as (λ t. outcome_of t (Piece bytes)) (said_outcome c) (λ t. next_state t (Piece bytes)) (said_next c) before now old new result
    (λ t m. said_is t bytes c e) (λ t m. said_leads t bytes c e) h

-- an event that is refused as it stands
pub refused_event : (e : ScriptEvent) (x : Refusal) (k : Known) (old : Seen) (result : Result Reply StopError) → ((t : Timeline) → outcome_of t e ≡ Refused x)
    → ((t : Timeline) → next_state t e ≡ t) → IsStill old → AnswersAlone k.catalog (Refused x) result → FollowsEvent e k k old old result
refused_event e x k old result is stays still told = refused_follows (λ t. outcome_of t e) (λ t. next_state t e) x k old result (λ t m. is t) (λ t m. stays t) still told

pub event_as : (e known : ScriptEvent) (before now : Known) (old new : Seen) (result : Result Reply StopError) → e ≡ known → FollowsEvent known before now old new result
    → FollowsEvent e before now old new result
event_as e known before now old new result is h = subst (λ (x : ScriptEvent). FollowsEvent x before now old new result) (sym is) h

-- ---- the parts of what is answered

module _ (c : Catalog) (o : Outcome) where
  pub reply_text : (result : Result Reply StopError) → IfOk result (λ r. IsReply c o r) → IfOk result (λ r. r.text ≡ text_of c o)
  reply_text (Ok r) h = h.text
  reply_text (Err stop) h = tt

  pub reply_accepted : (result : Result Reply StopError) → IfOk result (λ r. IsReply c o r) → IfOk result (λ r. r.accepted ≡ is_accepted o)
  reply_accepted (Ok r) h = h.accepted
  reply_accepted (Err stop) h = tt

  pub reply_answers : (result : Result Reply StopError) → IfOk result (λ r. IsReply c o r) → IfOk result (λ r. r.answers ≡ answer_count o)
  reply_answers (Ok r) h = h.answers
  reply_answers (Err stop) h = tt
