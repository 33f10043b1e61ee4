-- How a session answers what is refused, and what is done.
use Rattle.std.proofs.Common.{◌≡◌, ◌∙◌, Result, Ok, Err, refl, sym, ap, subst, arith}
use Rattle.bdb_base.specs.Causes.{HasCause}
use Rattle.bdb_keep.specs.Seen.{Seen, IsStill, NeverFall, Unchanged}
use Rattle.bdb_keep.specs.Tables.{Tables}
use Rattle.bdb_render.specs.declared.refusal.Refusal.{Refusal}
use Rattle.bdb_session.specs.declared.reply.Reply.{Reply}
use Rattle.bdb_session.specs.declared.error.StopError.{StopError}
use Rattle.bdb_session.specs.declared.error.StopError.TheVariants.{Fault}
use Rattle.bdb_session.specs.Known.{Known, Agrees, AgreesOnSome}
use Rattle.bdb_session.specs.Outcome.{State, Outcome, Refused, text_of, state_after}
use Rattle.bdb_session.specs.Served.{Ends, AnswersAlone, IsServed, Serves}

pub nothing_falls : (old : Seen) → NeverFall old old
nothing_falls old = record { faults = omega arith; reads = omega arith; writes = omega arith; commits = omega arith }

abbrev pub as_it_was : (old : Seen) → Unchanged old old
as_it_was old = record { kept = refl; last = refl; commits = refl }

-- where no row changes, a session that agreed with the tables still does
pub still_agrees : (t u : Tables) (k : Known) (s : State) → u ≡ t → Agrees t k s → Agrees u k s
still_agrees t u k s e h = subst (λ (x : Tables). Agrees x k s) (sym e) h

-- by what this comes of, where that is known
pub served_as : (s : State) (outcome known : Outcome) (now : Known) (old new : Seen) (result : Result Reply StopError) → outcome ≡ known
    → IsServed s known now old new result → IsServed s outcome now old new result
served_as s outcome known now old new result e h = subst (λ (o : Outcome). IsServed s o now old new result) (sym e) h

pub serves_as : (outcome known : State → Outcome) (before now : Known) (old new : Seen) (result : Result Reply StopError)
    → ((s : State) → Agrees old.kept before s → outcome s ≡ known s) → Serves known before now old new result → Serves outcome before now old new result
serves_as outcome known before now old new result is h = record {
  served = λ s a. served_as s (outcome s) (known s) now old new result (is s a) (h.served s a);
  ends = h.ends;
}

-- a call that answers ends well where nothing has fallen
pub ends_well : {R : Type 0} (before now : Known) (old new : Seen) (x : R) → IsStill new → NeverFall old new → Ends before now old new (Ok x)
ends_well before now old new x still fall = record {
  same = tt;
  still = still;
  never_fall = fall;
  cause = record { later = fall.faults; rose = λ e. absurd cc };
  err = tt;
}

-- what is refused leaves all as it was
refused_served : (s : State) (x : Refusal) (k : Known) (old new : Seen) (result : Result Reply StopError) → Agrees old.kept k s → Unchanged old new → NeverFall old new
    → AnswersAlone k.catalog (Refused x) result → IsServed s (Refused x) k old new result
refused_served s x k old new (Ok r) a same fall told = record {
  reply = record { text = told.reply.text ∙ ap (λ c. text_of c (Refused x)) a.catalog; accepted = told.reply.accepted; answers = told.reply.answers };
  next = still_agrees old.kept new.kept k s same.kept a;
  commits = λ _. let e = same.commits in omega arith;
  alone = λ _. same;
}
refused_served s x k old new (Err stop) a same fall told = record { reply = tt; next = tt; commits = tt; alone = tt }

refused_ends : (x : Refusal) (k : Known) (old new : Seen) (result : Result Reply StopError) → IsStill new → Unchanged old new → NeverFall old new
    → AnswersAlone k.catalog (Refused x) result → Ends k k old new result
refused_ends x k old new (Ok r) still same fall told = ends_well k k old new r still fall
refused_ends x k old new (Err stop) still same fall told = record {
  same = refl;
  still = still;
  never_fall = fall;
  cause = record { later = fall.faults; rose = λ e. absurd (told.memory e) };
  err = same;
}

pub refusal_serves : (outcome : State → Outcome) (x : Refusal) (k : Known) (old new : Seen) (result : Result Reply StopError)
    → ((s : State) → Agrees old.kept k s → outcome s ≡ Refused x) → IsStill new → Unchanged old new → NeverFall old new → AnswersAlone k.catalog (Refused x) result
    → Serves outcome k k old new result
refusal_serves outcome x k old new result is still same fall told = record {
  served = λ s a. served_as s (outcome s) (Refused x) k old new result (is s a) (refused_served s x k old new result a same fall told);
  ends = refused_ends x k old new result still same fall told;
}

-- where nothing was done at all
pub refused_serves : (outcome : State → Outcome) (x : Refusal) (k : Known) (old : Seen) (result : Result Reply StopError)
    → ((s : State) → Agrees old.kept k s → outcome s ≡ Refused x) → IsStill old → AnswersAlone k.catalog (Refused x) result → Serves outcome k k old old result
refused_serves outcome x k old result is still told = refusal_serves outcome x k old old result is still (as_it_was old) (nothing_falls old) told

-- an Err that leaves all as it was
pub stop_serves : (outcome : State → Outcome) (k : Known) (old new : Seen) (stop : StopError) → IsStill new → Unchanged old new → NeverFall old new
    → HasCause {T = Reply} {E = StopError} old.faults new.faults (Err stop) Fault → Serves outcome k k old new (Err stop)
stop_serves outcome k old new stop still same fall cause = record {
  served = λ s a. record { reply = tt; next = tt; commits = tt; alone = tt };
  ends = record { same = refl; still = still; never_fall = fall; cause = cause; err = same };
}

-- a session that agreed with the tables on some state still does
pub agrees_after : (outcome : State → Outcome) (before now : Known) (old new : Seen) (result : Result Reply StopError) → AgreesOnSome old.kept before
    → Serves outcome before now old new result → AgreesOnSome new.kept now
agrees_after outcome before now old new (Ok r) some h = record { state = state_after some.state (outcome some.state); agrees = (h.served some.state some.agrees).next }
agrees_after outcome before now old new (Err stop) some h = record {
  state = some.state;
  agrees = subst (λ (k : Known). Agrees new.kept k some.state) (sym h.ends.same) (still_agrees old.kept new.kept before some.state h.ends.err.kept some.agrees);
}
