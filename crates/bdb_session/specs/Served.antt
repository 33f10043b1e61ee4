-- What becomes of a keeper where a session answers.
use Rattle.std.specs.Prelude.{◌≡◌, Result, IfOk, OnOk, OnErr, IsErrOf}
use Rattle.bdb_base.specs.declared.kinds.Catalog.{Catalog}
use Rattle.bdb_base.specs.Causes.{HasCause, Rises}
use Rattle.bdb_keep.specs.Seen.{Seen, IsStill, NeverFall, Unchanged}
use Rattle.bdb_session.specs.declared.reply.Reply.{Reply}
use Rattle.bdb_session.specs.declared.error.StopError.{StopError}
use Rattle.bdb_session.specs.declared.error.StopError.TheVariants.{Fault}
use Rattle.bdb_session.specs.Known.{Known, Agrees}
use Rattle.bdb_session.specs.Outcome.{State, Outcome, text_of, is_accepted, answer_count, state_after, commit_count}

-- what is answered where this comes of an event, and the catalog is this
pub record IsReply (c : Catalog) (outcome : Outcome) (r : Reply) : Type 0 where
  pub text : r.text ≡ text_of c outcome
  pub accepted : r.accepted ≡ is_accepted outcome
  pub answers : r.answers ≡ answer_count outcome

-- a reply without the keeper: the only error is running out of memory
pub record AnswersAlone (c : Catalog) (outcome : Outcome) (result : Result Reply StopError) : Type 0 where
  pub reply : IfOk result (λ r. IsReply c outcome r)
  pub memory : IsErrOf result Fault → ⊥

-- How a session ends that served something, whatever it was. No transaction runs, and after an Err all is as it was.
pub record Ends {R : Type 0} (before now : Known) (old new : Seen) (result : Result R StopError) : Type 0 where
  pub same : OnErr result (now ≡ before)
  pub still : IsStill new
  pub never_fall : NeverFall old new
  pub cause : HasCause old.faults new.faults result Fault
  pub err : OnErr result (Unchanged old new)

-- How a session serves what this comes of an event in a state. After an Ok it has answered so, it agrees with the tables on
-- the state after, and what was done is committed once; where nothing was done, the rows and commits are as they were.
pub record IsServed (s : State) (outcome : Outcome) (now : Known) (old new : Seen) (result : Result Reply StopError) : Type 0 where
  pub reply : IfOk result (λ r. IsReply s.base.catalog outcome r)
  pub next : OnOk result (Agrees new.kept now (state_after s outcome))
  pub commits : OnOk result (Rises (commit_count outcome) old.commits new.commits)
  pub alone : OnOk result (commit_count outcome ≡ 0 → Unchanged old new)

-- How a session serves what comes of an event, whichever state it agrees on with the tables.
pub record Serves (outcome : State → Outcome) (before now : Known) (old new : Seen) (result : Result Reply StopError) : Type 0 where
  pub served : (s : State) → Agrees old.kept before s → IsServed s (outcome s) now old new result
  pub ends : Ends before now old new result
