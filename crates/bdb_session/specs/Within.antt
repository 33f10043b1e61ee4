-- What a session does within a transaction: what it tells of a step there, and how the transaction ends.
use Rattle.std.specs.Prelude.{◌≡◌, true, Option, None, Some, Result, Ok, Err, IfOk, OnOk, OnErr, IsErrOf, MatchBool}
use Rattle.bdb_base.specs.Bases.{Contents}
use Rattle.bdb_base.specs.declared.kinds.Catalog.{Catalog}
use Rattle.bdb_canon.specs.declared.sizes.Counts.{Counts}
use Rattle.bdb_keep.specs.Calls.{IsCommit, IsUndo}
use Rattle.bdb_keep.specs.Seen.{Seen}
use Rattle.bdb_render.specs.declared.refusal.Refusal.TheVariants as refusal
use Rattle.bdb_undo.specs.Changes.{Leads, alters}
use Rattle.bdb_undo.specs.Histories.{Kept, noted}
use Rattle.bdb_undo.specs.declared.change.Change.{Change}
use Rattle.bdb_update.specs.declared.answer.UpdateError.{UpdateError}
use Rattle.bdb_update.specs.declared.answer.UpdateError.TheVariants as change
use Rattle.bdb_val.specs.Steps.{IsChanging}
use Rattle.bdb_session.specs.declared.news.Names.{Names}
use Rattle.bdb_session.specs.declared.news.News.{News}
use Rattle.bdb_session.specs.declared.reply.Reply.{Reply}
use Rattle.bdb_session.specs.declared.error.StopError.{StopError}
use Rattle.bdb_session.specs.declared.error.StopError.TheVariants.{Fault, Memory}
use Rattle.bdb_session.specs.Known.{Known, Agrees}
use Rattle.bdb_session.specs.Machine.{clash_with}
use Rattle.bdb_session.specs.Outcome.{State, Outcome, Refused, state_after}
use Rattle.bdb_session.specs.Served.{IsReply}

-- what a session knows where the base has these sizes
abbrev pub sized : Known → Counts → Known
sized k counts = record k { counts = counts }

-- the catalog of these names, where there are some, or else another
abbrev pub catalog_by : Catalog → Option Names → Catalog
catalog_by c None = c
catalog_by c (Some names) = names.catalog

-- the changes kept with this one noted, where there is one
abbrev pub noted_by : Option Change → Kept → Kept
noted_by None h = h
noted_by (Some c) h = noted c h

-- what a session knows that learns this
abbrev pub learned : Known → News → Known
learned k news = record { catalog = catalog_by k.catalog news.names; counts = news.counts; history = noted_by news.change k.history }

-- nothing is learned
abbrev pub nothing_new : Known → News
nothing_new k = record { counts = k.counts; names = None; change = None }

-- ---- a step

-- What is told of a step that comes to this in a state. After an Ok the session has answered so, and agrees with the tables on the
-- state after.
pub record IsToldWithin (s : State) (outcome : Outcome) (now : Known) (old new : Seen) (result : Result Reply StopError) : Type 0 where
  pub reply : IfOk result (λ r. IsReply s.base.catalog outcome r)
  pub next : OnOk result (Agrees new.kept now (state_after s outcome))

-- What is told of a step, whichever state the session agrees on with the tables. After an Ok the transaction still runs, after an
-- Err none does.
pub record TellsWithin (outcome : State → Outcome) (before now : Known) (old new : Seen) (result : Result Reply StopError) : Type 0 where
  pub told : (s : State) → Agrees old.kept before s → IsToldWithin s (outcome s) now old new result
  pub changing : IsChanging old new result Fault

-- a change leads from one base to another, and alters it; where there is none, the base stays
abbrev pub LeadsBy : Option Change → Contents → Contents → Type 0
LeadsBy None a b = b ≡ a
LeadsBy (Some c) a b = Leads c a b × (alters c ≡ true)

-- What is told of how a step changes the base, whichever state the session agrees on with the tables: after an Ok the change leads
-- from its base to that of the state after, and where none is told, as of what is refused, the base stays.
abbrev pub TellsChange : (State → Outcome) → Known → Option Change → Seen → Result Reply StopError → Type 0
TellsChange outcome k c old result = (s : State) → Agrees old.kept k s → OnOk result (LeadsBy c s.base (state_after s (outcome s)).base)

-- ---- a reply

-- A reply to what came to this is made, and nothing else is done. Where there is no memory for it, the transaction is undone.
pub record IsSaid (c : Catalog) (outcome : Outcome) (old new : Seen) (result : Result Reply StopError) : Type 0 where
  pub reply : IfOk result (λ r. IsReply c outcome r)
  pub alone : OnOk result (new ≡ old)
  pub memory : IsErrOf result Fault → ⊥
  pub undone : OnErr result (IsUndo old new)

-- this error is answered, and nothing is done
pub record IsStopped (stop : StopError) (old new : Seen) (result : Result Reply StopError) : Type 0 where
  pub error : result ≡ Err stop
  pub alone : new ≡ old

-- what is answered where a change is refused, or stopped
abbrev pub Refuses : Catalog → UpdateError → Seen → Seen → Result Reply StopError → Type 0
Refuses c (change.Clash least) old new result = IsSaid c (Refused (clash_with least)) old new result
Refuses c (change.Full what) old new result = IsSaid c (Refused (refusal.Full what)) old new result
Refuses c change.Fault old new result = IsStopped Fault old new result
Refuses c change.Memory old new result = IsStopped Memory old new result

-- ---- the end

-- a step that was done is committed, and the session knows what it learned
pub record IsKept {R : Type 0} (learns : Known) (told : R) (before now : Known) (old new : Seen) (result : Result R StopError) : Type 0 where
  pub reply : IfOk result (λ r. r ≡ told)
  pub next : OnOk result (now ≡ learns)
  pub same : OnErr result (now ≡ before)
  pub commit : IsCommit old new result Fault

-- a step that was refused is undone
pub record IsUndone {R : Type 0} (told : R) (before now : Known) (old new : Seen) (result : Result R StopError) : Type 0 where
  pub reply : result ≡ Ok told
  pub same : now ≡ before
  pub undo : IsUndo old new

-- how a transaction ends in which a step was told of
abbrev pub Closes : Known → Reply → Known → Known → Seen → Seen → Result Reply StopError → Type 0
Closes learns told before now old new result = MatchBool told.accepted (IsKept learns told before now old new result) (IsUndone told before now old new result)
