-- What status 1 of a run tells of its replies.
use Rattle.std.proofs.Common.{◌≡◌, ◌≢◌, ◌∙◌, ℕ, ◌≤◌, true, false, not, List, Option, None, Some, IfSome, inl, inr, ap, arith, subst, sym}
use Rattle.std.specs.Io.KnownBytes.{Appends}
use Rattle.std.proofs.lemmas.Bool.{cases_eq, false≢true}
use Rattle.bdb_base.specs.Bases.{Contents}
use Rattle.bdb_catalog.specs.Opening.{StandFor}
use Rattle.bdb_crowd.specs.Asked.{Asked, asked_of, replies, start_at}
use Rattle.bdb_crowd.proofs.TellLemmas.{streams_tell_errors}
use Rattle.bdb_keep.specs.Seen.{Seen}
use Rattle.bdb_keep.specs.Tables.{Tables}
use Rattle.bdb_session.specs.ErrorLaws.{HasValidBase}
use Rattle.bdb_session.specs.Outcome.{State, start_from}
use Rattle.bdb_session.specs.Runs.{events_of}
use Rattle.bdb_session.specs.UndoErrors.{HasValidBases}
use Rattle.bdb_session.specs.UndoRuns.{replies as replies_to}
use Rattle.bdb_session.specs.declared.event.ScriptEvent.{ScriptEvent}
use Rattle.bdb_session.proofs.OpenLemmas.{empty_is_valid}
use Rattle.bdb_session.proofs.UndoErrorLemmas.{undo_runs_tell_errors}
use Rattle.bdb_top.specs.Ran.{EachBase, Ran}
use Rattle.bdb_top.specs.RanMany.{RanMany}
use Rattle.bdb_top.specs.TellsErrors.{EndsInErrors, EndsInRefusals, StatusTellsErrors, StatusTellsRefusals}
use Rattle.bdb_undo.specs.Timelines.{Timeline, started}

-- a base for which tables stand is valid
stands_valid : (t : Tables) (b : Contents) → StandFor t b → HasValidBase (start_from b)
stands_valid t b (inl h) = h.valid
stands_valid t b (inr (inl h)) = let P : Contents → Type 0 = λ c. HasValidBase (start_from c) in subst P (sym h.1) empty_is_valid
stands_valid t b (inr (inr h)) = h.stored.valid

module _ (s : State) (v : HasValidBase s) (text : List ℕ) (left : Option (List ℕ)) (first now : Seen) (old new : Option (List ℕ)) (status : ℕ)
    (h : RanMany s text left first now old new status) where
  all_written : status ≤ 1 → Appends old new (replies (start_at s) (asked_of text))
  all_written e =
      let P : List Asked → Type 0 = λ done. Appends old new (replies (start_at s) done) in
      let other : status ≢ 4 = omega arith in
      subst P (h.all e) (h.written other)

  ends : status ≡ 1 → EndsInErrors s text old new status
  ends e =
      let last : status ≤ 1 = omega arith in
      record { ended = last; written = all_written last; errors = streams_tell_errors (start_at s) (asked_of text) v ∙ ap not (h.refused e) }

  comes : EndsInErrors s text old new status → status ≡ 1
  comes k = elim (cases_eq status 1) [
    | inl e ↦ e
    | inr other ↦
        let last : status ≤ 1 = k.ended in
        let none : status ≡ 0 = omega (arith, other) in
        absurd (false≢true (sym (streams_tell_errors (start_at s) (asked_of text) v ∙ ap not (h.fine none)) ∙ k.errors))
  ]

-- for each base and stream
pub each_tells_errors : (before left : Option (List ℕ)) (first now : Seen) (old new : Option (List ℕ)) (status : ℕ)
    → IfSome before (λ text. EachBase first.kept (λ b. RanMany (start_from b) text left first now old new status))
    → IfSome before (λ text. EachBase first.kept (λ b. StatusTellsErrors (start_from b) text old new status))
each_tells_errors None left first now old new status h = tt
each_tells_errors (Some text) left first now old new status h = λ b stands.
    let s = start_from b in
    let v = stands_valid first.kept b stands in
    (ends s v text left first now old new status (h b stands), comes s v text left first now old new status (h b stands))

-- ---- scripts

module _ (s : Timeline) (v : HasValidBases s) (text : List ℕ) (left : Option (List ℕ)) (first now : Seen) (old new : Option (List ℕ)) (status : ℕ)
    (h : Ran s text left first now old new status) where
  all_replied : status ≤ 1 → Appends old new (replies_to s (events_of text))
  all_replied e =
      let P : List ScriptEvent → Type 0 = λ done. Appends old new (replies_to s done) in
      let other : status ≢ 4 = omega arith in
      subst P (h.all e) (h.written other)

  ends_refused : status ≡ 1 → EndsInRefusals s text old new status
  ends_refused e =
      let last : status ≤ 1 = omega arith in
      record { ended = last; written = all_replied last; errors = undo_runs_tell_errors s (events_of text) v ∙ ap not (h.refused e) }

  comes_refused : EndsInRefusals s text old new status → status ≡ 1
  comes_refused k = elim (cases_eq status 1) [
    | inl e ↦ e
    | inr other ↦
        let last : status ≤ 1 = k.ended in
        let none : status ≡ 0 = omega (arith, other) in
        absurd (false≢true (sym (undo_runs_tell_errors s (events_of text) v ∙ ap not (h.fine none)) ∙ k.errors))
  ]

started_valid : (t : Tables) (b : Contents) → StandFor t b → HasValidBases (started b)
started_valid t b h = record { before = tt; now = stands_valid t b h; ahead = tt }

-- for each base and script
pub each_tells_refusals : (before left : Option (List ℕ)) (first now : Seen) (old new : Option (List ℕ)) (status : ℕ)
    → IfSome before (λ text. EachBase first.kept (λ b. Ran (started b) text left first now old new status))
    → IfSome before (λ text. EachBase first.kept (λ b. StatusTellsRefusals (started b) text old new status))
each_tells_refusals None left first now old new status h = tt
each_tells_refusals (Some text) left first now old new status h = λ b stands.
    let s = started b in
    let v = started_valid first.kept b stands in
    (ends_refused s v text left first now old new status (h b stands), comes_refused s v text left first now old new status (h b stands))
