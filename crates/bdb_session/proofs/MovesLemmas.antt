-- What a session remembers of the bases after a step that is closed.
use Rattle.std.proofs.Common.{◌≡◌, ◌∙◌, false, Option, Some, None, Result, Ok, Err, refl, ap, sym, subst, inl, inr}
use Rattle.std.proofs.lemmas.Bool.{cases_Bool, MatchBool-at_true, MatchBool-at_false}
use Rattle.bdb_base.specs.Bases.{Contents}
use Rattle.bdb_keep.specs.Calls.{IsBegin}
use Rattle.bdb_keep.specs.Seen.{Seen, IsStill}
use Rattle.bdb_undo.specs.Histories.{Kept}
use Rattle.bdb_undo.specs.Timelines.{Timeline, KeepsTimeline, arrived}
use Rattle.bdb_undo.specs.declared.change.Change.{Change}
use Rattle.bdb_undo.proofs.TimelineLemmas.{arrives_there, note_arrives, staying_arrives}
use Rattle.bdb_session.specs.declared.news.News.{News}
use Rattle.bdb_session.specs.declared.reply.Reply.{Reply}
use Rattle.bdb_session.specs.declared.error.StopError.{StopError}
use Rattle.bdb_session.specs.declared.error.StopError.TheVariants.{Fault}
use Rattle.bdb_session.specs.Following.{Moves, moved_by}
use Rattle.bdb_session.specs.Known.{Known, Agrees, Remembers}
use Rattle.bdb_session.specs.Outcome.{State, Outcome, start_from, state_after}
use Rattle.bdb_session.specs.Within.{IsKept, IsUndone, LeadsBy, Closes, TellsChange, TellsWithin, learned, noted_by}
use Rattle.bdb_session.proofs.ServedLemmas.{still_agrees}
use Rattle.bdb_session.proofs.WithinLemmas.{refused_stays}

-- the changes kept with the one told stand for where it leads
pub noted_stands : (c : Option Change) (h : Kept) (t : Timeline) (b : Contents) → KeepsTimeline h t → LeadsBy c t.now b → KeepsTimeline (noted_by c h) (arrived b t)
noted_stands None h t b s e = subst (λ (x : Contents). KeepsTimeline h (arrived x t)) (sym e) (subst (KeepsTimeline h) (sym (staying_arrives t)) s)
noted_stands (Some c) h t b s l = note_arrives h t c b s l.0 l.1

-- a session that agrees with tables on the base there, and keeps such changes, remembers the timeline there
remembers_there : (k : Known) (now : Known) (c : Option Change) (old new : Seen) (t : Timeline) (next : State) → Remembers old.kept k t → now.history ≡ noted_by c k.history
    → LeadsBy c t.now next.base → Agrees new.kept now next → Remembers new.kept now (arrived next.base t)
remembers_there k now c old new t next m kept leads agrees = record {
  agrees = subst (λ (x : Contents). Agrees new.kept now (start_from x)) (sym (arrives_there t next.base)) agrees;
  history = subst (λ (h : Kept). KeepsTimeline h (arrived next.base t)) (sym kept) (noted_stands c k.history t next.base m.history leads);
}

-- where nothing was done, a session remembers what it did
pub remembers_still : (outcome : State → Outcome) (k : Known) (old new : Seen) (t : Timeline) → new.kept ≡ old.kept → state_after (start_from t.now) (outcome (start_from t.now)) ≡ start_from t.now
    → Remembers old.kept k t → Remembers new.kept k (moved_by outcome t)
remembers_still outcome k old new t same stays m =
    let there : t ≡ moved_by outcome t = sym (staying_arrives t) ∙ ap (λ (x : State). arrived x.base t) (sym stays) in
    subst (Remembers new.kept k) there (record { agrees = still_agrees old.kept new.kept k (start_from t.now) same m.agrees; history = m.history })

-- A transaction began, in which a step told what comes of it and which change it made.
module _ (outcome : State → Outcome) (before : Known) (news : News) (old run mid new : Seen) (still : IsStill old) (began : IsBegin {T = Unit {0}} {E = StopError} old run (Ok tt) Fault)
    (r : Reply) (told : TellsWithin outcome before (learned before news) run mid (Ok r)) (changes : TellsChange outcome before news.change run (Ok r)) where
  kept_moves : (now : Known) (result : Result Reply StopError) → IsKept (learned before news) r before now mid new result → Moves outcome before now old new result
  kept_moves now (Ok q) k = λ t m.
      let s = start_from t.now in
      let a = still_agrees old.kept run.kept before s began.kept m.agrees in
      let h = told.told s a in
      subst (λ (u : Known). Remembers new.kept u (moved_by outcome t)) (sym k.next)
      (remembers_there before (learned before news) news.change old new t (state_after s (outcome s)) m refl (changes s a)
      (still_agrees mid.kept new.kept (learned before news) (state_after s (outcome s)) k.commit.kept h.next))
  kept_moves now (Err stop) k = λ t m. tt

  undone_moves : r.accepted ≡ false → (now : Known) (result : Result Reply StopError) → IsUndone r before now mid new result → Moves outcome before now old new result
  undone_moves refused now result k =
      subst (λ (x : Result Reply StopError). Moves outcome before now old new x) (sym k.reply)
      (subst (λ (u : Known). Moves outcome before u old new (Ok r)) (sym k.same)
      (λ t m.
      let s = start_from t.now in
      let h = told.told s (still_agrees old.kept run.kept before s began.kept m.agrees) in
      remembers_still outcome before old new t (k.undo.dropped.undone ∙ told.changing.steps.ok.last ∙ began.last ∙ sym still.rest)
      (refused_stays s (outcome s) (sym h.reply.accepted ∙ refused)).0 m))

  pub moves_close : (now : Known) (result : Result Reply StopError) → Closes (learned before news) r before now mid new result → Moves outcome before now old new result
  moves_close now result ended = elim (cases_Bool r.accepted) [
    | inl done ↦
        kept_moves now result (MatchBool-at_true (IsKept (learned before news) r before now mid new result) (IsUndone r before now mid new result) done ended)
    | inr refused ↦
        undone_moves refused now result (MatchBool-at_false (IsKept (learned before news) r before now mid new result) (IsUndone r before now mid new result) refused ended)
  ]
