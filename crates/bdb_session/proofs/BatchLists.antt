-- What a batch leaves of the bases to which undo and redo lead.
use Rattle.std.proofs.Common.{◌≡◌, ◌∙◌, ℕ, suc, arith, take, Bool, true, false, not, ◌&&◌, ◌||◌, nat_lt, List, [], ◌∷◌, length, Option, None, Some, Result, Ok, Err, OnOk, refl, sym, ap, subst, inl, inr}
use Rattle.std.proofs.lemmas.Bool.Decides.{nat_tests}
use Rattle.std.proofs.lemmas.Bool.{and_parts, cases_Bool, cond-true, cond-false, false≢true, MatchBool-at_true, MatchBool-at_false, or_parts, or_right, and_from, and_left}
use Rattle.bdb_base.specs.Bases.{Contents}
use Rattle.bdb_base.specs.declared.kinds.Catalog.{Catalog}
use Rattle.bdb_base.proofs.ListLemmas.{or_false}
use Rattle.bdb_base.proofs.BoolLemmas.{or_assoc}
use Rattle.bdb_canon.specs.declared.sizes.Counts.{Counts}
use Rattle.bdb_keep.specs.Calls.{IsBegin}
use Rattle.bdb_keep.specs.Seen.{GoesOn, Seen, IsStill}
use Rattle.bdb_keep.specs.Tables.{Tables}
use Rattle.bdb_undo.specs.Changes.{Leads, alters}
use Rattle.bdb_undo.specs.Histories.{Kept, noted}
use Rattle.bdb_undo.specs.Same.{same_contents}
use Rattle.bdb_undo.specs.Timelines.{Timeline, KeepsTimeline, started}
use Rattle.bdb_undo.specs.declared.change.Change.{Change}
use Rattle.bdb_undo.proofs.ChangeLemmas.{same_base_alters_nothing}
use Rattle.bdb_undo.proofs.SameLemmas.{same_contents_are_one, contents_are_their_own}
use Rattle.bdb_undo.proofs.TimelineLemmas.{nothing_kept_starts}
use Rattle.bdb_session.specs.Batches.{Alters, AlterSome, AreRun, ServesBatch, ClosesBatch, alters_some, batch_timeline, is_altered, left_by, pieces, taken_over, without_changes}
use Rattle.bdb_session.specs.Known.{Known, Agrees, AgreesOnSome, Remembers, RemembersSome}
use Rattle.bdb_session.specs.Machine.{accepts, next_state}
use Rattle.bdb_session.specs.Outcome.{State, Outcome, start_from, state_after}
use Rattle.bdb_session.specs.Runs.{accepts_all, after}
use Rattle.bdb_session.specs.Within.{IsKept, IsUndone, LeadsBy, catalog_by, learned, noted_by}
use Rattle.bdb_session.specs.declared.batch.BatchReply.{BatchReply}
use Rattle.bdb_session.specs.declared.news.News.{News}
use Rattle.bdb_session.specs.declared.event.ScriptEvent.{ScriptEvent}
use Rattle.bdb_session.specs.declared.event.ScriptEvent.TheVariants.{Piece}
use Rattle.bdb_session.specs.declared.error.StopError.{StopError}
use Rattle.bdb_session.specs.declared.error.StopError.TheVariants.{Fault}
use Rattle.bdb_session.proofs.FollowLemmas.{agrees_as, agrees_on, still_remembers}
use Rattle.bdb_session.proofs.ServedLemmas.{still_agrees}

-- a copy without changes agrees where the session does
pub copy_agrees : (t : Tables) (k : Known) (s : State) → Agrees t k s → Agrees t (without_changes k) s
copy_agrees t k s a = agrees_as t k (without_changes k) s refl refl a

pub copy_some_agrees : (t : Tables) (k : Known) → RemembersSome t k → AgreesOnSome t (without_changes k)
copy_some_agrees t k r = record { state = start_from r.timeline.now; agrees = copy_agrees t k (start_from r.timeline.now) r.remembers.agrees }

-- and so does the session that takes over what a copy knows
pub taken_run : (s : State) (es : List ScriptEvent) (before told : List ℕ) (n : ℕ) (refused : Bool) (k copy : Known) (new : Seen) → AreRun s es before told n refused copy new
    → AreRun s es before told n refused (taken_over k copy) new
taken_run s es before told n refused k copy new h = record {
  text = h.text;
  accepted_is = h.accepted_is;
  refused_is = h.refused_is;
  next = λ all. agrees_as new.kept copy (taken_over k copy) (after s es) refl refl (h.next all);
}

-- ---- which base is altered

not_false : (b : Bool) → not b ≡ false → b ≡ true
not_false true e = refl
not_false false e = absurd (false≢true (sym e))

-- where no event alters the base, it stays
pub unaltered_stays : (s : State) (es : List ScriptEvent) → alters_some s es ≡ false → (after s es).base ≡ s.base
unaltered_stays s [] e = refl
unaltered_stays s (x ∷ es) e =
    let next = next_state s x in
    let p = or_parts (not (same_contents s.base next.base)) (alters_some next es) e in
    unaltered_stays next es p.1 ∙ sym (same_contents_are_one s.base next.base (not_false (same_contents s.base next.base) p.0))

-- ---- how lines alter it

-- the same base is no other one
pub same_alters : (a b : Contents) → b ≡ a → not (same_contents a b) ≡ false
same_alters a b e = ap (λ (c : Contents). not (same_contents a c)) e ∙ ap not (contents_are_their_own a)

-- where nothing is learned, nothing is altered
pub nothing_alters : {T : Type 0} (outcome : State → Outcome) (k : Known) (old : Seen) (result : Result T StopError)
    → ((s : State) → Agrees old.kept k s → (state_after s (outcome s)).base ≡ s.base) → Alters outcome k k old result
nothing_alters outcome k old (Ok x) stays = λ s a.
    sym (ap (λ (b : Bool). is_altered k || b) (same_alters s.base (state_after s (outcome s)).base (stays s a)) ∙ or_false (is_altered k))
nothing_alters outcome k old (Err stop) stays = λ s a. tt

pub alters_where : {T : Type 0} (outcome known : State → Outcome) (was now : Known) (old : Seen) (result : Result T StopError)
    → ((s : State) → Agrees old.kept was s → outcome s ≡ known s) → Alters {T = T} known was now old result → Alters {T = T} outcome was now old result
alters_where outcome known was now old (Ok x) is h = λ s a.
    h s a ∙ ap (λ (o : Outcome). is_altered was || not (same_contents s.base (state_after s o).base)) (sym (is s a))
alters_where outcome known was now old (Err stop) is h = λ s a. tt

-- whether the lines altered the base is whether the session made a change
abbrev LinesAlter : List (List ℕ) → Known → Known → Seen → Type 0
LinesAlter lines was now old = (s : State) → Agrees old.kept was s → accepts_all s (pieces lines) ≡ true → is_altered now ≡ (is_altered was || alters_some s (pieces lines))

pub no_lines_alter : (lines : List (List ℕ)) (k : Known) (old : Seen) → lines ≡ [] → LinesAlter lines k k old
no_lines_alter lines k old e = subst (λ (ls : List (List ℕ)). LinesAlter ls k k old) (sym e) (λ s a all. sym (or_false (is_altered k)))

-- a line, and then the others
pub lines_alter : (lines rest : List (List ℕ)) (line : List ℕ) (was between now : Known) (old run : Seen) → lines ≡ line ∷ rest
    → ((s : State) → Agrees old.kept was s → Agrees run.kept between (next_state s (Piece line)))
    → ((s : State) → Agrees old.kept was s → is_altered between ≡ (is_altered was || not (same_contents s.base (next_state s (Piece line)).base)))
    → LinesAlter rest between now run → LinesAlter lines was now old
lines_alter lines rest line was between now old run e next one others =
    subst (λ (ls : List (List ℕ)). LinesAlter ls was now old) (sym e) (λ s a all.
    let then = next_state s (Piece line) in
    let p = and_parts (accepts s (Piece line)) (accepts_all then (pieces rest)) all in
    others then (next s a) p.1 ∙ ap (λ b. b || alters_some then (pieces rest)) (one s a)
    ∙ or_assoc (is_altered was) (not (same_contents s.base then.base)) (alters_some then (pieces rest)))

-- a line that is refused
pub stop_alters : (lines rest : List (List ℕ)) (line : List ℕ) (accepted : Bool) (was now : Known) (old : Seen) → lines ≡ line ∷ rest → accepted ≡ false
    → ((s : State) → Agrees old.kept was s → accepted ≡ accepts s (Piece line)) → LinesAlter lines was now old
stop_alters lines rest line accepted was now old e no_more told =
    subst (λ (ls : List (List ℕ)). LinesAlter ls was now old) (sym e) (λ s a all.
    let p = and_parts (accepts s (Piece line)) (accepts_all (next_state s (Piece line)) (pieces rest)) all in
    absurd (false≢true (sym no_more ∙ told s a ∙ p.0)))

-- ---- what is learned of a step

-- a history with a change noted has some
positive : (n : ℕ) → nat_lt 0 (suc n) ≡ true
positive n = grind (arith, nat_tests)

noted_some : (c : Change) (h : Kept) → nat_lt 0 (length (noted c h).undos) ≡ true
noted_some c h = positive (length (take 63 h.undos))

-- bases between which a change leads that alters something are no same ones
altered_bases : (c : Change) (a b : Contents) → Leads c a b → alters c ≡ true → not (same_contents a b) ≡ true
altered_bases c a b h e = elim (cases_Bool (same_contents a b)) [
  | inl same ↦
      let one = same_contents_are_one a b same in
      absurd (false≢true (sym (same_base_alters_nothing c a (subst (λ (x : Contents). Leads c a x) (sym one) h)) ∙ e))
  | inr other ↦ ap not other
]

learned_by : (change : Option Change) (k : Known) (catalog : Catalog) (counts : Counts) (a b : Contents) → LeadsBy change a b
    → is_altered (record { catalog = catalog; counts = counts; history = noted_by change k.history }) ≡ (is_altered k || not (same_contents a b))
learned_by None k catalog counts a b h = sym (ap (λ (x : Bool). is_altered k || x) (same_alters a b h) ∙ or_false (is_altered k))
learned_by (Some c) k catalog counts a b h = noted_some c k.history ∙ sym (or_right (is_altered k) (not (same_contents a b)) (altered_bases c a b h.0 h.1))

-- what a session learned altered the base exactly where it is another one
pub learned_alters : (k : Known) (news : News) (a b : Contents) → LeadsBy news.change a b → is_altered (learned k news) ≡ (is_altered k || not (same_contents a b))
learned_alters k news a b h = learned_by news.change k (catalog_by k.catalog news.names) news.counts a b h

-- ---- how the transaction of a batch ends

pub negated : (b c : Bool) → b ≡ not c → b ≡ false → c ≡ true
negated b true e f = refl
negated b false e f = absurd (false≢true (sym f ∙ e))

pub negated_false : (b c : Bool) → b ≡ not c → b ≡ true → c ≡ false
negated_false b true e f = absurd (false≢true (sym e ∙ f))
negated_false b false e f = refl

second_false : (a b : Bool) → a ≡ true → b ≡ false → (a && b) ≡ false
second_false a b e f = ap (λ (x : Bool). x && b) e ∙ f

-- what is left of the timeline where no event is refused, by whether the base was altered
module _ (t : Timeline) (es : List ScriptEvent) (all : accepts_all (start_from t.now) es ≡ true) where
  abbrev last : State
  last = after (start_from t.now) es

  altered_timeline : alters_some (start_from t.now) es ≡ true → batch_timeline t es ≡ started last.base
  altered_timeline e = cond-true (accepts_all (start_from t.now) es && alters_some (start_from t.now) es) (started last.base) t
      (and_from (accepts_all (start_from t.now) es) (alters_some (start_from t.now) es) all e)

  same_timeline : alters_some (start_from t.now) es ≡ false → batch_timeline t es ≡ t
  same_timeline e = cond-false (accepts_all (start_from t.now) es && alters_some (start_from t.now) es) (started last.base) t
      (second_false (accepts_all (start_from t.now) es) (alters_some (start_from t.now) es) all e)

  left_remembers : (u : Tables) (k copy : Known) → Agrees u (taken_over k copy) last → KeepsTimeline k.history t
      → is_altered copy ≡ alters_some (start_from t.now) es → Remembers u (taken_over k copy) (batch_timeline t es)
  left_remembers u k copy a h is = elim (cases_Bool (alters_some (start_from t.now) es)) [
    | inl e ↦ subst (λ (x : Timeline). Remembers u (taken_over k copy) x) (sym (altered_timeline e)) (record {
      agrees = agrees_on u (taken_over k copy) last last.base refl a;
      history = subst (λ (x : Kept). KeepsTimeline x (started last.base)) (sym (ap (λ b. left_by b k.history) (is ∙ e))) (nothing_kept_starts last.base);
    })
    | inr e ↦ subst (λ (x : Timeline). Remembers u (taken_over k copy) x) (sym (same_timeline e)) (record {
      agrees = agrees_on u (taken_over k copy) last t.now (unaltered_stays (start_from t.now) es e) a;
      history = subst (λ (x : Kept). KeepsTimeline x t) (sym (ap (λ b. left_by b k.history) (is ∙ e))) h;
    })
  ]

-- what is left of it by how the batch ended
module _ (es : List ScriptEvent) (before copy : Known) (old run mid new : Seen) (began : IsBegin {T = Unit {0}} {E = StopError} old run (Ok tt) Fault) (told : BatchReply)
    (ran : (s : State) → Agrees run.kept before s → AreRun s es [] told.text told.accepted told.refused (taken_over before copy) mid)
    (altered : (s : State) → Agrees run.kept before s → accepts_all s es ≡ true → is_altered copy ≡ alters_some s es)
    (undone : told.refused ≡ true → new.kept ≡ old.kept) where
  begun : (s : State) → Agrees old.kept before s → Agrees run.kept before s
  begun s a = still_agrees old.kept run.kept before s began.kept a

  kept_lists : (now : Known) (result : Result BatchReply StopError) → told.refused ≡ false → IsKept (taken_over before copy) told before now mid new result
      → (t : Timeline) → Remembers old.kept before t → OnOk result (Remembers new.kept now (batch_timeline t es))
  kept_lists now (Ok q) done k = λ t r.
      let s = start_from t.now in
      let h = ran s (begun s r.agrees) in
      let all = negated told.refused (accepts_all s es) h.refused_is done in
      subst (λ (j : Known). Remembers new.kept j (batch_timeline t es)) (sym k.next)
      (left_remembers t es all new.kept before copy (still_agrees mid.kept new.kept (taken_over before copy) (after s es) k.commit.kept (h.next all)) r.history
      (altered s (begun s r.agrees) all))
  kept_lists now (Err stop) done k = λ t r. tt

  undone_lists : (now : Known) (result : Result BatchReply StopError) → told.refused ≡ true → IsUndone told before now mid new result
      → (t : Timeline) → Remembers old.kept before t → OnOk result (Remembers new.kept now (batch_timeline t es))
  undone_lists now (Ok q) refused k = λ t r.
      let s = start_from t.now in
      let h = ran s (begun s r.agrees) in
      let some = negated_false told.refused (accepts_all s es) h.refused_is refused in
      subst (λ (x : Timeline). Remembers new.kept now x)
      (sym (cond-false (accepts_all s es && alters_some s es) (started (after s es).base) t (and_left (accepts_all s es) (alters_some s es) some)))
      (subst (λ (j : Known). Remembers new.kept j t) (sym k.same) (still_remembers old.kept new.kept before t (undone refused) r))
  undone_lists now (Err stop) refused k = λ t r. tt

  pub batch_lists : (now : Known) (result : Result BatchReply StopError) → ClosesBatch copy told before now mid new result
      → (t : Timeline) → Remembers old.kept before t → OnOk result (Remembers new.kept now (batch_timeline t es))
  batch_lists now result h = elim (cases_Bool told.refused) [
    | inl refused ↦ undone_lists now result refused
        (MatchBool-at_true (IsUndone told before now mid new result) (IsKept (taken_over before copy) told before now mid new result) refused h)
    | inr done ↦ kept_lists now result done
        (MatchBool-at_false (IsUndone told before now mid new result) (IsKept (taken_over before copy) told before now mid new result) done h)
  ]

-- the changes of a copy that had none are those of the lines that it ran
pub copy_altered : {T : Type 0} (es : List ScriptEvent) (k copy now : Known) (run : Seen) (x : T) → copy ≡ without_changes k → AlterSome {T = T} es copy now run (Ok x)
    → (s : State) → Agrees run.kept k s → accepts_all s es ≡ true → is_altered now ≡ alters_some s es
copy_altered {T} es k copy now run x same h =
    let mine : AlterSome {T = T} es (without_changes k) now run (Ok x) = subst (λ (j : Known). AlterSome {T = T} es j now run (Ok x)) same h in
    λ s a all. mine s (copy_agrees run.kept k s a) all

-- where the batch was refused, its transaction was undone
pub undone_kept : (before copy : Known) (old run mid new : Seen) (told : BatchReply) → IsStill old → IsBegin {T = Unit {0}} {E = StopError} old run (Ok tt) Fault → GoesOn run mid
    → (now : Known) (result : Result BatchReply StopError) → ClosesBatch copy told before now mid new result → told.refused ≡ true → new.kept ≡ old.kept
undone_kept before copy old run mid new told still began goes now result h refused =
    let k = MatchBool-at_true (IsUndone told before now mid new result) (IsKept (taken_over before copy) told before now mid new result) refused h in
    k.undo.dropped.undone ∙ goes.last ∙ began.last ∙ sym still.rest

-- a session that remembered some timeline still does
pub remembers_after_batch : (es : List ScriptEvent) (before now : Known) (old new : Seen) (result : Result BatchReply StopError) → RemembersSome old.kept before
    → ServesBatch es before now old new result → ((t : Timeline) → Remembers old.kept before t → OnOk result (Remembers new.kept now (batch_timeline t es)))
    → RemembersSome new.kept now
remembers_after_batch es before now old new (Ok r) some h lists = record { timeline = batch_timeline some.timeline es; remembers = lists some.timeline some.remembers }
remembers_after_batch es before now old new (Err stop) some h lists = record {
  timeline = some.timeline;
  remembers = subst (λ (k : Known). Remembers new.kept k some.timeline) (sym h.ends.same)
      (still_remembers old.kept new.kept before some.timeline h.ends.err.kept some.remembers);
}
