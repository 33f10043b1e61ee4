-- The changes that a history keeps stand for the bases to which undo and redo lead.
use Rattle.std.proofs.Common.{◌≡◌, ◌∙◌, ℕ, Bool, true, List, [], ◌∷◌, refl, ap, sym, subst, inl, inr, length, take, suc, Some, None, slice_get}
use Prim.Native.Nat.{zero}
use Rattle.std.specs.Prelude.{if◌then◌else◌}
use Rattle.std.proofs.lemmas.Bool.{cases_Bool, false≢true}
use Rattle.bdb_base.specs.Bases.{Contents}
use Rattle.bdb_undo.specs.declared.change.Change.{Change}
use Rattle.bdb_undo.specs.Changes.{Leads, changed_forth, changed_back, alters}
use Rattle.bdb_undo.specs.Histories.{Kept, noted, stepped_back, stepped_forth}
use Rattle.bdb_undo.specs.Limits.{most_changes}
use Rattle.bdb_undo.specs.Same.{same_contents}
use Rattle.bdb_undo.specs.Timelines.{Timeline, LeadHere, LeadAhead, KeepsTimeline, moved_to, undone_by, redone_by}
use Rattle.bdb_undo.specs.TimelineLaws.{BasesAreDetermined, ChangesAreDetermined, ChangesAreCounted, NothingKeptStarts, NoteMoves, StayingArrives, BasesMove, ArrivesThere, NoteArrives, BackUndoes, ForthRedoes, LastLeadsHere, ComingLeadsAhead, NothingToUndo, NothingToRedo}
use Rattle.bdb_undo.proofs.ChangeLemmas.{back_gives_the_base_before, forth_gives_the_base_after, changes_are_one, same_base_alters_nothing}
use Rattle.bdb_undo.proofs.SameLemmas.{same_contents_are_one, contents_are_their_own}

none_is_some : (u : Timeline) → None ≡ Some u → ⊥
none_is_some u e = cc

some_is : (t u : Timeline) → Some t ≡ Some u → t ≡ u
some_is t u e = cc

-- ---- the base held and the changes determine the bases

-- the bases before this one, each by taking a change back
abbrev bases_before : List Change → Contents → List Contents
bases_before [] b = []
bases_before (c ∷ cs) b = changed_back c b ∷ bases_before cs (changed_back c b)

-- the bases ahead of this one, each by making a change again
abbrev bases_ahead : List Change → Contents → List Contents
bases_ahead [] b = []
bases_ahead (c ∷ cs) b = changed_forth c b ∷ bases_ahead cs (changed_forth c b)

-- the bases that follow from the one held and the changes kept
abbrev timeline_of : Kept → Contents → Timeline
timeline_of h b = record { before = bases_before h.undos b; now = b; ahead = bases_ahead h.redos b }

here_by : (cs : List Change) (b : Contents) (before : List Contents) → LeadHere cs b before → before ≡ bases_before cs b
here_by [] b [] l = refl
here_by [] b (a ∷ before) l = absurd l
here_by (c ∷ cs) b [] l = absurd l
here_by (c ∷ cs) b (a ∷ before) l =
    let e : a ≡ changed_back c b = sym (back_gives_the_base_before c a b l.0) in
    ap (λ ws. a ∷ ws) (here_by cs a before l.1) ∙ ap (λ w. w ∷ bases_before cs w) e

ahead_by : (cs : List Change) (b : Contents) (ahead : List Contents) → LeadAhead cs b ahead → ahead ≡ bases_ahead cs b
ahead_by [] b [] l = refl
ahead_by [] b (a ∷ ahead) l = absurd l
ahead_by (c ∷ cs) b [] l = absurd l
ahead_by (c ∷ cs) b (a ∷ ahead) l =
    let e : a ≡ changed_forth c b = sym (forth_gives_the_base_after c b a l.0) in
    ap (λ ws. a ∷ ws) (ahead_by cs a ahead l.1) ∙ ap (λ w. w ∷ bases_ahead cs w) e

abbrev timeline : List Contents → Contents → List Contents → Timeline
timeline before now ahead = record { before = before; now = now; ahead = ahead }

bases_are_computed : (h : Kept) (t : Timeline) → KeepsTimeline h t → t ≡ timeline_of h t.now
bases_are_computed h t s =
    ap (λ ws. timeline ws t.now t.ahead) (here_by h.undos t.now t.before s.undos)
    ∙ ap (timeline (bases_before h.undos t.now) t.now) (ahead_by h.redos t.now t.ahead s.redos)

pub bases_are_determined : BasesAreDetermined
bases_are_determined h t u s r e = bases_are_computed h t s ∙ ap (timeline_of h) e ∙ sym (bases_are_computed h u r)

-- ---- the bases determine the changes

here_is_one : (cs ds : List Change) (b : Contents) (before : List Contents) → LeadHere cs b before → LeadHere ds b before → cs ≡ ds
here_is_one [] [] b [] l m = refl
here_is_one [] (d ∷ ds) b [] l m = absurd m
here_is_one (c ∷ cs) ds b [] l m = absurd l
here_is_one [] ds b (a ∷ before) l m = absurd l
here_is_one (c ∷ cs) [] b (a ∷ before) l m = absurd m
here_is_one (c ∷ cs) (d ∷ ds) b (a ∷ before) l m =
    ap (λ x. x ∷ cs) (changes_are_one c d a b l.0 m.0) ∙ ap (λ xs. d ∷ xs) (here_is_one cs ds a before l.1 m.1)

ahead_is_one : (cs ds : List Change) (b : Contents) (ahead : List Contents) → LeadAhead cs b ahead → LeadAhead ds b ahead → cs ≡ ds
ahead_is_one [] [] b [] l m = refl
ahead_is_one [] (d ∷ ds) b [] l m = absurd m
ahead_is_one (c ∷ cs) ds b [] l m = absurd l
ahead_is_one [] ds b (a ∷ ahead) l m = absurd l
ahead_is_one (c ∷ cs) [] b (a ∷ ahead) l m = absurd m
ahead_is_one (c ∷ cs) (d ∷ ds) b (a ∷ ahead) l m =
    ap (λ x. x ∷ cs) (changes_are_one c d b a l.0 m.0) ∙ ap (λ xs. d ∷ xs) (ahead_is_one cs ds a ahead l.1 m.1)

abbrev kept : List Change → List Change → Kept
kept undos redos = record { undos = undos; redos = redos }

pub changes_are_determined : ChangesAreDetermined
changes_are_determined h k t s r =
    ap (λ us. kept us h.redos) (here_is_one h.undos k.undos t.now t.before s.undos r.undos)
    ∙ ap (kept k.undos) (ahead_is_one h.redos k.redos t.now t.ahead s.redos r.redos)

-- ---- counts

here_counted : (cs : List Change) (b : Contents) (before : List Contents) → LeadHere cs b before → length cs ≡ length before
here_counted [] b [] l = refl
here_counted [] b (a ∷ before) l = absurd l
here_counted (c ∷ cs) b [] l = absurd l
here_counted (c ∷ cs) b (a ∷ before) l = ap suc (here_counted cs a before l.1)

ahead_counted : (cs : List Change) (b : Contents) (ahead : List Contents) → LeadAhead cs b ahead → length cs ≡ length ahead
ahead_counted [] b [] l = refl
ahead_counted [] b (a ∷ ahead) l = absurd l
ahead_counted (c ∷ cs) b [] l = absurd l
ahead_counted (c ∷ cs) b (a ∷ ahead) l = ap suc (ahead_counted cs a ahead l.1)

pub changes_are_counted : ChangesAreCounted
changes_are_counted h t s = (here_counted h.undos t.now t.before s.undos, ahead_counted h.redos t.now t.ahead s.redos)

-- ---- what a note keeps

pub nothing_kept_starts : NothingKeptStarts
nothing_kept_starts b = record { undos = tt; redos = tt }

take_here : (n : ℕ) (cs : List Change) (b : Contents) (before : List Contents) → LeadHere cs b before → LeadHere (take n cs) b (take n before)
take_here zero cs b before l = tt
take_here (suc n) [] b [] l = tt
take_here (suc n) [] b (a ∷ before) l = absurd l
take_here (suc n) (c ∷ cs) b [] l = absurd l
take_here (suc n) (c ∷ cs) b (a ∷ before) l = (l.0, take_here n cs a before l.1)

pub note_moves : NoteMoves
note_moves h t c b s l = record { undos = take_here most_changes (c ∷ h.undos) b (t.now ∷ t.before) (l, s.undos); redos = tt }

-- ---- where a command leads

-- the timeline there, by whether that base is the one held
abbrev there : Contents → Timeline → Bool → Timeline
there b t same = if same then t else moved_to b t

pub staying_arrives : StayingArrives
staying_arrives t = ap (there t.now t) (contents_are_their_own t.now)

pub bases_move : BasesMove
bases_move t b apart = elim (cases_Bool (same_contents t.now b)) [
  | inl e ↦ absurd (apart (same_contents_are_one t.now b e))
  | inr e ↦ ap (there b t) e
]

pub arrives_there : ArrivesThere
arrives_there t b = elim (cases_Bool (same_contents t.now b)) [
  | inl e ↦ ap (λ s. (there b t s).now) e ∙ same_contents_are_one t.now b e
  | inr e ↦ ap (λ s. (there b t s).now) e
]

-- a change that alters something leads to another base
leads_apart : (c : Change) (a b : Contents) → Leads c a b → alters c ≡ true → a ≡ b → ⊥
leads_apart c a b l h e =
    false≢true (sym (same_base_alters_nothing c b (subst (λ (w : Contents). Leads c w b) e l)) ∙ h)

pub note_arrives : NoteArrives
note_arrives h t c b s l k = subst (KeepsTimeline (noted c h)) (sym (bases_move t b (leads_apart c t.now b l k))) (note_moves h t c b s l)

-- ---- what a step back and a step forth keep

back_by : (us rs : List Change) (before : List Contents) (b : Contents) (ahead : List Contents) (u : Timeline)
    → LeadHere us b before → LeadAhead rs b ahead → undone_by before b ahead ≡ Some u → KeepsTimeline (stepped_back (kept us rs)) u
back_by us rs [] b ahead u l m e = absurd (none_is_some u e)
back_by [] rs (a ∷ before) b ahead u l m e = absurd l
back_by (c ∷ us) rs (a ∷ before) b ahead u l m e =
    subst (KeepsTimeline (kept us (c ∷ rs))) (some_is (timeline before a (b ∷ ahead)) u e) (record { undos = l.1; redos = (l.0, m) })

pub back_undoes : BackUndoes
back_undoes h t u s e = back_by h.undos h.redos t.before t.now t.ahead u s.undos s.redos e

forth_by : (us rs : List Change) (before : List Contents) (b : Contents) (ahead : List Contents) (u : Timeline)
    → LeadHere us b before → LeadAhead rs b ahead → redone_by before b ahead ≡ Some u → KeepsTimeline (stepped_forth (kept us rs)) u
forth_by us rs before b [] u l m e = absurd (none_is_some u e)
forth_by us [] before b (a ∷ ahead) u l m e = absurd m
forth_by us (c ∷ rs) before b (a ∷ ahead) u l m e =
    subst (KeepsTimeline (kept (c ∷ us) rs)) (some_is (timeline (b ∷ before) a ahead) u e) (record { undos = (m.0, l); redos = m.1 })

pub forth_redoes : ForthRedoes
forth_redoes h t u s e = forth_by h.undos h.redos t.before t.now t.ahead u s.undos s.redos e

-- ---- where the nearest changes lead

no_change_there : (c : Change) → None ≡ Some c → ⊥
no_change_there c e = cc

some_change_there : (c : Change) → Some c ≡ None → ⊥
some_change_there c e = cc

change_there : (c d : Change) → Some c ≡ Some d → c ≡ d
change_there c d e = cc

last_by : (us : List Change) (before : List Contents) (b : Contents) (ahead : List Contents) (c : Change) → LeadHere us b before → slice_get us 0 ≡ Some c
    → (u : Timeline) × (undone_by before b ahead ≡ Some u) × Leads c u.now b
last_by [] before b ahead c l e = absurd (no_change_there c e)
last_by (d ∷ us) [] b ahead c l e = absurd l
last_by (d ∷ us) (a ∷ before) b ahead c l e = (timeline before a (b ∷ ahead), refl, subst (λ (k : Change). Leads k a b) (change_there d c e) l.0)

pub last_leads_here : LastLeadsHere
last_leads_here h t c s e = last_by h.undos t.before t.now t.ahead c s.undos e

coming_by : (rs : List Change) (before : List Contents) (b : Contents) (ahead : List Contents) (c : Change) → LeadAhead rs b ahead → slice_get rs 0 ≡ Some c
    → (u : Timeline) × (redone_by before b ahead ≡ Some u) × Leads c b u.now
coming_by [] before b ahead c l e = absurd (no_change_there c e)
coming_by (d ∷ rs) before b [] c l e = absurd l
coming_by (d ∷ rs) before b (a ∷ ahead) c l e = (timeline (b ∷ before) a ahead, refl, subst (λ (k : Change). Leads k b a) (change_there d c e) l.0)

pub coming_leads_ahead : ComingLeadsAhead
coming_leads_ahead h t c s e = coming_by h.redos t.before t.now t.ahead c s.redos e

none_undone_by : (us : List Change) (before : List Contents) (b : Contents) (ahead : List Contents) → LeadHere us b before → slice_get us 0 ≡ None
    → undone_by before b ahead ≡ None
none_undone_by us [] b ahead l e = refl
none_undone_by [] (a ∷ before) b ahead l e = absurd l
none_undone_by (c ∷ us) (a ∷ before) b ahead l e = absurd (some_change_there c e)

pub nothing_to_undo : NothingToUndo
nothing_to_undo h t s e = none_undone_by h.undos t.before t.now t.ahead s.undos e

none_redone_by : (rs : List Change) (before : List Contents) (b : Contents) (ahead : List Contents) → LeadAhead rs b ahead → slice_get rs 0 ≡ None
    → redone_by before b ahead ≡ None
none_redone_by rs before b [] l e = refl
none_redone_by [] before b (a ∷ ahead) l e = absurd l
none_redone_by (c ∷ rs) before b (a ∷ ahead) l e = absurd (some_change_there c e)

pub nothing_to_redo : NothingToRedo
nothing_to_redo h t s e = none_redone_by h.redos t.before t.now t.ahead s.redos e
