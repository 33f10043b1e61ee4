-- What holds of the changes that a history keeps and the bases for which they stand.
use Rattle.std.specs.Prelude.{◌≡◌, true, length, slice_get, Some, None}
use Rattle.bdb_base.specs.Bases.{Contents}
use Rattle.bdb_undo.specs.declared.change.Change.{Change}
use Rattle.bdb_undo.specs.Changes.{Leads, alters}
use Rattle.bdb_undo.specs.Histories.{Kept, nothing_kept, noted, stepped_back, stepped_forth}
use Rattle.bdb_undo.specs.Timelines.{Timeline, KeepsTimeline, started, moved_to, arrived, undone, redone}

-- the base held and the changes determine the bases before and ahead of it
abbrev pub BasesAreDetermined : Type 0
BasesAreDetermined = (h : Kept) (t u : Timeline) → KeepsTimeline h t → KeepsTimeline h u → t.now ≡ u.now → t ≡ u

-- the bases determine the changes
abbrev pub ChangesAreDetermined : Type 0
ChangesAreDetermined = (h k : Kept) (t : Timeline) → KeepsTimeline h t → KeepsTimeline k t → h ≡ k

-- there are as many changes to undo as bases before, and as many to redo as bases ahead
abbrev pub ChangesAreCounted : Type 0
ChangesAreCounted = (h : Kept) (t : Timeline) → KeepsTimeline h t → (length h.undos ≡ length t.before) × (length h.redos ≡ length t.ahead)

-- no changes stand for one base alone
abbrev pub NothingKeptStarts : Type 0
NothingKeptStarts = (b : Contents) → KeepsTimeline nothing_kept (started b)

-- a change that is noted stands for the move to the base to which it leads
abbrev pub NoteMoves : Type 0
NoteMoves = (h : Kept) (t : Timeline) (c : Change) (b : Contents) → KeepsTimeline h t → Leads c t.now b → KeepsTimeline (noted c h) (moved_to b t)

-- where a command leads to the base held, all bases stay as they are
abbrev pub StayingArrives : Type 0
StayingArrives = (t : Timeline) → arrived t.now t ≡ t

-- where a command leads to another base, the bases move
abbrev pub BasesMove : Type 0
BasesMove = (t : Timeline) (b : Contents) → (t.now ≡ b → ⊥) → arrived b t ≡ moved_to b t

-- wherever a command leads, that base is held
abbrev pub ArrivesThere : Type 0
ArrivesThere = (t : Timeline) (b : Contents) → (arrived b t).now ≡ b

-- a change that alters something, and is noted, stands for where it leads
abbrev pub NoteArrives : Type 0
NoteArrives = (h : Kept) (t : Timeline) (c : Change) (b : Contents) → KeepsTimeline h t
    → Leads c t.now b → alters c ≡ true → KeepsTimeline (noted c h) (arrived b t)

-- going back stands for an undo
abbrev pub BackUndoes : Type 0
BackUndoes = (h : Kept) (t u : Timeline) → KeepsTimeline h t → undone t ≡ Some u → KeepsTimeline (stepped_back h) u

-- going forth stands for a redo
abbrev pub ForthRedoes : Type 0
ForthRedoes = (h : Kept) (t u : Timeline) → KeepsTimeline h t → redone t ≡ Some u → KeepsTimeline (stepped_forth h) u

-- the first change to undo leads to this base from the one to which undo leads
abbrev pub LastLeadsHere : Type 0
LastLeadsHere = (h : Kept) (t : Timeline) (c : Change) → KeepsTimeline h t → slice_get h.undos 0 ≡ Some c
    → (u : Timeline) × (undone t ≡ Some u) × Leads c u.now t.now

-- the first change to redo leads from this base to the one to which redo leads
abbrev pub ComingLeadsAhead : Type 0
ComingLeadsAhead = (h : Kept) (t : Timeline) (c : Change) → KeepsTimeline h t → slice_get h.redos 0 ≡ Some c
    → (u : Timeline) × (redone t ≡ Some u) × Leads c t.now u.now

-- where there is no change to undo, undo leads nowhere
abbrev pub NothingToUndo : Type 0
NothingToUndo = (h : Kept) (t : Timeline) → KeepsTimeline h t → slice_get h.undos 0 ≡ None → undone t ≡ None

-- where there is no change to redo, redo leads nowhere
abbrev pub NothingToRedo : Type 0
NothingToRedo = (h : Kept) (t : Timeline) → KeepsTimeline h t → slice_get h.redos 0 ≡ None → redone t ≡ None
