-- The bases to which undo and redo lead, and the changes that stand for them.
use Rattle.std.specs.Prelude.{List, [], ◌∷◌, take, Option, None, Some, if◌then◌else◌}
use Rattle.bdb_base.specs.Bases.{Contents}
use Rattle.bdb_undo.specs.declared.change.Change.{Change}
use Rattle.bdb_undo.specs.Changes.{Leads}
use Rattle.bdb_undo.specs.Histories.{Kept}
use Rattle.bdb_undo.specs.Limits.{most_changes}
use Rattle.bdb_undo.specs.Same.{same_contents}

-- the base held, those to which undo leads, and those to which redo leads, the nearest first
pub record Timeline : Type 0 where
  pub before : List Contents
  pub now : Contents
  pub ahead : List Contents

-- only one base
abbrev pub started : Contents → Timeline
started b = record { before = []; now = b; ahead = [] }

-- after a change to a base: undo leads to the one held, the oldest past the limit is forgotten, and redo leads to none
abbrev pub moved_to : Contents → Timeline → Timeline
moved_to b t = record { before = take most_changes (t.now ∷ t.before); now = b; ahead = [] }

-- after a command that leads to a base: where it is the one held, all bases stay as they are
abbrev pub arrived : Contents → Timeline → Timeline
arrived b t = if same_contents t.now b then t else moved_to b t

-- after an undo, by the bases before, the one held and those ahead
abbrev pub undone_by : List Contents → Contents → List Contents → Option Timeline
undone_by [] b ahead = None
undone_by (a ∷ before) b ahead = Some (record { before = before; now = a; ahead = b ∷ ahead })

-- after an undo: the nearest base before is held, and redo leads to the one held until then; none where there is no base before
abbrev pub undone : Timeline → Option Timeline
undone t = undone_by t.before t.now t.ahead

-- after a redo, by the bases before, the one held and those ahead
abbrev pub redone_by : List Contents → Contents → List Contents → Option Timeline
redone_by before b [] = None
redone_by before b (a ∷ ahead) = Some (record { before = b ∷ before; now = a; ahead = ahead })

-- after a redo: the nearest base ahead is held, and undo leads to the one held until then; none where there is no base ahead
abbrev pub redone : Timeline → Option Timeline
redone t = redone_by t.before t.now t.ahead

-- there is a change for each base before, and each leads from its base to the next, the first one to this base
abbrev pub LeadHere : List Change → Contents → List Contents → Type 0
LeadHere [] b [] = Unit {0}
LeadHere (c ∷ cs) b (a ∷ before) = Leads c a b × LeadHere cs a before
LeadHere _ _ _ = ⊥

-- there is a change for each base ahead, and each leads to its base, the first one from this base
abbrev pub LeadAhead : List Change → Contents → List Contents → Type 0
LeadAhead [] b [] = Unit {0}
LeadAhead (c ∷ cs) b (a ∷ ahead) = Leads c b a × LeadAhead cs a ahead
LeadAhead _ _ _ = ⊥

-- the changes that a history keeps stand for the bases to which undo and redo lead
pub record KeepsTimeline (h : Kept) (t : Timeline) : Type 0 where
  pub undos : LeadHere h.undos t.now t.before
  pub redos : LeadAhead h.redos t.now t.ahead
