-- The changes that a history keeps.
use Rattle.std.specs.Prelude.{◌≡◌, ℕ, ◌≤◌, length, List, [], ◌∷◌, ◌++◌, take, drop}
use Rattle.circular_buffer.specs.Buffer.{Buffer}
use Rattle.bdb_undo.specs.declared.change.Change.{Change}
use Rattle.bdb_undo.specs.Limits.{most_changes}

-- the changes that can be undone, and those that were undone and can be redone, the nearest first
pub record Kept : Type 0 where
  pub undos : List Change
  pub redos : List Change

-- no changes
abbrev pub nothing_kept : Kept
nothing_kept = record { undos = []; redos = [] }

-- one more change is the first to undo, the oldest one past the limit is forgotten, and there is none to redo
abbrev pub noted : Change → Kept → Kept
noted c h = record { undos = take most_changes (c ∷ h.undos); redos = [] }

-- the first change to undo becomes the first one to redo
abbrev pub stepped_back : Kept → Kept
stepped_back h = record { undos = drop 1 h.undos; redos = take 1 h.undos ++ h.redos }

-- the first change to redo becomes the first one to undo
abbrev pub stepped_forth : Kept → Kept
stepped_forth h = record { undos = take 1 h.redos ++ h.undos; redos = drop 1 h.redos }

-- a buffer of changes and how many of them can be undone: there is room for all that a history keeps, and for no more
pub record IsHistory (changes : Buffer Change) (done : ℕ) : Type 0 where
  pub within : done ≤ length changes.items
  pub few : length changes.items ≤ most_changes
  pub room : changes.capacity ≡ most_changes
