-- What the store's undo list stands for.
use Rattle.std.specs.Prelude.{ℕ, List, [], ◌∷◌, IsSome}
use Rattle.bdb_keep.specs.Tables.{IsPlace, Tables, set_at}
use Rattle.bdb_memory.specs.Entries.{Entries, place_at}
use Rattle.bdb_memory.specs.declared.changes.PlaceChange.{PlaceChange}

-- the places of changes
abbrev pub places_of : List PlaceChange → List (List ℕ)
places_of [] = []
places_of (c ∷ cs) = c.place ∷ places_of cs

-- the tables as they were before these changes
abbrev pub undone : List PlaceChange → Tables → Tables
undone [] t = t
undone (c ∷ cs) t = set_at (undone cs t) c.place c.before

-- each of these changes has a place among the entries
abbrev pub HavePlaces : List PlaceChange → Entries → Type 0
HavePlaces [] es = Unit {0}
HavePlaces (c ∷ cs) es = IsPlace c.place × (IsSome (place_at es c.place)) × HavePlaces cs es
