-- The changes that settle the rows of a group, told by their marks and the numbers of their tuples. All rows of a group are of
-- one relation and one key, so of two tuples with different numbers only the plus rows contradict each other.
use Rattle.std.specs.Prelude.{◌≡◌, ℕ, Bool, false, ◌&&◌, nat_eq, List, [], ◌∷◌, ◌++◌, length, filter, Option, Some, None, is_some, cond}
use Rattle.std.specs.List.{list_any, flat_map}
use Rattle.bdb_base.specs.Same.{same_sign}
use Rattle.bdb_base.specs.declared.kinds.Sign.TheVariants.{Plus}
use Rattle.bdb_tables.specs.Marks.{Mark}
use Rattle.bdb_val.specs.Settling.{same_mark}
use Rattle.bdb_val.specs.Steps.{turns_from, comes, goes}
use Rattle.bdb_val.specs.declared.stored.SettledWorld.{SettledWorld}

-- the mark of the row of a tuple's number among rows
abbrev pub mark_under : List (ℕ × Mark) → ℕ → Option Mark
mark_under [] tid = None
mark_under (e ∷ es) tid = cond (nat_eq e.0 tid) (Some e.1) (mark_under es tid)

-- a row is explicit, and it is plus
abbrev pub is_explicit_plus : ℕ × Mark → Bool
is_explicit_plus e = e.1.1 && same_sign e.1.0 Plus

-- what a row hands down over a suffix link: its sign, but no plus where that is barred
abbrev pub handed_down : Bool → Option Mark → Option Mark
handed_down barred None = None
handed_down barred (Some m) = cond (same_sign m.0 Plus && barred) None (Some (m.0, false))

-- the change of the row of a tuple's number, where it is to be another
abbrev pub group_change : ℕ → Option Mark → Option Mark → List (ℕ × Option Mark)
group_change tid before next = cond (same_mark before next) [] ((tid, next) ∷ [])

-- a world's explicit row stays; another becomes what it is handed down
abbrev pub own_change : Bool → List (ℕ × Mark) → ℕ × Mark → List (ℕ × Option Mark)
own_change barred from e = cond e.1.1 [] (group_change e.0 (Some e.1) (handed_down barred (mark_under from e.0)))

-- what is handed down of a row whose number has none in the world
abbrev pub new_change : Bool → List (ℕ × Mark) → ℕ × Mark → List (ℕ × Option Mark)
new_change barred own e = cond (is_some (mark_under own e.0)) [] (group_change e.0 None (handed_down barred (Some e.1)))

-- The changes that settle a group of a world that has the rows `own`, over the rows `from` of the world to which it is linked:
-- an explicit plus row bars all plus rows that would be handed down.
abbrev pub group_changes : List (ℕ × Mark) → List (ℕ × Mark) → List (ℕ × Option Mark)
group_changes own from =
    flat_map (own_change (list_any is_explicit_plus own) from) own ++ flat_map (new_change (list_any is_explicit_plus own) own) from

-- a change of a row, whose mark is looked up by number, gives a tuple another sign, or a first or no sign
abbrev pub turns_at : (ℕ → Option Mark) → ℕ × Option Mark → Bool
turns_at mark x = turns_from (mark x.0) x.1

-- a change puts a row where there was none
abbrev pub comes_at : (ℕ → Option Mark) → ℕ × Option Mark → Bool
comes_at mark x = comes (mark x.0) x.1

-- a change takes a row away
abbrev pub goes_at : (ℕ → Option Mark) → ℕ × Option Mark → Bool
goes_at mark x = goes (mark x.0) x.1

-- What is told of the changes of a group: whether one gives a tuple another sign, how many put a row where there was none, and
-- how many take one away.
pub record TellsMarks (mark : ℕ → Option Mark) (made : List (ℕ × Option Mark)) (s : SettledWorld) : Type 0 where
  pub turned : s.turned ≡ list_any (turns_at mark) made
  pub put : s.put ≡ length (filter (comes_at mark) made)
  pub taken : s.taken ≡ length (filter (goes_at mark) made)
