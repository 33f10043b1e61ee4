-- The sizes of a base, as they are counted in its tables.
use Rattle.std.specs.Prelude.{◌≡◌, ℕ, List, [], ◌∷◌, length, filter, sum_by}
use Rattle.bdb_base.specs.declared.kinds.Held.{Held}
use Rattle.bdb_base.specs.Bases.{Contents}
use Rattle.bdb_canon.specs.Sizes.{counts_of}
use Rattle.bdb_canon.specs.declared.sizes.Counts.{Counts}
use Rattle.bdb_keep.specs.Tables.{Tables}
use Rattle.bdb_val.specs.Steps.{counted}
use Rattle.bdb_val.specs.WorldReads.{AreRowsAt}
use Rattle.bdb_catalog.specs.Bases.{StoresValid}

-- how many rows are explicit
abbrev pub explicit_rows : List Held → ℕ
explicit_rows held = length (filter (λ h. h.explicit) held)

-- these are the rows of worlds, one world after the other, each by its number
abbrev pub AreRowsOfWorlds : Tables → List (ℕ × ℕ) → List (List Held) → Type 0
AreRowsOfWorlds t [] [] = Unit {0}
AreRowsOfWorlds t [] (h ∷ hs) = ⊥
AreRowsOfWorlds t (e ∷ es) [] = ⊥
AreRowsOfWorlds t (e ∷ es) (h ∷ hs) = AreRowsAt t e.0 h × AreRowsOfWorlds t es hs

-- worlds have so many explicit rows together, and so many rows
pub record CountsRows (t : Tables) (worlds : List (ℕ × ℕ)) (stmts rows : ℕ) : Type 0 where
  pub held : List (List Held)
  pub are : AreRowsOfWorlds t worlds held
  pub explicit : stmts ≡ counted (sum_by explicit_rows held)
  pub all : rows ≡ counted (sum_by (λ h. length h) held)

-- whichever valid base the tables store, these are its sizes
abbrev pub TellsCounts : Tables → Counts → Type 0
TellsCounts t counts = (b : Contents) → StoresValid t b → counts ≡ counts_of b
