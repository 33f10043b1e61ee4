-- At which places tables differ, and how many these are.
use Rattle.std.specs.Prelude.{◌≡◌, ◌≢◌, ℕ, true, false, List, ◌++◌, Option, length, map}
use Rattle.std.specs.List.{AllByRecursion, list_any}
use Rattle.std.specs.Option.{option_map}
use Rattle.std.specs.FinMap as tables
use Rattle.bdb_base.specs.Bases.{are_distinct}
use Rattle.bdb_base.specs.Same.{same_text}
use Rattle.bdb_keep.specs.Tables.{Tables}
use Rattle.bdb_tables.specs.Codec.{Codec, place}

-- These are the places where two look-ups differ, each once.
pub record AreDifferences {X : Type 0} (f g : List ℕ → X) (places : List (List ℕ)) : Type 0 where
  pub once : are_distinct places ≡ true
  pub each : AllByRecursion (λ p. f p ≢ g p) places
  pub only : (q : List ℕ) → list_any (same_text q) places ≡ false → f q ≡ g q

-- tables that differ at some places from others, which differ from third ones at other places, differ from those at all of them
abbrev pub DifferencesAdd : Type 0
DifferencesAdd = (t u v : Tables) (ps qs : List (List ℕ)) → AreDifferences (tables.get t) (tables.get u) ps → AreDifferences (tables.get u) (tables.get v) qs
    → AllByRecursion (λ p. list_any (same_text p) qs ≡ false) ps → AreDifferences (tables.get t) (tables.get v) (ps ++ qs)

-- the places where tables differ have one number
abbrev pub DifferencesAreCounted : Type 0
DifferencesAreCounted = (t u : Tables) (ps qs : List (List ℕ)) → AreDifferences (tables.get t) (tables.get u) ps → AreDifferences (tables.get t) (tables.get u) qs → length ps ≡ length qs

-- every two tables have a list of the places where they differ
abbrev pub DifferencesAreListed : Type 0
DifferencesAreListed = (t u : Tables) → (ps : List (List ℕ)) × AreDifferences (tables.get t) (tables.get u) ps

-- Changes of rows, each at a key of its own, none of which leaves its row as it was.
pub record AreReal {Key Row : Type 0} (c : Codec Key Row) (t : Tables) (xs : List (Key × Option Row)) : Type 0 where
  pub apart : are_distinct (map (λ x. place c x.0) xs) ≡ true
  pub each : AllByRecursion (λ x. tables.get t (place c x.0) ≢ option_map c.row_bytes x.1) xs
