-- Places with what stands there: none where a row was taken away, and its place was not.
use Rattle.std.specs.Prelude.{◌≡◌, ℕ, List, [], ◌∷◌, Option, Some, None, IsSome, IfSome, IsTrue, false}
use Rattle.std.specs.declared.cmp.Ordering.TheVariants.{Less}
use Rattle.std.specs.Ordering.{is_eq, is_le, eq_by_cmp}
use Rattle.std.specs.Map.{lookup}
use Rattle.std.specs.FinMap as map
use Rattle.bdb_keep.specs.Tables.{Tables, bytes_cmp, set_at}

-- places, each with its row, or with none where the row was taken away
abbrev pub Entries : Type 0
Entries = List (List ℕ × Option (List ℕ))

-- the row at a place, if the place is there and isn't empty
abbrev pub row_of : Option (Option (List ℕ)) → Option (List ℕ)
row_of None = None
row_of (Some row) = row

-- what the entries have at a place
abbrev pub place_at : Entries → List ℕ → Option (Option (List ℕ))
place_at es q = lookup (λ k. is_eq (bytes_cmp q k)) es

-- the rows that entries stand for
abbrev pub rows_of : Entries → Tables
rows_of [] = map.empty
rows_of (e ∷ es) = set_at (rows_of es) e.0 e.1

-- the places that are among some entries are among the others too
abbrev pub KeepsPlaces : Entries → Entries → Type 0
KeepsPlaces es fs = (q : List ℕ) → IsSome (place_at es q) → IsSome (place_at fs q)

-- some entries have this at a place, and elsewhere what the others have
pub record IsSetAt (es fs : Entries) (p : List ℕ) (w : Option (Option (List ℕ))) : Type 0 where
  pub here : place_at fs p ≡ w
  pub others : (q : List ℕ) → eq_by_cmp bytes_cmp q p ≡ false → place_at fs q ≡ place_at es q

-- each place is below a place
abbrev pub AreBelow : List ℕ → Entries → Type 0
AreBelow q [] = Unit {0}
AreBelow q (e ∷ es) = (bytes_cmp e.0 q ≡ Less) × AreBelow q es

-- each place is above a place
abbrev pub AreAbove : List ℕ → Entries → Type 0
AreAbove p [] = Unit {0}
AreAbove p (e ∷ es) = (bytes_cmp p e.0 ≡ Less) × AreAbove p es

-- no place is below a place
abbrev pub NoneBelow : List ℕ → Entries → Type 0
NoneBelow q [] = Unit {0}
NoneBelow q (e ∷ es) = IsTrue (is_le (bytes_cmp q e.0)) × NoneBelow q es

-- each place is below all later ones
abbrev pub IsAscending : Entries → Type 0
IsAscending [] = Unit {0}
IsAscending (e ∷ es) = AreAbove e.0 es × IsAscending es

-- the row of an entry, if it has one, is among some rows
abbrev pub IsAmong : Tables → List ℕ × Option (List ℕ) → Type 0
IsAmong t e = IfSome e.1 (λ bytes. map.get t e.0 ≡ Some bytes)

abbrev pub AreAmong : Tables → Entries → Type 0
AreAmong t [] = Unit {0}
AreAmong t (e ∷ es) = IsAmong t e × AreAmong t es
