-- Whether the rows of a world are settled over those of the world to which its suffix link leads, as a test that goes along them.
-- `keys` gives the length of each relation's key.
use Rattle.std.specs.Prelude.{ℕ, Bool, false, not, ◌&&◌, ◌||◌, List, filter, Option, Some, None, is_some}
use Rattle.std.specs.List.{list_all}
use Rattle.bdb_base.specs.Same.{same_sign}
use Rattle.bdb_base.specs.declared.kinds.Sign.{Sign}
use Rattle.bdb_tables.specs.Marks.{Mark}
use Rattle.bdb_val.specs.Settling.{mark_in, barred_by}
use Rattle.bdb_val.specs.declared.stored.StoredRow.{StoredRow}

-- a row is explicit
abbrev pub is_explicit : StoredRow → Bool
is_explicit x = x.mark.1

-- a row is inherited
abbrev pub is_inherited : StoredRow → Bool
is_inherited x = not x.mark.1

-- there is a row, and it has a sign
abbrev pub has_sign : Sign → Option Mark → Bool
has_sign s None = false
has_sign s (Some m) = same_sign m.0 s

-- an inherited row clashes with no explicit one, and its tuple has its sign in the other world
abbrev pub is_fitting : (ℕ → ℕ) → List StoredRow → List StoredRow → StoredRow → Bool
is_fitting keys stated from x = not (barred_by keys stated x.tuple x.mark.0) && has_sign x.mark.0 (mark_in from x.tid)

-- a row of the other world clashes with an explicit one, or its tuple has a row
abbrev pub is_passed : (ℕ → ℕ) → List StoredRow → List StoredRow → StoredRow → Bool
is_passed keys stated inherited y = barred_by keys stated y.tuple y.mark.0 || (is_some (mark_in stated y.tid) || is_some (mark_in inherited y.tid))

-- a world with these explicit rows and these inherited ones is settled over the rows of the other world
abbrev pub are_settled : (ℕ → ℕ) → List StoredRow → List StoredRow → List StoredRow → Bool
are_settled keys stated inherited from = list_all (is_fitting keys stated from) inherited && list_all (is_passed keys stated inherited) from

-- the rows of a world are settled over those of the other world
abbrev pub settles : (ℕ → ℕ) → List StoredRow → List StoredRow → Bool
settles keys own from = are_settled keys (filter is_explicit own) (filter is_inherited own) from
