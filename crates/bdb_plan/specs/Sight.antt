-- What a plan sees of stored tables.
use Rattle.std.specs.Prelude.{ℕ, Bool, false, ◌&&◌, nat_eq, List, Option, Some, None, length}
use Rattle.std.specs.List.{list_any}
use Rattle.bdb_base.specs.declared.kinds.Sign.{Sign}
use Rattle.bdb_base.specs.declared.kinds.Sign.TheVariants.{Plus}
use Rattle.bdb_base.specs.declared.tuple.Tuple.{Tuple}
use Rattle.bdb_base.specs.Clash.{clash}
use Rattle.bdb_base.specs.Same.{same_tuple, same_sign}

-- What a plan sees: how many places of users there are, each of which is read to see the users; the users as tuples of
-- number and name; where the edge of a world for a user leads; the signed tuples of a world and relation; and the width and
-- key length of each relation.
pub record Sight : Type 0 where
  pub places : ℕ
  pub users : List Tuple
  pub edge : ℕ → ℕ → Option ℕ
  pub rows : ℕ → ℕ → List (Tuple × Sign)
  pub width : ℕ → ℕ
  pub keys : ℕ → ℕ

-- a tuple is that of a user
abbrev pub is_user_of : Sight → Option Tuple → Bool
is_user_of sight None = false
is_user_of sight (Some t) = list_any (λ u. same_tuple u t) sight.users

-- a signed tuple is among rows
abbrev pub has_signed : List (Tuple × Sign) → Tuple → Sign → Bool
has_signed rows t s = list_any (λ x. same_tuple x.0 t && same_sign x.1 s) rows

-- a tuple is among rows with plus
abbrev pub is_plus_row : List (Tuple × Sign) → Option Tuple → Bool
is_plus_row rows None = false
is_plus_row rows (Some t) = has_signed rows t Plus

-- rows deny a tuple: with minus they have it, or with plus another tuple of its relation and key
abbrev pub rows_deny : (ℕ → ℕ) → List (Tuple × Sign) → Tuple → Bool
rows_deny keys rows t = list_any (λ x. clash keys t Plus x.0 x.1) rows

-- a tuple is one of the relation, with a value for each column, and the world's rows deny it
abbrev pub is_denied : Sight → ℕ → ℕ → Option Tuple → Bool
is_denied sight world rel None = false
is_denied sight world rel (Some t) = nat_eq t.rel rel && (nat_eq (length t.vals) (sight.width rel) && rows_deny sight.keys (sight.rows world rel) t)
