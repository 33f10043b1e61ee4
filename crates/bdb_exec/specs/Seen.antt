-- What tables show to plans.
use Rattle.std.specs.Prelude.{ℕ, ◌-◌, ◌/◌, ◌^◌, pos, nat_lt, cond, List, [], ◌∷◌, ◌++◌, Option, Some, None, length, map, filter, filter_map, drop}
use Rattle.std.specs.List.{slice_get}
use Rattle.std.specs.Option.{option_map, unwrap_or}
use Rattle.std.specs.FinMap as tables
use Rattle.bdb_base.specs.Segments.{is_prefix}
use Rattle.bdb_base.specs.declared.kinds.Sign.{Sign}
use Rattle.bdb_base.specs.declared.kinds.Sign.TheVariants.{Plus, Minus}
use Rattle.bdb_base.specs.declared.kinds.Value.{Value}
use Rattle.bdb_base.specs.declared.kinds.Value.TheVariants.{Int}
use Rattle.bdb_base.specs.declared.tuple.Tuple.{Tuple}
use Rattle.bdb_keep.specs.Tables.{Tables}
use Rattle.bdb_key.specs.Bytes.{num_bytes}
use Rattle.bdb_queries.specs.Slots.{user_tuple}
use Rattle.bdb_plan.specs.Sight.{Sight}
use Rattle.bdb_tables.specs.Codec.{place}
use Rattle.bdb_tables.specs.InUse.{user_codec, rel_codec, tuple_codec, edge_codec, val_codec}
use Rattle.bdb_exec.specs.Spelled.{number_in, before_end, values_in, tuple_in}

-- the rows of tables whose places begin so, in order
abbrev pub rows_at : Tables → List ℕ → List (List ℕ × List ℕ)
rows_at t begin = filter (λ e. is_prefix begin e.0) (tables.entries t)

-- the name that a row of users spells, behind the byte that marks a text; none where the row has no bytes: the user is gone
abbrev pub name_in : List ℕ → Option (List ℕ)
name_in [] = None
name_in (mark ∷ bytes) = Some (before_end bytes)

-- the user of a row of users, its number and its name; none where the user is gone
abbrev pub user_in : List ℕ × List ℕ → Option Tuple
user_in e = option_map (user_tuple (number_in (drop 1 e.0))) (name_in e.1)

-- the rows of users, one for each place
abbrev pub user_rows : Tables → List (List ℕ × List ℕ)
user_rows t = rows_at t (user_codec.number ∷ [])

-- the tuple whose number stands at the end of a place
abbrev pub tuple_at : Tables → List ℕ → Tuple
tuple_at t key = tuple_in (unwrap_or (tables.get t (tuple_codec.number ∷ drop (length key - 4) key)) [])

-- the sign of a row of a world
abbrev pub sign_in : List ℕ → Sign
sign_in row = cond (nat_lt (number_in row) 2) Plus Minus

-- the signed tuple of a row of a world
abbrev pub signed_in : Tables → List ℕ × List ℕ → Tuple × Sign
signed_in t e = (tuple_at t e.0, sign_in e.1)

-- the signed tuples of the rows of worlds whose keys begin so, in the order of the keys
abbrev pub signed_under : Tables → List ℕ → List (Tuple × Sign)
signed_under t begin = map (signed_in t) (rows_at t (val_codec.number ∷ begin))

-- the values that a relation's row spells: its name, how long its key is, and then a name and a kind for each column
abbrev pub rel_values : List ℕ → List Value
rel_values row = values_in (length row) row

-- how many columns a relation's row has
abbrev pub width_in : Option (List ℕ) → ℕ
width_in None = 0
width_in (Some row) = length (drop 2 (rel_values row)) / 2

-- the length that a value tells
abbrev pub length_told : Option Value → ℕ
length_told (Some (Int (pos n))) = n
length_told _ = 1

-- how long the key is of which a relation's row tells; where there is no row it counts as 1
abbrev pub length_in : Option (List ℕ) → ℕ
length_in None = 1
length_in (Some row) = length_told (slice_get (rel_values row) 1)

-- What tables show: how many places of users there are, and the users by number; where edges lead; the rows of worlds by key; how many columns relations have, and
-- how long their keys are.
unfoldable pub sight_of : Tables → Sight
sight_of t = record {
  places = length (user_rows t);
  users = filter_map user_in (user_rows t);
  edge = λ world uid. option_map number_in (tables.get t (place edge_codec (world, uid)));
  rows = λ world rel. cond (nat_lt rel (2 ^ 32)) (signed_under t (num_bytes world ++ num_bytes rel)) [];
  width = λ rel. cond (nat_lt rel (2 ^ 32)) (width_in (tables.get t (place rel_codec rel))) 0;
  keys = λ rel. cond (nat_lt rel (2 ^ 32)) (length_in (tables.get t (place rel_codec rel))) 1;
}
