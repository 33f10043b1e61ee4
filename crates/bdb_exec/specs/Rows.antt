-- Rows of worlds as they are read.
use Rattle.std.specs.Prelude.{◌≡◌, ℕ, Bool, not, List, [], ◌∷◌, ◌++◌, Option, MatchOption}
use Rattle.std.specs.FinMap as tables
use Rattle.std.specs.Option.{option_map, unwrap_or}
use Rattle.bdb_base.specs.Bases.{live_name}
use Rattle.bdb_base.specs.declared.kinds.Sign.{Sign}
use Rattle.bdb_base.specs.declared.kinds.Sign.TheVariants.{Plus, Minus}
use Rattle.bdb_base.specs.declared.kinds.UserSlot.{UserSlot}
use Rattle.bdb_base.specs.declared.tuple.Tuple.{Tuple}
use Rattle.bdb_keep.specs.Tables.{Tables}
use Rattle.bdb_key.specs.Bytes.{num_bytes}
use Rattle.bdb_key.specs.Grammar.{IsNum}
use Rattle.bdb_queries.specs.Slots.{user_tuple}
use Rattle.bdb_tables.specs.Codec.{HasRow, place}
use Rattle.bdb_tables.specs.InUse.{ValKey, tuple_codec, val_codec}
use Rattle.bdb_tables.specs.Marks.{Mark}
use Rattle.bdb_tables.specs.Names.{leads_to}
use Rattle.bdb_exec.specs.Seen.{signed_in}
use Rattle.bdb_exec.specs.Spelled.{tuple_in}

-- the tuple of a user, by number and place; none of one who is gone
abbrev pub tuple_of_slot : ℕ × UserSlot → Option Tuple
tuple_of_slot e = option_map (user_tuple e.0) (live_name e.1)

-- how the keys of a world's rows of a relation begin
abbrev pub relation_prefix : ℕ → ℕ → List ℕ
relation_prefix world rel = num_bytes world ++ num_bytes rel

-- a row's signed tuple, as the tables show it
abbrev pub signed_of : Tables → ValKey × Mark → Tuple × Sign
signed_of t e = signed_in t (place val_codec e.0, val_codec.row_bytes e.1)

-- the tuple of a number, with the sign that is told beside it
abbrev pub signed_at : Tables → ℕ × Mark → Tuple × Sign
signed_at t x = (tuple_in (unwrap_or (tables.get t (place tuple_codec x.0)) []), x.1.0)

-- the number stands for a tuple
abbrev pub HasTuple : Tables → ℕ × Mark → Type 0
HasTuple t x = (u : Tuple) × HasRow tuple_codec t x.0 u

-- the number that stands for a tuple; none where none does
abbrev pub IsNumberOf : Tables → Tuple → Option ℕ → Type 0
IsNumberOf t u number = MatchOption number ((tid : ℕ) → IsNum tid → HasRow tuple_codec t tid u → ⊥) (λ tid. IsNum tid × HasRow tuple_codec t tid u)

-- a row of the key of a tuple denies it, by its sign and by whether it is the tuple's own
abbrev pub denies_by : Sign → Bool → Bool
denies_by Plus own = not own
denies_by Minus own = own

-- a row of the key of the tuple that has this number denies the tuple
abbrev pub row_denies : Option ℕ → ValKey × Mark → Bool
row_denies number e = denies_by e.1.0 (leads_to number e.0.3)

-- the same, told by the number of a row's tuple
abbrev pub mark_denies : Option ℕ → ℕ × Mark → Bool
mark_denies number x = denies_by x.1.0 (leads_to number x.0)

-- the tuple of a number was appended where its sign is plus
abbrev pub HasPushed : Tables → ℕ → Sign → List Tuple → List Tuple → Type 0
HasPushed t tid Plus old new = (u : Tuple) × (new ≡ old ++ u ∷ []) × HasRow tuple_codec t tid u
HasPushed t tid Minus old new = new ≡ old
