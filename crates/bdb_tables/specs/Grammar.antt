-- Tables whose every key and row is in the grammar.
use Rattle.std.specs.Prelude.{◌≡◌, ℕ, nat_eq, List, ◌∷◌, Some}
use Rattle.std.specs.Bool.{MatchBool}
use Rattle.std.specs.FinMap as map
use Rattle.bdb_keep.specs.Tables.{Tables}
use Rattle.bdb_tables.specs.Codec.{IsEntryOf}
use Rattle.bdb_tables.specs.InUse.{meta_codec, user_codec, rel_codec, tuple_codec, tuple_ix_codec, depth_codec, link_codec, linked_codec, edge_codec, led_codec, val_codec, plain_codec}

-- these bytes are a key and a row of the table of a number; no other table has a row
abbrev pub IsEntry : ℕ → List ℕ → List ℕ → Type 0
IsEntry n k r =
    MatchBool (nat_eq n 1) (IsEntryOf meta_codec k r) (
    MatchBool (nat_eq n 2) (IsEntryOf user_codec k r) (
    MatchBool (nat_eq n 3) (IsEntryOf rel_codec k r) (
    MatchBool (nat_eq n 4) (IsEntryOf tuple_codec k r) (
    MatchBool (nat_eq n 5) (IsEntryOf tuple_ix_codec k r) (
    MatchBool (nat_eq n 6) (IsEntryOf depth_codec k r) (
    MatchBool (nat_eq n 7) (IsEntryOf link_codec k r) (
    MatchBool (nat_eq n 8) (IsEntryOf linked_codec k r) (
    MatchBool (nat_eq n 9) (IsEntryOf edge_codec k r) (
    MatchBool (nat_eq n 10) (IsEntryOf led_codec k r) (
    MatchBool (nat_eq n 11) (IsEntryOf val_codec k r) (
    MatchBool (nat_eq n 12) (IsEntryOf plain_codec k r) ⊥)))))))))))

-- every key and row is in the grammar of its table
abbrev pub InGrammar : Tables → Type 0
InGrammar t = (n : ℕ) (k r : List ℕ) → map.get t (n ∷ k) ≡ Some r → IsEntry n k r
