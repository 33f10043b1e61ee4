-- The twelve tables, each by its number, its keys and its rows. Tables 13 to 15 have no row.
use Rattle.std.specs.Prelude.{◌≡◌, ℕ, Bool, true, List, [], ◌++◌, length}
use Rattle.std.specs.declared.cmp.Ordering.TheVariants.{Equal}
use Rattle.std.specs.List.{AllByRecursion}
use Rattle.std.specs.Ordering.{nat_cmp, ordering_then}
use Rattle.bdb_base.specs.Alternation.{alternates}
use Rattle.bdb_base.specs.Order.{path_cmp, tuple_cmp}
use Rattle.bdb_base.specs.declared.kinds.RelDef.{RelDef}
use Rattle.bdb_base.specs.declared.kinds.Sign.{Sign}
use Rattle.bdb_base.specs.declared.kinds.UserSlot.{UserSlot}
use Rattle.bdb_base.specs.declared.kinds.Value.{Value}
use Rattle.bdb_base.specs.declared.tuple.Tuple.{Tuple}
use Rattle.bdb_key.specs.Bytes.{num_bytes, vals_bytes, path_bytes}
use Rattle.bdb_key.specs.Grammar.{IsNum, HasPlainText, AreKeyVals, IsKeyPath}
use Rattle.bdb_key.specs.Order.{vals_cmp}
use Rattle.bdb_key.specs.Rows.{IsRelRow, IsTupleRow, MayBeTuple, IsUserRow, IsAnySign, IsAnyMark, rel_bytes, tuple_bytes, slot_bytes, sign_bytes, mark_bytes}
use Rattle.bdb_tables.specs.Codec.{Codec, Keys, Rows, codec_of}

-- ---- keys

-- the one key of a table with one row
abbrev pub only_key : Keys (Unit {0})
only_key = record { MayBe = λ _. Unit {0}; Is = λ _. Unit {0}; bytes = λ _. num_bytes 0; cmp = λ _ _. Equal }

-- a number
abbrev pub number_keys : Keys ℕ
number_keys = record { MayBe = λ _. Unit {0}; Is = IsNum; bytes = num_bytes; cmp = nat_cmp }

-- two numbers of four bytes
pub record IsPair (key : ℕ × ℕ) : Type 0 where
  pub first : IsNum key.0
  pub second : IsNum key.1

abbrev pub pair_bytes : ℕ × ℕ → List ℕ
pair_bytes key = num_bytes key.0 ++ num_bytes key.1

-- two numbers
abbrev pub pair_keys : Keys (ℕ × ℕ)
pair_keys = record { MayBe = λ _. Unit {0}; Is = IsPair; bytes = pair_bytes; cmp = λ a b. ordering_then (nat_cmp a.0 b.0) (nat_cmp a.1 b.1) }

-- three numbers of four bytes
pub record IsTriple (key : ℕ × ℕ × ℕ) : Type 0 where
  pub first : IsNum key.0
  pub second : IsNum key.1
  pub third : IsNum key.2

abbrev pub triple_bytes : ℕ × ℕ × ℕ → List ℕ
triple_bytes key = num_bytes key.0 ++ num_bytes key.1 ++ num_bytes key.2

-- three numbers
abbrev pub triple_keys : Keys (ℕ × ℕ × ℕ)
triple_keys = record {
  MayBe = λ _. Unit {0};
  Is = IsTriple;
  bytes = triple_bytes;
  cmp = λ a b. ordering_then (nat_cmp a.0 b.0) (ordering_then (nat_cmp a.1 b.1) (nat_cmp a.2 b.2));
}

-- a tuple
abbrev pub tuple_keys : Keys Tuple
tuple_keys = record { MayBe = MayBeTuple; Is = IsTupleRow; bytes = tuple_bytes; cmp = tuple_cmp }

-- a world, a relation, the values of the relation's key and the number of a tuple
abbrev pub ValKey : Type 0
ValKey = ℕ × ℕ × List Value × ℕ

-- numbers of four bytes, and a list of integers of eight and of plain texts
pub record IsValKey (k : ValKey) : Type 0 where
  pub world : IsNum k.0
  pub rel : IsNum k.1
  pub key : AreKeyVals k.2
  pub tuple : IsNum k.3

abbrev pub val_bytes : ValKey → List ℕ
val_bytes k = num_bytes k.0 ++ num_bytes k.1 ++ vals_bytes k.2 ++ num_bytes k.3

-- not too many values, without the sizes of their numbers
pub record HaveKeyTexts (values : List Value) : Type 0 where
  pub short : IsNum (length values)
  pub texts : AllByRecursion HasPlainText values

-- a world, a relation, a key and a tuple
abbrev pub val_keys : Keys ValKey
val_keys = record {
  MayBe = λ k. HaveKeyTexts k.2;
  Is = IsValKey;
  bytes = val_bytes;
  cmp = λ a b. ordering_then (nat_cmp a.0 b.0) (ordering_then (nat_cmp a.1 b.1) (ordering_then (vals_cmp a.2 b.2) (nat_cmp a.3 b.3)));
}

-- a path and a tuple, without the sizes of their numbers
pub record MayBePlain (key : List ℕ × Tuple) : Type 0 where
  pub apart : alternates key.0 ≡ true
  pub short : IsNum (length key.0)
  pub tuple : MayBeTuple key.1

-- a path and a tuple
abbrev pub plain_keys : Keys (List ℕ × Tuple)
plain_keys = record {
  MayBe = MayBePlain;
  Is = λ key. IsKeyPath key.0 × IsTupleRow key.1;
  bytes = λ key. path_bytes key.0 ++ tuple_bytes key.1;
  cmp = λ a b. ordering_then (path_cmp a.0 b.0) (tuple_cmp a.1 b.1);
}

-- ---- rows

-- a number
abbrev pub number_rows : Rows ℕ
number_rows = record { MayBe = λ _. Unit {0}; Is = IsNum; bytes = num_bytes }

-- a place of the list of users: a live one by name, or one who is gone
abbrev pub slot_rows : Rows UserSlot
slot_rows = record { MayBe = IsUserRow; Is = IsUserRow; bytes = slot_bytes }

-- a relation
abbrev pub rel_rows : Rows RelDef
rel_rows = record { MayBe = IsRelRow; Is = IsRelRow; bytes = rel_bytes }

-- a tuple
abbrev pub tuple_rows : Rows Tuple
tuple_rows = record { MayBe = MayBeTuple; Is = IsTupleRow; bytes = tuple_bytes }

-- nothing
abbrev pub empty_rows : Rows (Unit {0})
empty_rows = record { MayBe = λ _. Unit {0}; Is = λ _. Unit {0}; bytes = λ _. [] }

-- a sign, and whether it is explicit
abbrev pub mark_rows : Rows (Sign × Bool)
mark_rows = record { MayBe = λ _. Unit {0}; Is = IsAnyMark; bytes = mark_bytes }

-- a sign
abbrev pub sign_rows : Rows Sign
sign_rows = record { MayBe = λ _. Unit {0}; Is = IsAnySign; bytes = sign_bytes }

-- ---- tables

-- table 1, with one row at most: the format
abbrev pub meta_codec : Codec (Unit {0}) ℕ
meta_codec = codec_of 1 only_key number_rows

-- table 2: the places of the users by number
abbrev pub user_codec : Codec ℕ UserSlot
user_codec = codec_of 2 number_keys slot_rows

-- table 3: the relations by number
abbrev pub rel_codec : Codec ℕ RelDef
rel_codec = codec_of 3 number_keys rel_rows

-- table 4: the tuples by number
abbrev pub tuple_codec : Codec ℕ Tuple
tuple_codec = codec_of 4 number_keys tuple_rows

-- table 5: the number of each tuple
abbrev pub tuple_ix_codec : Codec Tuple ℕ
tuple_ix_codec = codec_of 5 tuple_keys number_rows

-- table 6: the depth of each world
abbrev pub depth_codec : Codec ℕ ℕ
depth_codec = codec_of 6 number_keys number_rows

-- table 7: the world to which each world's suffix link leads
abbrev pub link_codec : Codec ℕ ℕ
link_codec = codec_of 7 number_keys number_rows

-- table 8: the suffix links turned round, each by the world to which it leads and the world that has it
abbrev pub linked_codec : Codec (ℕ × ℕ) (Unit {0})
linked_codec = codec_of 8 pair_keys empty_rows

-- table 9: the world to which each world's edge for a user leads
abbrev pub edge_codec : Codec (ℕ × ℕ) ℕ
edge_codec = codec_of 9 pair_keys number_rows

-- table 10: the edges turned round, each by the world to which it leads, the world that has it, and the user
abbrev pub led_codec : Codec (ℕ × ℕ × ℕ) (Unit {0})
led_codec = codec_of 10 triple_keys empty_rows

-- table 11: the sign of each tuple in each world, and whether it is explicit there
abbrev pub val_codec : Codec ValKey (Sign × Bool)
val_codec = codec_of 11 val_keys mark_rows

-- table 12: the sign of each statement by path and tuple
abbrev pub plain_codec : Codec (List ℕ × Tuple) Sign
plain_codec = codec_of 12 plain_keys sign_rows
