-- The statements that a delete or an update takes, as they are read from the rows of the world of their path.
use Rattle.std.specs.Prelude.{◌≡◌, ℕ, suc, ◌+◌, ◌≤◌, Bool, ◌&&◌, nat_eq, List, [], ◌∷◌, length, map, filter, take, Option, None, Some, cond}
use Prim.Native.Nat.{zero}
use Rattle.bdb_base.specs.Bases.{Contents, key_lengths}
use Rattle.bdb_base.specs.Changes.{taken_by}
use Rattle.bdb_base.specs.Clash.{key_of}
use Rattle.bdb_base.specs.Conditions.{meets}
use Rattle.bdb_base.specs.Order.{statement_cmp}
use Rattle.bdb_base.specs.Safety.{is_equality, first_there}
use Rattle.bdb_base.specs.Same.{same_sign, same_values}
use Rattle.bdb_base.specs.SortedSet.{put_all}
use Rattle.bdb_base.specs.WorldRows.{world_of}
use Rattle.bdb_base.specs.declared.kinds.Cond.{Cond}
use Rattle.bdb_base.specs.declared.kinds.Held.{Held}
use Rattle.bdb_base.specs.declared.kinds.Operand.{Operand}
use Rattle.bdb_base.specs.declared.kinds.Operand.TheVariants.{Col, Lit}
use Rattle.bdb_base.specs.declared.kinds.Sign.{Sign}
use Rattle.bdb_base.specs.declared.kinds.Stmt.{Stmt}
use Rattle.bdb_base.specs.declared.kinds.Value.{Value}
use Rattle.bdb_base.specs.declared.tuple.Tuple.{Tuple}
use Rattle.bdb_base.specs.SameLemmas.{statement_of}
use Rattle.bdb_keep.specs.Seen.{Seen}
use Rattle.bdb_keep.specs.Tables.{Tables}
use Rattle.bdb_tables.specs.Codec.{HasRow}
use Rattle.bdb_tables.specs.InUse.{ValKey, tuple_codec, val_codec}
use Rattle.bdb_tables.specs.Marks.{Mark}
use Rattle.bdb_tables.specs.Spans.{AreUnder}
use Rattle.bdb_tables.specs.Prefixes.{led_by}
use Rattle.bdb_worlds.specs.Bounds.{EndsWithin}
use Rattle.bdb_catalog.specs.Bases.{HasUsers}

-- whichever valid base the tables store with the users of a path, these are the statements of it that are taken
abbrev pub AreTaken : Tables → List ℕ → Sign → ℕ → List Cond → List Stmt → Type 0
AreTaken t w s rel conds xs = (b : Contents) → HasUsers t w b → xs ≡ taken_by w s rel conds b.stmts

-- ---- what tests ask for

-- the value of a literal
abbrev pub literal_of : Operand → Option Value
literal_of (Col r) = None
literal_of (Lit v) = Some v

-- a test asks for equality of a column
abbrev pub asks_for : Cond → ℕ → Bool
asks_for c col = is_equality c.cmp && (nat_eq c.left.item 0 && nat_eq c.left.col col)

-- the value that a test asks for of a column, where it is a literal
abbrev pub value_of_test : Cond → ℕ → Option Value
value_of_test c col = cond (asks_for c col) (literal_of c.right) None

-- the value that tests ask for of a column: that of the first test that asks for one
abbrev pub value_asked : List Cond → ℕ → Option Value
value_asked [] col = None
value_asked (c ∷ cs) col = first_there (value_of_test c col) (value_asked cs col)

-- ---- prefixes of keys

-- the values that are asked for of at most so many columns from one on, up to the first of which none is asked for
abbrev pub values_from : List Cond → ℕ → ℕ → List Value
values_from conds zero col = []
values_from conds (suc most) col = led_by (value_asked conds col) (values_from conds most (suc col))

-- the values that are asked for of the first columns of a key that has so many: as long a prefix of the key as there is
abbrev pub values_asked : List Cond → ℕ → List Value
values_asked conds n = values_from conds n 0

-- a key is so long, and its first values are these
abbrev pub starts_with : ℕ → List Value → List Value → Bool
starts_with n vs key = nat_eq (length key) n && same_values (take (length vs) key) vs

-- a tuple is of a relation, and its key, which is as long as the relation's keys, begins with these values
abbrev pub is_asked : (ℕ → ℕ) → ℕ → List Value → Tuple → Bool
is_asked keys rel vs u = nat_eq u.rel rel && starts_with (keys rel) vs (key_of keys u)

-- ---- rows and their tuples

-- a row is explicit, with this sign
abbrev pub is_said : Sign → ValKey × Mark → Bool
is_said s e = e.1.1 && same_sign e.1.0 s

-- tuples are those of rows, one by one
abbrev pub AreTuplesOf : Tables → List (ValKey × Mark) → List Tuple → Type 0
AreTuplesOf t [] [] = Unit {0}
AreTuplesOf t [] (u ∷ us) = ⊥
AreTuplesOf t (e ∷ es) [] = ⊥
AreTuplesOf t (e ∷ es) (u ∷ us) = HasRow tuple_codec t e.0.3 u × AreTuplesOf t es us

-- Of the rows whose keys begin so those that are explicit with a sign have these tuples, of which no other was read.
pub record AreTuplesRead (old new : Seen) (begin : List ℕ) (s : Sign) (us : List Tuple) : Type 0 where
  pub rows : List (ValKey × Mark)
  pub under : AreUnder val_codec old.kept begin rows
  pub told : AreTuplesOf old.kept (filter (is_said s) rows) us
  pub reads : new.reads ≤ old.reads + (length rows + length us + 1)

-- the statements of those tuples that meet all tests, in order
abbrev pub statements_of : List ℕ → Sign → List Cond → List Tuple → List Stmt
statements_of w s conds us = put_all statement_cmp [] (map (statement_of w s) (filter (meets conds) us))

-- ---- how much is read

-- the rows of a world whose tuples are of a relation and have a key that begins with the values that tests ask for
abbrev pub rows_asked : (ℕ → ℕ) → ℕ → List Cond → List Held → List Held
rows_asked keys rel conds rows = filter (λ h. is_asked keys rel (values_asked conds (keys rel)) h.tuple) rows

-- those of them that are explicit, with this sign
abbrev pub rows_said : (ℕ → ℕ) → Sign → ℕ → List Cond → List Held → List Held
rows_said keys s rel conds rows = filter (λ h. is_asked keys rel (values_asked conds (keys rel)) h.tuple && (h.explicit && same_sign h.sign s)) rows

-- Whichever valid base the tables store with the users of a path: one read for each of these users, one for each row of the
-- world of the path whose tuple's key begins with the values that tests ask for, one more for each of those that are explicit
-- with the sign, and three, at most: of how deep the path's state is, of the relation's key, and of no row behind the last.
abbrev pub ReadsTaken : Seen → Seen → List ℕ → Sign → ℕ → List Cond → Type 0
ReadsTaken old new w s rel conds = (b : Contents) → HasUsers old.kept w b
    → EndsWithin (length w + length (rows_asked (key_lengths b.catalog.rels) rel conds (world_of (key_lengths b.catalog.rels) b.stmts w))
    + length (rows_said (key_lengths b.catalog.rels) s rel conds (world_of (key_lengths b.catalog.rels) b.stmts w)) + 3) old.reads new.reads
