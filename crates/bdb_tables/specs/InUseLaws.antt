-- Keys come in the order of their bytes, and no two keys or rows are written alike. This follows for every table from the
-- laws on keys of parts and on rows: a form of keys has to tell its parts, and a form of rows the row that each is.
use Rattle.std.specs.Prelude.{◌≡◌, ℕ, Bool, List, [], ◌∷◌, ◌++◌, map, refl}
use Rattle.std.specs.List.{AllByRecursion}
use Rattle.std.specs.Ordering.{nat_cmp, ordering_then}
use Rattle.std.proofs.Common.{sym, ap, ◌∙◌}
use Rattle.bdb_base.specs.Order.{value_cmp, row_cmp, path_cmp}
use Rattle.bdb_base.specs.declared.kinds.Sign.{Sign}
use Rattle.bdb_base.specs.declared.kinds.Value.{Value}
use Rattle.bdb_base.specs.declared.tuple.Tuple.{Tuple}
use Rattle.bdb_base.specs.Same.{tuple_of}
use Rattle.bdb_base.proofs.Numbers.{then_equal}
use Rattle.bdb_key.specs.declared.part.Part.{Part}
use Rattle.bdb_key.specs.declared.part.Part.TheVariants.{Num, Val, Vals, Path}
use Rattle.bdb_key.specs.declared.part.Slot.{Slot}
use Rattle.bdb_key.specs.declared.part.Slot.TheVariants as slots
use Rattle.bdb_key.specs.declared.row.TabRow.{TabRow}
use Rattle.bdb_key.specs.declared.row.TabRow.TheVariants as rows
use Rattle.bdb_key.specs.Bytes.{key_bytes, num_bytes, value_bytes, values_bytes, path_bytes}
use Rattle.bdb_key.specs.Grammar.{FitsSlot, ArePlain}
use Rattle.bdb_key.specs.Order.{key_cmp, vals_cmp}
use Rattle.bdb_key.proofs.Keys.{keys_keep_order, keys_have_one_spelling}
use Rattle.bdb_key.proofs.OneRow.{rows_have_one_spelling}
use Rattle.bdb_keep.specs.Tables.{bytes_cmp}
use Rattle.bdb_tables.specs.Codec.{Keys, Rows, KeysInOrder, KeysAreOne, RowsAreOne}
use Rattle.bdb_tables.specs.InUse.{ValKey, only_key, number_keys, pair_keys, triple_keys, tuple_keys, val_keys, plain_keys, number_rows, slot_rows, rel_rows, tuple_rows, empty_rows, mark_rows, sign_rows}
use Rattle.bdb_tables.specs.Parts.{ArePartsOf, AreRowsOf}

-- ---- from parts and rows to the laws

pub keys_in_order : {Key : Type 0} (shape : List Slot) (keys : Keys Key) (parts_of : Key → List Part) → ArePartsOf shape keys parts_of → KeysInOrder keys
keys_in_order shape keys parts_of h a b fa fb =
    ap (λ x. bytes_cmp x (keys.bytes b)) (sym (h.bytes a)) ∙ ap (λ y. bytes_cmp (key_bytes (parts_of a)) y) (sym (h.bytes b))
    ∙ keys_keep_order shape (parts_of a) (parts_of b) (h.fits a fa) (h.fits b fb) ∙ h.order a b

pub keys_are_one : {Key : Type 0} (shape : List Slot) (keys : Keys Key) (parts_of : Key → List Part) → ArePartsOf shape keys parts_of → KeysAreOne keys
keys_are_one shape keys parts_of h a b fa fb e =
    h.one a b (keys_have_one_spelling shape (parts_of a) (parts_of b) (h.fits a fa) (h.fits b fb) (h.bytes a ∙ e ∙ sym (h.bytes b)))

pub rows_are_one : {Row : Type 0} (table : ℕ) (rows : Rows Row) (row_of : Row → TabRow) → AreRowsOf table rows row_of → RowsAreOne rows
rows_are_one table rows row_of h a b fa fb e =
    h.one a b (rows_have_one_spelling table (row_of a) (row_of b) (h.fits a fa) (h.fits b fb) (h.bytes a ∙ e ∙ sym (h.bytes b)))

-- ---- values up to the end, as parts

abbrev values_parts : List Value → List Part
values_parts vals = map Val vals

values_fit : (vals : List Value) → ArePlain vals → AllByRecursion (FitsSlot slots.Rest) (values_parts vals)
values_fit [] f = tt
values_fit (v ∷ vals) f = (f.0, values_fit vals f.1)

values_spelled : (vals : List Value) → key_bytes (values_parts vals) ≡ values_bytes vals
values_spelled [] = refl
values_spelled (v ∷ vals) = ap (λ (x : List ℕ). value_bytes v ++ x) (values_spelled vals)

values_order : (a b : List Value) → key_cmp (values_parts a) (values_parts b) ≡ row_cmp a b
values_order [] [] = refl
values_order [] (w ∷ b) = refl
values_order (v ∷ a) [] = refl
values_order (v ∷ a) (w ∷ b) = ap (λ o. ordering_then (value_cmp v w) o) (values_order a b)

val_one : (v w : Value) → Val v ≡ Val w → v ≡ w
val_one v w e = cc

values_one : (a b : List Value) → values_parts a ≡ values_parts b → a ≡ b
values_one [] [] e = refl
values_one [] (w ∷ b) e = absurd cc
values_one (v ∷ a) [] e = absurd cc
values_one (v ∷ a) (w ∷ b) e =
    let head : Val v ≡ Val w = cc in
    let tail : values_parts a ≡ values_parts b = cc in
    ap (λ x. x ∷ a) (val_one v w head) ∙ ap (λ (x : List Value). w ∷ x) (values_one a b tail)

-- ---- each form of keys in its parts

number_parts : ArePartsOf (slots.Num ∷ []) number_keys (λ n. Num n ∷ [])
number_parts = record { fits = λ n f. (f, tt); bytes = λ n. refl; order = λ a b. then_equal (nat_cmp a b); one = λ a b e. cc }

pub numbers_in_order : KeysInOrder number_keys
numbers_in_order = keys_in_order _ _ _ number_parts

pub numbers_are_one : KeysAreOne number_keys
numbers_are_one = keys_are_one _ _ _ number_parts

pair_of : ℕ → ℕ → ℕ × ℕ
pair_of m n = (m, n)

pairs_one : (a b : ℕ × ℕ) → Num a.0 ∷ Num a.1 ∷ [] ≡ Num b.0 ∷ Num b.1 ∷ [] → a ≡ b
unfolding pair_of
pairs_one a b e =
    let x : a.0 ≡ b.0 = cc in
    let y : a.1 ≡ b.1 = cc in
    ap (λ m. pair_of m a.1) x ∙ ap (λ n. pair_of b.0 n) y

pair_parts : ArePartsOf (slots.Num ∷ slots.Num ∷ []) pair_keys (λ k. Num k.0 ∷ Num k.1 ∷ [])
pair_parts = record {
  fits = λ k f. (f.first, (f.second, tt));
  bytes = λ k. refl;
  order = λ a b. ap (λ o. ordering_then (nat_cmp a.0 b.0) o) (then_equal (nat_cmp a.1 b.1));
  one = pairs_one;
}

pub pairs_in_order : KeysInOrder pair_keys
pairs_in_order = keys_in_order _ _ _ pair_parts

pub pairs_are_one : KeysAreOne pair_keys
pairs_are_one = keys_are_one _ _ _ pair_parts

triple_of : ℕ → ℕ → ℕ → ℕ × ℕ × ℕ
triple_of m n i = (m, n, i)

triples_one : (a b : ℕ × ℕ × ℕ) → Num a.0 ∷ Num a.1 ∷ Num a.2 ∷ [] ≡ Num b.0 ∷ Num b.1 ∷ Num b.2 ∷ [] → a ≡ b
unfolding triple_of
triples_one a b e =
    let x : a.0 ≡ b.0 = cc in
    let y : a.1 ≡ b.1 = cc in
    let z : a.2 ≡ b.2 = cc in
    ap (λ m. triple_of m a.1 a.2) x ∙ ap (λ n. triple_of b.0 n a.2) y ∙ ap (λ i. triple_of b.0 b.1 i) z

triple_parts : ArePartsOf (slots.Num ∷ slots.Num ∷ slots.Num ∷ []) triple_keys (λ k. Num k.0 ∷ Num k.1 ∷ Num k.2 ∷ [])
triple_parts = record {
  fits = λ k f. (f.first, (f.second, (f.third, tt)));
  bytes = λ k. refl;
  order = λ a b. ap (λ o. ordering_then (nat_cmp a.0 b.0) (ordering_then (nat_cmp a.1 b.1) o)) (then_equal (nat_cmp a.2 b.2));
  one = triples_one;
}

pub triples_in_order : KeysInOrder triple_keys
triples_in_order = keys_in_order _ _ _ triple_parts

pub triples_are_one : KeysAreOne triple_keys
triples_are_one = keys_are_one _ _ _ triple_parts

tuples_one : (a b : Tuple) → Num a.rel ∷ values_parts a.vals ≡ Num b.rel ∷ values_parts b.vals → a ≡ b
tuples_one a b e =
    let x : a.rel ≡ b.rel = cc in
    let y : values_parts a.vals ≡ values_parts b.vals = cc in
    ap (λ r. tuple_of r a.vals) x ∙ ap (λ v. tuple_of b.rel v) (values_one a.vals b.vals y)

tuple_parts : ArePartsOf (slots.Num ∷ slots.Rest ∷ []) tuple_keys (λ t. Num t.rel ∷ values_parts t.vals)
tuple_parts = record {
  fits = λ t f. (f.rel, values_fit t.vals f.plain);
  bytes = λ t. ap (λ (x : List ℕ). num_bytes t.rel ++ x) (values_spelled t.vals);
  order = λ a b. ap (λ o. ordering_then (nat_cmp a.rel b.rel) o) (values_order a.vals b.vals);
  one = tuples_one;
}

pub tuples_in_order : KeysInOrder tuple_keys
tuples_in_order = keys_in_order _ _ _ tuple_parts

pub tuples_are_one : KeysAreOne tuple_keys
tuples_are_one = keys_are_one _ _ _ tuple_parts

val_of : ℕ → ℕ → List Value → ℕ → ValKey
val_of m n v i = (m, n, v, i)

vals_one : (a b : ValKey) → Num a.0 ∷ Num a.1 ∷ Vals a.2 ∷ Num a.3 ∷ [] ≡ Num b.0 ∷ Num b.1 ∷ Vals b.2 ∷ Num b.3 ∷ [] → a ≡ b
unfolding val_of
vals_one a b e =
    let x : a.0 ≡ b.0 = cc in
    let y : a.1 ≡ b.1 = cc in
    let v : a.2 ≡ b.2 = cc in
    let z : a.3 ≡ b.3 = cc in
    ap (λ m. val_of m a.1 a.2 a.3) x ∙ ap (λ n. val_of b.0 n a.2 a.3) y ∙ ap (λ w. val_of b.0 b.1 w a.3) v ∙ ap (λ i. val_of b.0 b.1 b.2 i) z

val_parts : ArePartsOf (slots.Num ∷ slots.Num ∷ slots.Vals ∷ slots.Num ∷ []) val_keys (λ k. Num k.0 ∷ Num k.1 ∷ Vals k.2 ∷ Num k.3 ∷ [])
val_parts = record {
  fits = λ k f. (f.world, (f.rel, (f.key, (f.tuple, tt))));
  bytes = λ k. refl;
  order = λ a b. ap (λ o. ordering_then (nat_cmp a.0 b.0) (ordering_then (nat_cmp a.1 b.1) (ordering_then (vals_cmp a.2 b.2) o))) (then_equal (nat_cmp a.3 b.3));
  one = vals_one;
}

pub vals_in_order : KeysInOrder val_keys
vals_in_order = keys_in_order _ _ _ val_parts

pub vals_are_one : KeysAreOne val_keys
vals_are_one = keys_are_one _ _ _ val_parts

plain_of : List ℕ → Tuple → List ℕ × Tuple
plain_of path t = (path, t)

plains_one : (a b : List ℕ × Tuple) → Path a.0 ∷ Num a.1.rel ∷ values_parts a.1.vals ≡ Path b.0 ∷ Num b.1.rel ∷ values_parts b.1.vals → a ≡ b
unfolding plain_of
plains_one a b e =
    let x : a.0 ≡ b.0 = cc in
    let y : Num a.1.rel ∷ values_parts a.1.vals ≡ Num b.1.rel ∷ values_parts b.1.vals = cc in
    ap (λ p. plain_of p a.1) x ∙ ap (λ t. plain_of b.0 t) (tuples_one a.1 b.1 y)

plain_parts : ArePartsOf (slots.Path ∷ slots.Num ∷ slots.Rest ∷ []) plain_keys (λ k. Path k.0 ∷ Num k.1.rel ∷ values_parts k.1.vals)
plain_parts = record {
  fits = λ k f. (f.0, (f.1.rel, values_fit k.1.vals f.1.plain));
  bytes = λ k. ap (λ (x : List ℕ). path_bytes k.0 ++ x) (ap (λ (x : List ℕ). num_bytes k.1.rel ++ x) (values_spelled k.1.vals));
  order = λ a b. ap (λ o. ordering_then (path_cmp a.0 b.0) (ordering_then (nat_cmp a.1.rel b.1.rel) o)) (values_order a.1.vals b.1.vals);
  one = plains_one;
}

pub plains_in_order : KeysInOrder plain_keys
plains_in_order = keys_in_order _ _ _ plain_parts

pub plains_are_one : KeysAreOne plain_keys
plains_are_one = keys_are_one _ _ _ plain_parts

-- ---- each form of rows as rows of a table

pub number_rows_are_one : RowsAreOne number_rows
number_rows_are_one = rows_are_one 5 number_rows rows.Tid (record { fits = λ n f. record { of = refl; fits = f }; bytes = λ n. refl; one = λ a b e. cc })

pub slot_rows_are_one : RowsAreOne slot_rows
slot_rows_are_one = rows_are_one 2 slot_rows rows.User (record { fits = λ s f. record { of = refl; fits = f }; bytes = λ s. refl; one = λ a b e. cc })

pub rel_rows_are_one : RowsAreOne rel_rows
rel_rows_are_one = rows_are_one 3 rel_rows rows.Rel (record { fits = λ d f. record { of = refl; fits = f }; bytes = λ d. refl; one = λ a b e. cc })

pub tuple_rows_are_one : RowsAreOne tuple_rows
tuple_rows_are_one = rows_are_one 4 tuple_rows rows.Tuple (record { fits = λ t f. record { of = refl; fits = f }; bytes = λ t. refl; one = λ a b e. cc })

mark_pair : Sign → Bool → Sign × Bool
mark_pair s m = (s, m)

marks_one : (a b : Sign × Bool) → rows.Val a.0 a.1 ≡ rows.Val b.0 b.1 → a ≡ b
unfolding mark_pair
marks_one a b e =
    let x : a.0 ≡ b.0 = cc in
    let y : a.1 ≡ b.1 = cc in
    ap (λ s. mark_pair s a.1) x ∙ ap (λ m. mark_pair b.0 m) y

pub mark_rows_are_one : RowsAreOne mark_rows
mark_rows_are_one = rows_are_one 11 mark_rows (λ m. rows.Val m.0 m.1) (record { fits = λ m f. record { of = refl; fits = tt }; bytes = λ m. refl; one = marks_one })

pub sign_rows_are_one : RowsAreOne sign_rows
sign_rows_are_one = rows_are_one 12 sign_rows rows.Plain (record { fits = λ s f. record { of = refl; fits = tt }; bytes = λ s. refl; one = λ a b e. cc })

-- the one key and the one row without content
pub only_key_is_one : KeysAreOne only_key
only_key_is_one a b fa fb e = refl

pub empty_rows_are_one : RowsAreOne empty_rows
empty_rows_are_one a b fa fb e = refl
