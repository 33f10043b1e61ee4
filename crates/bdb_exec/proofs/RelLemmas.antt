-- What the row of a relation spells: its name, how long its key is, and its columns.
use Rattle.std.proofs.Common.{◌≡◌, ◌∙◌, ℕ, ◌*◌, ◌/◌, ◌<◌, ◌^◌, lit<, pos, List, [], ◌∷◌, ◌++◌, Some, length, drop, refl, ap, sym, arith}
use Rattle.std.specs.List.{AllByRecursion, slice_get}
use Rattle.std.proofs.lemmas.List.{append_assoc}
use Rattle.bdb_base.specs.declared.kinds.ColDef.{ColDef}
use Rattle.bdb_base.specs.declared.kinds.Kind.{Kind}
use Rattle.bdb_base.specs.declared.kinds.Kind.TheVariants as kinds
use Rattle.bdb_base.specs.declared.kinds.RelDef.{RelDef}
use Rattle.bdb_base.specs.declared.kinds.Value.{Value}
use Rattle.bdb_base.specs.declared.kinds.Value.TheVariants.{Int, Text}
use Rattle.bdb_key.specs.Bytes.{text_bytes, value_bytes, values_bytes}
use Rattle.bdb_key.specs.Grammar.{ArePlain, IsPlainValue}
use Rattle.bdb_key.specs.Rows.{IsRelRow, IsCol, rel_bytes, length_bytes, cols_bytes, kind_bytes}
use Rattle.bdb_exec.specs.Seen.{rel_values, width_in, length_told, length_in}
use Rattle.bdb_exec.proofs.SpelledLemmas.{values_back, values_short}

-- ---- columns

kind_value : Kind → Value
kind_value kinds.Int = Int (pos 0)
kind_value kinds.Text = Int (pos 1)

col_values : List ColDef → List Value
col_values [] = []
col_values (c ∷ cs) = Text c.name ∷ kind_value c.kind ∷ col_values cs

kind_spelled : (k : Kind) → value_bytes (kind_value k) ≡ kind_bytes k
unfolding kind_value
kind_spelled kinds.Int = refl
kind_spelled kinds.Text = refl

kind_plain : (k : Kind) → IsPlainValue (kind_value k)
unfolding kind_value
kind_plain kinds.Int = record { sfits = lit< tt }
kind_plain kinds.Text = record { sfits = lit< tt }

cols_spelled : (cs : List ColDef) → values_bytes (col_values cs) ≡ cols_bytes cs
unfolding col_values
cols_spelled [] = refl
cols_spelled (c ∷ cs) =
    ap (λ k. text_bytes c.name ++ (k ++ values_bytes (col_values cs))) (kind_spelled c.kind)
    ∙ ap (λ (r : List ℕ). text_bytes c.name ++ (kind_bytes c.kind ++ r)) (cols_spelled cs)
    ∙ sym (append_assoc (text_bytes c.name) (kind_bytes c.kind) (cols_bytes cs))

cols_plain : (cs : List ColDef) → AllByRecursion IsCol cs → ArePlain (col_values cs)
unfolding col_values
cols_plain [] a = tt
cols_plain (c ∷ cs) a = (a.0, (kind_plain c.kind, cols_plain cs a.1))

cols_many : (cs : List ColDef) → length (col_values cs) ≡ 2 * length cs
unfolding col_values
cols_many [] = refl
cols_many (c ∷ cs) = let rest = cols_many cs in omega arith

-- ---- relations

-- the values of a relation's row
of_rel : RelDef → List Value
of_rel def = Text def.name ∷ Int (pos def.key) ∷ col_values def.cols

rel_spelled : (def : RelDef) → values_bytes (of_rel def) ≡ rel_bytes def
unfolding of_rel
rel_spelled def =
    ap (λ (r : List ℕ). text_bytes def.name ++ (length_bytes def.key ++ r)) (cols_spelled def.cols)
    ∙ sym (append_assoc (text_bytes def.name) (length_bytes def.key) (cols_bytes def.cols))

rel_plain : (def : RelDef) → IsRelRow def → ArePlain (of_rel def)
unfolding of_rel
rel_plain def h = (h.name, (record { sfits = whole def.key h.short }, cols_plain def.cols h.names))
  where
    whole : (n : ℕ) → n < 2 ^ 32 → n < 2 ^ 63
    whole n lt = omega arith

rel_back : (def : RelDef) → IsRelRow def → rel_values (rel_bytes def) ≡ of_rel def
rel_back def h =
    ap rel_values (sym (rel_spelled def))
    ∙ values_back (length (values_bytes (of_rel def))) (of_rel def) (rel_plain def h) (values_short (of_rel def))

pub width_of : (def : RelDef) → IsRelRow def → width_in (Some (rel_bytes def)) ≡ length def.cols
unfolding of_rel
width_of def h =
    ap (λ (vs : List Value). length (drop 2 vs) / 2) (rel_back def h) ∙ ap (λ n. n / 2) (cols_many def.cols) ∙ half (length def.cols)
  where
    half : (n : ℕ) → (2 * n) / 2 ≡ n
    half n = omega arith

pub length_of : (def : RelDef) → IsRelRow def → length_in (Some (rel_bytes def)) ≡ def.key
unfolding of_rel
length_of def h = ap (λ (vs : List Value). length_told (slice_get vs 1)) (rel_back def h)
