-- Rows whole: no two are written alike.
use Rattle.std.proofs.Common.{◌≡◌, ℕ, List, [], ◌++◌, append_assoc, refl, sym, ap, ◌∙◌, true}
use Rattle.bdb_base.specs.declared.kinds.ColDef.{ColDef}
use Rattle.bdb_base.specs.declared.kinds.RelDef.{RelDef}
use Rattle.bdb_base.specs.declared.kinds.UserSlot.{UserSlot}
use Rattle.bdb_base.specs.declared.kinds.UserSlot.TheVariants.{Live, Gone}
use Rattle.bdb_base.specs.declared.kinds.Value.{Value}
use Rattle.bdb_base.specs.declared.kinds.Sign.{Sign}
use Rattle.bdb_base.specs.declared.kinds.Sign.TheVariants as signs
use Rattle.bdb_base.specs.declared.tuple.Tuple.{Tuple}
use Rattle.bdb_base.specs.Segments.{is_prefix}
use Rattle.bdb_base.specs.SameLemmas.{same_path-Decides}
use Rattle.bdb_base.proofs.SegmentLemmas.{is_prefix_begins}
use Rattle.bdb_key.specs.Bytes.{num_bytes, text_bytes, values_bytes}
use Rattle.bdb_key.specs.Grammar.{IsNum, IsPlain}
use Rattle.bdb_key.specs.Rows.{IsRelRow, IsTupleRow, IsUserRow, cols_bytes, length_bytes, rel_bytes, tuple_bytes, slot_bytes, sign_bytes}
use Rattle.bdb_key.proofs.Compared.{rows, rows_tie}
use Rattle.bdb_key.proofs.Forms.{tied}
use Rattle.bdb_key.proofs.Readings.{num_form, text_form, length_form, one_cols}

pub one_num : (a b : ℕ) → IsNum a → IsNum b → num_bytes a ≡ num_bytes b → a ≡ b
one_num a b fa fb e = (num_form a b [] [] fa fb (ap (λ (x : List ℕ). x ++ []) e)).0

pub one_text : (a b : List ℕ) → IsPlain a → IsPlain b → text_bytes a ≡ text_bytes b → a ≡ b
one_text a b fa fb e = (text_form a b [] [] fa fb (ap (λ (x : List ℕ). x ++ []) e)).0

pub one_slot : (a b : UserSlot) → IsUserRow a → IsUserRow b → slot_bytes a ≡ slot_bytes b → a ≡ b
one_slot (Live s) (Live t) fa fb e = ap Live (one_text s t fa fb e)
one_slot (Live s) Gone fa fb e = absurd cc
one_slot Gone (Live t) fa fb e = absurd cc
one_slot Gone Gone fa fb e = refl

def_of : List ℕ → List ColDef → ℕ → RelDef
def_of n c k = record { name = n; cols = c; key = k }

pub one_rel : (a b : RelDef) → IsRelRow a → IsRelRow b → rel_bytes a ≡ rel_bytes b → a ≡ b
unfolding def_of
one_rel a b fa fb e =
    let form = text_form a.name b.name (length_bytes a.key ++ cols_bytes a.cols) (length_bytes b.key ++ cols_bytes b.cols) fa.name fb.name
    (sym (append_assoc (text_bytes a.name) (length_bytes a.key) (cols_bytes a.cols)) ∙ e ∙ append_assoc (text_bytes b.name) (length_bytes b.key) (cols_bytes b.cols)) in
    let long = length_form a.key b.key (cols_bytes a.cols) (cols_bytes b.cols) fa.short fb.short form.1 in
    ap (λ n. def_of n a.cols a.key) form.0 ∙ ap (λ c. def_of b.name c a.key) (one_cols a.cols b.cols fa.names fb.names long.1) ∙ ap (def_of b.name b.cols) long.0

tuple_made : ℕ → List Value → Tuple
tuple_made r v = record { rel = r; vals = v }

pub one_tuple : (a b : Tuple) → IsTupleRow a → IsTupleRow b → tuple_bytes a ≡ tuple_bytes b → a ≡ b
unfolding tuple_made
one_tuple a b fa fb e =
    let form = num_form a.rel b.rel (values_bytes a.vals) (values_bytes b.vals) fa.rel fb.rel e in
    let vals = rows_tie a.vals b.vals (sym (rows a.vals b.vals fa.plain fb.plain) ∙ tied (values_bytes a.vals) (values_bytes b.vals) form.1) in
    ap (λ r. tuple_made r a.vals) form.0 ∙ ap (λ v. tuple_made b.rel v) vals

pub one_sign : (a b : Sign) → sign_bytes a ≡ sign_bytes b → a ≡ b
one_sign signs.Plus signs.Plus e = refl
one_sign signs.Plus signs.Minus e = absurd cc
one_sign signs.Minus signs.Plus e = absurd cc
one_sign signs.Minus signs.Minus e = refl

pub number_begins : (n a : ℕ) (rest : List ℕ) → IsNum n → IsNum a → is_prefix (num_bytes n) (num_bytes a ++ rest) ≡ true → a ≡ n
number_begins n a rest fn fa e = one_num a n fa fn (sym ((same_path-Decides (num_bytes n) (num_bytes a)).0 (sym (is_prefix_begins (num_bytes n) (num_bytes a ++ rest)) ∙ e)))
