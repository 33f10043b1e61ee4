-- What is read from the front of bytes is all that stands there.
use Rattle.std.proofs.Common.{◌≡◌, ℕ, pos, lit<, suc, ◌+◌, ◌<◌, ◌≤◌, true, false, not, length, List, [], ◌∷◌, ◌++◌, refl, sym, ap, subst, ◌∙◌, arith}
use Rattle.std.specs.Prelude.{nat_le, nat_eq}
use Rattle.std.specs.Ordering.{nat_cmp}
use Rattle.std.specs.Cmp.Lexicographic.{slice_cmp}
use Rattle.std.specs.List.{list_all, flat_map, AllByRecursion}
use Rattle.std.specs.Str.{IsUtf8, is_utf8}
use Rattle.std.specs.FinMap.{nat_cmp-IsAntisymmetric}
use Rattle.std.proofs.lemmas.Bool.{and_parts, and_from, false_from_ne_true, false≢true}
use Rattle.std.proofs.lemmas.Bool.Decides.{nat_tests}
use Rattle.std.proofs.lemmas.List.{append_assoc, append-nil, flat_map_more, length_push}
use Rattle.std.proofs.lemmas.Str.{IsUtf8-from_is_utf8, is_utf8-from_IsUtf8}
use Rattle.bdb_base.specs.Alternation.{alternates}
use Rattle.bdb_base.specs.Bases.{is_plain}
use Rattle.bdb_base.specs.Order.{value_cmp, path_cmp}
use Rattle.bdb_base.specs.declared.kinds.Value.{Value}
use Rattle.bdb_base.specs.declared.kinds.Value.TheVariants.{Int, Text}
use Rattle.bdb_base.specs.declared.kinds.Kind.{Kind}
use Rattle.bdb_base.specs.declared.kinds.Kind.TheVariants as kinds
use Rattle.bdb_base.specs.declared.kinds.ColDef.{ColDef}
use Rattle.std.specs.Prelude.{FitsSigned}
use Rattle.std.specs.Int.{w64}
use Rattle.bdb_base.specs.declared.kinds.Sign.TheVariants as signs
use Rattle.bdb_base.specs.declared.kinds.RelDef.{RelDef}
use Rattle.bdb_key.specs.Rows.{IsAnyKind, IsCol, IsAnySign, IsRelRow, IsTupleRow, tuple_bytes, kind_bytes, col_bytes, cols_bytes, length_bytes, rel_bytes, sign_bytes}
use Rattle.bdb_key.specs.Bytes.{num_bytes, int_bytes, text_bytes, value_bytes, values_bytes, path_bytes}
use Rattle.bdb_key.specs.Grammar.{IsNum, IsPlain, IsPlainValue, ArePlain, IsKeyPath}
use Rattle.bdb_key.specs.Reading.{Leads, NoneLeads, Reads, NoneReads, AreMany, nums_bytes, HasNoEnd, SplitsAtZero}
use Rattle.bdb_key.proofs.Compared.{nums, users, values, paths, values_tie, paths_tie, printing, IsPrinting}
use Rattle.bdb_key.proofs.Forms.{one_form, both_equal, same_bytes, tied}

pub num_form : (a b : ℕ) (x y : List ℕ) → IsNum a → IsNum b → num_bytes a ++ x ≡ num_bytes b ++ y → (a ≡ b) × (x ≡ y)
num_form = one_form IsNum num_bytes nat_cmp nums nat_cmp-IsAntisymmetric

pub value_form : (a b : Value) (x y : List ℕ) → IsPlainValue a → IsPlainValue b → value_bytes a ++ x ≡ value_bytes b ++ y → (a ≡ b) × (x ≡ y)
value_form = one_form IsPlainValue value_bytes value_cmp values values_tie

pub path_form : (a b : List ℕ) (x y : List ℕ) → IsKeyPath a → IsKeyPath b → path_bytes a ++ x ≡ path_bytes b ++ y → (a ≡ b) × (x ≡ y)
path_form = one_form IsKeyPath path_bytes path_cmp paths paths_tie

-- ---- lists

pub all_push : {X : Type 0} (P : X → Type 0) (xs : List X) (x : X) → AllByRecursion P xs → P x → AllByRecursion P (xs ++ x ∷ [])
all_push P [] x h p = (p, tt)
all_push P (y ∷ xs) x h p = (h.0, all_push P xs x h.1 p)

pub seq_push : {X : Type 0} (spelling : X → List ℕ) (bytes rest more : List ℕ) (xs : List X) (x : X)
    → bytes ≡ flat_map spelling xs ++ rest → rest ≡ spelling x ++ more → bytes ≡ flat_map spelling (xs ++ x ∷ []) ++ more
seq_push spelling bytes rest more xs x e f =
    e ∙ ap (λ r. flat_map spelling xs ++ r) f ∙ sym (append_assoc (flat_map spelling xs) (spelling x) more)
    ∙ ap (λ (r : List ℕ). r ++ more) (flat_map_more spelling [] xs x)

-- no spelling is empty or begins another
pub record IsForm {A : Type 0} (Fits : A → Type 0) (spelling : A → List ℕ) : Type 0 where
  pub form : (a b : A) (x y : List ℕ) → Fits a → Fits b → spelling a ++ x ≡ spelling b ++ y → (a ≡ b) × (x ≡ y)
  pub some : (a : A) (more : List ℕ) → [] ≡ spelling a ++ more → ⊥

-- ---- as many spellings, one after the other

module _ {A : Type 0} {Fits : A → Type 0} {spelling : A → List ℕ} (is : IsForm Fits spelling) where
  pub many_push : (k : ℕ) (v : A) (bytes rest more : List ℕ) (found : List A) → Leads (AreMany Fits k) (flat_map spelling) bytes found rest → Leads Fits spelling rest v more
      → Leads (AreMany Fits (k + 1)) (flat_map spelling) bytes (found ++ v ∷ []) more
  many_push k v bytes rest more found h u = record {
    fits = record { many = length_push found v ∙ ap (λ n. n + 1) h.fits.many; each = all_push Fits found v h.fits.each u.fits };
    split = seq_push spelling bytes rest more found v h.split u.split;
  }

  pub many_next : (k : ℕ) (v : A) (rest more : List ℕ) (left : List A) (r : List ℕ) → Leads (AreMany Fits (suc k)) (flat_map spelling) rest left r → Leads Fits spelling rest v more
      → (after : List A) × Leads (AreMany Fits k) (flat_map spelling) more after r
  many_next k v rest more [] r h u = let e = h.fits.many in absurd (omega arith)
  many_next k v rest more (w ∷ left) r h u =
      let e = h.fits.many in
      let form = is.form w v (flat_map spelling left ++ r) more h.fits.each.0 u.fits (sym (append_assoc (spelling w) (flat_map spelling left) r) ∙ sym h.split ∙ u.split) in
      (left, record { fits = record { many = omega arith; each = h.fits.each.1 }; split = sym form.1 })

  pub many_none : (k : ℕ) (rest : List ℕ) → NoneLeads Fits spelling rest → NoneLeads (AreMany Fits (suc k)) (flat_map spelling) rest
  many_none k rest none [] r h = let e = h.fits.many in omega arith
  many_none k rest none (w ∷ left) r h =
      none w (flat_map spelling left ++ r) (record { fits = h.fits.each.0; split = h.split ∙ append_assoc (spelling w) (flat_map spelling left) r })

  -- ---- spellings one after the other, up to the end

  pub seq_none : (rest : List ℕ) → 0 < length rest → NoneLeads Fits spelling rest → NoneReads (AllByRecursion Fits) (flat_map spelling) rest
  seq_none rest some none [] h = let e = ap length h.spelled in omega arith
  seq_none rest some none (v ∷ vs) h = none v (flat_map spelling vs) (record { fits = h.fits.0; split = sym h.spelled ∙ append_nothing })
    where
      append_nothing : flat_map spelling (v ∷ vs) ≡ spelling v ++ flat_map spelling vs
      append_nothing = refl

  pub seq_next : (v : A) (rest more : List ℕ) (left : List A) → Reads (AllByRecursion Fits) (flat_map spelling) rest left → Leads Fits spelling rest v more
      → (after : List A) × Reads (AllByRecursion Fits) (flat_map spelling) more after
  seq_next v rest more [] h u = absurd (is.some v more (h.spelled ∙ u.split))
  seq_next v rest more (w ∷ left) h u =
      let form = is.form w v (flat_map spelling left) more h.fits.0 u.fits (h.spelled ∙ u.split) in
      (left, record { fits = h.fits.1; spelled = form.1 })

-- ---- numbers one after the other

num_some : (n : ℕ) (more : List ℕ) → [] ≡ num_bytes n ++ more → ⊥
num_some n more e = cc

pub num_forms : IsForm IsNum num_bytes
num_forms = record { form = num_form; some = num_some }

nums_one : (k : ℕ) (a b x y : List ℕ) → AreMany IsNum k a → AreMany IsNum k b → nums_bytes a ++ x ≡ nums_bytes b ++ y → a ≡ b
nums_one k a b x y fa fb e =
    let same = sym (users a b x y (fa.many ∙ sym fb.many) fa.each fb.each) ∙ tied (nums_bytes a ++ x) (nums_bytes b ++ y) e in
    same_bytes a b (both_equal (slice_cmp nat_cmp a b) (slice_cmp nat_cmp x y) same).0

-- the users that stand after a length are no path
pub no_path : (len : ℕ) (bytes rest more found : List ℕ) → Leads IsNum num_bytes bytes len rest → Leads (AreMany IsNum len) nums_bytes rest found more
    → alternates found ≡ false → NoneLeads IsKeyPath path_bytes bytes
no_path len bytes rest more found n u repeat path r h =
    let form = num_form (length path) len (nums_bytes path ++ r) rest h.fits.short n.fits (sym h.split ∙ n.split) in
    let same = nums_one len path found r more (record { many = form.0; each = h.fits.users }) u.fits (form.1 ∙ u.split) in
    false≢true (sym repeat ∙ ap alternates (sym same) ∙ h.fits.apart)

-- ---- values

value_some : (v : Value) (more : List ℕ) → [] ≡ value_bytes v ++ more → ⊥
value_some (Int m) more e = cc
value_some (Text t) more e = cc

pub value_forms : IsForm IsPlainValue value_bytes
value_forms = record { form = value_form; some = value_some }

pub text_form : (a b x y : List ℕ) → IsPlain a → IsPlain b → text_bytes a ++ x ≡ text_bytes b ++ y → (a ≡ b) × (x ≡ y)
text_form a b x y fa fb e = let h = value_form (Text a) (Text b) x y fa fb e in (text_same h.0, h.1)
  where
    text_same : {s t : List ℕ} → Text s ≡ Text t → s ≡ t
    text_same e = cc

-- a number of four bytes is an integer of eight
number_fits : (n : ℕ) → IsNum n → FitsSigned w64 (pos n)
number_fits n h = record { sfits = omega arith }

pub length_form : (a b : ℕ) (x y : List ℕ) → IsNum a → IsNum b → length_bytes a ++ x ≡ length_bytes b ++ y → (a ≡ b) × (x ≡ y)
length_form a b x y fa fb e = let h = value_form (Int (pos a)) (Int (pos b)) x y (number_fits a fa) (number_fits b fb) e in (number_same h.0, h.1)
  where
    number_same : {m n : ℕ} → Int (pos m) ≡ Int (pos n) → m ≡ n
    number_same e = cc

pub length_none : (bytes : List ℕ) → NoneLeads (FitsSigned w64) int_bytes bytes → NoneLeads IsNum length_bytes bytes
length_none bytes none n rest h = none (pos n) rest (record { fits = number_fits n h.fits; split = h.split })

-- the number of a kind
kind_value : Kind → ℕ
kind_value kinds.Int = 0
kind_value kinds.Text = 1

pub kind_form : (k l : Kind) (x y : List ℕ) → kind_bytes k ++ x ≡ kind_bytes l ++ y → (k ≡ l) × (x ≡ y)
kind_form kinds.Int kinds.Int x y e = (refl, (value_form (Int (pos 0)) (Int (pos 0)) x y (record { sfits = lit< tt }) (record { sfits = lit< tt }) e).1)
kind_form kinds.Int kinds.Text x y e = let h = value_form (Int (pos 0)) (Int (pos 1)) x y (record { sfits = lit< tt }) (record { sfits = lit< tt }) e in absurd (int_apart h.0)
  where
    int_apart : Int (pos 0) ≡ Int (pos 1) → ⊥
    int_apart e = cc
kind_form kinds.Text kinds.Int x y e = let h = value_form (Int (pos 1)) (Int (pos 0)) x y (record { sfits = lit< tt }) (record { sfits = lit< tt }) e in absurd (int_apart h.0)
  where
    int_apart : Int (pos 1) ≡ Int (pos 0) → ⊥
    int_apart e = cc
kind_form kinds.Text kinds.Text x y e = (refl, (value_form (Int (pos 1)) (Int (pos 1)) x y (record { sfits = lit< tt }) (record { sfits = lit< tt }) e).1)

col_form : (a b : ColDef) (x y : List ℕ) → IsCol a → IsCol b → col_bytes a ++ x ≡ col_bytes b ++ y → (a ≡ b) × (x ≡ y)
col_form a b x y fa fb e =
    let h = text_form a.name b.name (kind_bytes a.kind ++ x) (kind_bytes b.kind ++ y) fa fb (sym (append_assoc (text_bytes a.name) (kind_bytes a.kind) x) ∙ e ∙ append_assoc (text_bytes b.name) (kind_bytes b.kind) y) in
    let k = kind_form a.kind b.kind x y h.1 in
    (ap (λ n. col_of n a.kind) h.0 ∙ ap (λ l. col_of b.name l) k.0, k.1)
  where
    col_of : List ℕ → Kind → ColDef
    col_of n k = record { name = n; kind = k }

col_some : (a : ColDef) (more : List ℕ) → [] ≡ col_bytes a ++ more → ⊥
col_some a more e = cc

pub col_forms : IsForm IsCol col_bytes
col_forms = record { form = col_form; some = col_some }

-- ---- texts

no_zero : (c : ℕ) → nat_le 32 c ≡ true → not (nat_eq c 0) ≡ true
no_zero c h = grind (arith, nat_tests)

pub no_end : (text : List ℕ) → IsPrinting text → HasNoEnd text
no_end [] h = refl
no_end (c ∷ text) h =
    let p = and_parts (nat_le 32 c) (list_all (λ c. nat_le 32 c) text) h in
    and_from (not (nat_eq c 0)) (list_all (λ n. not (nat_eq n 0)) text) (no_zero c p.0) (no_end text p.1)

zero_ends : (x : List ℕ) → HasNoEnd (0 ∷ x) → ⊥
zero_ends x h = false≢true h

one_end : (a b x y : List ℕ) → HasNoEnd a → HasNoEnd b → a ++ 0 ∷ x ≡ b ++ 0 ∷ y → a ≡ b
one_end [] [] x y ha hb e = refl
one_end [] (c ∷ b) x y ha hb e =
    let z : 0 ≡ c = cc in absurd (zero_ends b (subst (λ n. HasNoEnd (n ∷ b)) (sym z) hb))
one_end (c ∷ a) [] x y ha hb e =
    let z : c ≡ 0 = cc in absurd (zero_ends a (subst (λ n. HasNoEnd (n ∷ a)) z ha))
one_end (c ∷ a) (d ∷ b) x y ha hb e =
    let p = and_parts (not (nat_eq c 0)) (list_all (λ n. not (nat_eq n 0)) a) ha in
    let q = and_parts (not (nat_eq d 0)) (list_all (λ n. not (nat_eq n 0)) b) hb in
    let f : a ++ 0 ∷ x ≡ b ++ 0 ∷ y = cc in
    let g : c ≡ d = cc in
    let h = one_end a b x y p.1 q.1 f in
    ap (λ n. n ∷ a) g ∙ ap (λ (r : List ℕ). d ∷ r) h

-- what stands before the first 0 is no plain text
pub no_text : (bytes front rest : List ℕ) → SplitsAtZero bytes front rest → is_plain front ≡ false → NoneLeads IsPlain text_bytes (2 ∷ bytes)
no_text bytes front rest h no_plain text r u =
    let e : bytes ≡ text ++ 0 ∷ r = tail_of (u.split ∙ ap (λ (s : List ℕ). 2 ∷ s) (append_assoc text (0 ∷ []) r)) in
    let same = one_end front text rest r h.none (no_end text (printing text u.fits)) (sym h.split ∙ e) in
    false≢true (sym no_plain ∙ ap is_plain same ∙ u.fits)
  where
    tail_of : {a b : ℕ} {x y : List ℕ} → a ∷ x ≡ b ∷ y → x ≡ y
    tail_of e = cc

-- ---- plain texts

pub utf8_true : (text : List ℕ) → IsUtf8 text → is_utf8 text ≡ true
utf8_true = is_utf8-from_IsUtf8

pub utf8_false : (text : List ℕ) → ¬ (IsUtf8 text) → is_utf8 text ≡ false
utf8_false text other = false_from_ne_true (is_utf8 text) (λ e. other (IsUtf8-from_is_utf8 text e))

-- ---- rows

pub kind_none : (bytes : List ℕ) → NoneLeads (FitsSigned w64) int_bytes bytes → NoneLeads IsAnyKind kind_bytes bytes
kind_none bytes none kinds.Int rest h = none (pos 0) rest (record { fits = record { sfits = lit< tt }; split = h.split })
kind_none bytes none kinds.Text rest h = none (pos 1) rest (record { fits = record { sfits = lit< tt }; split = h.split })

pub sign_none : (bytes : List ℕ) → NoneReads IsNum num_bytes bytes → NoneReads IsAnySign sign_bytes bytes
sign_none bytes none signs.Plus h = none 0 (record { fits = lit< tt; spelled = h.spelled })
sign_none bytes none signs.Minus h = none 1 (record { fits = lit< tt; spelled = h.spelled })

pub one_cols : (a b : List ColDef) → AllByRecursion IsCol a → AllByRecursion IsCol b → cols_bytes a ≡ cols_bytes b → a ≡ b
one_cols [] [] fa fb e = refl
one_cols [] (d ∷ b) fa fb e = absurd (col_forms.some d (cols_bytes b) e)
one_cols (c ∷ a) [] fa fb e = absurd (col_forms.some c (cols_bytes a) (sym e))
one_cols (c ∷ a) (d ∷ b) fa fb e =
    let form = col_forms.form c d (cols_bytes a) (cols_bytes b) fa.0 fb.0 e in
    ap (λ x. x ∷ a) form.0 ∙ ap (λ (x : List ColDef). d ∷ x) (one_cols a b fa.1 fb.1 form.1)

module _ (bytes rest name : List ℕ) (t : Leads IsPlain text_bytes bytes name rest) where
  pub col_none : NoneLeads IsAnyKind kind_bytes rest → NoneLeads IsCol col_bytes bytes
  col_none none col r h =
      let form = text_form col.name name (kind_bytes col.kind ++ r) rest h.fits t.fits (sym (append_assoc (text_bytes col.name) (kind_bytes col.kind) r) ∙ sym h.split ∙ t.split) in
      none col.kind r (record { fits = tt; split = sym form.1 })

  pub text_more : 0 < length rest → NoneReads IsPlain text_bytes bytes
  text_more some text h =
      let form = text_form text name [] rest h.fits t.fits (append-nil (text_bytes text) ∙ h.spelled ∙ t.split) in
      let e = ap length form.1 in
      omega arith

  -- what follows a relation's name: the length of its key and its columns
  rel_rest : (def : RelDef) → Reads IsRelRow rel_bytes bytes def → rest ≡ length_bytes def.key ++ cols_bytes def.cols
  rel_rest def h =
      let form = text_form def.name name (length_bytes def.key ++ cols_bytes def.cols) rest h.fits.name t.fits
      (sym (append_assoc (text_bytes def.name) (length_bytes def.key) (cols_bytes def.cols)) ∙ h.spelled ∙ t.split) in
      sym form.1

  pub rel_no_length : NoneLeads IsNum length_bytes rest → NoneReads IsRelRow rel_bytes bytes
  rel_no_length none def h = none def.key (cols_bytes def.cols) (record { fits = h.fits.short; split = rel_rest def h })

  module _ (more : List ℕ) (key : ℕ) (u : Leads IsNum length_bytes rest key more) where
    rel_parts : (def : RelDef) → Reads IsRelRow rel_bytes bytes def → (def.key ≡ key) × (cols_bytes def.cols ≡ more)
    rel_parts def h = length_form def.key key (cols_bytes def.cols) more h.fits.short u.fits (sym (rel_rest def h) ∙ u.split)

    pub rel_key : (def : RelDef) → Reads IsRelRow rel_bytes bytes def → key ≡ def.key
    rel_key def h = sym (rel_parts def h).0

    pub rel_none : NoneReads (AllByRecursion IsCol) cols_bytes more → NoneReads IsRelRow rel_bytes bytes
    rel_none none def h = none def.cols (record { fits = h.fits.names; spelled = (rel_parts def h).1 })

    pub rel_no_key : (cols : List ColDef) → Reads (AllByRecursion IsCol) cols_bytes more cols → ((1 ≤ key) × (key ≤ length cols) → ⊥) → NoneReads IsRelRow rel_bytes bytes
    rel_no_key cols r none def h =
        let parts = rel_parts def h in
        let same : def.cols ≡ cols = one_cols def.cols cols h.fits.names r.fits (parts.1 ∙ sym r.spelled) in
        let within = h.fits.key in
        let k = parts.0 in
        let l = ap length same in
        none (omega arith, omega arith)

pub text_reads_none : (bytes : List ℕ) → NoneLeads IsPlain text_bytes bytes → NoneReads IsPlain text_bytes bytes
text_reads_none bytes none text h = none text [] (record { fits = h.fits; split = sym h.spelled ∙ sym (append-nil (text_bytes text)) })

pub tuple_no_vals : (bytes rest : List ℕ) (rel : ℕ) (vals : List Value) → Leads IsNum num_bytes bytes rel rest → Reads ArePlain values_bytes rest vals
    → length vals ≡ 0 → NoneReads IsTupleRow tuple_bytes bytes
tuple_no_vals bytes rest rel [] n r e t h =
    let form = num_form t.rel rel (values_bytes t.vals) rest h.fits.rel n.fits (h.spelled ∙ n.split) in
    by t.vals h.fits.some (form.1 ∙ sym r.spelled)
  where
    by : (others : List Value) → 0 < length others → values_bytes others ≡ [] → ⊥
    by [] some same = omega arith
    by (o ∷ others) some same = value_some o (values_bytes others) (sym same)
tuple_no_vals bytes rest rel (v ∷ vals) n r e t h = omega arith
