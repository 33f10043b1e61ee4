-- How rows and keys of the format before this one are respelled.
use Rattle.std.proofs.Common.{◌≡◌, ◌∙◌, ℕ, zero, suc, ◌+◌, ◌<◌, ◌≤◌, Bool, true, false, cond, List, [], ◌∷◌, ◌++◌, length, take, drop, get_or, refl, ap, sym, subst, append_assoc, append-nil, arith, lit<}
use Rattle.std.specs.Prelude.{pos, nat_eq, not}
use Rattle.std.specs.List.{list_all}
use Rattle.std.proofs.lemmas.List.{take_all}
use Rattle.std.proofs.lemmas.Bool.{and_parts, eq-eqb, eqb-true, false_from_ne_true, false≢true}
use Rattle.bdb_base.specs.declared.kinds.RelDef.{RelDef}
use Rattle.bdb_base.specs.declared.kinds.UserSlot.TheVariants.{Live, Gone}
use Rattle.bdb_key.specs.Bytes.{num_bytes, int_bytes, text_bytes, value_bytes}
use Rattle.bdb_key.specs.Grammar.{IsNum}
use Rattle.bdb_key.specs.Reading.{HasNoEnd}
use Rattle.bdb_key.specs.Rows.{IsRelRow, cols_bytes, length_bytes, rel_bytes}
use Rattle.bdb_key.proofs.Compared.{printing}
use Rattle.bdb_key.proofs.Readings.{length_form, no_end}
use Rattle.bdb_former.specs.Laws.{FormatsBecomeThis, KeysGetACount, NamesStay, NoUserWasGone, RelationsGetALength, RelationsHadNoLength}
use Rattle.bdb_former.specs.Respelled.{with_count, with_length, respelled_format, respelled_key, respelled_place, respelled_relation, respelled_row, respelled_user}

-- ---- keys

pub short_as_it_is : (n : ℕ) (key : List ℕ) → length key < n → with_count n key ≡ key
short_as_it_is zero key h = absurd (omega arith)
short_as_it_is (suc n) [] h = refl
short_as_it_is (suc n) (b ∷ key) h = ap (λ (k : List ℕ). b ∷ k) (short_as_it_is n key (omega arith))

pub long_with_count : (n : ℕ) (key : List ℕ) → n ≤ length key → with_count n key ≡ take n key ++ (num_bytes 1 ++ drop n key)
long_with_count zero key h = refl
long_with_count (suc n) [] h = absurd (omega arith)
long_with_count (suc n) (b ∷ key) h = ap (λ (k : List ℕ). b ∷ k) (long_with_count n key (omega arith))

counts_apart : (n : ℕ) (a b : List ℕ) → with_count n a ≡ with_count n b → a ≡ b
counts_apart zero a b e = cc
counts_apart (suc n) [] [] e = refl
counts_apart (suc n) [] (y ∷ b) e = absurd cc
counts_apart (suc n) (x ∷ a) [] e = absurd cc
counts_apart (suc n) (x ∷ a) (y ∷ b) e =
    let head : x ≡ y = cc in
    let rest : with_count n a ≡ with_count n b = cc in
    ap (λ z. z ∷ a) head ∙ ap (λ (k : List ℕ). y ∷ k) (counts_apart n a b rest)

keys_apart : (tab : ℕ) (a b : List ℕ) → respelled_key tab a ≡ respelled_key tab b → a ≡ b
keys_apart tab a b = by (nat_eq tab 11)
  where
    by : (c : Bool) → cond c (with_count 8 a) a ≡ cond c (with_count 8 b) b → a ≡ b
    by true e = counts_apart 8 a b e
    by false e = e

-- a key of another table
pub key_as_it_is : (tab : ℕ) (key : List ℕ) → (tab ≡ 11 → ⊥) → respelled_key tab key ≡ key
key_as_it_is tab key other = ap (λ b. cond b (with_count 8 key) key) (false_from_ne_true (nat_eq tab 11) (λ e. other (eqb-true tab 11 e)))

pub keys_get_a_count : KeysGetACount
keys_get_a_count wid rel value tid = ap (λ (v : List ℕ). num_bytes wid ++ num_bytes rel ++ (num_bytes 1 ++ v) ++ num_bytes tid) (sym (append-nil (value_bytes value)))

-- no two places become one
pub places_stay_apart : (p q : List ℕ) → respelled_place p ≡ respelled_place q → p ≡ q
places_stay_apart [] [] e = refl
places_stay_apart [] (n ∷ b) e = absurd cc
places_stay_apart (m ∷ a) [] e = absurd cc
places_stay_apart (m ∷ a) (n ∷ b) e =
    let head : m ≡ n = cc in
    let rest : respelled_key m a ≡ respelled_key n b = cc in
    ap (λ z. z ∷ a) head ∙ ap (λ (k : List ℕ). n ∷ k) (keys_apart n a b (ap (λ z. respelled_key z a) (sym head) ∙ rest))

-- ---- rows of users

pub no_user_there : (row : List ℕ) → length row ≡ 0 → respelled_user row ≡ 0 ∷ []
no_user_there [] h = refl
no_user_there (b ∷ row) h = absurd (omega (arith, h))

pub user_as_it_is : (row : List ℕ) → 0 < length row → respelled_user row ≡ row
user_as_it_is [] h = absurd (omega (arith, h))
user_as_it_is (b ∷ row) h = refl

pub names_stay : NamesStay
names_stay name = refl

pub no_user_was_gone : NoUserWasGone
no_user_was_gone [] (Live name) e = absurd cc
no_user_was_gone [] Gone e = absurd cc
no_user_was_gone (b ∷ row) (Live name) e = (name, (refl, e))
no_user_was_gone (b ∷ row) Gone e = absurd cc

-- ---- rows of relations

not_end : (b : ℕ) → not (nat_eq b 0) ≡ true → nat_eq b 0 ≡ false
not_end b = by (nat_eq b 0)
  where
    by : (c : Bool) → not c ≡ true → c ≡ false
    by true e = absurd (false≢true e)
    by false e = refl

-- bytes without a 0 are as they are
pub no_end_as_it_is : (bytes : List ℕ) → HasNoEnd bytes → with_length bytes ≡ bytes
no_end_as_it_is [] h = refl
no_end_as_it_is (b ∷ bytes) h =
    let p = and_parts (not (nat_eq b 0)) (list_all (λ c. not (nat_eq c 0)) bytes) h in
    ap (λ c. cond c (b ∷ (int_bytes (pos 1) ++ bytes)) (b ∷ with_length bytes)) (not_end b p.0) ∙ ap (λ (k : List ℕ). b ∷ k) (no_end_as_it_is bytes p.1)

-- the integer stands behind the first 0
pub length_behind_end : (front rest : List ℕ) → HasNoEnd front → with_length (front ++ 0 ∷ rest) ≡ front ++ 0 ∷ (int_bytes (pos 1) ++ rest)
length_behind_end [] rest h = refl
length_behind_end (b ∷ front) rest h =
    let p = and_parts (not (nat_eq b 0)) (list_all (λ c. not (nat_eq c 0)) front) h in
    ap (λ c. cond c (b ∷ (int_bytes (pos 1) ++ (front ++ 0 ∷ rest))) (b ∷ with_length (front ++ 0 ∷ rest))) (not_end b p.0)
    ∙ ap (λ (k : List ℕ). b ∷ k) (length_behind_end front rest p.1)

-- the first 0 is at a place
end_at : (bytes : List ℕ) (at : ℕ) → at < length bytes → get_or bytes at 0 ≡ 0 → HasNoEnd (take at bytes)
    → with_length bytes ≡ take (suc at) bytes ++ (int_bytes (pos 1) ++ drop (suc at) bytes)
end_at [] at lt e h = absurd (omega arith)
end_at (b ∷ bytes) zero lt e h = ap (λ c. cond c (b ∷ (int_bytes (pos 1) ++ bytes)) (b ∷ with_length bytes)) (eq-eqb b 0 e)
end_at (b ∷ bytes) (suc at) lt e h =
    let p = and_parts (not (nat_eq b 0)) (list_all (λ c. not (nat_eq c 0)) (take at bytes)) h in
    ap (λ c. cond c (b ∷ (int_bytes (pos 1) ++ bytes)) (b ∷ with_length bytes)) (not_end b p.0)
    ∙ ap (λ (k : List ℕ). b ∷ k) (end_at bytes at (omega arith) e p.1)

-- a row that begins with a text, cut behind it
pub row_cut : (row bytes name columns : List ℕ) (at : ℕ) → row ≡ 2 ∷ bytes → at < length bytes → get_or bytes at 0 ≡ 0 → HasNoEnd (take at bytes)
    → name ≡ take (at + 2) row → columns ≡ drop (at + 2) row → respelled_relation row ≡ name ++ (int_bytes (pos 1) ++ columns)
row_cut row bytes name columns at e lt z h n c =
    let two : suc (suc at) ≡ at + 2 = omega arith in
    let front : take (suc (suc at)) (2 ∷ bytes) ≡ name = ap (λ m. take m (2 ∷ bytes)) two ∙ ap (take (at + 2)) (sym e) ∙ sym n in
    let back : drop (suc (suc at)) (2 ∷ bytes) ≡ columns = ap (λ m. drop m (2 ∷ bytes)) two ∙ ap (drop (at + 2)) (sym e) ∙ sym c in
    ap respelled_relation e ∙ ap (λ (x : List ℕ). 2 ∷ x) (end_at bytes at lt z h)
    ∙ ap (λ (x : List ℕ). x ++ (int_bytes (pos 1) ++ drop (suc at) bytes)) front ∙ ap (λ (x : List ℕ). name ++ (int_bytes (pos 1) ++ x)) back

-- a row that begins with the mark of a text that doesn't end
pub no_end_row : (row bytes : List ℕ) (at : ℕ) → row ≡ 2 ∷ bytes → length bytes ≤ at → HasNoEnd (take at bytes) → respelled_relation row ≡ row
no_end_row row bytes at e le h =
    ap respelled_relation e ∙ ap (λ (x : List ℕ). 2 ∷ x) (no_end_as_it_is bytes (subst HasNoEnd (take_all at bytes le) h)) ∙ sym e

-- a row that is no relation's and no user's, and doesn't tell the format
pub row_as_it_is : (tab : ℕ) (row : List ℕ) → (tab ≡ 1 → ⊥) → (tab ≡ 2 → ⊥) → (tab ≡ 3 → ⊥) → respelled_row tab row ≡ row
row_as_it_is tab row one two three =
    ap (λ b. cond b (respelled_format row) (cond (nat_eq tab 2) (respelled_user row) (cond (nat_eq tab 3) (respelled_relation row) row))) (false_from_ne_true (nat_eq tab 1) (λ e. one (eqb-true tab 1 e)))
    ∙ ap (λ b. cond b (respelled_user row) (cond (nat_eq tab 3) (respelled_relation row) row)) (false_from_ne_true (nat_eq tab 2) (λ e. two (eqb-true tab 2 e)))
    ∙ ap (λ b. cond b (respelled_relation row) row) (false_from_ne_true (nat_eq tab 3) (λ e. three (eqb-true tab 3 e)))

-- a row that begins with no text
pub no_mark_as_it_is : (row : List ℕ) → ((bytes : List ℕ) → row ≡ 2 ∷ bytes → ⊥) → respelled_relation row ≡ row
no_mark_as_it_is [] other = refl
no_mark_as_it_is (b ∷ bytes) other =
    ap (λ c. b ∷ cond c (with_length bytes) bytes) (false_from_ne_true (nat_eq b 2) (λ e. other bytes (ap (λ c. c ∷ bytes) (eqb-true b 2 e))))

pub formats_become_this : FormatsBecomeThis
formats_become_this = refl

pub relations_get_a_length : RelationsGetALength
relations_get_a_length name cols plain =
    ap (λ (x : List ℕ). 2 ∷ with_length x) (append_assoc name (0 ∷ []) (cols_bytes cols))
    ∙ ap (λ (x : List ℕ). 2 ∷ x) (length_behind_end name (cols_bytes cols) (no_end name (printing name plain)))
    ∙ sym (ap (λ (x : List ℕ). 2 ∷ x) (append_assoc (name ++ 0 ∷ []) (int_bytes (pos 1)) (cols_bytes cols) ∙ append_assoc name (0 ∷ []) (int_bytes (pos 1) ++ cols_bytes cols)))

-- ---- the length that a respelled relation's row tells

at_end : (b : ℕ) (name : List ℕ) → nat_eq b 0 ≡ true → HasNoEnd (b ∷ name) → ⊥
at_end b name e h = let p = and_parts (not (nat_eq b 0)) (list_all (λ c. not (nat_eq c 0)) name) h in false≢true (sym (ap not e) ∙ p.0)

-- behind the first 0 stands the integer 1, and no other; without it these are the bytes before
length_read : (bytes name more : List ℕ) (key : ℕ) → HasNoEnd name → IsNum key → with_length bytes ≡ name ++ 0 ∷ (length_bytes key ++ more) → (key ≡ 1) × (bytes ≡ name ++ 0 ∷ more)
length_read [] [] more key h num e = absurd cc
length_read [] (c ∷ name) more key h num e = absurd cc
length_read (b ∷ bytes) [] more key h num e = by (nat_eq b 0) refl e
  where
    by : (t : Bool) → nat_eq b 0 ≡ t → cond t (b ∷ (int_bytes (pos 1) ++ bytes)) (b ∷ with_length bytes) ≡ 0 ∷ (length_bytes key ++ more) → (key ≡ 1) × (b ∷ bytes ≡ 0 ∷ more)
    by true z f =
        let rest : length_bytes 1 ++ bytes ≡ length_bytes key ++ more = tail f in
        let form = length_form 1 key bytes more (lit< tt) num rest in
        (sym form.0, ap (λ x. x ∷ bytes) (eqb-true b 0 z) ∙ ap (λ (k : List ℕ). 0 ∷ k) form.1)
      where
        tail : {x y : ℕ} {xs ys : List ℕ} → x ∷ xs ≡ y ∷ ys → xs ≡ ys
        tail g = cc
    by false z f = absurd (let zero_here : b ≡ 0 = cc in false≢true (sym z ∙ eq-eqb b 0 zero_here))
length_read (b ∷ bytes) (c ∷ name) more key h num e = by (length_read bytes name more key) (nat_eq b 0) refl e
  where
    by : (HasNoEnd name → IsNum key → with_length bytes ≡ name ++ 0 ∷ (length_bytes key ++ more) → (key ≡ 1) × (bytes ≡ name ++ 0 ∷ more))
        → (t : Bool) → nat_eq b 0 ≡ t → cond t (b ∷ (int_bytes (pos 1) ++ bytes)) (b ∷ with_length bytes) ≡ c ∷ (name ++ 0 ∷ (length_bytes key ++ more))
        → (key ≡ 1) × (b ∷ bytes ≡ c ∷ (name ++ 0 ∷ more))
    by later true z f = absurd (let same : c ≡ b = cc in at_end b name z (subst (λ x. HasNoEnd (x ∷ name)) same h))
    by later false z f =
        let p = and_parts (not (nat_eq c 0)) (list_all (λ d. not (nat_eq d 0)) name) h in
        let first : b ≡ c = cc in
        let rest : with_length bytes ≡ name ++ 0 ∷ (length_bytes key ++ more) = cc in
        let l = later p.1 num rest in
        (l.0, ap (λ x. x ∷ bytes) first ∙ ap (λ (k : List ℕ). c ∷ k) l.1)

-- a row that becomes a relation's was its name and its columns, and the key of the relation has one column
pub relations_had_no_length : RelationsHadNoLength
relations_had_no_length former def fits e = by former (e ∙ row)
  where
    row : rel_bytes def ≡ 2 ∷ (def.name ++ 0 ∷ (length_bytes def.key ++ cols_bytes def.cols))
    row = ap (λ (x : List ℕ). 2 ∷ x) (append_assoc (def.name ++ 0 ∷ []) (length_bytes def.key) (cols_bytes def.cols) ∙ append_assoc def.name (0 ∷ []) (length_bytes def.key ++ cols_bytes def.cols))

    by : (former : List ℕ) → respelled_relation former ≡ 2 ∷ (def.name ++ 0 ∷ (length_bytes def.key ++ cols_bytes def.cols)) → (def.key ≡ 1) × (former ≡ text_bytes def.name ++ cols_bytes def.cols)
    by [] f = absurd cc
    by (mark ∷ bytes) f =
        let two : mark ≡ 2 = cc in
        let rest : cond (nat_eq mark 2) (with_length bytes) bytes ≡ def.name ++ 0 ∷ (length_bytes def.key ++ cols_bytes def.cols) = cc in
        let read = length_read bytes def.name (cols_bytes def.cols) def.key (no_end def.name (printing def.name fits.name)) fits.short
        (sym (ap (λ b. cond b (with_length bytes) bytes) (eq-eqb mark 2 two)) ∙ rest) in
        (read.0, ap (λ x. x ∷ bytes) two ∙ ap (λ (x : List ℕ). 2 ∷ x) (read.1 ∙ sym (append_assoc def.name (0 ∷ []) (cols_bytes def.cols))))

-- a respelled relation has a key of one column
pub respelled_has_one : (former : List ℕ) (def : RelDef) → IsRelRow def → respelled_relation former ≡ rel_bytes def → def.key ≡ 1
respelled_has_one former def fits e = (relations_had_no_length former def fits e).0
