-- Rows in the order of their bytes are rows of a world in the order of their tuples.
use Rattle.std.proofs.Common.{◌≡◌, ◌∙◌, ℕ, zero, suc, ◌+◌, ◌<◌, List, [], ◌∷◌, length, map, get_or, set, refl, sym, ap, subst, arith}
use Rattle.std.specs.List.{AllZip, swap}
use Rattle.std.specs.List.Sorted.{IsPermutation, IsSortedBy}
use Rattle.std.specs.Ordering.{is_lt}
use Rattle.std.proofs.lemmas.List.Edits.{swap_is}
use Rattle.std.proofs.lemmas.List.Sorted.{IsPermutation-keeps, IsPermutation-refl, IsPermutation-swap, IsPermutation-trans}
use Rattle.bdb_base.specs.Order.{tuple_cmp}
use Rattle.bdb_base.specs.declared.kinds.Held.{Held}
use Rattle.bdb_keep.specs.Spans.{Listed}
use Rattle.bdb_keep.specs.Tables.{bytes_cmp}
use Rattle.bdb_key.specs.Rows.{tuple_bytes}
use Rattle.bdb_shown.specs.Rows.{AreOrdered, Spell, SpellsRow, raw}
use Rattle.bdb_shown.specs.declared.row.WorldRow.{WorldRow}
use Rattle.bdb_tables.specs.InUseLaws.{tuples_in_order}
use Rattle.bdb_val.specs.WorldReads.{tuple_is_before}

-- ---- two lists, one by one

module _ {A B : Type 0} (R : A → B → Type 0) where
  zip_length : (xs : List A) (ys : List B) → AllZip R xs ys → length ys ≡ length xs
  zip_length [] [] z = refl
  zip_length [] (y ∷ ys) z = absurd z
  zip_length (x ∷ xs) [] z = absurd z
  zip_length (x ∷ xs) (y ∷ ys) z = ap suc (zip_length xs ys z.1)

  zip_at : (xs : List A) (ys : List B) (i : ℕ) (d : A) (e : B) → i < length xs → AllZip R xs ys → R (get_or xs i d) (get_or ys i e)
  zip_at [] ys i d e lt z = absurd (omega arith)
  zip_at (x ∷ xs) [] i d e lt z = absurd z
  zip_at (x ∷ xs) (y ∷ ys) zero d e lt z = z.0
  zip_at (x ∷ xs) (y ∷ ys) (suc i) d e lt z = zip_at xs ys i d e (omega arith) z.1

  zip_set : (xs : List A) (ys : List B) (i : ℕ) (x : A) (y : B) → AllZip R xs ys → R x y → AllZip R (set xs i x) (set ys i y)
  zip_set [] [] i x y z r = tt
  zip_set [] (w ∷ ys) i x y z r = absurd z
  zip_set (v ∷ xs) [] i x y z r = absurd z
  zip_set (v ∷ xs) (w ∷ ys) zero x y z r = (r, z.1)
  zip_set (v ∷ xs) (w ∷ ys) (suc i) x y z r = (z.0, zip_set xs ys i x y z.1 r)

  -- the second list in the order of the first one
  pub record AreMoved (xs : List A) (ys : List B) : Type 0 where
    pub others : List B
    pub moved : IsPermutation ys others
    pub zip : AllZip R xs others

  swapped : (xs : List A) (ys : List B) (i j : ℕ) → i < length xs → j < length xs → AreMoved xs ys → AreMoved (swap xs i j) ys
  swapped [] ys i j p q h = absurd (omega arith)
  swapped (x ∷ xs) ys i j p q h = by h.others h.moved h.zip
    where
      by : (others : List B) → IsPermutation ys others → AllZip R (x ∷ xs) others → AreMoved (swap (x ∷ xs) i j) ys
      by [] m z = absurd z
      by (y ∷ others) m z =
          let same = zip_length (x ∷ xs) (y ∷ others) z in
          let is : i < length (y ∷ others) = omega (arith, p, same) in
          let js : j < length (y ∷ others) = omega (arith, q, same) in
          record {
            others = swap (y ∷ others) i j;
            moved = IsPermutation-trans ys (y ∷ others) (swap (y ∷ others) i j) m (IsPermutation-swap (y ∷ others) (swap (y ∷ others) i j) i j is js refl);
            zip = subst (λ (l : List B). AllZip R (swap (x ∷ xs) i j) l) (swap_is (y ∷ others) i j y is js)
                (subst (λ (l : List A). AllZip R l (set (set (y ∷ others) i (get_or (y ∷ others) j y)) j (get_or (y ∷ others) i y))) (swap_is (x ∷ xs) i j x p q)
                (zip_set (set (x ∷ xs) i (get_or (x ∷ xs) j x)) (set (y ∷ others) i (get_or (y ∷ others) j y)) j (get_or (x ∷ xs) i x) (get_or (y ∷ others) i y)
                (zip_set (x ∷ xs) (y ∷ others) i (get_or (x ∷ xs) j x) (get_or (y ∷ others) j y) z (zip_at (x ∷ xs) (y ∷ others) j x y q z))
                (zip_at (x ∷ xs) (y ∷ others) i x y p z)));
          }

  pub moved_alike : (xs zs : List A) (ys : List B) → AllZip R xs ys → IsPermutation xs zs → AreMoved zs ys
  moved_alike xs zs ys z m =
      IsPermutation-keeps xs (λ l. AreMoved l ys) (record { others = ys; moved = IsPermutation-refl ys; zip = z }) (λ l i j p q h. swapped l ys i j p q h) zs m

-- ---- in order

-- the bytes of two rows compare as their tuples
rows_compare : (r s : List ℕ × List ℕ) (g h : Held) → SpellsRow r g → SpellsRow s h → bytes_cmp r.0 s.0 ≡ tuple_cmp g.tuple h.tuple
rows_compare r s g h p q =
    ap (λ x. bytes_cmp x s.0) (sym p.tuple.spelled) ∙ ap (λ x. bytes_cmp (tuple_bytes g.tuple) x) (sym q.tuple.spelled)
    ∙ tuples_in_order g.tuple h.tuple p.tuple.fits q.tuple.fits

raw_at : (rows : List WorldRow) (i : ℕ) (d : WorldRow) → get_or (map raw rows) i (raw d) ≡ raw (get_or rows i d)
raw_at [] i d = refl
raw_at (r ∷ rows) zero d = refl
raw_at (r ∷ rows) (suc i) d = raw_at rows i d

length_raw : (rows : List WorldRow) → length (map raw rows) ≡ length rows
length_raw [] = refl
length_raw (r ∷ rows) = ap suc (length_raw rows)

pub sorted_alike : (rows : List WorldRow) (held : List Held) → Spell (map raw rows) held → IsSortedBy (λ a b. is_lt (bytes_cmp a.tuple.now b.tuple.now)) rows → IsSortedBy tuple_is_before held
sorted_alike [] [] z up k d low high = absurd (omega arith)
sorted_alike [] (h ∷ held) z up k d low high = absurd z
sorted_alike (r ∷ rows) held z up k d low high =
    let many : length held ≡ length (map raw (r ∷ rows)) = zip_length SpellsRow (map raw (r ∷ rows)) held z in
    let raws : length (map raw (r ∷ rows)) ≡ length (r ∷ rows) = length_raw (r ∷ rows) in
    let within : k + 1 < length (r ∷ rows) = omega (arith, many, raws, high) in
    let a = subst (λ x. SpellsRow x (get_or held (k + 1) d)) (raw_at (r ∷ rows) (k + 1) r) (zip_at SpellsRow (map raw (r ∷ rows)) held (k + 1) (raw r) d (omega (arith, within, raws)) z) in
    let b = subst (λ x. SpellsRow x (get_or held k d)) (raw_at (r ∷ rows) k r) (zip_at SpellsRow (map raw (r ∷ rows)) held k (raw r) d (omega (arith, within, raws)) z) in
    ap is_lt (sym (rows_compare (raw (get_or (r ∷ rows) (k + 1) r)) (raw (get_or (r ∷ rows) k r)) (get_or held (k + 1) d) (get_or held k d) a b)) ∙ up k r low within

-- rows of a world in the order of their bytes
pub record AreShownInOrder (rows : List WorldRow) (held : List Held) : Type 0 where
  pub ordered : List Held
  pub moved : IsPermutation held ordered
  pub sorted : IsSortedBy tuple_is_before ordered
  pub spelled : Spell (map raw rows) ordered

pub shown_in_order : (span : Listed) (rows : List WorldRow) (held : List Held) → Spell span held → AreOrdered span rows → AreShownInOrder rows held
shown_in_order span rows held s o =
    let m = moved_alike SpellsRow span (map raw rows) held s o.moved in
    record { ordered = m.others; moved = m.moved; sorted = sorted_alike rows m.others m.zip o.sorted; spelled = m.zip }
