-- Lemmas on rows that lie in one string of bytes.
use Rattle.std.proofs.Common.{◌≡◌, ℕ, zero, suc, ◌+◌, ◌-◌, ◌<◌, ◌≤◌, List, [], ◌∷◌, ◌++◌, length, take, drop, get_or, refl, sym, ap, ◌∙◌, append_assoc, subst, arith, length-append}
use Rattle.std.specs.List.{AllByRecursion, slice_range}
use Rattle.std.proofs.lemmas.List.{take-append-drop, take-append-le, drop-append-le, length-drop, drop-drop, length-take-le}
use Rattle.std.proofs.Math.Seq.{take-append_seam, drop-append_seam, take-length}
use Rattle.bdb_keep.specs.Spans.{AreCuts, Listed, listed, entry_in, IsWithin, with_ends, with_four}
use Rattle.bdb_keep.specs.declared.span.Cut.{Cut}

pub length_is : (bytes : List ℕ) (cs : List Cut) → length (listed bytes cs) ≡ length cs
length_is bytes [] = refl
length_is bytes (c ∷ cs) = ap suc (length_is bytes cs)

-- a part of the front is the same where bytes were put behind
part : (old x : List ℕ) (a b : ℕ) → a ≤ b → b ≤ length old → slice_range (old ++ x) a b ≡ slice_range old a b
part old x a b h k =
    let size : length (drop a old) ≡ length old - a = length-drop a old in
    ap (take (b - a)) (drop-append-le a old x (omega arith)) ∙ take-append-le (b - a) (drop a old) x (omega (arith, size))

pub listed-append : (old x : List ℕ) (cs : List Cut) → AllByRecursion (IsWithin (length old)) cs → listed (old ++ x) cs ≡ listed old cs
listed-append old x [] h = refl
listed-append old x (c ∷ cs) h =
    ap (λ (k : List ℕ). (k, slice_range (old ++ x) c.middle c.end) ∷ listed (old ++ x) cs) (part old x c.start c.middle h.0.key (omega (arith, h.0.row, h.0.bytes)))
    ∙ ap (λ (r : List ℕ). (slice_range old c.start c.middle, r) ∷ listed (old ++ x) cs) (part old x c.middle c.end h.0.row h.0.bytes)
    ∙ ap (λ (l : Listed). entry_in old c ∷ l) (listed-append old x cs h.1)

-- ---- cuts that lie one behind the other

pub all-within : (at n : ℕ) (cs : List Cut) → AreCuts at n cs → AllByRecursion (IsWithin n) cs
all-within at n [] h = tt
all-within at n (c ∷ cs) h = (h.1, all-within c.end n cs h.2)

pub cuts-more : (at n m : ℕ) (cs : List Cut) → n ≤ m → AreCuts at n cs → AreCuts at m cs
cuts-more at n m [] k h = tt
cuts-more at n m (c ∷ cs) k h = (h.0, record { key = h.1.key; row = h.1.row; bytes = omega (arith, k, h.1.bytes) }, cuts-more c.end n m cs k h.2)

cuts-push : (at n m : ℕ) (cs : List Cut) (c : Cut) → at ≤ n → n ≤ c.start → n ≤ m → AreCuts at n cs → IsWithin m c → AreCuts at m (cs ++ c ∷ [])
cuts-push at n m [] c a b l h k = (omega (arith, a, b), k, tt)
cuts-push at n m (d ∷ cs) c a b l h k = (h.0, record { key = h.1.key; row = h.1.row; bytes = omega (arith, l, h.1.bytes) }, cuts-push d.end n m cs c h.1.bytes b l h.2 k)

pub within-at : (n : ℕ) (cs : List Cut) (i : ℕ) (c : Cut) → i < length cs → c ≡ get_or cs i c → AllByRecursion (IsWithin n) cs → IsWithin n c
within-at n [] i c k e h = absurd (omega arith)
within-at n (d ∷ cs) zero c k e h = subst (IsWithin n) (sym e) h.0
within-at n (d ∷ cs) (suc i) c k e h = within-at n cs i c (omega arith) e h.1

pub listed-at : (bytes : List ℕ) (cs : List Cut) (i : ℕ) (c : Cut) → i < length cs → c ≡ get_or cs i c → entry_in bytes c ≡ get_or (listed bytes cs) i ([], [])
listed-at bytes [] i c k e = absurd (omega arith)
listed-at bytes (d ∷ cs) zero c k e = ap (entry_in bytes) e
listed-at bytes (d ∷ cs) (suc i) c k e = listed-at bytes cs i c (omega arith) e

-- what follows the front, where the front stays
front-stays : (old new : List ℕ) → take (length old) new ≡ old → new ≡ old ++ drop (length old) new
front-stays old new e = sym (take-append-drop (length old) new) ∙ ap (λ x. x ++ drop (length old) new) e

-- rows stay where the bytes keep their front
pub listed-kept : (old new : List ℕ) (cs : List Cut) → take (length old) new ≡ old → AllByRecursion (IsWithin (length old)) cs → listed new cs ≡ listed old cs
listed-kept old new cs e h = ap (λ b. listed b cs) (front-stays old new e) ∙ listed-append old (drop (length old) new) cs h

pub cuts-kept : (old new : List ℕ) (cs : List Cut) → take (length old) new ≡ old → AreCuts 0 (length old) cs → AreCuts 0 (length new) cs
cuts-kept old new cs e h =
    let whole : length new ≡ length old + length (drop (length old) new) = ap length (front-stays old new e) ∙ length-append old (drop (length old) new) in
    cuts-more 0 (length old) (length new) cs (omega (arith, whole)) h

listed-push : (bytes : List ℕ) (cs : List Cut) (c : Cut) → listed bytes (cs ++ c ∷ []) ≡ listed bytes cs ++ entry_in bytes c ∷ []
listed-push bytes [] c = refl
listed-push bytes (d ∷ cs) c = ap (λ (l : Listed). entry_in bytes d ∷ l) (listed-push bytes cs c)

module _ (old key row mid new : List ℕ) (start middle end : ℕ) (e : mid ≡ old ++ key) (f : new ≡ mid ++ row) (s : start ≡ length old) (m : middle ≡ length mid) (n : end ≡ length new) where
  abbrev cut : Cut
  cut = record { start = start; middle = middle; end = end }

  lengths : (length mid ≡ length old + length key) × (length new ≡ length mid + length row)
  lengths = (ap length e ∙ length-append old key, ap length f ∙ length-append mid row)

  key_is : slice_range new start middle ≡ key
  key_is =
      let size = lengths.0 in
      let cutting : middle - start ≡ length key = omega (arith, s, m, size) in
      ap (λ b. slice_range b start middle) (f ∙ ap (λ b. b ++ row) e ∙ append_assoc old key row) ∙ ap (λ i. take (middle - start) (drop i (old ++ (key ++ row)))) s
      ∙ ap (take (middle - start)) (drop-append_seam old (key ++ row)) ∙ ap (λ i. take i (key ++ row)) cutting ∙ take-append_seam key row

  row_is : slice_range new middle end ≡ row
  row_is =
      let size = lengths.1 in
      let cutting : end - middle ≡ length row = omega (arith, m, n, size) in
      ap (λ b. slice_range b middle end) f ∙ ap (λ i. take (end - middle) (drop i (mid ++ row))) m
      ∙ ap (take (end - middle)) (drop-append_seam mid row) ∙ ap (λ i. take i row) cutting ∙ take-length row

  pub front : take (length old) new ≡ old
  front = ap (take (length old)) (f ∙ ap (λ b. b ++ row) e ∙ append_assoc old key row) ∙ take-append_seam old (key ++ row)

  -- one row more
  pub listed-more : (cs : List Cut) → AllByRecursion (IsWithin (length old)) cs → listed new (cs ++ record { start = start; middle = middle; end = end } ∷ []) ≡ listed old cs ++ (key, row) ∷ []
  listed-more cs h =
      listed-push new cs cut ∙ ap (λ (l : Listed). l ++ entry_in new cut ∷ []) (listed-kept old new cs front h)
      ∙ ap (λ (k : List ℕ). listed old cs ++ (k, slice_range new middle end) ∷ []) key_is ∙ ap (λ (r : List ℕ). listed old cs ++ (key, r) ∷ []) row_is

  pub cuts-all : (cs : List Cut) → AreCuts 0 (length old) cs → AreCuts 0 (length new) (cs ++ record { start = start; middle = middle; end = end } ∷ [])
  cuts-all cs h =
      let one = lengths.0 in
      let two = lengths.1 in
      cuts-push 0 (length old) (length new) cs cut (omega arith) (omega (arith, s)) (omega (arith, one, two)) h
      (record { key = omega (arith, s, m, one); row = omega (arith, m, n, two); bytes = omega (arith, n) })

-- ---- a front stays where bytes are put behind it

pub front_itself : (old new : List ℕ) → new ≡ old → take (length old) new ≡ old
front_itself old new e = ap (take (length old)) e ∙ take-length old

pub front_before : (old new x : List ℕ) → new ≡ old ++ x → take (length old) new ≡ old
front_before old new x e = ap (take (length old)) e ∙ take-append_seam old x

pub front_longer : (old mid new x : List ℕ) → mid ≡ old ++ x → new ≡ mid → take (length old) new ≡ old
front_longer old mid new x e f = front_before old new x (f ∙ e)

pub front_farther : (old mid new x y : List ℕ) → mid ≡ old ++ x → new ≡ mid ++ y → take (length old) new ≡ old
front_farther old mid new x y e f = front_before old new (x ++ y) (f ∙ ap (λ b. b ++ y) e ∙ append_assoc old x y)

-- ---- the ends of an entry are replaced

-- four bytes behind some are replaced
four_put : (x y z four : List ℕ) (at : ℕ) → at ≡ length x → length y ≡ 4 → with_four at four (x ++ (y ++ z)) ≡ x ++ (four ++ z)
four_put x y z four at e k =
    let front : take at (x ++ (y ++ z)) ≡ x = ap (λ (i : ℕ). take i (x ++ (y ++ z))) e ∙ take-append_seam x (y ++ z) in
    let size : length (x ++ y) ≡ length x + length y = length-append x y in
    let past : at + 4 ≡ length (x ++ y) = omega (arith, e, k, size) in
    let back : drop (at + 4) (x ++ (y ++ z)) ≡ z = ap (λ (i : ℕ). drop i (x ++ (y ++ z))) past ∙ ap (drop (length (x ++ y))) (sym (append_assoc x y z)) ∙ drop-append_seam (x ++ y) z in
    ap (λ (l : List ℕ). l ++ (four ++ drop (at + 4) (x ++ (y ++ z)))) front ∙ ap (λ (l : List ℕ). x ++ (four ++ l)) back

-- a part of what comes behind bytes is the same behind as many others
part_behind : (u v q : List ℕ) (a b : ℕ) → length u ≡ length v → length u ≤ a → slice_range (u ++ q) a b ≡ slice_range (v ++ q) a b
part_behind u v q a b e h =
    let left : drop a (u ++ q) ≡ drop (a - length u) q = dropped u a h in
    let right : drop a (v ++ q) ≡ drop (a - length v) q = dropped v a (omega (arith, e, h)) in
    ap (take (b - a)) (left ∙ ap (λ (n : ℕ). drop (a - n) q) e ∙ sym right)
  where
    dropped : (w : List ℕ) (i : ℕ) → length w ≤ i → drop i (w ++ q) ≡ drop (i - length w) q
    dropped w i le =
        let whole : length w + (i - length w) ≡ i = omega (arith, le) in
        ap (λ (n : ℕ). drop n (w ++ q)) (sym whole) ∙ sym (drop-drop (i - length w) (length w) (w ++ q)) ∙ ap (drop (i - length w)) (drop-append_seam w q)

listed_behind : (u v q : List ℕ) (at n : ℕ) (cs : List Cut) → length u ≡ length v → length u ≤ at → AreCuts at n cs → listed (u ++ q) cs ≡ listed (v ++ q) cs
listed_behind u v q at n [] e h k = refl
listed_behind u v q at n (c ∷ cs) e h k =
    ap (λ (x : List ℕ). (x, slice_range (u ++ q) c.middle c.end) ∷ listed (u ++ q) cs) (part_behind u v q c.start c.middle e (omega (arith, h, k.0)))
    ∙ ap (λ (x : List ℕ). (slice_range (v ++ q) c.start c.middle, x) ∷ listed (u ++ q) cs) (part_behind u v q c.middle c.end e (omega (arith, h, k.0, k.1.key)))
    ∙ ap (λ (l : Listed). entry_in (v ++ q) c ∷ l) (listed_behind u v q c.end n cs e (omega (arith, h, k.0, k.1.key, k.1.row)) k.2)

starts_behind : (at n : ℕ) (cs : List Cut) (i : ℕ) (c : Cut) → AreCuts at n cs → i < length cs → c ≡ get_or cs i c → at ≤ c.start
starts_behind at n [] i c h lt e = absurd (omega arith)
starts_behind at n (d ∷ cs) zero c h lt e = subst (λ (x : Cut). at ≤ x.start) (sym e) h.0
starts_behind at n (d ∷ cs) (suc i) c h lt e =
    let more = starts_behind d.end n cs i c h.2 (omega arith) e in
    omega (arith, more, h.0, h.1.key, h.1.row)

-- an entry within the front
entry_low : (p x : List ℕ) (d : Cut) → IsWithin (length p) d → entry_in (p ++ x) d ≡ entry_in p d
entry_low p x d h =
    ap (λ (k : List ℕ). (k, slice_range (p ++ x) d.middle d.end)) (part p x d.start d.middle h.key (omega (arith, h.row, h.bytes)))
    ∙ ap (λ (r : List ℕ). (slice_range p d.start d.middle, r)) (part p x d.middle d.end h.row h.bytes)

-- an entry between others
entry_is : (p k r q : List ℕ) (c : Cut) → c.start ≡ length p → c.middle ≡ length (p ++ k) → c.end ≡ length ((p ++ k) ++ r) → entry_in (((p ++ k) ++ r) ++ q) c ≡ (k, r)
entry_is p k r q c s m n =
    let one : length (p ++ k) ≡ length p + length k = length-append p k in
    let two : length ((p ++ k) ++ r) ≡ length (p ++ k) + length r = length-append (p ++ k) r in
    entry_low ((p ++ k) ++ r) q c (record { key = omega (arith, s, m, one); row = omega (arith, m, n, two); bytes = omega (arith, n) })
    ∙ ap (λ (x : List ℕ). (x, slice_range ((p ++ k) ++ r) c.middle c.end)) (key_is p k r (p ++ k) ((p ++ k) ++ r) c.start c.middle c.end refl refl s m n)
    ∙ ap (λ (x : List ℕ). (k, x)) (row_is p k r (p ++ k) ((p ++ k) ++ r) c.start c.middle c.end refl refl s m n)

regroup : (p k r q : List ℕ) → ((p ++ k) ++ r) ++ q ≡ p ++ ((k ++ r) ++ q)
regroup p k r q = ap (λ (l : List ℕ). l ++ q) (append_assoc p k r) ∙ append_assoc p (k ++ r) q

-- the bytes around an entry, with other ends
module _ (p f m r q front row : List ℕ) (c : Cut) (start : c.start ≡ length p) (middle : c.middle ≡ length (p ++ (f ++ m))) (end : c.end ≡ length ((p ++ (f ++ m)) ++ r))
    (four : length f ≡ 4) (short : length r ≡ 4) (as_front : length front ≡ 4) (as_row : length row ≡ 4) where
  abbrev old_bytes : List ℕ
  old_bytes = ((p ++ (f ++ m)) ++ r) ++ q

  abbrev new_bytes : List ℕ
  new_bytes = ((p ++ (front ++ m)) ++ row) ++ q

  same_key : length (p ++ (front ++ m)) ≡ length (p ++ (f ++ m))
  same_key =
      let a : length (front ++ m) ≡ length front + length m = length-append front m in
      let b : length (f ++ m) ≡ length f + length m = length-append f m in
      let c : length (p ++ (front ++ m)) ≡ length p + length (front ++ m) = length-append p (front ++ m) in
      let d : length (p ++ (f ++ m)) ≡ length p + length (f ++ m) = length-append p (f ++ m) in
      omega (arith, a, b, c, d, four, as_front)

  same_entry : length ((p ++ (front ++ m)) ++ row) ≡ length ((p ++ (f ++ m)) ++ r)
  same_entry =
      let key = same_key in
      let a : length ((p ++ (front ++ m)) ++ row) ≡ length (p ++ (front ++ m)) + length row = length-append (p ++ (front ++ m)) row in
      let b : length ((p ++ (f ++ m)) ++ r) ≡ length (p ++ (f ++ m)) + length r = length-append (p ++ (f ++ m)) r in
      omega (arith, a, b, key, short, as_row)

  same_length : length new_bytes ≡ length old_bytes
  same_length =
      let entry = same_entry in
      let a : length new_bytes ≡ length ((p ++ (front ++ m)) ++ row) + length q = length-append ((p ++ (front ++ m)) ++ row) q in
      let b : length old_bytes ≡ length ((p ++ (f ++ m)) ++ r) + length q = length-append ((p ++ (f ++ m)) ++ r) q in
      omega (arith, a, b, entry)

  old_entry : entry_in old_bytes c ≡ (f ++ m, r)
  old_entry = entry_is p (f ++ m) r q c start middle end

  new_entry : entry_in new_bytes c ≡ (front ++ m, row)
  new_entry = entry_is p (front ++ m) row q c start (middle ∙ sym same_key) (end ∙ sym same_entry)

  rest_of_key : drop 4 (f ++ m) ≡ m
  rest_of_key = ap (λ (i : ℕ). drop i (f ++ m)) (sym four) ∙ drop-append_seam f m

  entry_before : (d : Cut) → IsWithin (length p) d → entry_in new_bytes d ≡ entry_in old_bytes d
  entry_before d h =
      ap (λ (b : List ℕ). entry_in b d) (regroup p (front ++ m) row q) ∙ entry_low p (((front ++ m) ++ row) ++ q) d h
      ∙ sym (ap (λ (b : List ℕ). entry_in b d) (regroup p (f ++ m) r q) ∙ entry_low p (((f ++ m) ++ r) ++ q) d h)

  replaced : (at n : ℕ) (cs : List Cut) (i : ℕ) → AreCuts at n cs → i < length cs → c ≡ get_or cs i c → listed new_bytes cs ≡ with_ends front row (listed old_bytes cs) i
  replaced at n [] i h lt e = absurd (omega arith)
  replaced at n (d ∷ cs) zero h lt e =
      let ends : d.end ≡ length ((p ++ (f ++ m)) ++ r) = ap (λ (x : Cut). x.end) (sym e) ∙ end in
      let size = same_entry in
      let others = listed_behind ((p ++ (front ++ m)) ++ row) ((p ++ (f ++ m)) ++ r) q d.end n cs same_entry (omega (arith, ends, size)) h.2 in
      ap (λ (x : Cut). entry_in new_bytes x ∷ listed new_bytes cs) (sym e) ∙ ap (λ (x : List ℕ × List ℕ). x ∷ listed new_bytes cs) new_entry
      ∙ ap (λ (l : Listed). (front ++ m, row) ∷ l) others ∙ ap (λ (k : List ℕ). (front ++ k, row) ∷ listed old_bytes cs) (sym rest_of_key)
      ∙ ap (λ (x : List ℕ × List ℕ). (front ++ drop 4 x.0, row) ∷ listed old_bytes cs) (sym (ap (entry_in old_bytes) (sym e) ∙ old_entry))
  replaced at n (d ∷ cs) (suc i) h lt e =
      let below = starts_behind d.end n cs i c h.2 (omega arith) e in
      ap (λ (x : List ℕ × List ℕ). x ∷ listed new_bytes cs) (entry_before d (record { key = h.1.key; row = h.1.row; bytes = omega (arith, below, start) }))
      ∙ ap (λ (l : Listed). entry_in old_bytes d ∷ l) (replaced d.end n cs i h.2 (omega arith) e)

-- a piece of bytes, and what comes behind it
piece : (i n j : ℕ) (b : List ℕ) → i + n ≡ j → j ≤ length b → (drop i b ≡ take n (drop i b) ++ drop j b) × (length (take n (drop i b)) ≡ n)
piece i n j b e h =
    let size : length (drop i b) ≡ length b - i = length-drop i b in
    (sym (take-append-drop n (drop i b)) ∙ ap (λ (l : List ℕ). take n (drop i b) ++ l) (drop-drop n i b ∙ ap (λ (k : ℕ). drop k b) e), length-take-le n (drop i b) (omega (arith, size, e, h)))

-- an entry's key has four bytes or more, and its row has four
pub record HasEnds (n : ℕ) (c : Cut) : Type 0 where
  pub key : c.start + 4 ≤ c.middle
  pub row : c.end ≡ c.middle + 4
  pub bytes : c.end ≤ n

pub ends_are : (b : List ℕ) (cs : List Cut) (rows : Listed) (i : ℕ) (c : Cut) → listed b cs ≡ rows → AreCuts 0 (length b) cs → i < length cs → c ≡ get_or cs i c → 4 ≤ length (get_or rows i ([], [])).0
    → length (get_or rows i ([], [])).1 ≡ 4 → HasEnds (length b) c
ends_are b cs rows i c e h lt at key row =
    let w = within-at (length b) cs i c lt at (all-within 0 (length b) cs h) in
    let entry : entry_in b c ≡ get_or rows i ([], []) = listed-at b cs i c lt at ∙ ap (λ (l : Listed). get_or l i ([], [])) e in
    let from_key : length (drop c.start b) ≡ length b - c.start = length-drop c.start b in
    let from_row : length (drop c.middle b) ≡ length b - c.middle = length-drop c.middle b in
    let of_key : length (slice_range b c.start c.middle) ≡ c.middle - c.start = length-take-le (c.middle - c.start) (drop c.start b) (omega (arith, from_key, w.key, w.row, w.bytes)) in
    let of_row : length (slice_range b c.middle c.end) ≡ c.end - c.middle = length-take-le (c.end - c.middle) (drop c.middle b) (omega (arith, from_row, w.row, w.bytes)) in
    let long : 4 ≤ length (slice_range b c.start c.middle) = subst (λ (x : List ℕ × List ℕ). 4 ≤ length x.0) (sym entry) key in
    let four : length (slice_range b c.middle c.end) ≡ 4 = subst (λ (x : List ℕ × List ℕ). length x.1 ≡ 4) (sym entry) row in
    record { key = omega (arith, long, of_key, w.key); row = omega (arith, four, of_row, w.row); bytes = w.bytes }

pub as_long_with_four : (at : ℕ) (four b : List ℕ) → at + 4 ≤ length b → length four ≡ 4 → length (with_four at four b) ≡ length b
as_long_with_four at four b h e =
    let front : length (take at b) ≡ at = length-take-le at b (omega arith) in
    let back : length (drop (at + 4) b) ≡ length b - (at + 4) = length-drop (at + 4) b in
    let inner : length (four ++ drop (at + 4) b) ≡ length four + length (drop (at + 4) b) = length-append four (drop (at + 4) b) in
    let whole : length (with_four at four b) ≡ length (take at b) + length (four ++ drop (at + 4) b) = length-append (take at b) (four ++ drop (at + 4) b) in
    omega (arith, front, back, inner, whole, h, e)

-- the key and the row of an entry have other ends, and all others are as they were
pub ends_replaced : (b mid new front row : List ℕ) (cs : List Cut) (i : ℕ) (c : Cut) → AreCuts 0 (length b) cs → i < length cs → c ≡ get_or cs i c → c.start + 4 ≤ c.middle → c.end ≡ c.middle + 4 → length front ≡ 4 → length row ≡ 4
    → mid ≡ with_four c.start front b → new ≡ with_four c.middle row mid → (listed new cs ≡ with_ends front row (listed b cs) i) × (length new ≡ length b)
ends_replaced b mid new front row cs i c h lt e long ends as_front as_row one two =
    let w = within-at (length b) cs i c lt e (all-within 0 (length b) cs h) in
    let k = c.middle - (c.start + 4) in
    let p : List ℕ = take c.start b in
    let f : List ℕ = take 4 (drop c.start b) in
    let m : List ℕ = take k (drop (c.start + 4) b) in
    let r : List ℕ = take 4 (drop c.middle b) in
    let q : List ℕ = drop (c.middle + 4) b in
    let start : c.start ≡ length p = sym (length-take-le c.start b (omega (arith, w.key, w.row, w.bytes))) in
    let f_is = piece c.start 4 (c.start + 4) b refl (omega (arith, long, w.row, w.bytes)) in
    let m_is = piece (c.start + 4) k c.middle b (omega (arith, long)) (omega (arith, w.row, w.bytes)) in
    let r_is = piece c.middle 4 (c.middle + 4) b refl (omega (arith, ends, w.bytes)) in
    let whole : b ≡ p ++ (f ++ (m ++ (r ++ q))) = sym (take-append-drop c.start b) ∙ ap (λ (l : List ℕ). p ++ l) (f_is.0 ∙ ap (λ (l : List ℕ). f ++ l) (m_is.0 ∙ ap (λ (l : List ℕ). m ++ l) r_is.0)) in
    let grouped : (x : List ℕ) → p ++ (x ++ (m ++ (r ++ q))) ≡ (p ++ (x ++ m)) ++ (r ++ q) = λ x. sym (append_assoc p (x ++ m) (r ++ q) ∙ ap (λ (l : List ℕ). p ++ l) (append_assoc x m (r ++ q))) in
    let old_is : b ≡ ((p ++ (f ++ m)) ++ r) ++ q = whole ∙ grouped f ∙ sym (append_assoc (p ++ (f ++ m)) r q) in
    let fm : length (f ++ m) ≡ length f + length m = length-append f m in
    let pfm : length (p ++ (f ++ m)) ≡ length p + length (f ++ m) = length-append p (f ++ m) in
    let pfmr : length ((p ++ (f ++ m)) ++ r) ≡ length (p ++ (f ++ m)) + length r = length-append (p ++ (f ++ m)) r in
    let middle : c.middle ≡ length (p ++ (f ++ m)) = omega (arith, fm, pfm, start, f_is.1, m_is.1, long) in
    let end : c.end ≡ length ((p ++ (f ++ m)) ++ r) = omega (arith, middle, pfmr, ends, r_is.1) in
    let key = same_key p f m r q front row c start middle end f_is.1 r_is.1 as_front as_row in
    let mid_is : mid ≡ (p ++ (front ++ m)) ++ (r ++ q) = one ∙ ap (with_four c.start front) whole ∙ four_put p f (m ++ (r ++ q)) front c.start start f_is.1 ∙ grouped front in
    let new_is : new ≡ ((p ++ (front ++ m)) ++ row) ++ q = two ∙ ap (with_four c.middle row) mid_is ∙ four_put (p ++ (front ++ m)) r q row c.middle (middle ∙ sym key) r_is.1 ∙ sym (append_assoc (p ++ (front ++ m)) row q) in (
      ap (λ (x : List ℕ). listed x cs) new_is ∙ replaced p f m r q front row c start middle end f_is.1 r_is.1 as_front as_row 0 (length b) cs i h lt e ∙ ap (λ (x : List ℕ). with_ends front row (listed x cs) i) (sym old_is),
      ap length new_is ∙ same_length p f m r q front row c start middle end f_is.1 r_is.1 as_front as_row ∙ ap length (sym old_is),
    )
