-- Events have one list of batches alone.
use Rattle.std.proofs.Common.{◌≡◌, ◌∙◌, ℕ, suc, ◌≤◌, true, false, nat_eq, nat_le, List, [], ◌∷◌, filter, refl, ap, sym, arith, inl, inr}
use Rattle.std.proofs.lemmas.Bool.{cases_Bool, and_parts, leb-true, eq-eqb, eqb-false, ne_eqb}
use Rattle.bdb_base.proofs.ListLemmas.{filter_kept_one, filter_dropped_one}
use Rattle.bdb_multi.specs.Batches.{RanBatch, ascends_from, BatchesAreOne}

-- the batches of a session
own : ℕ → List RanBatch → List RanBatch
own n rs = filter (λ r. nat_eq r.session n) rs

kept : (n : ℕ) (r : RanBatch) (rs : List RanBatch) → nat_eq r.session n ≡ true → own n (r ∷ rs) ≡ r ∷ own n rs
unfolding own
kept n r rs h = filter_kept_one (λ r. nat_eq r.session n) r rs h

left_out : (n : ℕ) (r : RanBatch) (rs : List RanBatch) → nat_eq r.session n ≡ false → own n (r ∷ rs) ≡ own n rs
unfolding own
left_out n r rs h = filter_dropped_one (λ r. nat_eq r.session n) r rs h

none_own : (n : ℕ) → own n [] ≡ []
unfolding own
none_own n = refl

itself : (r : RanBatch) → nat_eq r.session r.session ≡ true
itself r = eq-eqb r.session r.session refl

not_nil : (r : RanBatch) (rs : List RanBatch) → [] ≡ r ∷ rs → ⊥
not_nil r rs e = cc

same_first : (x y : RanBatch) (xs ys : List RanBatch) → x ∷ xs ≡ y ∷ ys → x ≡ y
same_first x y xs ys e = cc

same_rest : (x y : RanBatch) (xs ys : List RanBatch) → x ∷ xs ≡ y ∷ ys → xs ≡ ys
same_rest x y xs ys e = cc

-- no batch of a session stands before the place from which all do
first_from : (n low : ℕ) (x : RanBatch) (xs rs : List RanBatch) → ascends_from low rs ≡ true → x ∷ xs ≡ own n rs → low ≤ x.place
first_from n low x xs [] h e = absurd (not_nil x xs (sym (e ∙ none_own n)))
first_from n low x xs (r ∷ rs) h e =
    let parts = and_parts (nat_le low r.place) (ascends_from (suc r.place) rs) h in
    let low_r : low ≤ r.place = leb-true low r.place parts.0 in
    elim (cases_Bool (nat_eq r.session n)) [
      | inl k ↦ let same : x.place ≡ r.place = ap (λ x. x.place) (same_first x r xs (own n rs) (e ∙ kept n r rs k)) in omega (arith, low_r, same)
      | inr k ↦ let later : suc r.place ≤ x.place = first_from n (suc r.place) x xs rs parts.1 (e ∙ left_out n r rs k) in omega (arith, low_r, later)
    ]

-- what is first in both is the same
same_firsts : (x y : RanBatch) (a b : List RanBatch) → ascends_from (suc x.place) a ≡ true → ascends_from (suc y.place) b ≡ true
    → ((n : ℕ) → own n (x ∷ a) ≡ own n (y ∷ b)) → x ≡ y
same_firsts x y a b up_a up_b same = elim (cases_Bool (nat_eq y.session x.session)) [
  | inl k ↦ same_first x y (own x.session a) (own x.session b)
      (sym (kept x.session x a (itself x)) ∙ (same x.session ∙ kept x.session y b k))
  | inr k ↦
      let k' : nat_eq x.session y.session ≡ false = ne_eqb x.session y.session (λ e. eqb-false y.session x.session k (sym e)) in
      let below : suc y.place ≤ x.place = first_from x.session (suc y.place) x (own x.session a) b up_b
      (sym (kept x.session x a (itself x)) ∙ (same x.session ∙ left_out x.session y b k)) in
      let above : suc x.place ≤ y.place = first_from y.session (suc x.place) y (own y.session b) a up_a
      (sym (kept y.session y b (itself y)) ∙ (sym (same y.session) ∙ left_out y.session x a k')) in
      absurd (omega (arith, below, above))
]

same_others : (x y : RanBatch) (a b : List RanBatch) → x ≡ y → ((n : ℕ) → own n (x ∷ a) ≡ own n (y ∷ b)) → (n : ℕ) → own n a ≡ own n b
same_others x y a b e same n = elim (cases_Bool (nat_eq x.session n)) [
  | inl k ↦
      let k' : nat_eq y.session n ≡ true = ap (λ r. nat_eq r.session n) (sym e) ∙ k in
      same_rest x y (own n a) (own n b) (sym (kept n x a k) ∙ (same n ∙ kept n y b k'))
  | inr k ↦
      let k' : nat_eq y.session n ≡ false = ap (λ r. nat_eq r.session n) (sym e) ∙ k in
      sym (left_out n x a k) ∙ (same n ∙ left_out n y b k')
]

one : (low high : ℕ) (a b : List RanBatch) → ascends_from low a ≡ true → ascends_from high b ≡ true → ((n : ℕ) → own n a ≡ own n b) → a ≡ b
one low high [] [] up_a up_b same = refl
one low high [] (y ∷ b) up_a up_b same =
    absurd (not_nil y (own y.session b) (sym (none_own y.session) ∙ (same y.session ∙ kept y.session y b (itself y))))
one low high (x ∷ a) [] up_a up_b same =
    absurd (not_nil x (own x.session a) (sym (none_own x.session) ∙ (sym (same x.session) ∙ kept x.session x a (itself x))))
one low high (x ∷ a) (y ∷ b) up_a up_b same =
    let later_a = (and_parts (nat_le low x.place) (ascends_from (suc x.place) a) up_a).1 in
    let later_b = (and_parts (nat_le high y.place) (ascends_from (suc y.place) b) up_b).1 in
    let e = same_firsts x y a b later_a later_b same in
    ap (λ r. r ∷ a) e ∙ ap (λ rs. y ∷ rs) (one (suc x.place) (suc y.place) a b later_a later_b (same_others x y a b e same))

pub batches_are_one : BatchesAreOne
unfolding own
batches_are_one events a b of_a of_b = one 0 0 a b of_a.in_order of_b.in_order (λ n. of_a.own n ∙ sym (of_b.own n))
