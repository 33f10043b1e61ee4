-- Names that are found in a list.
use Rattle.std.proofs.Common.{◌≡◌, ◌∙◌, ℕ, ◌+◌, ◌<◌, suc, Bool, true, not, List, [], ◌∷◌, length, Some, None, find, refl, sym, ap, inl, inr, arith}
use Rattle.std.specs.List.{position_from, slice_get, list_all}
use Rattle.std.proofs.lemmas.Bool.{cases_Bool, cond-true, cond-false, and_from, not-false}
use Rattle.bdb_base.specs.declared.kinds.UserSlot.{UserSlot}
use Rattle.bdb_base.specs.declared.kinds.UserSlot.TheVariants.{Live, Gone}
use Rattle.bdb_base.specs.Same.{same_text}
use Rattle.bdb_base.proofs.SegmentLemmas.{same_text_is, same_text_itself}
use Rattle.bdb_base.specs.Bases.{is_called}
use Rattle.bdb_bind.specs.Lookup.{uid_of}

-- what is found at a place: an item that passes, the first that does
pub record IsFound {X : Type 0} (p : X → Bool) (start : ℕ) (xs : List X) (k : ℕ) : Type 0 where
  pub at : ℕ
  pub item : X
  pub place : k ≡ start + at
  pub within : at < length xs
  pub there : slice_get xs at ≡ Some item
  pub first : find p xs ≡ Some item
  pub passes : p item ≡ true

pub found : {X : Type 0} (p : X → Bool) (start : ℕ) (xs : List X) (k : ℕ) → position_from p start xs ≡ Some k → IsFound p start xs k
found p start [] k e = cc
found p start (x ∷ xs) k e = elim (cases_Bool (p x)) [
  | inl passed ↦ let here : Some start ≡ Some k = sym (cond-true (p x) (Some start) (position_from p (start + 1) xs) passed) ∙ e in
      let same : start ≡ k = cc in
      record { at = 0; item = x; place = omega arith; within = omega arith; there = refl; first = cond-true (p x) (Some x) (find p xs) passed; passes = passed }
  | inr other ↦ let later = found p (start + 1) xs k (sym (cond-false (p x) (Some start) (position_from p (start + 1) xs) other) ∙ e) in
      record {
        at = suc later.at;
        item = later.item;
        place = omega (arith, later.place);
        within = omega (arith, later.within);
        there = later.there;
        first = cond-false (p x) (Some x) (find p xs) other ∙ later.first;
        passes = later.passes;
      }
]

-- where no item fails, all pass
pub all_pass : {X : Type 0} (p : X → Bool) (xs : List X) → find (λ x. not (p x)) xs ≡ None → list_all p xs ≡ true
all_pass p [] e = refl
all_pass p (x ∷ xs) e = elim (cases_Bool (not (p x))) [
  | inl fails ↦ let here : Some x ≡ None = sym (cond-true (not (p x)) (Some x) (find (λ y. not (p y)) xs) fails) ∙ e in cc
  | inr passes ↦ and_from (p x) (list_all p xs) (not-false (p x) passes)
      (all_pass p xs (sym (cond-false (not (p x)) (Some x) (find (λ y. not (p y)) xs) passes) ∙ e))
]

-- the place of one who is called so is his
pub called_so : (name : List ℕ) (slot : UserSlot) → is_called name slot ≡ true → slot ≡ Live name
called_so name (Live x) called = ap Live (same_text_is x name called)
called_so name Gone called = cc

-- two names that have one uid are one
pub one_name : (users : List UserSlot) (a b : List ℕ) (uid : ℕ) → uid_of users a ≡ Some uid → uid_of users b ≡ Some uid → same_text a b ≡ true
one_name users a b uid ea eb =
    let fa = found (is_called a) 1 users uid ea in
    let fb = found (is_called b) 1 users uid eb in
    let places : fa.at ≡ fb.at = omega (arith, fa.place, fb.place) in
    let items : Some fa.item ≡ Some fb.item = sym fa.there ∙ ap (slice_get users) places ∙ fb.there in
    let left : fa.item ≡ Live a = called_so a fa.item fa.passes in
    let right : fb.item ≡ Live b = called_so b fb.item fb.passes in
    let slots : Live a ≡ Live b = cc in
    let same : a ≡ b = cc in
    ap (same_text a) (sym same) ∙ same_text_itself a
