-- The place of the first of a name in a list with one more at its end.
use Rattle.std.proofs.Common.{◌≡◌, ◌∙◌, ℕ, ◌+◌, ◌<◌, Bool, List, [], ◌∷◌, ◌++◌, length, Option, Some, None, cond, get_or, take, refl, sym, ap, inl, inr, arith}
use Rattle.std.proofs.lemmas.Bool.{cases_Bool, cond-true, cond-false}
use Rattle.std.proofs.lemmas.List.{take_more, length-take}
use Rattle.std.specs.Option.{option_or}
use Rattle.std.specs.List.{position_from}
use Rattle.bdb_base.specs.declared.kinds.RelDef.{RelDef}
use Rattle.bdb_base.specs.declared.kinds.UserSlot.{UserSlot}
use Rattle.bdb_base.specs.declared.kinds.UserSlot.TheVariants.{Live, Gone}
use Rattle.bdb_base.specs.Same.{same_text}
use Rattle.bdb_base.proofs.SegmentLemmas.{same_text_is}
use Rattle.bdb_base.specs.Bases.{is_called}
use Rattle.bdb_bind.specs.Indexes.{or_place, or_slot, user_place}
use Rattle.bdb_bind.specs.Lookup.{relation_number}

pushed : {X : Type 0} (p : X → Bool) (start : ℕ) (xs : List X) (x : X) (n : ℕ) → n ≡ start + length xs
    → position_from p start (xs ++ x ∷ []) ≡ option_or (position_from p start xs) (cond (p x) (Some n) None)
pushed p start [] x n many = let same : start ≡ n = omega arith in ap (λ k. cond (p x) (Some k) None) same
pushed p start (y ∷ ys) x n many = elim (cases_Bool (p y)) [
  | inl here ↦ cond-true (p y) (Some start) (position_from p (start + 1) (ys ++ x ∷ [])) here
      ∙ sym (ap (λ o. option_or o (cond (p x) (Some n) None)) (cond-true (p y) (Some start) (position_from p (start + 1) ys) here))
  | inr other ↦ cond-false (p y) (Some start) (position_from p (start + 1) (ys ++ x ∷ [])) other ∙ pushed p (start + 1) ys x n (omega arith)
      ∙ sym (ap (λ o. option_or o (cond (p x) (Some n) None)) (cond-false (p y) (Some start) (position_from p (start + 1) ys) other))
]

pub place_more : {X : Type 0} (p : X → Bool) (xs : List X) (at : ℕ) (x : X) → at < length xs → x ≡ get_or xs at x
    → position_from p 0 (take (at + 1) xs) ≡ option_or (position_from p 0 (take at xs)) (cond (p x) (Some at) None)
place_more p xs at x below item =
    let more : take (at + 1) xs ≡ take at xs ++ x ∷ [] = take_more xs at x below ∙ ap (λ y. take at xs ++ y ∷ []) (sym item) in
    let many = length-take at xs in
    ap (position_from p 0) more ∙ pushed p 0 (take at xs) x at (omega (arith, many))

or_nothing : (o : Option ℕ) → option_or o None ≡ o
or_nothing None = refl
or_nothing (Some x) = refl

-- what is told after one place more
told_more : (told : Option ℕ) (slot : UserSlot) (at : ℕ) (q : List ℕ) → option_or told (cond (is_called q slot) (Some at) None) ≡ or_slot told slot at q
told_more told (Live name) at q = refl
told_more told Gone at q = or_nothing told

pub users_more : (users : List UserSlot) (at : ℕ) (slot : UserSlot) (q : List ℕ) → at < length users → slot ≡ get_or users at slot
    → user_place (take (at + 1) users) q ≡ or_slot (user_place (take at users) q) slot at q
users_more users at slot q below item = place_more (is_called q) users at slot below item ∙ told_more (user_place (take at users) q) slot at q

pub relations_more : (rels : List RelDef) (at : ℕ) (x : RelDef) (q : List ℕ) → at < length rels → x ≡ get_or rels at x
    → relation_number (take (at + 1) rels) q ≡ or_place (relation_number (take at rels) q) x.name at q
relations_more rels at x q below item = place_more (λ (r : RelDef). same_text r.name q) rels at x below item

-- a name that wasn't known is told its place, and no other changes
pub added : (told : List ℕ → Option ℕ) (name : List ℕ) (at : ℕ) (q : List ℕ) (new : Option ℕ) → told name ≡ None
    → new ≡ cond (same_text name q) (Some at) (told q) → new ≡ or_place (told q) name at q
added told name at q new none e = elim (cases_Bool (same_text name q)) [
  | inl same ↦ let one : name ≡ q = same_text_is name q same in
      let before : told q ≡ None = ap told (sym one) ∙ none in
      e ∙ cond-true (same_text name q) (Some at) (told q) same
      ∙ sym (ap (λ o. option_or o (cond (same_text name q) (Some at) None)) before ∙ cond-true (same_text name q) (Some at) None same)
  | inr other ↦ e ∙ cond-false (same_text name q) (Some at) (told q) other
      ∙ sym (ap (option_or (told q)) (cond-false (same_text name q) (Some at) None other) ∙ or_nothing (told q))
]
