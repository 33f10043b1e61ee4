-- The places of aliases, where one more item is taken.
use Rattle.std.proofs.Common.{◌≡◌, ◌∙◌, ℕ, ◌+◌, ◌<◌, ◌||◌, Bool, List, [], ◌∷◌, length, Option, Some, None, find, get_or, take, refl, sym, ap, inl, inr, arith}
use Rattle.std.proofs.lemmas.Option.{get_or_from_slice_get}
use Rattle.std.proofs.lemmas.Bool.{cases_Bool, cond-true, cond-false}
use Rattle.std.proofs.lemmas.Bool.Decides.{same_from_decides, Decides-like}
use Rattle.std.specs.Option.{is_some, IfSome}
use Rattle.std.specs.List.{list_any, position_from}
use Rattle.bdb_base.specs.Same.{same_text}
use Rattle.bdb_base.specs.SameLemmas.{same_text-Decides}
use Rattle.bdb_syntax.specs.declared.command.RawItem.{RawItem}
use Rattle.bdb_bind.specs.Scope.{item_place, item_of}
use Rattle.bdb_bind.specs.Indexes.{or_place}
use Rattle.bdb_bind.proofs.Founds.{found}
use Rattle.bdb_bind.proofs.IndexLemmas.{place_more}

turned : (a b : List ℕ) → same_text a b ≡ same_text b a
turned a b = same_from_decides (same_text a b) (same_text b a) (same_text-Decides a b) (Decides-like (same_text b a) (λ e. sym e) (λ e. sym e) (same_text-Decides b a))

none_found : {X : Type 0} (p : X → Bool) (start : ℕ) (xs : List X) → position_from p start xs ≡ None → find p xs ≡ None
none_found p start [] e = refl
none_found p start (x ∷ xs) e = elim (cases_Bool (p x)) [
  | inl here ↦ let wrong : Some start ≡ None = sym (cond-true (p x) (Some start) (position_from p (start + 1) xs) here) ∙ e in cc
  | inr other ↦ cond-false (p x) (Some x) (find p xs) other ∙ none_found p (start + 1) xs (sym (cond-false (p x) (Some start) (position_from p (start + 1) xs) other) ∙ e)
]

-- an alias has a place among these items exactly where one of them has it
pub place_among : (seen : List RawItem) (start : ℕ) (a : List ℕ) → list_any (λ e. same_text a e.alias) seen ≡ is_some (position_from (λ i. same_text i.alias a) start seen)
place_among [] start a = refl
place_among (i ∷ is) start a = ap (λ b. b || list_any (λ e. same_text a e.alias) is) (turned a i.alias) ∙ elim (cases_Bool (same_text i.alias a)) [
  | inl here ↦ ap (λ b. b || list_any (λ e. same_text a e.alias) is) here ∙ sym (ap is_some (cond-true (same_text i.alias a) (Some start) (position_from (λ x. same_text x.alias a) (start + 1) is) here))
  | inr other ↦ ap (λ b. b || list_any (λ e. same_text a e.alias) is) other ∙ place_among is (start + 1) a
      ∙ sym (ap is_some (cond-false (same_text i.alias a) (Some start) (position_from (λ x. same_text x.alias a) (start + 1) is) other))
]

-- with one more item, an alias that had no place has its
pub places_more : (items : List RawItem) (at : ℕ) (i : RawItem) (q : List ℕ) → at < length items → i ≡ get_or items at i
    → item_place (take (at + 1) items) (Some q) ≡ or_place (item_place (take at items) (Some q)) i.alias at q
places_more items at i q below item = place_more (λ (x : RawItem). same_text x.alias q) items at i below item

-- an alias stands at a place of the list
pub place_within : (items : List RawItem) (a : List ℕ) (o : Option ℕ) → o ≡ item_place items (Some a) → IfSome o (λ place. place < length items)
place_within items a None e = tt
place_within items a (Some k) e = let f = found (λ i. same_text i.alias a) 0 items k (sym e) in omega (arith, f.place, f.within)

-- the item at the place of an alias is its first item
pub item_at_place : (items : List RawItem) (alias : Option (List ℕ)) (at : ℕ) (d : RawItem) → item_place items alias ≡ Some at → item_of items alias ≡ Some (get_or items at d)
item_at_place items None at d e = cc
item_at_place items (Some a) at d e =
    let f = found (λ i. same_text i.alias a) 0 items at e in
    let place : f.at ≡ at = omega (arith, f.place) in
    f.first ∙ ap Some (sym (get_or_from_slice_get items f.at f.item d f.there)) ∙ ap (λ k. Some (get_or items k d)) place

-- an alias without a place has no item
pub no_item : (items : List RawItem) (alias : Option (List ℕ)) → item_place items alias ≡ None → item_of items alias ≡ None
no_item items None e = refl
no_item items (Some a) e = none_found (λ (i : RawItem). same_text i.alias a) 0 items e
