-- An index that forgets the name of who leaves.
use Rattle.std.proofs.Common.{◌≡◌, ◌∙◌, ℕ, ◌+◌, ◌-◌, zero, suc, true, false, not, List, [], ◌∷◌, Some, None, slice_set, refl, sym, ap, inl, inr}
use Rattle.std.specs.List.{list_any, slice_get, position_from}
use Rattle.std.proofs.lemmas.Bool.{cases_Bool, cond-true, cond-false, and_parts, or_parts, not-true}
use Rattle.std.proofs.lemmas.Option.{none-some}
use Rattle.bdb_base.specs.declared.kinds.UserSlot.{UserSlot}
use Rattle.bdb_base.specs.declared.kinds.UserSlot.TheVariants.{Live, Gone}
use Rattle.bdb_base.specs.Bases.{are_distinct, user_names, is_called}
use Rattle.bdb_base.specs.Same.{same_text}
use Rattle.bdb_base.proofs.UserLemmas.{name_found, named_at, apart_from}
use Rattle.bdb_base.proofs.SegmentLemmas.{same_text_is}
use Rattle.bdb_bind.specs.Indexes.{but_of, WhoLeavesIsForgotten}
use Rattle.bdb_bind.proofs.FitLemmas.{differs_turned}

-- a name that none of the live users has isn't found
not_found : (name : List ℕ) (start : ℕ) (users : List UserSlot) → list_any (same_text name) (user_names users) ≡ false → position_from (is_called name) start users ≡ None
not_found name start [] none = refl
not_found name start (Live x ∷ us) none =
    let parts = or_parts (same_text name x) (list_any (same_text name) (user_names us)) none in
    cond-false (same_text x name) (Some start) (position_from (is_called name) (start + 1) us) (differs_turned name x parts.0) ∙ not_found name (start + 1) us parts.1
not_found name start (Gone ∷ us) none = not_found name (start + 1) us none

-- where one who is called so goes
he_goes : (name q : List ℕ) (start : ℕ) (us : List UserSlot) → list_any (same_text name) (user_names us) ≡ false
    → position_from (is_called q) (start + 1) us ≡ but_of (position_from (is_called q) start (Live name ∷ us)) name q
he_goes name q start us none = elim (cases_Bool (same_text name q)) [
  | inl same ↦ let one : name ≡ q = same_text_is name q same in
      ap (λ x. position_from (is_called x) (start + 1) us) (sym one) ∙ not_found name (start + 1) us none
      ∙ sym (cond-true (same_text name q) None (position_from (is_called q) start (Live name ∷ us)) same)
  | inr other ↦ sym (cond-false (same_text name q) None (position_from (is_called q) start (Live name ∷ us)) other
      ∙ cond-false (same_text name q) (Some start) (position_from (is_called q) (start + 1) us) other)
]

-- and where one stands before him
one_before : (n name q : List ℕ) (start : ℕ) (now us : List UserSlot) → same_text n name ≡ false
    → position_from (is_called q) (start + 1) now ≡ but_of (position_from (is_called q) (start + 1) us) name q
    → position_from (is_called q) start (Live n ∷ now) ≡ but_of (position_from (is_called q) start (Live n ∷ us)) name q
one_before n name q start now us differ rest = elim (cases_Bool (same_text n q)) [
  | inl same ↦ let one : n ≡ q = same_text_is n q same in
      let other : same_text name q ≡ false = ap (same_text name) (sym one) ∙ differs_turned n name differ in
      cond-true (same_text n q) (Some start) (position_from (is_called q) (start + 1) now) same
      ∙ sym (cond-false (same_text name q) None (position_from (is_called q) start (Live n ∷ us)) other
      ∙ cond-true (same_text n q) (Some start) (position_from (is_called q) (start + 1) us) same)
  | inr other ↦ cond-false (same_text n q) (Some start) (position_from (is_called q) (start + 1) now) other ∙ rest
      ∙ sym (ap (λ o. but_of o name q) (cond-false (same_text n q) (Some start) (position_from (is_called q) (start + 1) us) other))
]

goes : (name q : List ℕ) (start : ℕ) (users : List UserSlot) (at : ℕ) → are_distinct (user_names users) ≡ true → slice_get users at ≡ Some (Live name)
    → position_from (is_called q) start (slice_set users at Gone) ≡ but_of (position_from (is_called q) start users) name q
goes name q start [] at differ there = absurd (none-some (Live name) there)
goes name q start (Live n ∷ us) zero differ there =
    let same : n ≡ name = cc in
    let none = not-true (list_any (same_text n) (user_names us)) (and_parts (not (list_any (same_text n) (user_names us))) (are_distinct (user_names us)) differ).0 in
    he_goes n q start us none ∙ ap (λ m. but_of (position_from (is_called q) start (Live n ∷ us)) m q) same
goes name q start (Gone ∷ us) zero differ there = cc
goes name q start (Live n ∷ us) (suc at) differ there =
    let parts = and_parts (not (list_any (same_text n) (user_names us))) (are_distinct (user_names us)) differ in
    let none = not-true (list_any (same_text n) (user_names us)) parts.0 in
    one_before n name q start (slice_set us at Gone) us (apart_from n name us at none there) (goes name q (start + 1) us at parts.1 there)
goes name q start (Gone ∷ us) (suc at) differ there = goes name q (start + 1) us at differ there

pub who_leaves_is_forgotten : WhoLeavesIsForgotten
who_leaves_is_forgotten c uid name q differ named = goes name q 0 c.users (uid - 1) differ (named_at c.users (uid - 1) name (name_found c.users uid name named).1)
