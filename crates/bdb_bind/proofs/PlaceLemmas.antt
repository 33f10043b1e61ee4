-- Where names differ, a name that stands at a place is found there.
use Rattle.std.proofs.Common.{◌≡◌, ◌∙◌, ℕ, ◌+◌, zero, suc, true, not, List, [], ◌∷◌, map, Some, sym, ap, inl, inr, arith, zero-add}
use Rattle.std.specs.Option.{option_map}
use Rattle.std.specs.List.{list_any, slice_get, position_from}
use Rattle.std.proofs.lemmas.Bool.{cases_Bool, cond-true, cond-false, and_parts, not-true, or_left, or_right}
use Rattle.bdb_base.specs.declared.kinds.RelDef.{RelDef}
use Rattle.bdb_base.specs.declared.kinds.UserSlot.{UserSlot}
use Rattle.bdb_base.specs.declared.kinds.UserSlot.TheVariants.{Live, Gone}
use Rattle.bdb_base.specs.Bases.{are_distinct, user_names, is_called}
use Rattle.bdb_base.specs.Same.{same_text}
use Rattle.bdb_base.specs.Queries.{columns_of_definition}
use Rattle.bdb_base.proofs.SegmentLemmas.{same_text_is}
use Rattle.bdb_bind.specs.Lookup.{is_called_at, uid_of, is_name, relation_number, columns_of}
use Rattle.bdb_bind.proofs.Founds.{found}

-- a name of a list is among the names
among : {X : Type 0} (f : X → List ℕ) (xs : List X) (at : ℕ) (name first : List ℕ) → is_name name (option_map f (slice_get xs at)) ≡ true → same_text first name ≡ true
    → list_any (same_text first) (map f xs) ≡ true
among f [] at name first here same = cc
among f (x ∷ xs) zero name first here same =
    let one : f x ≡ name = same_text_is (f x) name here in
    or_left _ _ (ap (same_text first) one ∙ same)
among f (x ∷ xs) (suc at) name first here same = or_right _ _ (among f xs at name first here same)

-- where names differ, a name that stands at a place is found there
pub stands_at : {X : Type 0} (f : X → List ℕ) (start : ℕ) (xs : List X) (at : ℕ) (name : List ℕ) → are_distinct (map f xs) ≡ true
    → is_name name (option_map f (slice_get xs at)) ≡ true → position_from (λ x. same_text (f x) name) start xs ≡ Some (start + at)
stands_at f start [] at name differ here = cc
stands_at f start (x ∷ xs) zero name differ here =
    let same : start ≡ start + 0 = omega arith in
    cond-true (same_text (f x) name) (Some start) (position_from (λ y. same_text (f y) name) (start + 1) xs) here ∙ ap Some same
stands_at f start (x ∷ xs) (suc at) name differ here =
    let parts = and_parts (not (list_any (same_text (f x)) (map f xs))) (are_distinct (map f xs)) differ in
    let same : start + 1 + at ≡ start + suc at = omega arith in
    elim (cases_Bool (same_text (f x) name)) [
      | inl twice ↦ let there = among f xs at name (f x) here twice in let none = not-true (list_any (same_text (f x)) (map f xs)) parts.0 in cc
      | inr other ↦ cond-false (same_text (f x) name) (Some start) (position_from (λ y. same_text (f y) name) (start + 1) xs) other
          ∙ stands_at f (start + 1) xs at name parts.1 here ∙ ap Some same
    ]

-- the name of a live user is among the names
among_live : (users : List UserSlot) (at : ℕ) (name first : List ℕ) → is_called_at name (slice_get users at) ≡ true → same_text first name ≡ true
    → list_any (same_text first) (user_names users) ≡ true
among_live [] at name first here same = cc
among_live (Live x ∷ us) zero name first here same = or_left _ _ (ap (same_text first) (same_text_is x name here) ∙ same)
among_live (Gone ∷ us) zero name first here same = cc
among_live (Live x ∷ us) (suc at) name first here same = or_right _ _ (among_live us at name first here same)
among_live (Gone ∷ us) (suc at) name first here same = among_live us at name first here same

-- where the names of live users differ, one that stands at a place is found there
lives_there : (start : ℕ) (users : List UserSlot) (at : ℕ) (name : List ℕ) → are_distinct (user_names users) ≡ true → is_called_at name (slice_get users at) ≡ true
    → position_from (is_called name) start users ≡ Some (start + at)
lives_there start [] at name differ here = cc
lives_there start (Live x ∷ us) zero name differ here =
    let same : start ≡ start + 0 = omega arith in
    cond-true (same_text x name) (Some start) (position_from (is_called name) (start + 1) us) here ∙ ap Some same
lives_there start (Gone ∷ us) zero name differ here = cc
lives_there start (Live x ∷ us) (suc at) name differ here =
    let parts = and_parts (not (list_any (same_text x) (user_names us))) (are_distinct (user_names us)) differ in
    let same : start + 1 + at ≡ start + suc at = omega arith in
    elim (cases_Bool (same_text x name)) [
      | inl twice ↦ let there = among_live us at name x here twice in let none = not-true (list_any (same_text x) (user_names us)) parts.0 in cc
      | inr other ↦ cond-false (same_text x name) (Some start) (position_from (is_called name) (start + 1) us) other
          ∙ lives_there (start + 1) us at name parts.1 here ∙ ap Some same
    ]
lives_there start (Gone ∷ us) (suc at) name differ here =
    let same : start + 1 + at ≡ start + suc at = omega arith in
    lives_there (start + 1) us at name differ here ∙ ap Some same

pub user_at : (users : List UserSlot) (at : ℕ) (name : List ℕ) → are_distinct (user_names users) ≡ true → is_called_at name (slice_get users at) ≡ true
    → uid_of users name ≡ Some (at + 1)
user_at users at name differ here = let place : 1 + at ≡ at + 1 = omega arith in lives_there 1 users at name differ here ∙ ap Some place

pub relation_at_place : (rels : List RelDef) (at : ℕ) (name : List ℕ) → are_distinct (map (λ r. r.name) rels) ≡ true
    → is_name name (option_map (λ r. r.name) (slice_get rels at)) ≡ true → relation_number rels name ≡ Some at
relation_at_place rels at name differ here = stands_at (λ (r : RelDef). r.name) 0 rels at name differ here ∙ ap Some (zero-add at)

pub columns_at_place : (rels : List RelDef) (at : ℕ) (name : List ℕ) (def : RelDef) → are_distinct (map (λ r. r.name) rels) ≡ true
    → is_name name (option_map (λ r. r.name) (slice_get rels at)) ≡ true → slice_get rels at ≡ Some def → columns_of rels name ≡ def.cols
columns_at_place rels at name def differ here there =
    let f = found (λ r. same_text r.name name) 0 rels at (relation_at_place rels at name differ here) in
    let place : f.at ≡ at = sym (f.place ∙ zero-add f.at) in
    let one : Some f.item ≡ Some def = sym f.there ∙ ap (slice_get rels) place ∙ there in
    let item : f.item ≡ def = cc in
    ap columns_of_definition f.first ∙ ap (λ d. d.cols) item
