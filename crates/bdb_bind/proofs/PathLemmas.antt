-- The path of names.
use Rattle.std.proofs.Common.{◌≡◌, ◌∙◌, ℕ, ◌+◌, ◌<◌, suc, true, false, not, nat_eq, List, [], ◌∷◌, ◌++◌, length, take, drop, get_or, find, Some, refl, sym, ap, inl, inr, arith, add-one}
use Rattle.std.specs.Option.{is_some, option_and_then, unwrap_or}
use Rattle.std.specs.List.{list_all}
use Rattle.std.proofs.Math.Seq.{drop-cons}
use Rattle.std.proofs.lemmas.List.{take_more, map-append}
use Rattle.std.proofs.lemmas.Bool.{cases_Bool, cond-false, and_from, and_parts, or_parts, eqb-true, not_from_false}
use Rattle.bdb_base.specs.declared.kinds.UserSlot.{UserSlot}
use Rattle.bdb_base.specs.Alternation.{alternates, begins_otherwise}
use Rattle.bdb_base.specs.Bases.{live_name, name_at, is_user, is_called}
use Rattle.bdb_bind.specs.Lookup.{uid_of, is_user_name, uid_at, path_of}
use Rattle.bdb_bind.specs.Lines.{begins_with, has_repeat}
use Rattle.bdb_base.proofs.UserLemmas.{user_at_place}
use Rattle.bdb_base.proofs.OptionLemmas.{some_of}
use Rattle.bdb_bind.proofs.Founds.{found, called_so, one_name}

-- the uid of a user's name
pub known_uid : (users : List UserSlot) (name : List ℕ) → is_user_name users name ≡ true → uid_of users name ≡ Some (uid_at users name)
known_uid users name known = let w = some_of (uid_of users name) known in w.1 ∙ ap (λ o. Some (unwrap_or o 0)) (sym w.1)

-- a known name is a live user's
pub uid_is_user : (users : List UserSlot) (name : List ℕ) → is_user_name users name ≡ true → is_user users (uid_at users name) ≡ true
uid_is_user users name known =
    let f = found (is_called name) 1 users (uid_at users name) (known_uid users name known) in
    let named : name_at users f.at ≡ Some name = ap (option_and_then live_name) f.there ∙ ap live_name (called_so name f.item f.passes) in
    ap (is_user users) f.place ∙ user_at_place users f.at ∙ ap is_some named

pub path_users : (users : List UserSlot) (names : List (List ℕ)) → list_all (is_user_name users) names ≡ true → list_all (is_user users) (path_of users names) ≡ true
path_users users [] known = refl
path_users users (n ∷ ns) known =
    let parts = and_parts (is_user_name users n) (list_all (is_user_name users) ns) known in
    and_from _ _ (uid_is_user users n parts.0) (path_users users ns parts.1)

-- where two neighbouring names differ, so do their uids
first_differs : (users : List UserSlot) (n : List ℕ) (ns : List (List ℕ)) → list_all (is_user_name users) (n ∷ ns) ≡ true → begins_with n ns ≡ false
    → begins_otherwise (uid_at users n) (path_of users ns) ≡ true
first_differs users n [] known apart = refl
first_differs users n (m ∷ ms) known apart =
    let parts = and_parts (is_user_name users n) (list_all (is_user_name users) (m ∷ ms)) known in
    let next = and_parts (is_user_name users m) (list_all (is_user_name users) ms) parts.1 in
    let a = uid_at users n in
    let b = uid_at users m in
    elim (cases_Bool (nat_eq a b)) [
      | inl same ↦ let one = one_name users n m a (known_uid users n parts.0) (known_uid users m next.0 ∙ ap Some (sym (eqb-true a b same))) in cc
      | inr other ↦ not_from_false (nat_eq a b) other
    ]

pub path_alternates : (users : List UserSlot) (names : List (List ℕ)) → list_all (is_user_name users) names ≡ true → has_repeat names ≡ false
    → alternates (path_of users names) ≡ true
path_alternates users [] known apart = refl
path_alternates users (n ∷ ns) known apart =
    let parts = and_parts (is_user_name users n) (list_all (is_user_name users) ns) known in
    let differ = or_parts (begins_with n ns) (has_repeat ns) apart in
    and_from _ _ (first_differs users n ns known differ.0) (path_alternates users ns parts.1 differ.1)

pub path_length : (users : List UserSlot) (names : List (List ℕ)) → length (path_of users names) ≡ length names
path_length users [] = refl
path_length users (n ∷ ns) = let rest = path_length users ns in omega arith

-- ---- one name more of a path

-- where a name is a live user's, the first that is none comes behind it
pub known_next : (users : List UserSlot) (names : List (List ℕ)) (at : ℕ) (name : List ℕ) (uid : ℕ) → at < length names → name ≡ get_or names at name
    → uid_of users name ≡ Some uid → find (λ n. not (is_user_name users n)) (drop at names) ≡ find (λ n. not (is_user_name users n)) (drop (at + 1) names)
known_next users names at name uid below item here =
    let first : drop at names ≡ name ∷ drop (at + 1) names = rw add-one (drop-cons names at name below ∙ ap (λ x. x ∷ drop (suc at) names) (sym item)) in
    ap (find (λ n. not (is_user_name users n))) first
    ∙ cond-false (not (is_user_name users name)) (Some name) (find (λ n. not (is_user_name users n)) (drop (at + 1) names)) (ap (λ o. not (is_some o)) here)

pub path_next : (users : List UserSlot) (names : List (List ℕ)) (at : ℕ) (name : List ℕ) (uid : ℕ) → at < length names → name ≡ get_or names at name
    → uid_of users name ≡ Some uid → path_of users (take at names) ++ uid ∷ [] ≡ path_of users (take (at + 1) names)
path_next users names at name uid below item here =
    let more : take (at + 1) names ≡ take at names ++ name ∷ [] = take_more names at name below ∙ ap (λ x. take at names ++ x ∷ []) (sym item) in
    sym (ap (path_of users) more ∙ map-append (uid_at users) (take at names) (name ∷ [])
    ∙ ap (λ o. path_of users (take at names) ++ unwrap_or o 0 ∷ []) here)
