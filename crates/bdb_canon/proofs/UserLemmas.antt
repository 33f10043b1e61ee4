-- The numbers of the live users, place by place.
use Rattle.std.proofs.Common.{◌≡◌, ◌∙◌, ℕ, ◌+◌, ◌-◌, ◌<◌, ◌≤◌, true, false, List, [], ◌∷◌, ◌++◌, refl, ap, sym, suc, arith, length, take, get_or, Some}
use Rattle.std.specs.List.{slice_get}
use Rattle.std.specs.Option.{option_and_then, is_some}
use Rattle.std.proofs.lemmas.Bool.{false≢true}
use Rattle.std.proofs.lemmas.List.{append-nil, take_more, take_all, length-take-le}
use Rattle.std.proofs.lemmas.Option.{get_or_from_slice_get, slice_get-get_or}
use Rattle.bdb_base.specs.declared.kinds.UserSlot.{UserSlot}
use Rattle.bdb_base.specs.declared.kinds.UserSlot.TheVariants.{Live, Gone}
use Rattle.bdb_base.specs.Bases.{is_user, live_name, user_names}
use Rattle.bdb_base.specs.Queries.{live_numbers, user_numbers}
use Rattle.bdb_base.proofs.UserLemmas.{numbers_are_counted, numbers_are_live, user_at_place, user_lives}

-- a place behind the others
live_push : (n : ℕ) (users : List UserSlot) (slot : UserSlot) → live_numbers n (users ++ slot ∷ []) ≡ live_numbers n users ++ live_numbers (n + length users) (slot ∷ [])
live_push n [] slot = let e : n ≡ n + 0 = omega arith in ap (λ m. live_numbers m (slot ∷ [])) e
live_push n (Live name ∷ us) slot =
    let e : suc n + length us ≡ n + suc (length us) = omega arith in
    ap (λ l. n ∷ l) (live_push (suc n) us slot) ∙ ap (λ m. n ∷ (live_numbers (suc n) us ++ live_numbers m (slot ∷ []))) e
live_push n (Gone ∷ us) slot =
    let e : suc n + length us ≡ n + suc (length us) = omega arith in
    live_push (suc n) us slot ∙ ap (λ m. live_numbers (suc n) us ++ live_numbers m (slot ∷ [])) e

-- the numbers up to a place, and that of the place
live_next : (users : List UserSlot) (at : ℕ) → at < length users
    → live_numbers 1 (take (at + 1) users) ≡ live_numbers 1 (take at users) ++ live_numbers (at + 1) (get_or users at Gone ∷ [])
live_next users at l =
    let e : 1 + length (take at users) ≡ at + 1 = (let k = length-take-le at users (omega arith) in omega arith) in
    ap (live_numbers 1) (take_more users at Gone l) ∙ live_push 1 (take at users) (get_or users at Gone)
    ∙ ap (λ m. live_numbers 1 (take at users) ++ live_numbers m (get_or users at Gone ∷ [])) e

pub next_number : (users : List UserSlot) (at : ℕ) → at < length users → is_user users (at + 1) ≡ true
    → live_numbers 1 (take (at + 1) users) ≡ live_numbers 1 (take at users) ++ (at + 1) ∷ []
next_number users at l h =
    let name = user_lives users (at + 1) h in
    let place : (at + 1) - 1 ≡ at = omega arith in
    let here : slice_get users at ≡ Some (Live name.0) = sym (ap (slice_get users) place) ∙ name.1 in
    live_next users at l
    ∙ ap (λ s. live_numbers 1 (take at users) ++ live_numbers (at + 1) (s ∷ [])) (get_or_from_slice_get users at (Live name.0) Gone here)

-- who has no name has no number
none_of : (n : ℕ) (slot : UserSlot) → is_some (live_name slot) ≡ false → live_numbers n (slot ∷ []) ≡ []
none_of n (Live name) h = absurd (false≢true (sym h))
none_of n Gone h = refl

pub no_number : (users : List UserSlot) (at : ℕ) → at < length users → is_user users (at + 1) ≡ false → live_numbers 1 (take (at + 1) users) ≡ live_numbers 1 (take at users)
no_number users at l h =
    let e : 1 + at ≡ at + 1 = omega arith in
    let unnamed : is_some (live_name (get_or users at Gone)) ≡ false =
    sym (ap (λ o. is_some (option_and_then live_name o)) (slice_get-get_or users at Gone l)) ∙ sym (user_at_place users at) ∙ ap (is_user users) e ∙ h in
    live_next users at l ∙ ap (λ ns. live_numbers 1 (take at users) ++ ns) (none_of (at + 1) (get_or users at Gone) unnamed)
    ∙ append-nil (live_numbers 1 (take at users))

pub all_numbers : (users : List UserSlot) (at : ℕ) → length users ≤ at → live_numbers 1 (take at users) ≡ user_numbers users
all_numbers users at l = ap (live_numbers 1) (take_all at users l) ∙ sym (numbers_are_live users)

-- there are as many numbers as names
pub users_are_counted : (users : List UserSlot) → length (user_numbers users) ≡ length (user_names users)
users_are_counted users = numbers_are_counted users

-- there are no more names than places
pub names_within : (users : List UserSlot) → length (user_names users) ≤ length users
names_within [] = omega arith
names_within (Live name ∷ us) = let k = names_within us in omega arith
names_within (Gone ∷ us) = let k = names_within us in omega arith
