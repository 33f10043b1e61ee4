-- The lines of the users, place by place.
use Rattle.std.proofs.Common.{◌≡◌, ◌∙◌, ℕ, ◌+◌, ◌-◌, ◌<◌, true, false, List, [], ◌∷◌, ◌++◌, length, take, ap, sym, arith, append_assoc}
use Rattle.std.specs.List.{flat_map}
use Rattle.std.specs.Option.{is_some}
use Rattle.std.proofs.lemmas.Bool.{lt-ltb}
use Rattle.std.proofs.lemmas.List.{append-nil}
use Rattle.std.proofs.lemmas.List.Concat.{flat_map-append}
use Rattle.bdb_base.specs.declared.kinds.UserSlot.{UserSlot}
use Rattle.bdb_base.specs.Bases.{is_user, name_at}
use Rattle.bdb_base.specs.Queries.{live_numbers, user_name}
use Rattle.bdb_base.proofs.UserLemmas.{name_by_place, user_at_place}
use Rattle.bdb_canon.proofs.UserLemmas.{next_number, no_number}

pub name_after : (users : List UserSlot) (at : ℕ) → user_name users (at + 1) ≡ name_at users at
name_after users at =
    let place : (at + 1) - 1 ≡ at = omega arith in
    name_by_place users (at + 1) (lt-ltb 0 (at + 1) (omega arith)) ∙ ap (name_at users) place

pub user_after : (users : List UserSlot) (at : ℕ) → is_user users (at + 1) ≡ is_some (name_at users at)
user_after users at =
    let same : at + 1 ≡ 1 + at = omega arith in
    ap (is_user users) same ∙ user_at_place users at

-- the line of a user behind those before
pub next_line : (f : ℕ → List ℕ) (users : List UserSlot) (at : ℕ) (start now new : List ℕ) → at < length users → is_user users (at + 1) ≡ true
    → now ≡ start ++ flat_map f (live_numbers 1 (take at users)) → new ≡ now ++ f (at + 1) → new ≡ start ++ flat_map f (live_numbers 1 (take (at + 1) users))
next_line f users at start now new l u h n =
    let past = live_numbers 1 (take at users) in
    n ∙ ap (λ o. o ++ f (at + 1)) h ∙ append_assoc start (flat_map f past) (f (at + 1))
    ∙ ap (λ ys. start ++ (flat_map f past ++ ys)) (sym (append-nil (f (at + 1))))
    ∙ ap (λ ys. start ++ ys) (sym (flat_map-append f past ((at + 1) ∷ [])))
    ∙ ap (λ ns. start ++ flat_map f ns) (sym (next_number users at l u))

-- no line of one who is gone
pub no_line : (f : ℕ → List ℕ) (users : List UserSlot) (at : ℕ) (start now : List ℕ) → at < length users → is_user users (at + 1) ≡ false
    → now ≡ start ++ flat_map f (live_numbers 1 (take at users)) → now ≡ start ++ flat_map f (live_numbers 1 (take (at + 1) users))
no_line f users at start now l u h = h ∙ ap (λ ns. start ++ flat_map f ns) (sym (no_number users at l u))
