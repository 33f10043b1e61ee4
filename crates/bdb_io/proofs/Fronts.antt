-- A read that copies the front of what is left, and moves past it.
use Rattle.std.specs.Io.KnownBytes.{Appends}
use Rattle.std.proofs.Common.{◌≡◌, ◌<◌, ◌≤◌, ℕ, ◌+◌, ◌-◌, min, Option, Some, None, append_assoc, take-add, List, [], ◌++◌, length, take, drop, sym, ap, ◌∙◌, arith, length-drop}
use Rattle.std.proofs.lemmas.List.{take-append-drop, drop-drop, take_all}
use Rattle.std.proofs.Math.Seq.{take-append_seam}
use Rattle.std.proofs.Math.ListN.{drop_of_length-le}

-- what was given and what is left are what was left before
pub front_and_rest : (all got rest : List ℕ) (from n : ℕ) → length got ≡ n → got ≡ take n (drop from all) → drop from all ≡ take n (got ++ rest) ++ drop (from + n) all
front_and_rest all got rest from n l e =
    sym (take-append-drop n (drop from all))
    ∙ ap (λ x. x ++ drop n (drop from all)) (sym e ∙ sym (take-append_seam got rest) ∙ ap (λ k. take k (got ++ rest)) l)
    ∙ ap (λ x. take n (got ++ rest) ++ x) (drop-drop n from all)

-- where a read with room gives nothing, nothing is left
pub nothing_left : (all : List ℕ) (from n step room : ℕ) → from ≤ length all → n ≡ min step (min room (length all - from)) → 1 ≤ step → 0 < room → n ≡ 0 → drop (from + n) all ≡ []
nothing_left all from n step room h e s r z = drop_of_length-le all (omega arith)

-- a slice up to the end is the rest
pub take-rest : (xs : List ℕ) (from n : ℕ) → take n (take (length xs - from) (drop from xs)) ≡ take n (drop from xs)
take-rest xs from n = ap (take n) (take_all (length xs - from) (drop from xs) (omega (arith, length-drop from xs)))

-- known bytes that grow by a front, and then by the front of the rest, grow by both
pub appends_more : (a b c : Option (List ℕ)) (xs : List ℕ) (from n : ℕ) → Appends a b (take from xs) → Appends b c (take n (take (length xs - from) (drop from xs))) → Appends a c (take (from + n) xs)
appends_more None b c xs from n p q = tt
appends_more (Some x) None c xs from n p q = absurd p
appends_more (Some x) (Some y) None xs from n p q = absurd q
appends_more (Some x) (Some y) (Some z) xs from n p q =
    q ∙ ap (λ w. y ++ w) (take-rest xs from n) ∙ ap (λ w. w ++ take n (drop from xs)) p ∙ append_assoc x (take from xs) (take n (drop from xs)) ∙ ap (λ w. x ++ w) (sym (take-add from n xs))
