-- A history as a buffer of changes and the number of those that can be undone.
use Rattle.std.proofs.Common.{◌≡◌, ◌∙◌, ℕ, ◌+◌, ◌-◌, ◌<◌, ◌≤◌, nat_le, List, [], ◌∷◌, ◌++◌, ap, sym, inl, inr, length, take, drop, get_or, reverse, arith}
use Rattle.std.proofs.lemmas.Bool.{cases_Bool, leb-true, leb-false}
use Rattle.std.proofs.lemmas.List.{take_more, drop_more, take_all, take_at, take-append-drop, reverse-append, length-reverse, length-drop, length-take-le, drop_all}
use Rattle.circular_buffer.specs.Buffer.{keep_last}
use Rattle.bdb_undo.specs.declared.change.Change.{Change}
use Rattle.bdb_undo.specs.Histories.{Kept, noted, stepped_back, stepped_forth}
use Rattle.bdb_undo.specs.Limits.{most_changes}

-- the last n items, turned, are the first n of all, turned
pub reverse_keep_last : {X : Type 0} (n : ℕ) (xs : List X) → reverse (drop (length xs - n) xs) ≡ take n (reverse xs)
reverse_keep_last n xs = elim (cases_Bool (nat_le n (length xs))) [
  | inl e ↦ let many = leb-true n (length xs) e in
      let front = length-reverse (drop (length xs - n) xs) in
      let back = length-drop (length xs - n) xs in
      sym (ap (take n) (parts (length xs - n)) ∙ take_at (reverse (drop (length xs - n) xs)) (reverse (take (length xs - n) xs)) n (omega arith))
  | inr e ↦ let few = leb-false n (length xs) e in
      let none : length xs - n ≡ 0 = omega arith in
      let same = length-reverse xs in
      ap (λ m. reverse (drop m xs)) none ∙ sym (take_all n (reverse xs) (omega arith))
]
  where
    parts : (m : ℕ) → reverse xs ≡ reverse (drop m xs) ++ reverse (take m xs)
    parts m = ap reverse (sym (take-append-drop m xs)) ∙ reverse-append (take m xs) (drop m xs)

-- the changes kept, from those made in order and how many of them can be undone
abbrev pub kept_of : List Change → ℕ → Kept
kept_of changes done = record { undos = reverse (take done changes); redos = drop done changes }

abbrev kept : List Change → List Change → Kept
kept undos redos = record { undos = undos; redos = redos }

-- a change at its place is the first to undo where it is done, and else the first to redo
done_at : (changes : List Change) (done : ℕ) (c : Change) → done < length changes
    → kept_of changes (done + 1) ≡ kept (get_or changes done c ∷ reverse (take done changes)) (drop (done + 1) changes)
done_at changes done c h = ap (λ us. kept us (drop (done + 1) changes))
    (ap reverse (take_more changes done c h) ∙ reverse-append (take done changes) (get_or changes done c ∷ []))

undone_at : (changes : List Change) (done : ℕ) (c : Change) → done < length changes
    → kept_of changes done ≡ kept (reverse (take done changes)) (get_or changes done c ∷ drop (done + 1) changes)
undone_at changes done c h = ap (kept (reverse (take done changes))) (drop_more changes done c h)

step_back : (changes : List Change) (done : ℕ) → done < length changes → kept_of changes done ≡ stepped_back (kept_of changes (done + 1))
step_back [] done h = absurd (omega arith)
step_back (c ∷ cs) done h = undone_at (c ∷ cs) done c h ∙ sym (ap stepped_back (done_at (c ∷ cs) done c h))

step_forth : (changes : List Change) (done : ℕ) → done < length changes → kept_of changes (done + 1) ≡ stepped_forth (kept_of changes done)
step_forth [] done h = absurd (omega arith)
step_forth (c ∷ cs) done h = done_at (c ∷ cs) done c h ∙ sym (ap stepped_forth (undone_at (c ∷ cs) done c h))

pub back_of : (changes : List Change) (done : ℕ) → done ≤ length changes → 0 < length (reverse (take done changes))
    → kept_of changes (done - 1) ≡ stepped_back (kept_of changes done)
back_of changes done h some =
    let turned = length-reverse (take done changes) in
    let few = length-take-le done changes h in
    let one : done ≡ done - 1 + 1 = omega arith in
    step_back changes (done - 1) (omega arith) ∙ ap (λ n. stepped_back (kept_of changes n)) (sym one)

pub forth_of : (changes : List Change) (done : ℕ) → 0 < length (drop done changes) → kept_of changes (done + 1) ≡ stepped_forth (kept_of changes done)
forth_of changes done some = let left = length-drop done changes in step_forth changes done (omega arith)

-- a change behind those done, with the last of all kept
pub noted_of : (changes : List Change) (done : ℕ) (c : Change) (room : ℕ) (next : List Change) (count : ℕ) → room ≡ most_changes
    → next ≡ keep_last room (take done changes ++ c ∷ []) → count ≡ length next → kept_of next count ≡ noted c (kept_of changes done)
noted_of changes done c room next count r e n =
    let all = take done changes ++ c ∷ [] in
    let turned : reverse next ≡ take most_changes (c ∷ reverse (take done changes))
    = ap reverse e ∙ reverse_keep_last room all ∙ ap (take room) (reverse-append (take done changes) (c ∷ [])) ∙ ap (λ m. take m (c ∷ reverse (take done changes))) r in
    ap (λ us. kept us (drop count next)) (ap reverse (take_all count next (omega arith)) ∙ turned)
    ∙ ap (kept (take most_changes (c ∷ reverse (take done changes)))) (drop_all count next (omega arith))
