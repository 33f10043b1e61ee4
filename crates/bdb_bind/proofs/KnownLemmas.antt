-- What comparisons make known, step by step.
use Rattle.std.proofs.Common.{◌≡◌, ◌∙◌, ℕ, ◌+◌, ◌<◌, ◌≤◌, cond, Bool, true, false, ◌&&◌, List, [], ◌∷◌, ◌++◌, length, Option, Some, None, refl, sym, ap, inl, inr, arith}
use Rattle.std.specs.Option.{option_or}
use Rattle.std.specs.List.{list_any, slice_get}
use Rattle.std.proofs.lemmas.Bool.{cases_Bool, cond-true, cond-false, and_from, and_parts, and_left, and_right, or_left, or_right, or_cases}
use Rattle.std.proofs.lemmas.List.{append-nil}
use Rattle.std.proofs.lemmas.List.Folds.{list_any-append}
use Rattle.bdb_base.specs.declared.kinds.Cond.{Cond}
use Rattle.bdb_base.specs.declared.kinds.Item.{Item}
use Rattle.bdb_base.specs.declared.kinds.Operand.{Operand}
use Rattle.bdb_base.specs.declared.kinds.Operand.TheVariants.{Col, Lit}
use Rattle.bdb_base.specs.declared.kinds.Ref.{Ref}
use Rattle.bdb_base.specs.Queries.{option_list}
use Rattle.bdb_base.specs.Safety.{is_given, same_column, is_equality}
use Rattle.bdb_base.proofs.ConditionLemmas.{same_column_itself}
use Rattle.bdb_bind.specs.Safe.{is_known, is_known_side, unknown_side, unknown_of_two, made_known, next_known, known_after}

-- where nothing more is made known, further steps change nothing
pub nothing_more : (items : List Item) (conds : List Cond) (known : List Ref) (steps : List Cond) → next_known items known conds ≡ None
    → known_after items conds known steps ≡ known
nothing_more items conds known [] none = refl
nothing_more items conds known (step ∷ steps) none =
    let same : known ++ option_list (next_known items known conds) ≡ known = ap (λ o. known ++ option_list o) none ∙ append-nil known in
    ap (λ k. known_after items conds k steps) same ∙ nothing_more items conds known steps none

-- ---- what one comparison makes known

-- an equality makes a column known: that of its one side that isn't known
pub data Makes (items : List Item) (known : List Ref) (c : Cond) (s : Ref) : Type 0 where
  its_right : is_known items known c.left ≡ true → c.right ≡ Col s → is_known items known s ≡ false → Makes items known c s
  its_left : is_known items known c.left ≡ false → is_known_side items known c.right ≡ true → c.left ≡ s → Makes items known c s

right_made : (items : List Item) (known : List Ref) (side : Operand) (s : Ref) → unknown_side items known side ≡ Some s → (side ≡ Col s) × (is_known items known s ≡ false)
right_made items known (Lit v) s e = cc
right_made items known (Col t) s e = elim (cases_Bool (is_known items known t)) [
  | inl there ↦ let absurdly : None ≡ Some s = sym (cond-true (is_known items known t) None (Some t) there) ∙ e in cc
  | inr fresh ↦ let same : Some t ≡ Some s = sym (cond-false (is_known items known t) None (Some t) fresh) ∙ e in
      let one : t ≡ s = cc in (ap Col one, ap (is_known items known) (sym one) ∙ fresh)
]

left_made : (items : List Item) (known : List Ref) (c : Cond) (s : Ref) → is_known items known c.left ≡ false
    → cond (is_known_side items known c.right) (Some c.left) None ≡ Some s → Makes items known c s
left_made items known c s fresh e = elim (cases_Bool (is_known_side items known c.right)) [
  | inl there ↦ let same : Some c.left ≡ Some s = sym (cond-true (is_known_side items known c.right) (Some c.left) None there) ∙ e in
      its_left fresh there (cc)
  | inr unknown ↦ let absurdly : None ≡ Some s = sym (cond-false (is_known_side items known c.right) (Some c.left) None unknown) ∙ e in cc
]

two_made : (items : List Item) (known : List Ref) (c : Cond) (s : Ref) → unknown_of_two items known c ≡ Some s → Makes items known c s
two_made items known c s e =
    let other = cond (is_known_side items known c.right) (Some c.left) None in
    elim (cases_Bool (is_known items known c.left)) [
      | inl there ↦ let right = right_made items known c.right s (sym (cond-true (is_known items known c.left) (unknown_side items known c.right) other there) ∙ e) in
          its_right there right.0 right.1
      | inr fresh ↦ left_made items known c s fresh (sym (cond-false (is_known items known c.left) (unknown_side items known c.right) other fresh) ∙ e)
    ]

pub made : (items : List Item) (known : List Ref) (c : Cond) (s : Ref) → made_known items known c ≡ Some s → (is_equality c.cmp ≡ true) × Makes items known c s
made items known c s e = elim (cases_Bool (is_equality c.cmp)) [
  | inl eq ↦ (eq, two_made items known c s (sym (cond-true (is_equality c.cmp) (unknown_of_two items known c) None eq) ∙ e))
  | inr other ↦ let absurdly : None ≡ Some s = sym (cond-false (is_equality c.cmp) (unknown_of_two items known c) None other) ∙ e in cc
]

-- ---- a comparison of which both sides are known makes nothing known

pub are_both_known : List Item → List Ref → Cond → Bool
are_both_known items known c = is_known items known c.left && is_known_side items known c.right

known_right : (items : List Item) (known : List Ref) (side : Operand) → is_known_side items known side ≡ true → unknown_side items known side ≡ None
known_right items known (Lit v) there = refl
known_right items known (Col t) there = cond-true (is_known items known t) None (Some t) there

-- unless it is no equality, or both sides are known or both aren't, a comparison makes a column known
pub nothing_made : (items : List Item) (known : List Ref) (c : Cond) → are_both_known items known c ≡ true → made_known items known c ≡ None
unfolding are_both_known
nothing_made items known c both =
    let parts = and_parts (is_known items known c.left) (is_known_side items known c.right) both in
    let other = cond (is_known_side items known c.right) (Some c.left) None in
    let two : unknown_of_two items known c ≡ None = cond-true (is_known items known c.left) (unknown_side items known c.right) other parts.0
    ∙ known_right items known c.right parts.1 in
    elim (cases_Bool (is_equality c.cmp)) [
      | inl eq ↦ cond-true (is_equality c.cmp) (unknown_of_two items known c) None eq ∙ two
      | inr other ↦ cond-false (is_equality c.cmp) (unknown_of_two items known c) None other
    ]

-- ---- knowing more

pub still_known : (items : List Item) (known more : List Ref) (r : Ref) → is_known items known r ≡ true → is_known items (known ++ more) r ≡ true
still_known items known more r there = elim (or_cases (is_given (slice_get items r.item)) (list_any (same_column r) known) there) [
  | inl given ↦ or_left _ _ given
  | inr among ↦ or_right _ _ (list_any-append (same_column r) known more ∙ or_left _ _ among)
]

pub now_known : (items : List Item) (known : List Ref) (r : Ref) → is_known items (known ++ r ∷ []) r ≡ true
now_known items known r =
    or_right _ _ (list_any-append (same_column r) known (r ∷ []) ∙ or_right _ _ (or_left _ _ (same_column_itself r)))

still_known_side : (items : List Item) (known more : List Ref) (side : Operand) → is_known_side items known side ≡ true → is_known_side items (known ++ more) side ≡ true
still_known_side items known more (Col t) there = still_known items known more t there
still_known_side items known more (Lit v) there = refl

both_still_known : (items : List Item) (known more : List Ref) (c : Cond) → are_both_known items known c ≡ true → are_both_known items (known ++ more) c ≡ true
unfolding are_both_known
both_still_known items known more c both =
    let parts = and_parts (is_known items known c.left) (is_known_side items known c.right) both in
    and_from _ _ (still_known items known more c.left parts.0) (still_known_side items known more c.right parts.1)

-- after a comparison made a column known, both its sides are
both_known_after : (items : List Item) (known : List Ref) (c : Cond) (s : Ref) → Makes items known c s → are_both_known items (known ++ s ∷ []) c ≡ true
unfolding are_both_known
both_known_after items known c s (its_right left right fresh) =
    and_from _ _ (still_known items known (s ∷ []) c.left left) (ap (is_known_side items (known ++ s ∷ [])) right ∙ now_known items known s)
both_known_after items known c s (its_left fresh right left) =
    and_from _ _ (ap (is_known items (known ++ s ∷ [])) left ∙ now_known items known s) (still_known_side items known (s ∷ []) c.right right)

not_both_before : (items : List Item) (known : List Ref) (c : Cond) (s : Ref) → Makes items known c s → are_both_known items known c ≡ false
unfolding are_both_known
not_both_before items known c s (its_right left right fresh) = and_right _ _ (ap (is_known_side items known) right ∙ fresh)
not_both_before items known c s (its_left fresh right left) = and_left _ _ fresh

-- ---- how many comparisons have a side that isn't known

pub one_unless : Bool → ℕ
one_unless true = 0
one_unless false = 1

one_at_most : (b : Bool) → one_unless b ≤ 1
unfolding one_unless
one_at_most true = omega arith
one_at_most false = omega arith

no_more : (a b : Bool) → (a ≡ true → b ≡ true) → one_unless b ≤ one_unless a
unfolding one_unless
no_more true b kept = let there = kept refl in rw there (omega arith)
no_more false true kept = omega arith
no_more false false kept = omega arith

one_less : (a b : Bool) → a ≡ false → b ≡ true → one_unless b + 1 ≤ one_unless a
unfolding one_unless
one_less a b before after = rw (before, after) (omega arith)

none_then_true : (b : Bool) → one_unless b ≡ 0 → b ≡ true
unfolding one_unless
none_then_true true e = refl
none_then_true false e = absurd (omega arith)

pub open_count : List Item → List Ref → List Cond → ℕ
open_count items known [] = 0
open_count items known (c ∷ cs) = one_unless (are_both_known items known c) + open_count items known cs

pub open_at_most : (items : List Item) (known : List Ref) (conds : List Cond) → open_count items known conds ≤ length conds
unfolding open_count
open_at_most items known [] = omega arith
open_at_most items known (c ∷ cs) = let rest = open_at_most items known cs in let one = one_at_most (are_both_known items known c) in omega arith

no_more_open : (items : List Item) (known more : List Ref) (conds : List Cond) → open_count items (known ++ more) conds ≤ open_count items known conds
unfolding open_count
no_more_open items known more [] = omega arith
no_more_open items known more (c ∷ cs) =
    let rest = no_more_open items known more cs in
    let here = no_more (are_both_known items known c) (are_both_known items (known ++ more) c) (both_still_known items known more c) in
    omega arith

fewer_here : (items : List Item) (known : List Ref) (c : Cond) (cs : List Cond) (s : Ref) (o : Option Ref) → made_known items known c ≡ o
    → (next_known items known cs ≡ Some s → open_count items (known ++ s ∷ []) cs < open_count items known cs)
    → option_or o (next_known items known cs) ≡ Some s → open_count items (known ++ s ∷ []) (c ∷ cs) < open_count items known (c ∷ cs)
unfolding open_count
fewer_here items known c cs s None nothing later e =
    let rest = later e in
    let here = no_more (are_both_known items known c) (are_both_known items (known ++ s ∷ []) c) (both_still_known items known (s ∷ []) c) in
    omega arith
fewer_here items known c cs s (Some t) makes later e =
    let same : Some t ≡ Some s = e in
    let how = (made items known c s (makes ∙ same)).1 in
    let here = one_less (are_both_known items known c) (are_both_known items (known ++ s ∷ []) c) (not_both_before items known c s how) (both_known_after items known c s how) in
    let rest = no_more_open items known (s ∷ []) cs in
    omega arith

fewer_open : (items : List Item) (known : List Ref) (conds : List Cond) (s : Ref) → next_known items known conds ≡ Some s
    → open_count items (known ++ s ∷ []) conds < open_count items known conds
fewer_open items known [] s e = cc
fewer_open items known (c ∷ cs) s e = fewer_here items known c cs s (made_known items known c) refl (fewer_open items known cs s) e

none_open : (items : List Item) (known : List Ref) (conds : List Cond) → open_count items known conds ≡ 0 → next_known items known conds ≡ None
unfolding open_count
none_open items known [] e = refl
none_open items known (c ∷ cs) e =
    let here = none_then_true (are_both_known items known c) (omega arith) in
    ap (λ o. option_or o (next_known items known cs)) (nothing_made items known c here) ∙ none_open items known cs (omega arith)

-- ---- after a step for each comparison nothing more is made known

closes_with : (items : List Item) (conds : List Cond) (known : List Ref) (step : Cond) (steps : List Cond) (o : Option Ref) → next_known items known conds ≡ o
    → open_count items known conds ≤ length (step ∷ steps)
    → ((more : List Ref) → open_count items more conds ≤ length steps → next_known items (known_after items conds more steps) conds ≡ None)
    → next_known items (known_after items conds known (step ∷ steps)) conds ≡ None
closes_with items conds known step steps None none few later = ap (λ k. next_known items k conds) (nothing_more items conds known (step ∷ steps) none) ∙ none
closes_with items conds known step steps (Some s) next few later =
    let same : known ++ option_list (next_known items known conds) ≡ known ++ s ∷ [] = ap (λ o. known ++ option_list o) next in
    let fewer = fewer_open items known conds s next in
    ap (λ k. next_known items (known_after items conds k steps) conds) same ∙ later (known ++ s ∷ []) (omega arith)

closes : (items : List Item) (conds : List Cond) (known : List Ref) (steps : List Cond) → open_count items known conds ≤ length steps
    → next_known items (known_after items conds known steps) conds ≡ None
closes items conds known [] few = none_open items known conds (omega arith)
closes items conds known (step ∷ steps) few =
    closes_with items conds known step steps (next_known items known conds) refl few (λ (more : List Ref) (enough : open_count items more conds ≤ length steps). closes items conds more steps enough)

pub nothing_left : (items : List Item) (conds : List Cond) → next_known items (known_after items conds [] conds) conds ≡ None
nothing_left items conds = closes items conds [] conds (open_at_most items [] conds)
