-- The columns that are known in the end are the bound ones.
use Rattle.std.proofs.Common.{◌≡◌, ◌∙◌, Bool, true, false, ◌&&◌, ◌||◌, List, [], ◌∷◌, ◌++◌, Option, Some, None, refl, sym, ap, subst, inl, inr}
use Rattle.std.specs.Option.{option_or}
use Rattle.std.specs.List.{list_any, slice_get}
use Rattle.std.proofs.lemmas.Bool.{cases_Bool, cond-true, cond-false, and_parts, or_left, or_right, or_cases}
use Rattle.std.proofs.lemmas.List.Folds.{list_any-append}
use Rattle.bdb_base.specs.declared.kinds.Cond.{Cond}
use Rattle.bdb_base.specs.declared.kinds.Item.{Item}
use Rattle.bdb_base.specs.declared.kinds.Operand.{Operand}
use Rattle.bdb_base.specs.declared.kinds.Operand.TheVariants.{Col, Lit}
use Rattle.bdb_base.specs.declared.kinds.Query.{Query}
use Rattle.bdb_base.specs.declared.kinds.Ref.{Ref}
use Rattle.bdb_base.specs.Queries.{option_list}
use Rattle.bdb_base.specs.Safety.{is_given, same_column, is_equality, is_column, is_literal, pins, links, IsBound}
use Rattle.bdb_base.proofs.ConditionLemmas.{same_column_is, column_is}
use Rattle.bdb_bind.specs.Safe.{is_known, is_known_side, unknown_side, unknown_of_two, made_known, next_known, known_after, bound_columns, TestTellsBound}
use Rattle.bdb_bind.proofs.ColumnLemmas.{linked_left, linked_right, pinned_left}
use Rattle.bdb_bind.proofs.KnownLemmas.{Makes, made, nothing_left}

-- ---- what is known is bound

-- all these columns are bound
AreBound : Query → List Ref → Type 0
AreBound q known = (r : Ref) → list_any (same_column r) known ≡ true → IsBound q r

-- whatever a test holds of this comparison, it holds of one of these
IsOneOf : Cond → List Cond → Type 0
IsOneOf c conds = (p : Cond → Bool) → p c ≡ true → list_any p conds ≡ true

known_bound : (q : Query) (known : List Ref) (r : Ref) → AreBound q known → is_known q.items known r ≡ true → IsBound q r
unfolding AreBound
known_bound q known r bound there = elim (or_cases (is_given (slice_get q.items r.item)) (list_any (same_column r) known) there) [
  | inl e ↦ IsBound.given e
  | inr among ↦ bound r among
]

left_bound : (q : Query) (known : List Ref) (c : Cond) (s : Ref) (side : Operand) → AreBound q known → IsOneOf c q.conds → is_equality c.cmp ≡ true
    → c.left ≡ s → c.right ≡ side → is_known_side q.items known side ≡ true → IsBound q s
unfolding IsOneOf
left_bound q known c s (Col t) bound one eq left right there = IsBound.linked (one (links s t) (linked_left c s t eq left right)) (known_bound q known t bound there)
left_bound q known c s (Lit v) bound one eq left right there = IsBound.pinned (one (pins s) (pinned_left c s eq left (ap is_literal right)))

made_bound : (q : Query) (known : List Ref) (c : Cond) (s : Ref) → AreBound q known → IsOneOf c q.conds → is_equality c.cmp ≡ true → Makes q.items known c s → IsBound q s
unfolding IsOneOf
made_bound q known c s bound one eq (Makes.its_right left right fresh) =
    IsBound.linked (one (links s c.left) (linked_right c s c.left eq refl right)) (known_bound q known c.left bound left)
made_bound q known c s bound one eq (Makes.its_left fresh right left) = left_bound q known c s c.right bound one eq left refl right

next_bound_with : (q : Query) (known : List Ref) (c : Cond) (cs : List Cond) (s : Ref) (o : Option Ref) → AreBound q known → IsOneOf c q.conds
    → made_known q.items known c ≡ o → (next_known q.items known cs ≡ Some s → IsBound q s) → option_or o (next_known q.items known cs) ≡ Some s → IsBound q s
next_bound_with q known c cs s None bound one nothing later e = later e
next_bound_with q known c cs s (Some t) bound one makes later e =
    let same : Some t ≡ Some s = e in
    let how = made q.items known c s (makes ∙ same) in
    made_bound q known c s bound one how.0 how.1

next_bound : (q : Query) (known : List Ref) (conds : List Cond) (s : Ref) → AreBound q known → ((c : Cond) → IsOneOf c conds → IsOneOf c q.conds)
    → next_known q.items known conds ≡ Some s → IsBound q s
unfolding IsOneOf
next_bound q known [] s bound among e = cc
next_bound q known (c ∷ cs) s bound among e =
    next_bound_with q known c cs s (made_known q.items known c) bound (among c (λ (p : Cond → Bool) (passes : p c ≡ true). or_left _ _ passes)) refl
    (next_bound q known cs s bound (λ (d : Cond) (one : IsOneOf d cs). among d (λ (p : Cond → Bool) (passes : p d ≡ true). or_right _ _ (one p passes)))) e

more_bound_with : (q : Query) (known : List Ref) (o : Option Ref) → AreBound q known → next_known q.items known q.conds ≡ o → AreBound q (known ++ option_list o)
unfolding AreBound IsOneOf
more_bound_with q known None bound e = λ (r : Ref) (there : list_any (same_column r) (known ++ []) ≡ true).
    elim (or_cases (list_any (same_column r) known) false (sym (list_any-append (same_column r) known []) ∙ there)) [ inl before ↦ bound r before | inr never ↦ cc ]
more_bound_with q known (Some s) bound e = λ (r : Ref) (there : list_any (same_column r) (known ++ s ∷ []) ≡ true).
    elim (or_cases (list_any (same_column r) known) (same_column r s || false) (sym (list_any-append (same_column r) known (s ∷ [])) ∙ there)) [
      | inl before ↦ bound r before
      | inr last ↦ elim (or_cases (same_column r s) false last) [
        | inl same ↦ subst (IsBound q) (sym (same_column_is r s same)) (next_bound q known q.conds s bound (λ (c : Cond) (one : IsOneOf c q.conds). one) e)
        | inr never ↦ cc
      ]
    ]

after_bound : (q : Query) (known : List Ref) (steps : List Cond) → AreBound q known → AreBound q (known_after q.items q.conds known steps)
after_bound q known [] bound = bound
after_bound q known (step ∷ steps) bound =
    after_bound q (known ++ option_list (next_known q.items known q.conds)) steps (more_bound_with q known (next_known q.items known q.conds) bound refl)

none_bound : (q : Query) → AreBound q []
unfolding AreBound
none_bound q = λ (r : Ref) (there : false ≡ true). cc

-- ---- what is bound is known once nothing more is made known

-- a comparison that passes a test and makes nothing known
record IsIdle (items : List Item) (known : List Ref) (p : Cond → Bool) : Type 0 where
  cond : Cond
  passes : p cond ≡ true
  idle : made_known items known cond ≡ None

neither_made : (a b : Option Ref) → option_or a b ≡ None → (a ≡ None) × (b ≡ None)
neither_made None b e = (refl, e)
neither_made (Some x) b e = cc

idle_one : (items : List Item) (known : List Ref) (p : Cond → Bool) (conds : List Cond) → list_any p conds ≡ true → next_known items known conds ≡ None
    → IsIdle items known p
idle_one items known p [] some none = cc
idle_one items known p (c ∷ cs) some none =
    let parts = neither_made (made_known items known c) (next_known items known cs) none in
    elim (or_cases (p c) (list_any p cs) some) [
      | inl here ↦ record { cond = c; passes = here; idle = parts.0 }
      | inr later ↦ idle_one items known p cs later parts.1
    ]

-- an equality of which the right side is known and that makes nothing known
left_known : (items : List Item) (known : List Ref) (c : Cond) → made_known items known c ≡ None → is_equality c.cmp ≡ true → is_known_side items known c.right ≡ true
    → is_known items known c.left ≡ true
left_known items known c idle eq right =
    let two : unknown_of_two items known c ≡ None = sym (cond-true (is_equality c.cmp) (unknown_of_two items known c) None eq) ∙ idle in
    elim (cases_Bool (is_known items known c.left)) [
      | inl there ↦ there
      | inr fresh ↦ let made_left : Some c.left ≡ None = sym (cond-true (is_known_side items known c.right) (Some c.left) None right)
          ∙ sym (cond-false (is_known items known c.left) (unknown_side items known c.right) _ fresh) ∙ two in cc
    ]

right_column_known : (items : List Item) (known : List Ref) (t : Ref) → unknown_side items known (Col t) ≡ None → is_known items known t ≡ true
right_column_known items known t e = elim (cases_Bool (is_known items known t)) [
  | inl there ↦ there
  | inr fresh ↦ let here : Some t ≡ None = sym (cond-false (is_known items known t) None (Some t) fresh) ∙ e in cc
]

-- an equality of which the left side is known and that makes nothing known
right_known : (items : List Item) (known : List Ref) (c : Cond) (t : Ref) → made_known items known c ≡ None → is_equality c.cmp ≡ true → c.right ≡ Col t
    → is_known items known c.left ≡ true → is_known items known t ≡ true
right_known items known c t idle eq right left =
    let two : unknown_of_two items known c ≡ None = sym (cond-true (is_equality c.cmp) (unknown_of_two items known c) None eq) ∙ idle in
    right_column_known items known t (sym (ap (unknown_side items known) right) ∙ sym (cond-true (is_known items known c.left) (unknown_side items known c.right) _ left) ∙ two)

literal_known : (items : List Item) (known : List Ref) (side : Operand) → is_literal side ≡ true → is_known_side items known side ≡ true
literal_known items known (Col t) e = cc
literal_known items known (Lit v) e = refl

pinned_known : (q : Query) (known : List Ref) (r : Ref) → next_known q.items known q.conds ≡ None → list_any (pins r) q.conds ≡ true → is_known q.items known r ≡ true
pinned_known q known r none some =
    let one = idle_one q.items known (pins r) q.conds some none in
    let c = one.cond in
    let parts = and_parts (is_equality c.cmp) (same_column r c.left && is_literal c.right) one.passes in
    let sides = and_parts (same_column r c.left) (is_literal c.right) parts.1 in
    ap (is_known q.items known) (same_column_is r c.left sides.0)
    ∙ left_known q.items known c one.idle parts.0 (literal_known q.items known c.right sides.1)

linked_known : (q : Query) (known : List Ref) (r s : Ref) → next_known q.items known q.conds ≡ None → list_any (links r s) q.conds ≡ true
    → is_known q.items known s ≡ true → is_known q.items known r ≡ true
linked_known q known r s none some there =
    let one = idle_one q.items known (links r s) q.conds some none in
    let c = one.cond in
    let parts = and_parts (is_equality c.cmp) ((same_column r c.left && is_column s c.right) || (same_column s c.left && is_column r c.right)) one.passes in
    elim (or_cases (same_column r c.left && is_column s c.right) (same_column s c.left && is_column r c.right) parts.1) [
      | inl forth ↦ let sides = and_parts (same_column r c.left) (is_column s c.right) forth in
          ap (is_known q.items known) (same_column_is r c.left sides.0)
          ∙ left_known q.items known c one.idle parts.0 (ap (is_known_side q.items known) (column_is s c.right sides.1) ∙ there)
      | inr back ↦ let sides = and_parts (same_column s c.left) (is_column r c.right) back in
          right_known q.items known c r one.idle parts.0 (column_is r c.right sides.1) (sym (ap (is_known q.items known) (same_column_is s c.left sides.0)) ∙ there)
    ]

bound_known : (q : Query) (known : List Ref) {r : Ref} → next_known q.items known q.conds ≡ None → IsBound q r → is_known q.items known r ≡ true
bound_known q known none (IsBound.given e) = or_left _ _ e
bound_known q known {r = r} none (IsBound.pinned e) = pinned_known q known r none e
bound_known q known {r = r} none (IsBound.linked {s = s} e b) = linked_known q known r s none e (bound_known q known none b)

pub test_tells_bound : TestTellsBound
unfolding AreBound
test_tells_bound q r = (
  known_bound q (bound_columns q.items q.conds) r (after_bound q [] q.conds (none_bound q)),
  bound_known q (bound_columns q.items q.conds) (nothing_left q.items q.conds),
)
