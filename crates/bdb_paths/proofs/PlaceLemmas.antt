-- Places in lists, and where paths lead.
use Rattle.std.proofs.Common.{◌≡◌, ◌∙◌, ℕ, ◌+◌, ◌-◌, ◌<◌, ◌≤◌, Bool, true, false, not, ◌||◌, nat_lt, cond, List, [], ◌∷◌, refl, ap, sym, inl, inr, suc, arith, length, take, drop, None, Some, Option, slice_get, get_or}
use Prim.Native.Nat.{zero}
use Rattle.std.specs.List.{list_all, position, position_or_len}
use Rattle.std.specs.Ordering.{is_eq, is_lt}
use Rattle.std.specs.declared.cmp.Ordering.{Ordering}
use Rattle.std.proofs.lemmas.Bool.{cases_Bool, and_parts, or_parts, false≢true, false_from_ne_true, cond-true, cond-false, lt-ltb, ltb-true}
use Rattle.std.proofs.lemmas.List.{take_rest}
use Rattle.std.proofs.lemmas.Option.{slice_get_within, slice_get_read}
use Rattle.bdb_base.specs.Order.{path_cmp}
use Rattle.bdb_base.specs.OrderLemmas.{path_exact}
use Rattle.bdb_base.specs.SortedSet.{IsExactOrder, ascending, is_member}
use Rattle.bdb_base.specs.States.{deepest_suffix}
use Rattle.bdb_base.proofs.ListLemmas.{list_all_get}
use Rattle.bdb_base.proofs.SetLemmas.{is_eq-Equal, is_eq_itself, is_lt-Less}
use Rattle.bdb_paths.specs.Places.{place_if_there, place_in, target_place}
use Rattle.bdb_paths.proofs.SuffixLemmas.{deepest_is_member, deepest_of_member, deepest_past}

module _ {X : Type 0} {R : X → X → Ordering} (o : IsExactOrder R) where
  -- an item of an ascending list has the place where it stands
  pub place_found : (xs : List X) (x : X) (at : ℕ) → ascending R xs ≡ true → slice_get xs at ≡ Some x → place_in R xs x ≡ at
  place_found [] x at h e = cc
  place_found (y ∷ ys) x zero h e =
      let s : y ≡ x = cc in
      cond-true (is_eq (R y x)) 0 (suc (place_in R ys x)) (ap (λ z. is_eq (R z x)) s ∙ is_eq_itself o x)
  place_found (y ∷ ys) x (suc at) h e =
      let k = and_parts (list_all (λ z. is_lt (R y z)) ys) (ascending R ys) h in
      let less = list_all_get (λ z. is_lt (R y z)) ys at x k.0 e in
      cond-false (is_eq (R y x)) 0 (suc (place_in R ys x)) (ap is_eq (is_lt-Less (R y x) less)) ∙ ap suc (place_found ys x at k.1 e)

  -- what is not in a list has its length for a place
  pub place_missing : (xs : List X) (x : X) → is_member R xs x ≡ false → place_in R xs x ≡ length xs
  place_missing [] x h = refl
  place_missing (y ∷ ys) x h =
      let k = or_parts (is_eq (R y x)) (is_member R ys x) h in
      cond-false (is_eq (R y x)) 0 (suc (place_in R ys x)) k.0 ∙ ap suc (place_missing ys x k.1)

  -- a member stands at its place
  pub member_at_place : (xs : List X) (x : X) → is_member R xs x ≡ true → slice_get xs (place_in R xs x) ≡ Some x
  member_at_place [] x h = absurd (false≢true h)
  member_at_place (y ∷ ys) x h = elim (cases_Bool (is_eq (R y x))) [
    | inl e ↦ ap (slice_get (y ∷ ys)) (cond-true (is_eq (R y x)) 0 (suc (place_in R ys x)) e) ∙ ap Some (o.exact y x (is_eq-Equal (R y x) e))
    | inr e ↦ ap (slice_get (y ∷ ys)) (cond-false (is_eq (R y x)) 0 (suc (place_in R ys x)) e)
        ∙ member_at_place ys x (ap (λ b. b || is_member R ys x) (sym e) ∙ h)
  ]

  -- a place is below the length, or the length
  pub place_within : (xs : List X) (x : X) → place_in R xs x ≤ length xs
  place_within [] x = omega arith
  place_within (y ∷ ys) x = elim (cases_Bool (is_eq (R y x))) [
    | inl e ↦ let p = cond-true (is_eq (R y x)) 0 (suc (place_in R ys x)) e in omega arith
    | inr e ↦ let p = cond-false (is_eq (R y x)) 0 (suc (place_in R ys x)) e in let k = place_within ys x in omega arith
  ]

  -- a search from the front finds the place
  pub place_by_search : (xs : List X) (x : X) → place_in R xs x ≡ position_or_len (λ y. is_eq (R y x)) xs
  place_by_search [] x = refl
  place_by_search (y ∷ ys) x =
      let search : List X → ℕ = position_or_len (λ z. is_eq (R z x)) in
      let rest = place_by_search ys x in
      elim (cases_Bool (is_eq (R y x))) [
        | inl e ↦ cond-true (is_eq (R y x)) 0 (suc (place_in R ys x)) e ∙ sym (ap (λ b. cond (not b) (1 + search ys) 0) e)
        | inr e ↦ let here : place_in R (y ∷ ys) x ≡ suc (place_in R ys x) = cond-false (is_eq (R y x)) 0 (suc (place_in R ys x)) e in
            let found : search (y ∷ ys) ≡ 1 + search ys = ap (λ b. cond (not b) (1 + search ys) 0) e in
            omega arith
      ]

  -- an item is a member where its place is below the length
  pub place_of_member : (xs : List X) (x : X) → nat_lt (place_in R xs x) (length xs) ≡ is_member R xs x
  place_of_member xs x = elim (cases_Bool (is_member R xs x)) [
    | inl e ↦ lt-ltb (place_in R xs x) (length xs) (slice_get_within xs (place_in R xs x) x (member_at_place xs x e)) ∙ sym e
    | inr e ↦ false_from_ne_true (nat_lt (place_in R xs x) (length xs)) (λ t.
        let less = ltb-true (place_in R xs x) (length xs) t in let last = place_missing xs x e in omega arith) ∙ sym e
  ]

  pub position_is : (xs : List X) (x : X) → position (λ y. is_eq (R y x)) xs ≡ place_if_there R xs x
  position_is xs x =
      ap (λ n. cond (nat_lt n (length xs)) (Some n) None) (sym (place_by_search xs x))
      ∙ ap (λ b. cond b (Some (place_in R xs x)) None) (place_of_member xs x)

  -- the place of an item that a loop has come to
  pub place_of_item : (xs : List X) (at : ℕ) (x : X) → ascending R xs ≡ true → at < length xs → x ≡ get_or xs at x → place_in R xs x ≡ at
  place_of_item xs at x h l is = place_found xs x at h (slice_get_read xs (length xs) at x refl l is)

-- what a search from the front of a list of paths finds
pub found_by_search : (paths listed : List (List ℕ)) (w : List ℕ) (found : Option ℕ) → listed ≡ paths → found ≡ position (λ p. is_eq (path_cmp p w)) listed
    → found ≡ place_if_there path_cmp paths w
found_by_search paths listed w found l f = f ∙ position_is path_exact listed w ∙ ap (λ xs. place_if_there path_cmp xs w) l

-- a place where there is one is that of a member
pub there : (paths : List (List ℕ)) (w : List ℕ) (at : ℕ) → Some at ≡ place_if_there path_cmp paths w → (is_member path_cmp paths w ≡ true) × (at ≡ place_in path_cmp paths w)
there paths w at h = elim (cases_Bool (is_member path_cmp paths w)) [
  | inl e ↦ let s : Some at ≡ Some (place_in path_cmp paths w) = h ∙ cond-true (is_member path_cmp paths w) (Some (place_in path_cmp paths w)) None e in (e, cc)
  | inr e ↦ let s : Some at ≡ None = h ∙ cond-false (is_member path_cmp paths w) (Some (place_in path_cmp paths w)) None e in cc
]

pub not_there : (paths : List (List ℕ)) (w : List ℕ) → None ≡ place_if_there path_cmp paths w → is_member path_cmp paths w ≡ false
not_there paths w h = elim (cases_Bool (is_member path_cmp paths w)) [
  | inl e ↦ let s : None ≡ Some (place_in path_cmp paths w) = h ∙ cond-true (is_member path_cmp paths w) (Some (place_in path_cmp paths w)) None e in cc
  | inr e ↦ e
]

-- the deepest suffix among states stands at its place
pub target_stands : (states : List (List ℕ)) (w : List ℕ) → is_member path_cmp states [] ≡ true
    → slice_get states (target_place states w) ≡ Some (deepest_suffix (is_member path_cmp states) w)
target_stands states w root = member_at_place path_exact states (deepest_suffix (is_member path_cmp states) w) (deepest_is_member (is_member path_cmp states) w root)

pub target_within : (states : List (List ℕ)) (w : List ℕ) → is_member path_cmp states [] ≡ true → target_place states w < length states
target_within states w root = slice_get_within states (target_place states w) (deepest_suffix (is_member path_cmp states) w) (target_stands states w root)

-- the place of the deepest suffix is where it stands
pub target_found : (states : List (List ℕ)) (w : List ℕ) (at : ℕ) → ascending path_cmp states ≡ true → slice_get states at ≡ Some (deepest_suffix (is_member path_cmp states) w)
    → at ≡ target_place states w
target_found states w at h e = sym (place_found path_exact states (deepest_suffix (is_member path_cmp states) w) at h e)

-- ---- the steps of a search from the whole path on

-- a path that is no member has the deepest suffix of its rest
pub one_less : (P : List ℕ → Bool) (whole rest : List ℕ) → 1 ≤ length rest → P rest ≡ false → deepest_suffix P whole ≡ deepest_suffix P rest
    → deepest_suffix P whole ≡ deepest_suffix P (take (length rest - 1) (drop 1 rest))
one_less P whole [] l n e = absurd (omega arith)
one_less P whole (i ∷ w) l n e = e ∙ deepest_past P i w n ∙ ap (deepest_suffix P) (sym (take_rest (i ∷ w) 1))

pub none_left : (rest : List ℕ) → length rest < 1 → rest ≡ []
none_left [] l = refl
none_left (i ∷ w) l = absurd (omega arith)

-- the place of what is left, where it is a member, is that of the deepest suffix
pub found_here : (states : List (List ℕ)) (whole rest : List ℕ) (at : ℕ) → deepest_suffix (is_member path_cmp states) whole ≡ deepest_suffix (is_member path_cmp states) rest
    → Some at ≡ place_if_there path_cmp states rest → at ≡ target_place states whole
found_here states whole rest at e h =
    let t = there states rest at h in
    t.1 ∙ ap (place_in path_cmp states) (sym (e ∙ deepest_of_member (is_member path_cmp states) rest t.0))
