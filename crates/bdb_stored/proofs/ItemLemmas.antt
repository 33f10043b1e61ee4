-- The items that numbers stand for, where no two numbers stand for one, and the set of them.
use Rattle.std.proofs.Common.{◌≡◌, ◌∙◌, ℕ, suc, ◌+◌, true, false, not, nat_eq, List, [], ◌∷◌, length, Option, Some, None, is_some, refl, ap, sym, subst, inl, inr, arith}
use Rattle.std.specs.Prelude.{sum_by}
use Rattle.std.specs.List.{list_all}
use Rattle.std.specs.declared.cmp.Ordering.{Ordering}
use Rattle.std.specs.declared.cmp.Ordering.TheVariants.{Less, Equal, Greater}
use Rattle.std.specs.Ordering.{is_eq, is_lt}
use Rattle.std.proofs.lemmas.Bool.{and_parts, or_left, or_right, or_cases, false≢true, false_from_ne_true, not-true, eqb-true, eq-eqb, or_parts}
use Rattle.std.proofs.lemmas.List.Sums.{sum_by-cons}
use Rattle.bdb_base.specs.SortedSet.{IsExactOrder, ascending, is_member, put_at, put_in, sorted_set}
use Rattle.bdb_base.proofs.SetLemmas.{is_eq-Equal, is_eq_itself, absent_above, set_is_ascending, set_keeps_members, members_make_set}
use Rattle.bdb_base.proofs.BoolLemmas.{same_tests}
use Rattle.bdb_base.specs.Causes.{is_listed}
use Rattle.bdb_tables.specs.Names.{are_once}
use Rattle.bdb_tables.proofs.UsedLemmas.{AllNamed, rest_named, first_named}
use Rattle.bdb_stored.specs.Items.{with_item, items_of}

-- ---- sums over sets

-- no item of a list comes again
abbrev pub AreApart : {X : Type 0} → (X → X → Ordering) → List X → Type 0
AreApart R [] = Unit {0}
AreApart R (x ∷ xs) = (is_member R xs x ≡ false) × AreApart R xs

module _ {X : Type 0} {R : X → X → Ordering} (o : IsExactOrder R) where
  sum_put : (f : X → ℕ) (x : X) (ys : List X) → is_member R ys x ≡ false → sum_by f (put_in R ys x) ≡ f x + sum_by f ys
  sum_put f x [] h = sum_by-cons f x []
  sum_put f x (y ∷ ys) h = go (R y x) refl (sum_put f x ys)
    where
      go : (r : Ordering) → R y x ≡ r → (is_member R ys x ≡ false → sum_by f (put_in R ys x) ≡ f x + sum_by f ys) → sum_by f (put_at (R y x) y ys x (put_in R ys x)) ≡ f x + sum_by f (y ∷ ys)
      go Less e more =
          let a = ap (λ q. sum_by f (put_at q y ys x (put_in R ys x))) e in
          let b = sum_by-cons f y (put_in R ys x) in
          let c = more (or_parts (is_eq (R y x)) (is_member R ys x) h).1 in
          let d = sum_by-cons f y ys in
          omega arith
      go Equal e more = absurd (false≢true (sym (or_parts (is_eq (R y x)) (is_member R ys x) h).0 ∙ ap is_eq e))
      go Greater e more =
          let a = ap (λ q. sum_by f (put_at q y ys x (put_in R ys x))) e in
          a ∙ sum_by-cons f x (y ∷ ys)

  -- a sum over the set of items that come once is the sum over the items
  pub sum_sorted : (f : X → ℕ) (xs : List X) → AreApart R xs → sum_by f (sorted_set R xs) ≡ sum_by f xs
  sum_sorted f [] a = refl
  sum_sorted f (x ∷ xs) a =
      let b = sum_put f x (sorted_set R xs) (set_keeps_members o xs x ∙ a.0) in
      let c = sum_sorted f xs a.1 in
      let d = sum_by-cons f x xs in
      omega arith

  pub ascending_apart : (xs : List X) → ascending R xs ≡ true → AreApart R xs
  ascending_apart [] e = tt
  ascending_apart (x ∷ xs) e =
      let k = and_parts (list_all (λ y. is_lt (R x y)) xs) (ascending R xs) e in
      (absent_above o x xs k.0, ascending_apart xs k.1)

pub sum_ones : {X : Type 0} (xs : List X) → sum_by (λ x. 1) xs ≡ length xs
sum_ones [] = refl
sum_ones (x ∷ xs) = let a = sum_by-cons (λ y. 1) x xs in let b = sum_ones xs in omega arith

-- ---- items by number

module _ {X : Type 0} (name : ℕ → Option X) where
  pub items_cons : (k : ℕ) (ks : List ℕ) (x : X) → name k ≡ Some x → items_of name (k ∷ ks) ≡ x ∷ items_of name ks
  items_cons k ks x e = ap (λ (z : Option X). with_item z (items_of name ks)) e

  pub items_many : (ks : List ℕ) → AllNamed name ks → length (items_of name ks) ≡ length ks
  items_many [] h = refl
  items_many (k ∷ ks) h =
      let x = first_named name k ks h in
      ap (λ (zs : List X). length zs) (items_cons k ks x.0 x.1) ∙ ap suc (items_many ks (rest_named name k ks h))

module _ {X : Type 0} {R : X → X → Ordering} (o : IsExactOrder R) (name : ℕ → Option X) (one : (j k : ℕ) (x : X) → name j ≡ Some x → name k ≡ Some x → j ≡ k) where
  later_member : (p : Option X) (xs : List X) (x : X) → is_member R xs x ≡ true → is_member R (with_item p xs) x ≡ true
  later_member None xs x e = e
  later_member (Some y) xs x e = or_right (is_eq (R y x)) (is_member R xs x) e

  -- what a number stands for is among the items
  pub item_is_member : (n : ℕ) (x : X) → name n ≡ Some x → (ks : List ℕ) → is_listed n ks ≡ true → is_member R (items_of name ks) x ≡ true
  item_is_member n x e [] l = absurd (false≢true l)
  item_is_member n x e (k ∷ ks) l = elim (or_cases (nat_eq n k) (is_listed n ks) l) [
    | inl s ↦
        ap (λ zs. is_member R zs x) (items_cons name k ks x (ap name (sym (eqb-true n k s)) ∙ e))
        ∙ or_left (is_eq (R x x)) (is_member R (items_of name ks) x) (is_eq_itself o x)
    | inr s ↦ later_member (name k) (items_of name ks) x (item_is_member n x e ks s)
  ]

  -- an item is that of a number
  pub member_is_item : (x : X) (ks : List ℕ) → is_member R (items_of name ks) x ≡ true → (k : ℕ) × (is_listed k ks ≡ true) × (name k ≡ Some x)
  member_is_item x [] e = absurd (false≢true e)
  member_is_item x (k ∷ ks) e = go (λ f. let r = member_is_item x ks f in (r.0, or_right (nat_eq r.0 k) (is_listed r.0 ks) r.1, r.2)) (name k) refl e
    where
      go : (is_member R (items_of name ks) x ≡ true → (j : ℕ) × (is_listed j (k ∷ ks) ≡ true) × (name j ≡ Some x)) → (p : Option X) → name k ≡ p
          → is_member R (with_item p (items_of name ks)) x ≡ true → (j : ℕ) × (is_listed j (k ∷ ks) ≡ true) × (name j ≡ Some x)
      go later None q f = later f
      go later (Some y) q f = elim (or_cases (is_eq (R y x)) (is_member R (items_of name ks) x) f) [
        | inl s ↦ (k, or_left (nat_eq k k) (is_listed k ks) (eq-eqb k k refl), q ∙ ap Some (o.exact y x (is_eq-Equal (R y x) s)))
        | inr s ↦ later s
      ]

  pub items_apart : (ks : List ℕ) → AllNamed name ks → are_once ks ≡ true → AreApart R (items_of name ks)
  items_apart [] h u = tt
  items_apart (k ∷ ks) h u =
      let x = first_named name k ks h in
      let c = and_parts (not (is_listed k ks)) (are_once ks) u in
      let none : is_member R (items_of name ks) x.0 ≡ false = false_from_ne_true (is_member R (items_of name ks) x.0) (λ e.
      let m = member_is_item x.0 ks e in
      false≢true (sym (not-true (is_listed k ks) c.0) ∙ ap (λ j. is_listed j ks) (one k m.0 x.0 x.1 m.2) ∙ m.1)) in
      subst (AreApart R) (sym (items_cons name k ks x.0 x.1)) (none, items_apart ks (rest_named name k ks h) c.1)

  -- the set of the items of all numbers that have one is a set that has the same members
  pub items_make_set : (ks : List ℕ) (set : List X) → ascending R set ≡ true → ((n : ℕ) → is_listed n ks ≡ is_some (name n))
      → ((x : X) → is_member R set x ≡ true → (n : ℕ) × (name n ≡ Some x)) → ((n : ℕ) (x : X) → name n ≡ Some x → is_member R set x ≡ true)
      → sorted_set R (items_of name ks) ≡ set
  items_make_set ks set asc all there back =
      members_make_set o (sorted_set R (items_of name ks)) set (set_is_ascending o (items_of name ks)) asc (λ x.
      set_keeps_members o (items_of name ks) x
      ∙ same_tests (is_member R (items_of name ks) x) (is_member R set x)
      (λ e. let m = member_is_item x ks e in back m.0 x m.2)
      (λ e. let n = there x e in item_is_member n.0 x n.1 ks (all n.0 ∙ ap is_some n.1)))
