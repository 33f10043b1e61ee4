-- States in order are the empty path and the children of the states in order.
use Rattle.std.proofs.Common.{◌≡◌, ◌∙◌, ℕ, zero, suc, ◌+◌, ◌-◌, ◌<◌, ◌≤◌, Bool, true, false, ◌||◌, List, [], ◌∷◌, ◌++◌, length, take, drop, get_or, Option, Some, None, cond, refl, ap, sym, inl, inr, arith}
use Rattle.std.specs.List.{list_any, list_all, flat_map}
use Rattle.std.specs.Cmp.Lexicographic.{slice_cmp}
use Rattle.std.specs.declared.cmp.Ordering.{Ordering}
use Rattle.std.specs.declared.cmp.Ordering.TheVariants.{Less, Equal, Greater}
use Rattle.std.specs.Ordering.{is_eq, is_lt, nat_cmp, ordering_then}
use Rattle.std.proofs.lemmas.Bool.{cases_lt, cases_order, and_parts, and_from, or_left, or_right, or_cases, or_from, false≢true, cond-true}
use Rattle.std.proofs.lemmas.Bool.Decides.{nat_tests}
use Rattle.std.proofs.lemmas.Grind.{flat_map-append}
use Rattle.std.proofs.lemmas.List.{get_or_append_left, take-append-drop, take_all, take_more}
use Rattle.std.proofs.lemmas.List.Folds.{list_all-append}
use Rattle.std.proofs.Math.Seq.{drop-append-add, drop-append_seam}
use Rattle.bdb_base.specs.Order.{path_cmp}
use Rattle.bdb_base.specs.OrderLemmas.{path_exact}
use Rattle.bdb_base.specs.SortedSet.{ascending, is_member}
use Rattle.bdb_base.specs.States.{HasPrefixes}
use Rattle.bdb_base.proofs.ListLemmas.{list_any_fails, list_all_each}
use Rattle.bdb_base.proofs.SetLemmas.{is_eq-Equal, is_eq_itself, is_lt-Less, greater_from_less, members_make_set}
use Rattle.bdb_base.proofs.WorldLemmas.{list_any_weaker, found_by}
use Rattle.bdb_base.proofs.WorldRowsLemmas.{list_any-flat_map, list_all-flat_map}
use Rattle.bdb_base.proofs.Numbers.{less, greater}
use Rattle.bdb_base.proofs.BoolLemmas.{same_tests}
use Rattle.bdb_base.specs.Causes.{is_listed}
use Rattle.bdb_names.proofs.Ends.{length_more, one_more}
use Rattle.bdb_names.proofs.NamedLemmas.{cases_end}
use Rattle.bdb_stored.specs.Items.{with_item, items_of}
use Rattle.bdb_stored.specs.Tree.{child_of, children_of, grown_from}
use Rattle.bdb_stored.proofs.ItemLemmas.{item_is_member, member_is_item}

-- ---- paths with one user more, in order

same_lengths : (v w : List ℕ) (i j : ℕ) → length v ≡ length w → slice_cmp nat_cmp (v ++ i ∷ []) (w ++ j ∷ []) ≡ ordering_then (slice_cmp nat_cmp v w) (nat_cmp i j)
same_lengths [] [] i j e = by (nat_cmp i j)
  where
    by : (r : Ordering) → ordering_then r Equal ≡ r
    by Less = refl
    by Equal = refl
    by Greater = refl
same_lengths [] (b ∷ w) i j e = absurd (omega arith)
same_lengths (a ∷ v) [] i j e = absurd (omega arith)
same_lengths (a ∷ v) (b ∷ w) i j e = ap (ordering_then (nat_cmp a b)) (same_lengths v w i j (omega arith)) ∙ by (nat_cmp a b) (slice_cmp nat_cmp v w) (nat_cmp i j)
  where
    by : (p q r : Ordering) → ordering_then p (ordering_then q r) ≡ ordering_then (ordering_then p q) r
    by Less q r = refl
    by Equal q r = refl
    by Greater q r = refl

-- the order of two paths with one user more is that of the paths, and then that of the users
pub one_more_cmp : (v w : List ℕ) (i j : ℕ) → path_cmp (v ++ i ∷ []) (w ++ j ∷ []) ≡ ordering_then (path_cmp v w) (nat_cmp i j)
one_more_cmp v w i j =
    let s = slice_cmp nat_cmp (v ++ i ∷ []) (w ++ j ∷ []) in
    let lengths : nat_cmp (length (v ++ i ∷ [])) (length (w ++ j ∷ [])) ≡ nat_cmp (length v) (length w) =
    ap (λ n. nat_cmp n (length (w ++ j ∷ []))) (length_more v i) ∙ ap (nat_cmp (suc (length v))) (length_more w j) ∙ both_more (length v) (length w) in
    ap (λ r. ordering_then r s) lengths
    ∙ elim (cases_order (length v) (length w)) [
      | inl e ↦ ap (ordering_then (nat_cmp (length v) (length w))) (same_lengths v w i j e) ∙ by (nat_cmp (length v) (length w)) (slice_cmp nat_cmp v w) (nat_cmp i j)
      | inr (inl lt) ↦ let e = less (length v) (length w) lt in ap (λ r. ordering_then r s) e ∙ ap (λ r. ordering_then (ordering_then r (slice_cmp nat_cmp v w)) (nat_cmp i j)) (sym e)
      | inr (inr gt) ↦ let e = greater (length v) (length w) gt in ap (λ r. ordering_then r s) e ∙ ap (λ r. ordering_then (ordering_then r (slice_cmp nat_cmp v w)) (nat_cmp i j)) (sym e)
    ]
  where
    both_more : (m n : ℕ) → nat_cmp (suc m) (suc n) ≡ nat_cmp m n
    both_more m n = grind (arith, nat_tests)

    by : (p q r : Ordering) → ordering_then p (ordering_then q r) ≡ ordering_then (ordering_then p q) r
    by Less q r = refl
    by Equal q r = refl
    by Greater q r = refl

-- a path is before itself with one user more
pub before_more : (w : List ℕ) (i : ℕ) → is_lt (path_cmp w (w ++ i ∷ [])) ≡ true
before_more w i =
    let n = length_more w i in
    ap (λ r. is_lt (ordering_then r (slice_cmp nat_cmp w (w ++ i ∷ [])))) (less (length w) (length (w ++ i ∷ [])) (omega arith))

-- ---- ascending lists

module _ {X : Type 0} (R : X → X → Ordering) where
  -- one list behind another whose items are all below those of the first one
  pub ascending_append : (xs ys : List X) → ascending R xs ≡ true → ascending R ys ≡ true → list_all (λ x. list_all (λ y. is_lt (R x y)) ys) xs ≡ true → ascending R (xs ++ ys) ≡ true
  ascending_append [] ys a b c = b
  ascending_append (x ∷ xs) ys a b c =
      let k = and_parts (list_all (λ y. is_lt (R x y)) xs) (ascending R xs) a in
      let l = and_parts (list_all (λ y. is_lt (R x y)) ys) (list_all (λ z. list_all (λ y. is_lt (R z y)) ys) xs) c in
      and_from (list_all (λ y. is_lt (R x y)) (xs ++ ys)) (ascending R (xs ++ ys))
      (list_all-append (λ y. is_lt (R x y)) xs ys ∙ and_from (list_all (λ y. is_lt (R x y)) xs) (list_all (λ y. is_lt (R x y)) ys) k.0 l.0)
      (ascending_append xs ys k.1 b l.1)

  pub ascending_drop : (n : ℕ) (xs : List X) → ascending R xs ≡ true → ascending R (drop n xs) ≡ true
  ascending_drop zero xs a = a
  ascending_drop (suc n) [] a = refl
  ascending_drop (suc n) (x ∷ xs) a = ascending_drop n xs (and_parts (list_all (λ y. is_lt (R x y)) xs) (ascending R xs) a).1

-- what all items of numbers pass
pub items_all : {X : Type 0} (name : ℕ → Option X) (q : ℕ → Bool) (Q : X → Bool) → ((k : ℕ) (x : X) → q k ≡ true → name k ≡ Some x → Q x ≡ true)
    → (ks : List ℕ) → list_all q ks ≡ true → list_all Q (items_of name ks) ≡ true
items_all name q Q h [] a = refl
items_all {X} name q Q h (k ∷ ks) a =
    let p = and_parts (q k) (list_all q ks) a in
    by (name k) refl p.0 (items_all name q Q h ks p.1)
  where
    by : (o : Option X) → name k ≡ o → q k ≡ true → list_all Q (items_of name ks) ≡ true → list_all Q (with_item o (items_of name ks)) ≡ true
    by None e t r = r
    by (Some x) e t r = and_from (Q x) (list_all Q (items_of name ks)) (h k x t e) r

-- ---- children

module _ (P : List ℕ → Bool) where
  child_is : (w : List ℕ) (i : ℕ) (x : List ℕ) → child_of P w i ≡ Some x → (P x ≡ true) × (x ≡ w ++ i ∷ [])
  child_is w i x e = by (P (w ++ i ∷ [])) refl e
    where
      by : (b : Bool) → P (w ++ i ∷ []) ≡ b → cond b (Some (w ++ i ∷ [])) None ≡ Some x → (P x ≡ true) × (x ≡ w ++ i ∷ [])
      by true h f = let s : w ++ i ∷ [] ≡ x = cc in (ap P (sym s) ∙ h, sym s)
      by false h f = absurd cc

  child_there : (w : List ℕ) (i : ℕ) → P (w ++ i ∷ []) ≡ true → child_of P w i ≡ Some (w ++ i ∷ [])
  child_there w i e = cond-true (P (w ++ i ∷ [])) (Some (w ++ i ∷ [])) None e

  one_child : (w : List ℕ) (j k : ℕ) (x : List ℕ) → child_of P w j ≡ Some x → child_of P w k ≡ Some x → j ≡ k
  one_child w j k x e f = (one_more w w j k (sym (child_is w j x e).1 ∙ (child_is w k x f).1)).1

  -- a child is after its path
  child_after : (w : List ℕ) (users : List ℕ) (y : List ℕ) → is_member path_cmp (children_of P users w) y ≡ true → is_lt (path_cmp w y) ≡ true
  child_after w users y e =
      let m = member_is_item path_exact (child_of P w) (one_child w) y users e in
      ap (λ x. is_lt (path_cmp w x)) (child_is w m.0 y m.2).1 ∙ before_more w m.0

  children_ascend : (w : List ℕ) (users : List ℕ) → ascending nat_cmp users ≡ true → ascending path_cmp (children_of P users w) ≡ true
  children_ascend w [] a = refl
  children_ascend w (i ∷ users) a =
      let k = and_parts (list_all (λ j. is_lt (nat_cmp i j)) users) (ascending nat_cmp users) a in
      by (child_of P w i) refl k.0 (children_ascend w users k.1)
    where
      by : (o : Option (List ℕ)) → child_of P w i ≡ o → list_all (λ j. is_lt (nat_cmp i j)) users ≡ true → ascending path_cmp (children_of P users w) ≡ true
          → ascending path_cmp (with_item o (children_of P users w)) ≡ true
      by None e l r = r
      by (Some x) e l r = and_from (list_all (λ y. is_lt (path_cmp x y)) (children_of P users w)) (ascending path_cmp (children_of P users w))
          (items_all (child_of P w) (λ j. is_lt (nat_cmp i j)) (λ y. is_lt (path_cmp x y)) (λ j y t f.
          ap (λ z. is_lt (path_cmp z y)) (child_is w i x e).1 ∙ ap (λ z. is_lt (path_cmp (w ++ i ∷ []) z)) (child_is w j y f).1
          ∙ ap is_lt (one_more_cmp w w i j) ∙ ap (λ r. is_lt (ordering_then r (nat_cmp i j))) (is_eq-Equal (path_cmp w w) (is_eq_itself path_exact w)) ∙ t) users l)
          r

  -- the children of a later path come later
  child_before : (users : List ℕ) (v w x : List ℕ) (i : ℕ) → is_lt (path_cmp v w) ≡ true → child_of P v i ≡ Some x → list_all (λ y. is_lt (path_cmp x y)) (children_of P users w) ≡ true
  child_before users v w x i l e = items_all (child_of P w) (λ j. true) (λ y. is_lt (path_cmp x y)) (λ j y t f.
      ap (λ z. is_lt (path_cmp z y)) (child_is v i x e).1 ∙ ap (λ z. is_lt (path_cmp (v ++ i ∷ []) z)) (child_is w j y f).1
      ∙ ap is_lt (one_more_cmp v w i j) ∙ ap (λ r. is_lt (ordering_then r (nat_cmp i j))) (is_lt-Less (path_cmp v w) l)) users (list_all_each (λ j. true) (λ j. refl) users)

  all_children_ascend : (users : List ℕ) → ascending nat_cmp users ≡ true → (ws : List (List ℕ)) → ascending path_cmp ws ≡ true → ascending path_cmp (flat_map (children_of P users) ws) ≡ true
  all_children_ascend users a [] s = refl
  all_children_ascend users a (w ∷ ws) s =
      let k = and_parts (list_all (λ y. is_lt (path_cmp w y)) ws) (ascending path_cmp ws) s in
      ascending_append path_cmp (children_of P users w) (flat_map (children_of P users) ws) (children_ascend w users a) (all_children_ascend users a ws k.1)
      (items_all (child_of P w) (λ j. true) (λ x. list_all (λ y. is_lt (path_cmp x y)) (flat_map (children_of P users) ws)) (λ i x t e.
      list_all-flat_map (λ y. is_lt (path_cmp w y)) (λ y. is_lt (path_cmp x y)) (children_of P users) (λ u l. child_before users w u x i l e) ws k.0)
      users (list_all_each (λ j. true) (λ j. refl) users))

  module _ (root : P [] ≡ true) (prefixes : HasPrefixes P) (users : List ℕ) (rise : ascending nat_cmp users ≡ true) (own : (w : List ℕ) (i : ℕ) → P (w ++ i ∷ []) ≡ true → is_listed i users ≡ true) (states : List (List ℕ)) (sorted : ascending path_cmp states ≡ true) (members : (w : List ℕ) → is_member path_cmp states w ≡ P w) where
    empty_first : (x w : List ℕ) (i : ℕ) → child_of P w i ≡ Some x → is_lt (path_cmp [] x) ≡ true
    empty_first x w i e =
        let n = length_more w i in
        ap (λ z. is_lt (path_cmp [] z)) (child_is w i x e).1
        ∙ ap (λ r. is_lt (ordering_then r (slice_cmp nat_cmp [] (w ++ i ∷ [])))) (less 0 (length (w ++ i ∷ [])) (omega arith))

    grown_ascend : (ws : List (List ℕ)) → ascending path_cmp ws ≡ true → ascending path_cmp (grown_from P users ws) ≡ true
    grown_ascend ws s = and_from (list_all (λ y. is_lt (path_cmp [] y)) (flat_map (children_of P users) ws)) (ascending path_cmp (flat_map (children_of P users) ws))
        (list_all-flat_map (λ w. true) (λ y. is_lt (path_cmp [] y)) (children_of P users)
        (λ w t. items_all (child_of P w) (λ j. true) (λ y. is_lt (path_cmp [] y)) (λ i x u e. empty_first x w i e) users (list_all_each (λ j. true) (λ j. refl) users))
        ws (list_all_each (λ w. true) (λ w. refl) ws))
        (all_children_ascend users rise ws s)

    grown_members : (w : List ℕ) → is_member path_cmp (grown_from P users states) w ≡ is_member path_cmp states w
    grown_members w = elim (cases_end w) [
      | inl e ↦ ap (is_member path_cmp (grown_from P users states)) e ∙ sym (ap (is_member path_cmp states) e ∙ members [] ∙ root)
      | inr s ↦
          let v = s.0 in
          let i = s.1 in
          same_tests (is_member path_cmp (grown_from P users states) w) (is_member path_cmp states w) (λ e. by_child w e) (λ e.
          let named : P (v ++ i ∷ []) ≡ true = ap P (sym s.2) ∙ sym (members w) ∙ e in
          or_right (is_eq (path_cmp [] w)) (is_member path_cmp (flat_map (children_of P users) states) w)
          (list_any-flat_map (λ y. is_eq (path_cmp y w)) (children_of P users) states
          ∙ list_any_weaker (λ y. is_eq (path_cmp y v)) (λ u. is_member path_cmp (children_of P users u) w) (λ u t.
          ap (λ z. is_member path_cmp (children_of P users z) w) (path_exact.exact u v (is_eq-Equal (path_cmp u v) t))
          ∙ item_is_member path_exact (child_of P v) (one_child v) i w (child_there v i named ∙ ap Some (sym s.2)) users (own v i named)) states
          (members v ∙ prefixes v (i ∷ []) named)))
    ]
      where
        by_child : (x : List ℕ) → is_member path_cmp (grown_from P users states) x ≡ true → is_member path_cmp states x ≡ true
        by_child x e = elim (or_cases (is_eq (path_cmp [] x)) (is_member path_cmp (flat_map (children_of P users) states) x) e) [
          | inl s ↦ ap (is_member path_cmp states) (sym (path_exact.exact [] x (is_eq-Equal (path_cmp [] x) s))) ∙ members [] ∙ root
          | inr s ↦
              let u = found_by (λ u. is_member path_cmp (children_of P users u) x) states (sym (list_any-flat_map (λ y. is_eq (path_cmp y x)) (children_of P users) states) ∙ s) in
              let m = member_is_item path_exact (child_of P u.0) (one_child u.0) x users u.1 in
              members x ∙ (child_is u.0 m.0 x m.2).0
        ]

    -- the states grow from themselves
    pub states_grow : grown_from P users states ≡ states
    states_grow = members_make_set path_exact (grown_from P users states) states (grown_ascend states sorted) sorted grown_members

    -- what is grown from the first states is a front of the states
    split : (k : ℕ) → states ≡ grown_from P users (take k states) ++ flat_map (children_of P users) (drop k states)
    split k =
        sym states_grow
        ∙ ap (λ (ws : List (List ℕ)). grown_from P users ws) (sym (take-append-drop k states))
        ∙ ap (λ (ws : List (List ℕ)). [] ∷ ws) (flat_map-append (children_of P users) (take k states) (drop k states))

    -- no state is before all those that have a child among the later ones
    no_later : (rest later : List (List ℕ)) (m : ℕ) → later ≡ drop m rest → rest ≡ flat_map (children_of P users) later → ascending path_cmp rest ≡ true → 0 < length later → ⊥
    no_later [] later m d c a l = let n = ap length d in let e = drop_none m in omega arith
      where
        none : List (List ℕ)
        none = []

        drop_none : (n : ℕ) → length (drop n none) ≡ 0
        drop_none zero = refl
        drop_none (suc n) = refl
    no_later (y ∷ ys) later m d c a l =
        let k = and_parts (list_all (λ z. is_lt (path_cmp y z)) ys) (ascending path_cmp ys) a in
        let parent : list_any (λ u. is_lt (path_cmp u y)) later ≡ true =
        list_any_weaker (λ u. is_member path_cmp (children_of P users u) y) (λ u. is_lt (path_cmp u y)) (λ u t. child_after u users y t) later
        (sym (list_any-flat_map (λ z. is_eq (path_cmp z y)) (children_of P users) later) ∙ ap (λ zs. is_member path_cmp zs y) (sym c)
        ∙ or_left (is_eq (path_cmp y y)) (is_member path_cmp ys y) (is_eq_itself path_exact y)) in
        let none : list_any (λ u. is_lt (path_cmp u y)) (y ∷ ys) ≡ false =
        or_from (is_lt (path_cmp y y)) (list_any (λ u. is_lt (path_cmp u y)) ys) (ap is_lt (is_eq-Equal (path_cmp y y) (is_eq_itself path_exact y)))
        (list_any_fails (λ z. is_lt (path_cmp y z)) (λ u. is_lt (path_cmp u y)) (λ z t. ap is_lt (greater_from_less path_exact y z (is_lt-Less (path_cmp y z) t))) ys k.0) in
        false≢true (sym (none_in_drop (λ u. is_lt (path_cmp u y)) m (y ∷ ys) none) ∙ ap (list_any (λ u. is_lt (path_cmp u y))) (sym d) ∙ parent)
      where
        none_in_drop : (p : List ℕ → Bool) (n : ℕ) (xs : List (List ℕ)) → list_any p xs ≡ false → list_any p (drop n xs) ≡ false
        none_in_drop p zero xs e = e
        none_in_drop p (suc n) [] e = refl
        none_in_drop p (suc n) (x ∷ xs) e = none_in_drop p n xs (second (p x) (list_any p xs) e)
          where
            second : (b c : Bool) → (b || c) ≡ false → c ≡ false
            second true c f = absurd (false≢true (sym f))
            second false c f = f

    -- the state at a place is there as soon as the states before it have been gone through
    pub grown_has : (k : ℕ) → k < length states → k < length (grown_from P users (take k states))
    grown_has k l = elim (cases_lt k (length (grown_from P users (take k states)))) [
      | inl there ↦ there
      | inr ge ↦
          let front = grown_from P users (take k states) in
          let rest = flat_map (children_of P users) (drop k states) in
          let m = k - length front in
          let whole : length front + m ≡ k = omega arith in
          let later : drop k states ≡ drop m rest = ap (drop k) (split k) ∙ ap (λ n. drop n (front ++ rest)) (sym whole) ∙ drop-append-add front rest m in
          let rises : ascending path_cmp rest ≡ true = ap (ascending path_cmp) (rest_is front rest (split k)) ∙ ascending_drop path_cmp (length front) states sorted in
          absurd (no_later rest (drop k states) m later refl rises (some_left k states l))
    ]
      where
        rest_is : (front rest : List (List ℕ)) → states ≡ front ++ rest → rest ≡ drop (length front) states
        rest_is front rest e = sym (ap (drop (length front)) e ∙ drop-append_seam front rest)

        some_left : (n : ℕ) (xs : List (List ℕ)) → n < length xs → 0 < length (drop n xs)
        some_left zero xs some = some
        some_left (suc n) [] some = absurd (omega arith)
        some_left (suc n) (x ∷ xs) some = some_left n xs (omega arith)

    -- and it stands at its place
    pub grown_reads : (k : ℕ) → k < length states → get_or (grown_from P users (take k states)) k [] ≡ get_or states k []
    grown_reads k l =
        let front = grown_from P users (take k states) in
        let rest = flat_map (children_of P users) (drop k states) in
        sym (ap (λ xs. get_or xs k []) (split k) ∙ get_or_append_left front rest [] k (grown_has k l))

    -- one state more
    pub grown_more : (k : ℕ) → k < length states → grown_from P users (take (k + 1) states) ≡ grown_from P users (take k states) ++ children_of P users (get_or states k [])
    grown_more k l =
        ap (grown_from P users) (take_more states k [] l)
        ∙ ap (λ (ws : List (List ℕ)). [] ∷ ws) (flat_map-append (children_of P users) (take k states) (get_or states k [] ∷ []) ∙ one (flat_map (children_of P users) (take k states)) (children_of P users (get_or states k [])))
      where
        one : (xs ys : List (List ℕ)) → xs ++ (ys ++ []) ≡ xs ++ ys
        one xs ys = ap (λ zs. xs ++ zs) (end ys)
          where
            end : (zs : List (List ℕ)) → zs ++ [] ≡ zs
            end [] = refl
            end (z ∷ zs) = ap (λ (us : List (List ℕ)). z ∷ us) (end zs)

    -- all of them
    pub grown_whole : (k : ℕ) → length states ≤ k → grown_from P users (take k states) ≡ states
    grown_whole k l = ap (grown_from P users) (take_all k states l) ∙ states_grow
