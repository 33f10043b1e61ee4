-- There are as many numbers of worlds as worlds.
use Rattle.std.proofs.Common.{◌≡◌, ◌∙◌, ℕ, true, false, not, nat_eq, List, [], ◌∷◌, refl, ap, sym, inl, inr, arith, length, map, Option, Some, None, is_some}
use Rattle.std.specs.List.{list_any}
use Rattle.std.proofs.lemmas.Bool.{and_parts, or_left, or_right, or_cases, false≢true, false_from_ne_true, not-true, eqb-true, eq-eqb}
use Rattle.bdb_base.specs.Bases.{distinct_count, world_count}
use Rattle.bdb_base.specs.Same.{same_path}
use Rattle.bdb_base.specs.SameLemmas.{same_path-Decides}
use Rattle.bdb_base.specs.States.{is_state, stated_prefixes}
use Rattle.bdb_base.specs.declared.kinds.Stmt.{Stmt}
use Rattle.bdb_base.proofs.CountLemmas.{distinct_count-same, one_unless}
use Rattle.bdb_base.proofs.BoolLemmas.{same_tests}
use Rattle.bdb_base.proofs.OptionLemmas.{some_of}
use Rattle.bdb_base.specs.Causes.{is_listed}
use Rattle.bdb_paths.proofs.StateLemmas.{state_is_listed}
use Rattle.bdb_tables.specs.Names.{Names, AreNames, path_of, number_of, is_named, are_once}
use Rattle.bdb_tables.proofs.UsedLemmas.{AllNamed, rest_named}

module _ (ns : Names) (names : AreNames ns) where
  some_path : Option (List ℕ) → List ℕ
  some_path None = []
  some_path (Some w) = w

  -- the path of a number
  path : ℕ → List ℕ
  path k = some_path (path_of ns k)

  path_is : (k : ℕ) → is_some (path_of ns k) ≡ true → path_of ns k ≡ Some (path k)
  unfolding some_path path
  path_is k e = let w = some_of (path_of ns k) e in w.1 ∙ ap Some (sym (ap some_path w.1))

  first_there : (k : ℕ) (ks : List ℕ) → AllNamed (path_of ns) (k ∷ ks) → is_some (path_of ns k) ≡ true
  first_there k ks h = h k (or_left (nat_eq k k) (is_listed k ks) (eq-eqb k k refl))

  same_number : (j k : ℕ) → is_some (path_of ns j) ≡ true → is_some (path_of ns k) ≡ true → path j ≡ path k → j ≡ k
  same_number j k a b e = one j k (number_of ns (path j)) (names.named j (path j) (path_is j a)) (ap (number_of ns) e ∙ names.named k (path k) (path_is k b))
    where
      one : (x y : ℕ) (o : Option ℕ) → o ≡ Some x → o ≡ Some y → x ≡ y
      one x y o p q = cc

  -- a number whose path is among those of others is among these
  among : (k : ℕ) → is_some (path_of ns k) ≡ true → (ks : List ℕ) → AllNamed (path_of ns) ks → list_any (same_path (path k)) (map path ks) ≡ true → is_listed k ks ≡ true
  among k a [] h e = absurd (false≢true e)
  among k a (j ∷ ks) h e = elim (or_cases (same_path (path k) (path j)) (list_any (same_path (path k)) (map path ks)) e) [
    | inl s ↦ or_left (nat_eq k j) (is_listed k ks) (eq-eqb k j (same_number k j a (first_there j ks h) ((same_path-Decides (path k) (path j)).0 s)))
    | inr s ↦ or_right (nat_eq k j) (is_listed k ks) (among k a ks (rest_named (path_of ns) j ks h) s)
  ]

  -- different numbers have different paths
  counted : (ks : List ℕ) → AllNamed (path_of ns) ks → are_once ks ≡ true → distinct_count same_path (map path ks) ≡ length ks
  counted [] h o = refl
  counted (k ∷ ks) h o =
      let p = and_parts (not (is_listed k ks)) (are_once ks) o in
      let none : list_any (same_path (path k)) (map path ks) ≡ false =
      false_from_ne_true (list_any (same_path (path k)) (map path ks)) (λ e. false≢true (sym (not-true (is_listed k ks) p.0) ∙ among k (first_there k ks h) ks (rest_named (path_of ns) k ks h) e)) in
      let one : one_unless (list_any (same_path (path k)) (map path ks)) ≡ 1 = ap one_unless none in
      let ih = counted ks (rest_named (path_of ns) k ks h) p.1 in
      omega arith

  -- a path is among those of numbers where it is the path of one
  named_among : (w : List ℕ) (n : ℕ) → path_of ns n ≡ Some w → (ks : List ℕ) → is_listed n ks ≡ true → list_any (same_path w) (map path ks) ≡ true
  unfolding some_path path
  named_among w n e [] l = absurd (false≢true l)
  named_among w n e (k ∷ ks) l = elim (or_cases (nat_eq n k) (is_listed n ks) l) [
    | inl s ↦ or_left (same_path w (path k)) (list_any (same_path w) (map path ks))
        ((same_path-Decides w (path k)).1 (sym (ap some_path (ap (path_of ns) (sym (eqb-true n k s)) ∙ e))))
    | inr s ↦ or_right (same_path w (path k)) (list_any (same_path w) (map path ks)) (named_among w n e ks s)
  ]

  among_named : (w : List ℕ) (ks : List ℕ) → AllNamed (path_of ns) ks → list_any (same_path w) (map path ks) ≡ true → is_named ns w ≡ true
  among_named w [] h e = absurd (false≢true e)
  among_named w (k ∷ ks) h e = elim (or_cases (same_path w (path k)) (list_any (same_path w) (map path ks)) e) [
    | inl s ↦ ap is_some (names.named k w (path_is k (first_there k ks h) ∙ ap Some (sym ((same_path-Decides w (path k)).0 s))))
    | inr s ↦ among_named w ks (rest_named (path_of ns) k ks h) s
  ]

  all_named : AllNamed (path_of ns) ns.used
  all_named k e = sym (names.counted k) ∙ e

  pub numbers_are_counted : (stmts : List Stmt) → ((w : List ℕ) → is_named ns w ≡ is_state stmts w) → length ns.used ≡ world_count stmts
  numbers_are_counted stmts is =
      sym (counted ns.used all_named names.once)
      ∙ distinct_count-same same_path same_path-Decides (map path ns.used) (stated_prefixes stmts) (λ w.
      same_tests (list_any (same_path w) (map path ns.used)) (is_named ns w) (among_named w ns.used all_named)
      (λ e. let n = some_of (number_of ns w) e in
      let p = names.numbered w n.0 n.1 in
      named_among w n.0 p ns.used (names.counted n.0 ∙ ap is_some p))
      ∙ is w ∙ sym (state_is_listed stmts w))
