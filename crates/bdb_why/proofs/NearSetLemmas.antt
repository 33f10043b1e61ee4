-- The statements of the tuples that are explicit at a path and have a key, put into a set, are those near a tuple there.
use Rattle.std.proofs.Common.{◌≡◌, ◌∙◌, ℕ, Bool, true, false, ◌&&◌, ◌||◌, List, [], ◌∷◌, ◌++◌, refl, ap, sym, subst, inl, inr, map}
use Rattle.std.specs.List.{list_any, AllByRecursion}
use Rattle.std.specs.Ordering.{is_eq}
use Rattle.std.proofs.lemmas.Bool.{and_parts, and_from, or_cases, or_left, or_right, false≢true}
use Rattle.bdb_base.specs.declared.kinds.Sign.{Sign}
use Rattle.bdb_base.specs.declared.kinds.Sign.TheVariants.{Plus, Minus}
use Rattle.bdb_base.specs.declared.kinds.Stmt.{Stmt}
use Rattle.bdb_base.specs.declared.tuple.Tuple.{Tuple}
use Rattle.bdb_base.specs.Clash.{same_key}
use Rattle.bdb_base.specs.Order.{statement_cmp}
use Rattle.bdb_base.specs.OrderLemmas.{statement_exact}
use Rattle.bdb_base.specs.Same.{same_path, same_tuple, same_sign}
use Rattle.bdb_base.specs.SameLemmas.{same_path-Decides, same_tuple-Decides, same_sign-Decides}
use Rattle.bdb_base.specs.SortedSet.{ascending, put_all, put_in}
use Rattle.bdb_base.specs.Worlds.{explicit}
use Rattle.bdb_base.proofs.CountLemmas.{list_any-map}
use Rattle.bdb_base.proofs.SetLemmas.{is_eq_itself, list_any-put_all, members_make_set, put_all_is_ascending}
use Rattle.bdb_base.proofs.WorldLemmas.{found_by, list_any_weaker}
use Rattle.bdb_base.proofs.BoolLemmas.{same_tests, or_assoc}
use Rattle.bdb_base.proofs.FindLemmas.{list_any-filter}
use Rattle.bdb_base.proofs.BaseLemmas.{tied_statement_is}
use Rattle.bdb_why.specs.Ends.{near_at}

-- a tuple as a statement at a path
abbrev pub made : List ℕ → Sign → Tuple → Stmt
made w s x = record { path = w; sign = s; tuple = x }

-- a statement is among others
abbrev pub is_in : Stmt → List Stmt → Bool
is_in z xs = list_any (λ y. is_eq (statement_cmp y z)) xs

made_is : (y : Stmt) (w : List ℕ) (s : Sign) (x : Tuple) → same_path y.path w ≡ true → same_sign y.sign s ≡ true → same_tuple y.tuple x ≡ true → y ≡ made w s x
made_is y w s x p q r =
    ap (λ v. made v y.sign y.tuple) ((same_path-Decides y.path w).0 p) ∙ ap (λ g. made w g y.tuple) ((same_sign-Decides y.sign s).0 q)
    ∙ ap (made w s) ((same_tuple-Decides y.tuple x).0 r)

-- one tuple more
pub put_more : (w : List ℕ) (s : Sign) (xs : List Stmt) (us : List Tuple) (u : Tuple)
    → put_all statement_cmp xs (map (made w s) (us ++ u ∷ [])) ≡ put_in statement_cmp (put_all statement_cmp xs (map (made w s) us)) (made w s u)
put_more w s xs [] u = refl
put_more w s xs (v ∷ us) u = put_more w s (put_in statement_cmp xs (made w s v)) us u

module _ (keys : ℕ → ℕ) (stmts : List Stmt) (w : List ℕ) (u : Tuple) (test : Tuple → Bool)
    (near : (x : Tuple) (s : Sign) → explicit stmts w x s ≡ true → test x ≡ true → same_key keys u x ≡ true)
    (tested : (x : Tuple) → same_key keys u x ≡ true → test x ≡ true) where
  -- a statement near the tuple at this path is this one
  abbrev is_it : Stmt → Stmt → Bool
  is_it z x = (same_path x.path w && same_key keys u x.tuple) && is_eq (statement_cmp x z)

  -- a statement has the tuple and sign at this path
  abbrev states : Tuple → Sign → Stmt → Bool
  states x s y = same_path y.path w && (same_tuple y.tuple x && same_sign y.sign s)

  in_near : (z : Stmt) → is_in z (near_at keys stmts u w) ≡ list_any (is_it z) stmts
  in_near z = list_any-filter (λ y. is_eq (statement_cmp y z)) (λ x. same_path x.path w && same_key keys u x.tuple) stmts

  stated_near : (x : Tuple) (s : Sign) → explicit stmts w x s ≡ true → same_key keys u x ≡ true → is_in (made w s x) (near_at keys stmts u w) ≡ true
  stated_near x s e k = in_near (made w s x) ∙ list_any_weaker (states x s) (is_it (made w s x)) one stmts e
    where
      one : (y : Stmt) → states x s y ≡ true → is_it (made w s x) y ≡ true
      one y a =
          let p = and_parts (same_path y.path w) (same_tuple y.tuple x && same_sign y.sign s) a in
          let q = and_parts (same_tuple y.tuple x) (same_sign y.sign s) p.1 in
          and_from (same_path y.path w && same_key keys u y.tuple) (is_eq (statement_cmp y (made w s x)))
          (and_from (same_path y.path w) (same_key keys u y.tuple) p.0 (ap (same_key keys u) ((same_tuple-Decides y.tuple x).0 q.0) ∙ k))
          (ap (λ (z : Stmt). is_eq (statement_cmp z (made w s x))) (made_is y w s x p.0 q.1 q.0) ∙ is_eq_itself statement_exact (made w s x))

  -- what was read is near
  read_near : (s : Sign) (us : List Tuple) → AllByRecursion (λ x. (explicit stmts w x s ≡ true) × (test x ≡ true)) us → (z : Stmt) → is_in z (map (made w s) us) ≡ true
      → is_in z (near_at keys stmts u w) ≡ true
  read_near s [] a z e = absurd (false≢true e)
  read_near s (x ∷ us) a z e = elim (or_cases (is_eq (statement_cmp (made w s x) z)) (is_in z (map (made w s) us)) e) [
    | inl k ↦ subst (λ (y : Stmt). is_in y (near_at keys stmts u w) ≡ true) (tied_statement_is (made w s x) z k) (stated_near x s a.0.0 (near x s a.0.0 a.0.1))
    | inr k ↦ read_near s us a.1 z k
  ]

  -- what is near was read
  near_read : (s : Sign) (us : List Tuple) → ((x : Tuple) → explicit stmts w x s ≡ true → test x ≡ true → list_any (same_tuple x) us ≡ true) → (z : Stmt) → z.sign ≡ s
      → is_in z (near_at keys stmts u w) ≡ true → is_in z (map (made w s) us) ≡ true
  near_read s us all z sign e =
      let any : list_any (is_it z) stmts ≡ true = sym (in_near z) ∙ e in
      let found = found_by (is_it z) stmts any in
      let p = and_parts (same_path found.0.path w && same_key keys u found.0.tuple) (is_eq (statement_cmp found.0 z)) found.1 in
      let q = and_parts (same_path found.0.path w) (same_key keys u found.0.tuple) p.0 in
      let same : found.0 ≡ z = tied_statement_is found.0 z p.1 in
      let path : same_path z.path w ≡ true = ap (λ (y : Stmt). same_path y.path w) (sym same) ∙ q.0 in
      let key : same_key keys u z.tuple ≡ true = ap (λ (y : Stmt). same_key keys u y.tuple) (sym same) ∙ q.1 in
      list_any-map (λ y. is_eq (statement_cmp y z)) (made w s) us
      ∙ list_any_weaker (same_tuple z.tuple) (λ x. is_eq (statement_cmp (made w s x) z))
      (λ x a. ap (λ (y : Stmt). is_eq (statement_cmp y z)) (sym (made_is z w s x path ((same_sign-Decides z.sign s).1 sign) a)) ∙ is_eq_itself statement_exact z)
      us (all z.tuple (list_any_weaker (is_it z) (states z.tuple s) one stmts any) (tested z.tuple key))
    where
      one : (y : Stmt) → is_it z y ≡ true → states z.tuple s y ≡ true
      one y a =
          let p = and_parts (same_path y.path w && same_key keys u y.tuple) (is_eq (statement_cmp y z)) a in
          let q = and_parts (same_path y.path w) (same_key keys u y.tuple) p.0 in
          let same : y ≡ z = tied_statement_is y z p.1 in
          and_from (same_path y.path w) (same_tuple y.tuple z.tuple && same_sign y.sign s) q.0
          (and_from (same_tuple y.tuple z.tuple) (same_sign y.sign s) ((same_tuple-Decides y.tuple z.tuple).1 (ap (λ (x : Stmt). x.tuple) same))
          ((same_sign-Decides y.sign s).1 (ap (λ (x : Stmt). x.sign) same ∙ sign)))

  module _ (said denied : List Tuple) (say : AllByRecursion (λ x. (explicit stmts w x Plus ≡ true) × (test x ≡ true)) said)
      (deny : AllByRecursion (λ x. (explicit stmts w x Minus ≡ true) × (test x ≡ true)) denied)
      (all_said : (x : Tuple) → explicit stmts w x Plus ≡ true → test x ≡ true → list_any (same_tuple x) said ≡ true)
      (all_denied : (x : Tuple) → explicit stmts w x Minus ≡ true → test x ≡ true → list_any (same_tuple x) denied ≡ true) where
    abbrev pluses : List Stmt
    pluses = map (made w Plus) said

    abbrev minuses : List Stmt
    minuses = map (made w Minus) denied

    abbrev all_near : List Stmt
    all_near = near_at keys stmts u w

    both_members : (z : Stmt) → (is_in z pluses || is_in z minuses) ≡ is_in z all_near
    both_members z = same_tests (is_in z pluses || is_in z minuses) (is_in z all_near) into (λ e. from z.sign refl e)
      where
        into : (is_in z pluses || is_in z minuses) ≡ true → is_in z all_near ≡ true
        into e = elim (or_cases (is_in z pluses) (is_in z minuses) e) [
          | inl k ↦ read_near Plus said say z k
          | inr k ↦ read_near Minus denied deny z k
        ]

        from : (s : Sign) → z.sign ≡ s → is_in z all_near ≡ true → (is_in z pluses || is_in z minuses) ≡ true
        from Plus g e = or_left (is_in z pluses) (is_in z minuses) (near_read Plus said all_said z g e)
        from Minus g e = or_right (is_in z pluses) (is_in z minuses) (near_read Minus denied all_denied z g e)

    pub both_are_near : (xs : List Stmt) → ascending statement_cmp xs ≡ true
        → put_all statement_cmp (put_all statement_cmp xs (map (made w Plus) said)) (map (made w Minus) denied) ≡ put_all statement_cmp xs (near_at keys stmts u w)
    both_are_near xs up =
        members_make_set statement_exact (put_all statement_cmp (put_all statement_cmp xs pluses) minuses) (put_all statement_cmp xs all_near)
        (put_all_is_ascending statement_exact (put_all statement_cmp xs pluses) minuses (put_all_is_ascending statement_exact xs pluses up))
        (put_all_is_ascending statement_exact xs all_near up)
        (λ z. list_any-put_all statement_exact (λ y. is_eq (statement_cmp y z)) (put_all statement_cmp xs pluses) minuses
        ∙ ap (λ b. b || is_in z minuses) (list_any-put_all statement_exact (λ y. is_eq (statement_cmp y z)) xs pluses)
        ∙ or_assoc (is_in z xs) (is_in z pluses) (is_in z minuses) ∙ ap (λ b. is_in z xs || b) (both_members z)
        ∙ sym (list_any-put_all statement_exact (λ y. is_eq (statement_cmp y z)) xs all_near))
