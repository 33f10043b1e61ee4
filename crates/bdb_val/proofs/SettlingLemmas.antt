-- What the changes that settle a world's rows do.
use Rattle.std.proofs.Common.{◌≡◌, ◌≢◌, ◌∙◌, ℕ, Bool, true, false, ◌||◌, nat_eq, List, [], ◌∷◌, ◌++◌, ◌⊎◌, Option, Some, None, cond, inl, inr, refl, ap, sym, subst, is_some}
use Rattle.std.specs.Bool.{beq}
use Rattle.std.specs.List.{list_any, flat_map, AllByRecursion}
use Rattle.std.proofs.lemmas.Bool.{true≢false, false≢true, cases_Bool, and_parts, and_from, or_cases, or_left, or_right, or_from, cond-true, cond-false, eqb-true}
use Rattle.std.proofs.lemmas.List.Folds.{list_any-append}
use Rattle.bdb_base.specs.declared.tuple.Tuple.{Tuple}
use Rattle.bdb_base.specs.Same.{same_sign}
use Rattle.bdb_base.specs.SameLemmas.{same_sign-Decides}
use Rattle.bdb_base.proofs.AllLemmas.{all_append}
use Rattle.bdb_tables.specs.Marks.{Mark, sign_of, explicit_of}
use Rattle.bdb_val.specs.Settled.{settled_mark}
use Rattle.bdb_val.specs.Settling.{RowChange, mark_in, barred_by, next_mark, same_mark, change_at, has_mark, fresh_change, settling, last_mark, AreNamed}
use Rattle.bdb_val.specs.Laws.{SettlingIsRight, NoneSettlesTheSettled, SettlingIsReal}
use Rattle.bdb_val.specs.declared.stored.StoredRow.{StoredRow}
use Rattle.bdb_val.proofs.NextMarks.{one_tuple}

beq_same : (a b : Bool) → beq a b ≡ true → a ≡ b
beq_same true true e = refl
beq_same true false e = absurd (false≢true e)
beq_same false true e = absurd (false≢true e)
beq_same false false e = refl

beq_itself : (a : Bool) → beq a a ≡ true
beq_itself true = refl
beq_itself false = refl

pub same_mark_tells : (m n : Option Mark) → same_mark m n ≡ true → m ≡ n
same_mark_tells None None e = refl
same_mark_tells None (Some n) e = absurd (false≢true e)
same_mark_tells (Some m) None e = absurd (false≢true e)
same_mark_tells (Some m) (Some n) e =
    let p = and_parts (same_sign m.0 n.0) (beq m.1 n.1) e in
    let s : m.0 ≡ n.0 = (same_sign-Decides m.0 n.0).0 p.0 in
    ap (λ a. Some (a, m.1)) s ∙ ap (λ b. Some (n.0, b)) (beq_same m.1 n.1 p.1)

pub same_mark_itself : (m : Option Mark) → same_mark m m ≡ true
same_mark_itself None = refl
same_mark_itself (Some m) = and_from (same_sign m.0 m.0) (beq m.1 m.1) ((same_sign-Decides m.0 m.0).1 refl) (beq_itself m.1)

same_mark_from : (m n : Option Mark) → m ≡ n → same_mark m n ≡ true
same_mark_from m n e = ap (λ k. same_mark k n) e ∙ same_mark_itself n

-- a tuple has a row where its number is among the rows'
pub mark_is_some : (xs : List StoredRow) (tid : ℕ) → is_some (mark_in xs tid) ≡ list_any (λ y. nat_eq y.tid tid) xs
mark_is_some [] tid = refl
mark_is_some (x ∷ xs) tid = elim (cases_Bool (nat_eq x.tid tid)) [
  | inl a ↦ ap is_some (cond-true (nat_eq x.tid tid) (Some x.mark) (mark_in xs tid) a) ∙ sym (or_left (nat_eq x.tid tid) (list_any (λ y. nat_eq y.tid tid) xs) a)
  | inr a ↦ ap is_some (cond-false (nat_eq x.tid tid) (Some x.mark) (mark_in xs tid) a) ∙ mark_is_some xs tid ∙ ap (λ b. b || list_any (λ y. nat_eq y.tid tid) xs) (sym a)
]

pub none_in : (xs : List StoredRow) (tid : ℕ) → is_some (mark_in xs tid) ≡ false → mark_in xs tid ≡ None
none_in xs tid e = none (mark_in xs tid) e
  where
    none : (m : Option Mark) → is_some m ≡ false → m ≡ None
    none None e = refl
    none (Some m) e = absurd (true≢false e)

-- ---- what holds of each change

pub all_flat_map : {X Y : Type 0} (Q : X → Type 0) (P : Y → Type 0) (f : X → List Y) → ((x : X) → Q x → AllByRecursion P (f x)) → (xs : List X) → AllByRecursion Q xs → AllByRecursion P (flat_map f xs)
all_flat_map Q P f h [] a = tt
all_flat_map Q P f h (x ∷ xs) a = all_append P (f x) (flat_map f xs) (h x a.0) (all_flat_map Q P f h xs a.1)

pub all_of : {X : Type 0} (P : X → Type 0) → ((x : X) → P x) → (xs : List X) → AllByRecursion P xs
all_of P h [] = tt
all_of P h (x ∷ xs) = (h x, all_of P h xs)

-- what holds of the changes of each row holds of all that settle a world
pub settling_each : (keys : ℕ → ℕ) (stored own from : List StoredRow) (Q : StoredRow → Type 0) (P : RowChange → Type 0)
    → ((x : StoredRow) → Q x → AllByRecursion P (change_at keys stored own from x)) → AllByRecursion Q stored → AllByRecursion Q own → AllByRecursion Q from
    → AllByRecursion P (settling keys stored own from)
settling_each keys stored own from Q P h a b c =
    all_append P (flat_map (change_at keys stored own from) stored ++ flat_map (fresh_change keys stored own from []) own) (flat_map (fresh_change keys stored own from own) from)
    (all_append P (flat_map (change_at keys stored own from) stored) (flat_map (fresh_change keys stored own from []) own)
    (all_flat_map Q P (change_at keys stored own from) h stored a)
    (all_flat_map Q P (fresh_change keys stored own from []) (fresh []) own b))
    (all_flat_map Q P (fresh_change keys stored own from own) (fresh own) from c)
  where
    fresh : (before : List StoredRow) (x : StoredRow) → Q x → AllByRecursion P (fresh_change keys stored own from before x)
    fresh before x q = elim (cases_Bool (has_mark stored before x.tid)) [
      | inl e ↦ subst (λ cs. AllByRecursion P cs) (sym (cond-true (has_mark stored before x.tid) [] (change_at keys stored own from x) e)) tt
      | inr e ↦ subst (λ cs. AllByRecursion P cs) (sym (cond-false (has_mark stored before x.tid) [] (change_at keys stored own from x) e)) (h x q)
    ]

-- what holds of the change of a row, where the row is to be another, holds of its changes
pub change_each : (keys : ℕ → ℕ) (stored own from : List StoredRow) (P : RowChange → Type 0) (x : StoredRow)
    → (same_mark (mark_in stored x.tid) (next_mark keys own from x.tid x.tuple) ≡ false → P (x.tid, x.tuple, next_mark keys own from x.tid x.tuple))
    → AllByRecursion P (change_at keys stored own from x)
change_each keys stored own from P x h =
    let n = next_mark keys own from x.tid x.tuple in
    let b = same_mark (mark_in stored x.tid) n in
    elim (cases_Bool b) [
      | inl e ↦ subst (λ cs. AllByRecursion P cs) (sym (cond-true b [] ((x.tid, x.tuple, n) ∷ []) e)) tt
      | inr e ↦ subst (λ cs. AllByRecursion P cs) (sym (cond-false b [] ((x.tid, x.tuple, n) ∷ []) e)) (h e, tt)
    ]

pub settling_is_real : SettlingIsReal
settling_is_real keys stored own from =
    settling_each keys stored own from (λ _. Unit {0}) (λ x. mark_in stored x.0 ≢ x.2)
    (λ x _. change_each keys stored own from (λ y. mark_in stored y.0 ≢ y.2) x
    (λ e k. false≢true (sym e ∙ same_mark_from (mark_in stored x.tid) (next_mark keys own from x.tid x.tuple) k)))
    (all_of (λ _. Unit {0}) (λ _. tt) stored) (all_of (λ _. Unit {0}) (λ _. tt) own) (all_of (λ _. Unit {0}) (λ _. tt) from)

-- ---- each tuple has the row that it is to have

last_of_one : (cs : List RowChange) (tid : ℕ) (m z : Option Mark) → AllByRecursion (λ x. nat_eq x.0 tid ≡ true → x.2 ≡ z) cs
    → ((list_any (λ x. nat_eq x.0 tid) cs ≡ true) ⊎ (m ≡ z)) → last_mark cs tid m ≡ z
last_of_one [] tid m z a b = elim b [ inl e ↦ absurd (false≢true e) | inr e ↦ e ]
last_of_one (x ∷ xs) tid m z a b = elim (cases_Bool (nat_eq x.0 tid)) [
  | inl e ↦ last_of_one xs tid (cond (nat_eq x.0 tid) x.2 m) z a.1 (inr (cond-true (nat_eq x.0 tid) x.2 m e ∙ a.0 e))
  | inr e ↦ last_of_one xs tid (cond (nat_eq x.0 tid) x.2 m) z a.1 (left b e)
]
  where
    left : (list_any (λ y. nat_eq y.0 tid) (x ∷ xs) ≡ true) ⊎ (m ≡ z) → nat_eq x.0 tid ≡ false → (list_any (λ y. nat_eq y.0 tid) xs ≡ true) ⊎ (cond (nat_eq x.0 tid) x.2 m ≡ z)
    left (inl k) e = inl (ap (λ c. c || list_any (λ y. nat_eq y.0 tid) xs) (sym e) ∙ k)
    left (inr k) e = inr (cond-false (nat_eq x.0 tid) x.2 m e ∙ k)

-- all changes of one number put the row that its tuple is to have
changes_at_one : (keys : ℕ → ℕ) (tuple : ℕ → Option Tuple) (stored own from : List StoredRow) → AreNamed tuple stored → AreNamed tuple own → AreNamed tuple from
    → (tid : ℕ) (t : Tuple) → tuple tid ≡ Some t → AllByRecursion (λ x. nat_eq x.0 tid ≡ true → x.2 ≡ next_mark keys own from tid t) (settling keys stored own from)
changes_at_one keys tuple stored own from a b c tid t e =
    settling_each keys stored own from (λ x. tuple x.tid ≡ Some x.tuple) (λ x. nat_eq x.0 tid ≡ true → x.2 ≡ next_mark keys own from tid t)
    (λ x n. change_each keys stored own from (λ y. nat_eq y.0 tid ≡ true → y.2 ≡ next_mark keys own from tid t) x
    (λ _ k. ap (λ i. next_mark keys own from i x.tuple) (eqb-true x.tid tid k) ∙ ap (λ u. next_mark keys own from tid u) (one_tuple tuple x.tid tid x.tuple t n e k)))
    a b c

-- a row that is to be another is changed
change_is_there : (keys : ℕ → ℕ) (tuple : ℕ → Option Tuple) (stored own from : List StoredRow) (tid : ℕ) (t : Tuple) → tuple tid ≡ Some t
    → same_mark (mark_in stored tid) (next_mark keys own from tid t) ≡ false
    → (x : StoredRow) → tuple x.tid ≡ Some x.tuple → nat_eq x.tid tid ≡ true → list_any (λ y. nat_eq y.0 tid) (change_at keys stored own from x) ≡ true
change_is_there keys tuple stored own from tid t e d x n k =
    let i : x.tid ≡ tid = eqb-true x.tid tid k in
    let u : x.tuple ≡ t = one_tuple tuple x.tid tid x.tuple t n e k in
    let m = next_mark keys own from x.tid x.tuple in
    let b : same_mark (mark_in stored x.tid) m ≡ false = ap (λ j. same_mark (mark_in stored j) (next_mark keys own from j x.tuple)) i
    ∙ ap (λ v. same_mark (mark_in stored tid) (next_mark keys own from tid v)) u ∙ d in
    ap (list_any (λ y. nat_eq y.0 tid)) (cond-false (same_mark (mark_in stored x.tid) m) [] ((x.tid, x.tuple, m) ∷ []) b) ∙ or_left (nat_eq x.tid tid) false k

-- a list's changes have a number, where the list has it and each row of that number is changed
any_flat_map : (f : StoredRow → List RowChange) (tuple : ℕ → Option Tuple) (tid : ℕ)
    → ((x : StoredRow) → tuple x.tid ≡ Some x.tuple → nat_eq x.tid tid ≡ true → list_any (λ y. nat_eq y.0 tid) (f x) ≡ true)
    → (xs : List StoredRow) → AreNamed tuple xs → is_some (mark_in xs tid) ≡ true → list_any (λ y. nat_eq y.0 tid) (flat_map f xs) ≡ true
any_flat_map f tuple tid h xs n e = go xs n (sym (mark_is_some xs tid) ∙ e)
  where
    go : (ys : List StoredRow) → AreNamed tuple ys → list_any (λ y. nat_eq y.tid tid) ys ≡ true → list_any (λ y. nat_eq y.0 tid) (flat_map f ys) ≡ true
    go [] n e = absurd (false≢true e)
    go (y ∷ ys) n e = list_any-append (λ z. nat_eq z.0 tid) (f y) (flat_map f ys) ∙ elim (or_cases (nat_eq y.tid tid) (list_any (λ z. nat_eq z.tid tid) ys) e) [
      | inl a ↦ or_left (list_any (λ z. nat_eq z.0 tid) (f y)) (list_any (λ z. nat_eq z.0 tid) (flat_map f ys)) (h y n.0 a)
      | inr b ↦ or_right (list_any (λ z. nat_eq z.0 tid) (f y)) (list_any (λ z. nat_eq z.0 tid) (flat_map f ys)) (go ys n.1 b)
    ]

pub settling_is_right : SettlingIsRight
settling_is_right keys tuple stored own from a b c tid t e =
    let z = next_mark keys own from tid t in
    last_of_one (settling keys stored own from) tid (mark_in stored tid) z (changes_at_one keys tuple stored own from a b c tid t e)
    (elim (cases_Bool (same_mark (mark_in stored tid) z)) [
      | inl k ↦ inr (same_mark_tells (mark_in stored tid) z k)
      | inr k ↦ inl (there k)
    ])
  where
    at : (x : StoredRow) → tuple x.tid ≡ Some x.tuple → nat_eq x.tid tid ≡ true → same_mark (mark_in stored tid) (next_mark keys own from tid t) ≡ false
        → list_any (λ y. nat_eq y.0 tid) (change_at keys stored own from x) ≡ true
    at x n k d = change_is_there keys tuple stored own from tid t e d x n k

    fresh : (before : List StoredRow) → has_mark stored before tid ≡ false → same_mark (mark_in stored tid) (next_mark keys own from tid t) ≡ false
        → (x : StoredRow) → tuple x.tid ≡ Some x.tuple → nat_eq x.tid tid ≡ true → list_any (λ y. nat_eq y.0 tid) (fresh_change keys stored own from before x) ≡ true
    fresh before h d x n k =
        ap (list_any (λ y. nat_eq y.0 tid)) (cond-false (has_mark stored before x.tid) [] (change_at keys stored own from x) (ap (has_mark stored before) (eqb-true x.tid tid k) ∙ h)) ∙ at x n k d

    there : same_mark (mark_in stored tid) (next_mark keys own from tid t) ≡ false → list_any (λ x. nat_eq x.0 tid) (settling keys stored own from) ≡ true
    there d =
        let one = flat_map (change_at keys stored own from) stored in
        let two = flat_map (fresh_change keys stored own from []) own in
        let three = flat_map (fresh_change keys stored own from own) from in
        let test = λ (x : RowChange). nat_eq x.0 tid in
        list_any-append test (one ++ two) three
        ∙ elim (cases_Bool (is_some (mark_in stored tid))) [
          | inl s ↦ or_left (list_any test (one ++ two)) (list_any test three) (list_any-append test one two
              ∙ or_left (list_any test one) (list_any test two) (any_flat_map (change_at keys stored own from) tuple tid (λ x n k. at x n k d) stored a s))
          | inr s ↦ elim (cases_Bool (is_some (mark_in own tid))) [
            | inl o ↦ or_left (list_any test (one ++ two)) (list_any test three) (list_any-append test one two
                ∙ or_right (list_any test one) (list_any test two)
                (any_flat_map (fresh_change keys stored own from []) tuple tid (fresh [] (or_from (is_some (mark_in stored tid)) (is_some (mark_in [] tid)) s refl) d) own b o))
            | inr o ↦ elim (cases_Bool (is_some (mark_in from tid))) [
              | inl f ↦ or_right (list_any test (one ++ two)) (list_any test three)
                  (any_flat_map (fresh_change keys stored own from own) tuple tid (fresh own (or_from (is_some (mark_in stored tid)) (is_some (mark_in own tid)) s o) d) from c f)
              | inr f ↦
                  let n1 = none_in stored tid s in
                  let n2 = none_in own tid o in
                  let n3 = none_in from tid f in
                  absurd (false≢true (sym d ∙ ap (λ m. same_mark m (next_mark keys own from tid t)) n1
                  ∙ ap (λ m. same_mark None (settled_mark (explicit_of m) (barred_by keys own t) (sign_of (mark_in from tid)))) n2
                  ∙ ap (λ m. same_mark None (settled_mark None (barred_by keys own t) (sign_of m))) n3))
            ]
          ]
        ]

-- ---- where nothing is to be another

pub no_changes : (f : StoredRow → List RowChange) (Q : StoredRow → Type 0) → ((x : StoredRow) → Q x → f x ≡ []) → (xs : List StoredRow) → AllByRecursion Q xs → flat_map f xs ≡ []
no_changes f Q h [] a = refl
no_changes f Q h (x ∷ xs) a = ap (λ ys. ys ++ flat_map f xs) (h x a.0) ∙ no_changes f Q h xs a.1

pub none_settles_the_settled : NoneSettlesTheSettled
none_settles_the_settled keys tuple stored own from a b c h =
    ap (λ xs. xs ++ flat_map (fresh_change keys stored own from []) own ++ flat_map (fresh_change keys stored own from own) from)
    (no_changes (change_at keys stored own from) (λ x. tuple x.tid ≡ Some x.tuple) none stored a)
    ∙ ap (λ xs. xs ++ flat_map (fresh_change keys stored own from own) from) (no_changes (fresh_change keys stored own from []) (λ x. tuple x.tid ≡ Some x.tuple) (fresh []) own b)
    ∙ no_changes (fresh_change keys stored own from own) (λ x. tuple x.tid ≡ Some x.tuple) (fresh own) from c
  where
    none : (x : StoredRow) → tuple x.tid ≡ Some x.tuple → change_at keys stored own from x ≡ []
    none x n =
        let m = next_mark keys own from x.tid x.tuple in
        cond-true (same_mark (mark_in stored x.tid) m) [] ((x.tid, x.tuple, m) ∷ []) (same_mark_from (mark_in stored x.tid) m (h x.tid x.tuple n))

    fresh : (before : List StoredRow) (x : StoredRow) → tuple x.tid ≡ Some x.tuple → fresh_change keys stored own from before x ≡ []
    fresh before x n = elim (cases_Bool (has_mark stored before x.tid)) [
      | inl e ↦ cond-true (has_mark stored before x.tid) [] (change_at keys stored own from x) e
      | inr e ↦ cond-false (has_mark stored before x.tid) [] (change_at keys stored own from x) e ∙ none x n
    ]
