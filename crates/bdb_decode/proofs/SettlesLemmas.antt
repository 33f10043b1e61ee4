-- The rows of a world pass the test exactly where each tuple has the row that it is to have.
use Rattle.std.proofs.Common.{◌≡◌, ◌∙◌, ◌<◌, ℕ, suc, arith, length, get_or, Bool, true, false, not, ◌&&◌, ◌||◌, nat_eq, List, [], ◌∷◌, filter, Option, Some, None, cond, inl, inr, is_some, refl, ap, sym, subst}
use Prim.Native.Nat.{zero}
use Rattle.std.specs.List.{list_any, list_all, AllByRecursion}
use Rattle.std.proofs.lemmas.Bool.{false≢true, cases_Bool, and_parts, and_from, or_cases, or_left, or_right, cond-true, cond-false, eqb-true, eq-eqb, not-true}
use Rattle.bdb_base.specs.declared.kinds.Sign.{Sign}
use Rattle.bdb_base.specs.declared.tuple.Tuple.{Tuple}
use Rattle.bdb_base.specs.Clash.{clash}
use Rattle.bdb_base.specs.SameLemmas.{same_sign-Decides}
use Rattle.bdb_base.proofs.CountLemmas.{list_any-filter_some}
use Rattle.bdb_base.proofs.ListLemmas.{filter_kept_one, filter_dropped_one}
use Rattle.bdb_base.proofs.AllLemmas.{all_both}
use Rattle.bdb_base.proofs.ClashLemmas.{clash_of}
use Rattle.bdb_tables.proofs.Loops.{all_at_index}
use Rattle.bdb_tables.specs.Marks.{Mark, sign_of, explicit_of}
use Rattle.bdb_update.proofs.ExplicitLemmas.{unfiltered}
use Rattle.bdb_val.specs.Settled.{settled_mark, passed_on, is_barred}
use Rattle.bdb_val.specs.Settling.{mark_in, barred_by, next_mark, AreNamed, numbers_are_apart}
use Rattle.bdb_val.specs.declared.stored.StoredRow.{StoredRow}
use Rattle.bdb_val.proofs.SettlingLemmas.{mark_is_some}
use Rattle.bdb_val.proofs.StepLemmas.{mark_of_each}
use Rattle.bdb_decode.specs.Settles.{is_explicit, is_inherited, has_sign, is_fitting, is_passed, settles}

-- ---- lists

all_true : {X : Type 0} (p : X → Bool) (xs : List X) → list_all p xs ≡ true → AllByRecursion (λ x. p x ≡ true) xs
all_true p [] e = tt
all_true p (x ∷ xs) e = let q = and_parts (p x) (list_all p xs) e in (q.0, all_true p xs q.1)

true_all : {X : Type 0} (p : X → Bool) (xs : List X) → AllByRecursion (λ x. p x ≡ true) xs → list_all p xs ≡ true
true_all p [] a = refl
true_all p (x ∷ xs) a = and_from (p x) (list_all p xs) a.0 (true_all p xs a.1)

kept_all : {X : Type 0} (P : X → Type 0) (p : X → Bool) (xs : List X) → AllByRecursion (λ x. p x ≡ true → P x) xs → AllByRecursion P (filter p xs)
kept_all P p [] a = tt
kept_all P p (x ∷ xs) a = elim (cases_Bool (p x)) [
  | inl e ↦ subst (AllByRecursion P) (sym (filter_kept_one p x xs e)) (a.0 e, kept_all P p xs a.1)
  | inr e ↦ subst (AllByRecursion P) (sym (filter_dropped_one p x xs e)) (kept_all P p xs a.1)
]

later_any : {X : Type 0} (p q : X → Bool) (x : X) (xs : List X) → list_any p (filter q xs) ≡ true → list_any p (filter q (x ∷ xs)) ≡ true
later_any p q x xs h = elim (cases_Bool (q x)) [
  | inl e ↦ ap (list_any p) (filter_kept_one q x xs e) ∙ or_right (p x) (list_any p (filter q xs)) h
  | inr e ↦ ap (list_any p) (filter_dropped_one q x xs e) ∙ h
]

abbrev other_than : {X : Type 0} → (X → Bool) → X → Bool
other_than q x = not (q x)

any_split : {X : Type 0} (p q : X → Bool) (xs : List X) → list_any p xs ≡ true → (list_any p (filter q xs) || list_any p (filter (other_than q) xs)) ≡ true
any_split p q [] h = absurd (false≢true h)
any_split p q (x ∷ xs) h = elim (or_cases (p x) (list_any p xs) h) [
  | inl a ↦ elim (cases_Bool (q x)) [
    | inl e ↦ or_left (list_any p (filter q (x ∷ xs))) (list_any p (filter (other_than q) (x ∷ xs)))
        (ap (list_any p) (filter_kept_one q x xs e) ∙ or_left (p x) (list_any p (filter q xs)) a)
    | inr e ↦ or_right (list_any p (filter q (x ∷ xs))) (list_any p (filter (other_than q) (x ∷ xs)))
        (ap (list_any p) (filter_kept_one (other_than q) x xs (ap not e)) ∙ or_left (p x) (list_any p (filter (other_than q) xs)) a)
  ]
  | inr a ↦ elim (or_cases (list_any p (filter q xs)) (list_any p (filter (other_than q) xs)) (any_split p q xs a)) [
    | inl c ↦ or_left (list_any p (filter q (x ∷ xs))) (list_any p (filter (other_than q) (x ∷ xs))) (later_any p q x xs c)
    | inr c ↦ or_right (list_any p (filter q (x ∷ xs))) (list_any p (filter (other_than q) (x ∷ xs))) (later_any p (other_than q) x xs c)
  ]
]

-- ---- rows by the numbers of their tuples

none_mark : (o : Option Mark) (m : Mark) → o ≡ None → o ≡ Some m → ⊥
none_mark o m a b = cc

one_mark : (m n : Mark) → Some m ≡ Some n → m ≡ n
one_mark m n e = cc

pick : (P : StoredRow → Type 0) (xs : List StoredRow) (tid : ℕ) (m : Mark) → AllByRecursion P xs → mark_in xs tid ≡ Some m → (x : StoredRow) × (P x) × (x.tid ≡ tid) × (x.mark ≡ m)
pick P [] tid m a e = absurd (none_mark (mark_in [] tid) m refl e)
pick P (x ∷ xs) tid m a e = elim (cases_Bool (nat_eq x.tid tid)) [
  | inl b ↦ (x, a.0, eqb-true x.tid tid b, one_mark x.mark m (sym (cond-true (nat_eq x.tid tid) (Some x.mark) (mark_in xs tid) b) ∙ e))
  | inr b ↦ pick P xs tid m a.1 (sym (cond-false (nat_eq x.tid tid) (Some x.mark) (mark_in xs tid) b) ∙ e)
]

one_tuple : (tuple : ℕ → Option Tuple) (a b : ℕ) (t u : Tuple) → tuple a ≡ Some t → tuple b ≡ Some u → a ≡ b → t ≡ u
one_tuple tuple a b t u p q e = let l : tuple a ≡ tuple b = ap tuple e in cc

-- what explicit rows bar, all rows do
barred_stated : (keys : ℕ → ℕ) (xs : List StoredRow) (t : Tuple) (s : Sign) → barred_by keys (filter is_explicit xs) t s ≡ barred_by keys xs t s
barred_stated keys [] t s = refl
barred_stated keys (x ∷ xs) t s =
    let c = clash keys t s x.tuple x.mark.0 in
    elim (cases_Bool x.mark.1) [
      | inl e ↦ ap (λ ys. barred_by keys ys t s) (filter_kept_one is_explicit x xs e) ∙ ap (λ b. (x.mark.1 && c) || b) (barred_stated keys xs t s)
      | inr e ↦ ap (λ ys. barred_by keys ys t s) (filter_dropped_one is_explicit x xs e) ∙ barred_stated keys xs t s ∙ sym (ap (λ b. (b && c) || barred_by keys xs t s) e)
    ]

-- whether rows bar a signed tuple is told by the length of its relation's key
pub barred_of : (keys : ℕ → ℕ) (n : ℕ) (xs : List StoredRow) (t : Tuple) (s : Sign) → n ≡ keys t.rel → barred_by (λ _. n) xs t s ≡ barred_by keys xs t s
barred_of keys n [] t s e = refl
barred_of keys n (x ∷ xs) t s e =
    ap (λ b. (x.mark.1 && b) || barred_by (λ _. n) xs t s) (clash_of keys n t s x.tuple x.mark.0 e)
    ∙ ap (λ b. (x.mark.1 && clash keys t s x.tuple x.mark.0) || b) (barred_of keys n xs t s e)

found_kept : (p : StoredRow → Bool) (xs : List StoredRow) (tid : ℕ) → is_some (mark_in (filter p xs) tid) ≡ true → is_some (mark_in xs tid) ≡ true
found_kept p xs tid e = mark_is_some xs tid ∙ list_any-filter_some (λ y. nat_eq y.tid tid) p xs (sym (mark_is_some (filter p xs) tid) ∙ e)

split_found : (xs : List StoredRow) (tid : ℕ) → is_some (mark_in xs tid) ≡ true → (is_some (mark_in (filter is_explicit xs) tid) || is_some (mark_in (filter is_inherited xs) tid)) ≡ true
split_found xs tid e =
    ap (λ b. b || is_some (mark_in (filter is_inherited xs) tid)) (mark_is_some (filter is_explicit xs) tid)
    ∙ ap (λ b. list_any (λ y. nat_eq y.tid tid) (filter is_explicit xs) || b) (mark_is_some (filter is_inherited xs) tid)
    ∙ any_split (λ y. nat_eq y.tid tid) is_explicit xs (sym (mark_is_some xs tid) ∙ e)

-- ---- marks

signed : (s : Sign) (q : Option Mark) → has_sign s q ≡ true → sign_of q ≡ Some s
signed s None e = absurd (false≢true e)
signed s (Some m) e = ap Some ((same_sign-Decides m.0 s).0 e)

-- an explicit row is settled
explicit_settled : (m : Mark) (bars : Sign → Bool) (q : Option Mark) → m.1 ≡ true → Some m ≡ settled_mark (explicit_of (Some m)) bars (sign_of q)
explicit_settled m bars q c = ap (λ b. Some (m.0, b)) c ∙ sym (ap (λ b. settled_mark (cond b (Some m.0) None) bars (sign_of q)) c)

-- an inherited row is settled where its sign is passed on
inherited_settled : (m : Mark) (bars : Sign → Bool) (q : Option Mark) → m.1 ≡ false → bars m.0 ≡ false → has_sign m.0 q ≡ true → Some m ≡ settled_mark (explicit_of (Some m)) bars (sign_of q)
inherited_settled m bars q c clear h =
    ap (λ b. Some (m.0, b)) c
    ∙ sym (cond-false (bars m.0) None (Some (m.0, false)) clear)
    ∙ sym (ap (λ r. passed_on (is_barred bars r) r) (signed m.0 q h))
    ∙ sym (ap (λ b. settled_mark (cond b (Some m.0) None) bars (sign_of q)) c)

settled_inherited : (m : Mark) (bars : Sign → Bool) (q : Option Mark) → m.1 ≡ false → Some m ≡ settled_mark (explicit_of (Some m)) bars (sign_of q) → (bars m.0 ≡ false) × (has_sign m.0 q ≡ true)
settled_inherited m bars q c e = by q (e ∙ ap (λ b. settled_mark (cond b (Some m.0) None) bars (sign_of q)) c)
  where
    by : (q : Option Mark) → Some m ≡ passed_on (is_barred bars (sign_of q)) (sign_of q) → (bars m.0 ≡ false) × (has_sign m.0 q ≡ true)
    by None e = absurd (none_mark (Some m) m e refl)
    by (Some n) e = elim (cases_Bool (bars n.0)) [
      | inl b ↦ absurd (none_mark (Some m) m (e ∙ cond-true (bars n.0) None (Some (n.0, false)) b) refl)
      | inr b ↦
          let same : m.0 ≡ n.0 = ap (λ (k : Mark). k.0) (one_mark m (n.0, false) (e ∙ cond-false (bars n.0) None (Some (n.0, false)) b)) in
          (ap bars same ∙ b, (same_sign-Decides n.0 m.0).1 (sym same))
    ]

-- a tuple without a row is settled where what is passed on is barred
none_settled : (m : Mark) (bars : Sign → Bool) → bars m.0 ≡ true → None ≡ settled_mark None bars (sign_of (Some m))
none_settled m bars b = sym (cond-true (bars m.0) None (Some (m.0, false)) b)

settled_none : (m : Mark) (bars : Sign → Bool) → None ≡ settled_mark None bars (sign_of (Some m)) → bars m.0 ≡ true
settled_none m bars e = elim (cases_Bool (bars m.0)) [
  | inl b ↦ b
  | inr b ↦ absurd (none_mark (Some (m.0, false)) (m.0, false) (sym (e ∙ cond-false (bars m.0) None (Some (m.0, false)) b)) refl)
]

-- ---- the test

module _ (keys : ℕ → ℕ) (tuple : ℕ → Option Tuple) (own from : List StoredRow) (a : AreNamed tuple own) (b : AreNamed tuple from) where
  abbrev stated : List StoredRow
  stated = filter is_explicit own

  abbrev inherited : List StoredRow
  inherited = filter is_inherited own

  abbrev next : Tuple → Option Mark → Option Mark → Option Mark
  next u o q = settled_mark (explicit_of o) (barred_by keys own u) (sign_of q)

  -- an inherited row of the world
  abbrev Fits : StoredRow → Type 0
  Fits x = (tuple x.tid ≡ Some x.tuple) × (is_inherited x ≡ true → is_fitting keys stated from x ≡ true)

  -- a row of the other world
  abbrev Passes : StoredRow → Type 0
  Passes y = (tuple y.tid ≡ Some y.tuple) × (is_passed keys stated inherited y ≡ true)

  -- each tuple has the row that it is to have, where the test is passed
  pub settled_next : settles keys own from ≡ true → (tid : ℕ) (u : Tuple) → tuple tid ≡ Some u → mark_in own tid ≡ next_mark keys own from tid u
  settled_next h tid u n = value (mark_in own tid) (mark_in from tid) refl refl
    where
      parts : (list_all (is_fitting keys stated from) inherited ≡ true) × (list_all (is_passed keys stated inherited) from ≡ true)
      parts = and_parts (list_all (is_fitting keys stated from) inherited) (list_all (is_passed keys stated inherited) from) h

      fits : AllByRecursion Fits own
      fits = all_both (λ x. tuple x.tid ≡ Some x.tuple) (λ x. is_inherited x ≡ true → is_fitting keys stated from x ≡ true) Fits own (λ x p q. (p, q)) a
          (unfiltered (λ x. is_fitting keys stated from x ≡ true) is_inherited own (all_true (is_fitting keys stated from) inherited parts.0))

      passes : AllByRecursion Passes from
      passes = all_both (λ y. tuple y.tid ≡ Some y.tuple) (λ y. is_passed keys stated inherited y ≡ true) Passes from (λ y p q. (p, q)) b (all_true (is_passed keys stated inherited) from parts.1)

      value : (o q : Option Mark) → mark_in own tid ≡ o → mark_in from tid ≡ q → o ≡ next u o q
      value None None e f = refl
      value None (Some m) e f =
          let y = pick Passes from tid m passes f in
          let same : y.0.tuple ≡ u = one_tuple tuple y.0.tid tid y.0.tuple u y.1.0 n y.2 in
          let bars = barred_by keys stated y.0.tuple y.0.mark.0 in
          let stands = is_some (mark_in stated y.0.tid) || is_some (mark_in inherited y.0.tid) in
          let absent : is_some (mark_in own y.0.tid) ≡ false = ap (λ i. is_some (mark_in own i)) y.2 ∙ ap is_some e in
          none_settled m (barred_by keys own u) (elim (or_cases bars stands y.1.1) [
            | inl c ↦
                ap (λ t. barred_by keys own t m.0) (sym same) ∙ ap (λ (k : Mark). barred_by keys own y.0.tuple k.0) (sym y.3)
                ∙ sym (barred_stated keys own y.0.tuple y.0.mark.0) ∙ c
            | inr c ↦ elim (or_cases (is_some (mark_in stated y.0.tid)) (is_some (mark_in inherited y.0.tid)) c) [
              | inl d ↦ absurd (false≢true (sym absent ∙ found_kept is_explicit own y.0.tid d))
              | inr d ↦ absurd (false≢true (sym absent ∙ found_kept is_inherited own y.0.tid d))
            ]
          ])
      value (Some m) q e f = elim (cases_Bool m.1) [
        | inl c ↦ explicit_settled m (barred_by keys own u) q c
        | inr c ↦
            let x = pick Fits own tid m fits e in
            let same : x.0.tuple ≡ u = one_tuple tuple x.0.tid tid x.0.tuple u x.1.0 n x.2 in
            let fit = and_parts (not (barred_by keys stated x.0.tuple x.0.mark.0)) (has_sign x.0.mark.0 (mark_in from x.0.tid))
            (x.1.1 (ap (λ (k : Mark). not k.1) x.3 ∙ ap not c)) in
            inherited_settled m (barred_by keys own u) q c
            (ap (λ t. barred_by keys own t m.0) (sym same) ∙ ap (λ (k : Mark). barred_by keys own x.0.tuple k.0) (sym x.3)
            ∙ sym (barred_stated keys own x.0.tuple x.0.mark.0) ∙ not-true (barred_by keys stated x.0.tuple x.0.mark.0) fit.0)
            (ap (has_sign m.0) (sym f) ∙ ap (λ i. has_sign m.0 (mark_in from i)) (sym x.2) ∙ ap (λ (k : Mark). has_sign k.0 (mark_in from x.0.tid)) (sym x.3) ∙ fit.1)
      ]

  -- the test is passed, where each tuple has the row that it is to have
  pub next_settles : numbers_are_apart own ≡ true → numbers_are_apart from ≡ true → ((tid : ℕ) (u : Tuple) → tuple tid ≡ Some u → mark_in own tid ≡ next_mark keys own from tid u) → settles keys own from ≡ true
  next_settles c d h = and_from (list_all (is_fitting keys stated from) inherited) (list_all (is_passed keys stated inherited) from)
      (true_all (is_fitting keys stated from) inherited (kept_all (λ x. is_fitting keys stated from x ≡ true) is_inherited own
      (all_both (λ x. tuple x.tid ≡ Some x.tuple) (λ x. mark_in own x.tid ≡ Some x.mark) (λ x. is_inherited x ≡ true → is_fitting keys stated from x ≡ true) own fit a (mark_of_each own own (λ _ _ k. k) c))))
      (true_all (is_passed keys stated inherited) from
      (all_both (λ y. tuple y.tid ≡ Some y.tuple) (λ y. mark_in from y.tid ≡ Some y.mark) (λ y. is_passed keys stated inherited y ≡ true) from pass b (mark_of_each from from (λ _ _ k. k) d)))
    where
      fit : (x : StoredRow) → tuple x.tid ≡ Some x.tuple → mark_in own x.tid ≡ Some x.mark → is_inherited x ≡ true → is_fitting keys stated from x ≡ true
      fit x n k i =
          let told = settled_inherited x.mark (barred_by keys own x.tuple) (mark_in from x.tid) (not-true x.mark.1 i)
          (sym k ∙ h x.tid x.tuple n ∙ ap (λ o. next x.tuple o (mark_in from x.tid)) k) in
          and_from (not (barred_by keys stated x.tuple x.mark.0)) (has_sign x.mark.0 (mark_in from x.tid)) (ap not (barred_stated keys own x.tuple x.mark.0 ∙ told.0)) told.1

      pass : (y : StoredRow) → tuple y.tid ≡ Some y.tuple → mark_in from y.tid ≡ Some y.mark → is_passed keys stated inherited y ≡ true
      pass y n k = by (mark_in own y.tid) refl
        where
          bars : Bool
          bars = barred_by keys stated y.tuple y.mark.0

          by : (o : Option Mark) → mark_in own y.tid ≡ o → is_passed keys stated inherited y ≡ true
          by (Some m) e = or_right bars (is_some (mark_in stated y.tid) || is_some (mark_in inherited y.tid)) (split_found own y.tid (ap is_some e))
          by None e = or_left bars (is_some (mark_in stated y.tid) || is_some (mark_in inherited y.tid))
              (barred_stated keys own y.tuple y.mark.0 ∙ settled_none y.mark (barred_by keys own y.tuple)
              (sym e ∙ h y.tid y.tuple n ∙ ap (λ o. next y.tuple o (mark_in from y.tid)) e ∙ ap (next y.tuple None) k))

-- ---- where a row is found

pub found_here : (rows : List StoredRow) (i tid : ℕ) (x : StoredRow) → i < length rows → x ≡ get_or rows i x → numbers_are_apart rows ≡ true → x.tid ≡ tid → Some x.mark ≡ mark_in rows tid
found_here rows i tid x lt is a e =
    sym (ap (mark_in rows) (sym e) ∙ all_at_index (λ y. mark_in rows y.tid ≡ Some y.mark) rows i x lt is (mark_of_each rows rows (λ _ _ k. k) a))

pub found_some : (rows : List StoredRow) (i tid : ℕ) (x : StoredRow) → i < length rows → x ≡ get_or rows i x → x.tid ≡ tid → is_some (mark_in rows tid) ≡ true
found_some [] i tid x lt is e = absurd (omega arith)
found_some (y ∷ ys) zero tid x lt is e =
    ap is_some (cond-true (nat_eq y.tid tid) (Some y.mark) (mark_in ys tid) (eq-eqb y.tid tid (ap (λ (z : StoredRow). z.tid) (sym is) ∙ e)))
found_some (y ∷ ys) (suc i) tid x lt is e = elim (cases_Bool (nat_eq y.tid tid)) [
  | inl b ↦ ap is_some (cond-true (nat_eq y.tid tid) (Some y.mark) (mark_in ys tid) b)
  | inr b ↦ ap is_some (cond-false (nat_eq y.tid tid) (Some y.mark) (mark_in ys tid) b) ∙ found_some ys i tid x (omega arith) is e
]
