-- What one settling does to the rows that the tables give.
use Rattle.std.proofs.Common.{◌≡◌, ◌∙◌, ℕ, Bool, true, false, ◌||◌, nat_eq, List, [], ◌∷◌, Option, Some, None, MatchOption, cond, inl, inr, refl, ap, sym, subst, map}
use Rattle.std.specs.List.{list_any, AllByRecursion}
use Rattle.std.specs.Ordering.{is_eq}
use Rattle.std.proofs.lemmas.Bool.{true≢false, false≢true, cases_Bool, false_from_ne_true, cond-true, cond-false, eqb-true, eq-eqb}
use Rattle.bdb_base.specs.declared.kinds.Sign.{Sign}
use Rattle.bdb_base.specs.declared.kinds.Sign.TheVariants.{Plus, Minus}
use Rattle.bdb_base.specs.declared.kinds.Stmt.{Stmt}
use Rattle.bdb_base.specs.declared.tuple.Tuple.{Tuple}
use Rattle.bdb_base.specs.Worlds.{explicit, contradicted, IsConsistent}
use Rattle.bdb_keep.specs.Tables.{Tables, bytes_cmp}
use Rattle.bdb_keep.proofs.RowsLemmas.{same_place}
use Rattle.bdb_key.specs.Grammar.{IsNum}
use Rattle.bdb_key.proofs.Forms.{tied}
use Rattle.bdb_tables.specs.InUse.{ValKey, IsValKey, val_bytes, val_codec}
use Rattle.bdb_tables.specs.InUseLaws.{vals_are_one, vals_in_order}
use Rattle.bdb_tables.specs.Writes.{IsChange, Gives, with_row_at, with_rows_at}
use Rattle.bdb_tables.proofs.WriteLemmas.{changes_give}
use Rattle.bdb_tables.specs.Marks.{Mark, sign_by, sign_of, explicit_of, explicit_sign}
use Rattle.bdb_val.specs.Settled.{settled_mark, sign_at}
use Rattle.bdb_val.specs.Settling.{RowChange, mark_in, next_mark, settling, last_mark, AreNamed, numbers_are_apart, IsClosedGroup, HaveTupleNumbers, IsStatedAt, AreExplicit, row_key, keyed}
use Rattle.bdb_val.specs.Reads.{AreReadUnder, HasRows}
use Rattle.bdb_val.specs.Steps.{AreBeginnings, IsSettling}
use Rattle.bdb_val.specs.declared.stored.StoredRow.{StoredRow}
use Rattle.bdb_val.proofs.NextMarks.{next_marks_are_settled}
use Rattle.bdb_val.proofs.ReadLemmas.{one_number, read_named, read_mark, read_apart, key_fits, told_tested}
use Rattle.bdb_val.proofs.SettlingLemmas.{settling_each, change_each, settling_is_right}

-- a test holds of the tuples of rows
abbrev pub AreTested : (Tuple → Bool) → List StoredRow → Type 0
AreTested test xs = AllByRecursion (λ x. test x.tuple ≡ true) xs

both : {X : Type 0} (P Q : X → Type 0) (xs : List X) → AllByRecursion P xs → AllByRecursion Q xs → AllByRecursion (λ x. P x × Q x) xs
both P Q [] p q = tt
both P Q (x ∷ xs) p q = ((p.0, q.0), both P Q xs p.1 q.1)

-- a change is of a tuple of its number, which passes a test
abbrev pub IsOf : (ℕ → Option Tuple) → (Tuple → Bool) → RowChange → Type 0
IsOf tuple test x = (tuple x.0 ≡ Some x.1) × (test x.1 ≡ true)

-- the changes that settle rows are of those rows' tuples
pub settling_of : (keys : ℕ → ℕ) (tuple : ℕ → Option Tuple) (test : Tuple → Bool) (stored own from : List StoredRow)
    → AreNamed tuple stored → AreNamed tuple own → AreNamed tuple from → AreTested test stored → AreTested test own → AreTested test from
    → AllByRecursion (IsOf tuple test) (settling keys stored own from)
settling_of keys tuple test stored own from a b c d e f =
    settling_each keys stored own from (λ x. (tuple x.tid ≡ Some x.tuple) × (test x.tuple ≡ true)) (IsOf tuple test)
    (λ x q. change_each keys stored own from (IsOf tuple test) x (λ _. q))
    (both (λ x. tuple x.tid ≡ Some x.tuple) (λ x. test x.tuple ≡ true) stored a d)
    (both (λ x. tuple x.tid ≡ Some x.tuple) (λ x. test x.tuple ≡ true) own b e)
    (both (λ x. tuple x.tid ≡ Some x.tuple) (λ x. test x.tuple ≡ true) from c f)

-- a mark that is found among rows of which no number stands twice
pub mark_of_each : (xs all : List StoredRow) → ((tid : ℕ) (m : Mark) → mark_in xs tid ≡ Some m → mark_in all tid ≡ Some m) → numbers_are_apart xs ≡ true → AllByRecursion (λ x. mark_in all x.tid ≡ Some x.mark) xs
mark_of_each [] all h a = tt
mark_of_each (x ∷ xs) all h a = elim (cases_Bool (list_any (λ y. nat_eq y.tid x.tid) xs)) [
  | inl e ↦ absurd (false≢true (sym (cond-true (list_any (λ y. nat_eq y.tid x.tid) xs) false (numbers_are_apart xs) e) ∙ a))
  | inr e ↦ (
    h x.tid x.mark (cond-true (nat_eq x.tid x.tid) (Some x.mark) (mark_in xs x.tid) (eq-eqb x.tid x.tid refl)),
    mark_of_each xs all (later e) (sym (cond-false (list_any (λ y. nat_eq y.tid x.tid) xs) false (numbers_are_apart xs) e) ∙ a),
  )
]
  where
    later : list_any (λ y. nat_eq y.tid x.tid) xs ≡ false → (tid : ℕ) (m : Mark) → mark_in xs tid ≡ Some m → mark_in all tid ≡ Some m
    later e tid m k = h tid m (cond-false (nat_eq x.tid tid) (Some x.mark) (mark_in xs tid) (false_from_ne_true (nat_eq x.tid tid) (λ c.
        none (mark_in xs tid) m (absent xs tid (ap (λ i. list_any (λ y. nat_eq y.tid i) xs) (sym (eqb-true x.tid tid c)) ∙ e)) k)) ∙ k)
      where
        none : (o : Option Mark) (m : Mark) → o ≡ None → o ≡ Some m → ⊥
        none o m p q = cc

        absent : (ys : List StoredRow) (i : ℕ) → list_any (λ y. nat_eq y.tid i) ys ≡ false → mark_in ys i ≡ None
        absent [] i e = refl
        absent (y ∷ ys) i e = elim (cases_Bool (nat_eq y.tid i)) [
          | inl c ↦ absurd (true≢false (sym (ap (λ b. b || list_any (λ z. nat_eq z.tid i) ys) c) ∙ e))
          | inr c ↦ cond-false (nat_eq y.tid i) (Some y.mark) (mark_in ys i) c ∙ absent ys i (sym (ap (λ b. b || list_any (λ z. nat_eq z.tid i) ys) c) ∙ e)
        ]

module _ (keys : ℕ → ℕ) (tuple : ℕ → Option Tuple) (f : ValKey → Option Mark) (t : Tables) (h : HasRows keys tuple f t) (test : Tuple → Bool) (prefix : ℕ → List ℕ) (spans : AreBeginnings keys test prefix) where
  -- keys of one world's rows are one where their numbers are
  same_row_key : (wid a b : ℕ) (u v : Tuple) → IsNum wid → tuple a ≡ Some u → tuple b ≡ Some v → is_eq (val_codec.key_cmp (row_key keys wid b v) (row_key keys wid a u)) ≡ nat_eq a b
  same_row_key wid a b u v w p q =
      let x = row_key keys wid b v in
      let y = row_key keys wid a u in
      let fx = key_fits keys tuple f t h wid b v w q in
      let fy = key_fits keys tuple f t h wid a u w p in
      ap is_eq (sym (vals_in_order x y fx fy)) ∙ elim (cases_Bool (nat_eq a b)) [
        | inl e ↦
            let i = eqb-true a b e in
            let same : y ≡ x = ap (λ n. row_key keys wid n u) i ∙ ap (λ z. row_key keys wid b z) (one_number tuple a b u v p q i) in
            ap is_eq (tied (val_bytes x) (val_bytes y) (ap val_bytes (sym same))) ∙ sym e
        | inr e ↦ false_from_ne_true (is_eq (bytes_cmp (val_bytes x) (val_bytes y))) (λ c.
            false≢true (sym e ∙ eq-eqb a b (ap (λ (z : ValKey). z.3) (sym (vals_are_one x y fx fy (same_place (val_bytes x) (val_bytes y) c)))))) ∙ sym e
      ]

  -- after changes the row of a tuple is the last one put
  pub after_changes : (wid tid : ℕ) (u : Tuple) → IsNum wid → tuple tid ≡ Some u → (cs : List RowChange) (g : ValKey → Option Mark) → AllByRecursion (IsOf tuple test) cs
      → with_rows_at val_codec g (map (keyed keys wid) cs) (row_key keys wid tid u) ≡ last_mark cs tid (g (row_key keys wid tid u))
  after_changes wid tid u w n [] g a = refl
  after_changes wid tid u w n (x ∷ xs) g a =
      after_changes wid tid u w n xs (with_row_at val_codec g (keyed keys wid x)) a.1
      ∙ ap (λ b. last_mark xs tid (cond b x.2 (g (row_key keys wid tid u)))) (same_row_key wid x.0 tid x.1 u w a.0.0 n)

  -- rows of other keys stay
  pub other_rows : (wid : ℕ) (q : ValKey) → IsNum wid → IsValKey q → ((tid : ℕ) (u : Tuple) → tuple tid ≡ Some u → test u ≡ true → q ≡ row_key keys wid tid u → ⊥) → (cs : List RowChange) (g : ValKey → Option Mark)
      → AllByRecursion (IsOf tuple test) cs → with_rows_at val_codec g (map (keyed keys wid) cs) q ≡ g q
  other_rows wid q w v k [] g a = refl
  other_rows wid q w v k (x ∷ xs) g a =
      let y = row_key keys wid x.0 x.1 in
      let fy = key_fits keys tuple f t h wid x.0 x.1 w a.0.0 in
      other_rows wid q w v k xs (with_row_at val_codec g (keyed keys wid x)) a.1
      ∙ cond-false (is_eq (val_codec.key_cmp q y)) x.2 (g q)
      (ap is_eq (sym (vals_in_order q y v fy))
      ∙ false_from_ne_true (is_eq (bytes_cmp (val_bytes q) (val_bytes y))) (λ c. k x.0 x.1 a.0.0 a.0.1 (vals_are_one q y v fy (same_place (val_bytes q) (val_bytes y) c))))

  -- changes of named tuples' rows are in the grammar
  pub changes_fit : (wid : ℕ) → IsNum wid → (cs : List RowChange) → AllByRecursion (IsOf tuple test) cs → AllByRecursion (IsChange val_codec) (map (keyed keys wid) cs)
  changes_fit wid w [] a = tt
  changes_fit wid w (x ∷ xs) a = (record { key = key_fits keys tuple f t h wid x.0 x.1 w a.0.0; row = any x.2 }, changes_fit wid w xs a.1)
    where
      any : (o : Option Mark) → MatchOption o (Unit {0}) (λ _. Unit {0})
      any None = tt
      any (Some m) = tt

  module _ (u : Tables) (wid : ℕ) (link : Option ℕ) (w : IsNum wid) (l : MatchOption link (Unit {0}) IsNum) (s : IsSettling keys t u wid link prefix) where
    -- the changes that were written
    abbrev pub made : List RowChange
    made = settling keys s.own s.own s.from

    own_named : AreNamed tuple s.own
    own_named = read_named keys tuple f t h (prefix wid) s.own s.own_read

    own_tested : AreTested test s.own
    own_tested = told_tested keys tuple f t h wid test (prefix wid) s.own (spans wid w) s.own_read

    by_link : (P : List StoredRow → Type 0) → P [] → ((m : ℕ) → IsNum m → AreReadUnder t (prefix m) s.from → P s.from) → P s.from
    by_link P none some = go link l s.from_read
      where
        go : (o : Option ℕ) → MatchOption o (Unit {0}) IsNum → MatchOption o (s.from ≡ []) (λ m. AreReadUnder t (prefix m) s.from) → P s.from
        go None a b = subst P (sym b) none
        go (Some m) a b = some m a b

    from_named : AreNamed tuple s.from
    from_named = by_link (AreNamed tuple) tt (λ m n r. read_named keys tuple f t h (prefix m) s.from r)

    from_tested : AreTested test s.from
    from_tested = by_link (AreTested test) tt (λ m n r. told_tested keys tuple f t h m test (prefix m) s.from (spans m n) r)

    pub made_of : AllByRecursion (IsOf tuple test) made
    made_of = settling_of keys tuple test s.own s.own s.from own_named own_named from_named own_tested own_tested from_tested

    -- what the tables give afterwards
    abbrev pub rows_after : ValKey → Option Mark
    rows_after = with_rows_at val_codec f (map (keyed keys wid) made)

    pub gives_after : Gives val_codec u rows_after
    gives_after = subst (λ v. Gives val_codec v rows_after) (sym s.written) (changes_give val_codec vals_in_order t f (map (keyed keys wid) made) (changes_fit wid w made made_of) h.rows)

    pub own_mark : (tid : ℕ) (x : Tuple) → tuple tid ≡ Some x → test x ≡ true → mark_in s.own tid ≡ f (row_key keys wid tid x)
    own_mark tid x n e = read_mark keys tuple f t h wid test (prefix wid) s.own w (spans wid w) s.own_read tid x n e

    from_mark : (tid : ℕ) (x : Tuple) → tuple tid ≡ Some x → test x ≡ true → sign_of (mark_in s.from tid) ≡ sign_at (λ m. f (row_key keys m tid x)) link
    from_mark tid x n e = go link l s.from_read
      where
        go : (o : Option ℕ) → MatchOption o (Unit {0}) IsNum → MatchOption o (s.from ≡ []) (λ m. AreReadUnder t (prefix m) s.from)
            → sign_of (mark_in s.from tid) ≡ sign_at (λ m. f (row_key keys m tid x)) o
        go None a b = ap (λ xs. sign_of (mark_in xs tid)) b
        go (Some m) a b = ap sign_of (read_mark keys tuple f t h m test (prefix m) s.from a (spans m a) b tid x n e)

    -- each tuple's row is afterwards the one that it is to have
    pub next_after : (tid : ℕ) (x : Tuple) → tuple tid ≡ Some x → test x ≡ true → rows_after (row_key keys wid tid x) ≡ next_mark keys s.own s.from tid x
    next_after tid x n e =
        after_changes wid tid x w n made f made_of ∙ ap (last_mark made tid) (sym (own_mark tid x n e))
        ∙ settling_is_right keys tuple s.own s.own s.from own_named own_named from_named tid x n

    module _ (stmts : List Stmt) (v : List ℕ) (stated : (tid : ℕ) (x : Tuple) → tuple tid ≡ Some x → test x ≡ true → explicit_of (f (row_key keys wid tid x)) ≡ explicit_sign stmts v x) where
      own_explicit : AreExplicit tuple test stmts v s.own
      own_explicit = record {
        named = own_named;
        stated = each s.own own_named own_tested (mark_of_each s.own s.own (λ _ _ k. k) (read_apart keys tuple f t h wid test (prefix wid) s.own (spans wid w) s.own_read));
        all = λ tid x n e. ap explicit_of (own_mark tid x n e) ∙ stated tid x n e;
      }
        where
          by_sign : (x : Tuple) (s : Sign) → explicit_sign stmts v x ≡ Some s → explicit stmts v x s ≡ true
          by_sign x s k = go (explicit stmts v x Plus) (explicit stmts v x Minus) s refl refl k
            where
              go : (p m : Bool) (s : Sign) → explicit stmts v x Plus ≡ p → explicit stmts v x Minus ≡ m → sign_by p m ≡ Some s → explicit stmts v x s ≡ true
              go true m Plus a b k = a
              go true m Minus a b k = absurd cc
              go false true Plus a b k = absurd cc
              go false true Minus a b k = b
              go false false s a b k = absurd cc

          each : (xs : List StoredRow) → AreNamed tuple xs → AreTested test xs → AllByRecursion (λ x. mark_in s.own x.tid ≡ Some x.mark) xs → AllByRecursion (IsStatedAt stmts v) xs
          each [] a b c = tt
          each (x ∷ xs) a b c = (
            (λ e. by_sign x.tuple x.mark.0
                (sym (ap explicit_of (sym c.0 ∙ own_mark x.tid x.tuple a.0 b.0) ∙ stated x.tid x.tuple a.0 b.0) ∙ cond-true x.mark.1 (Some x.mark.0) None e)),
            each xs a.1 b.1 c.1,
          )

      -- each tuple's row is settled afterwards, by the rows of the world to which it is linked
      pub settled_after : IsConsistent keys stmts → IsClosedGroup keys test → HaveTupleNumbers tuple stmts → (tid : ℕ) (x : Tuple) → tuple tid ≡ Some x → test x ≡ true
          → rows_after (row_key keys wid tid x) ≡ settled_mark (explicit_sign stmts v x) (contradicted keys stmts v x) (sign_at (λ m. f (row_key keys m tid x)) link)
      settled_after c g n tid x k e =
          next_after tid x k e
          ∙ next_marks_are_settled keys stmts tuple test s.own s.from v c g n own_explicit tid x k e
          ∙ ap (settled_mark (explicit_sign stmts v x) (contradicted keys stmts v x)) (from_mark tid x k e)
