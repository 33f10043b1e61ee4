-- Tuples get numbers and lose them, and what tables then store.
use Rattle.std.proofs.Common.{◌≡◌, ℕ, Bool, true, false, not, ◌&&◌, ◌||◌, nat_eq, cond, List, Option, Some, None, MatchOption, is_some, refl, ap, sym, subst, ◌∙◌, inl, inr}
use Rattle.std.proofs.lemmas.Bool.{cases_Bool, false≢true, false_from_ne_true, or_from, eqb-true, eq-eqb, cond-true, cond-false}
use Rattle.bdb_base.specs.Bases.{Contents, with_statement, without_statement}
use Rattle.bdb_base.specs.OrderLemmas.{statement_exact, is_eq_tuple_cmp, is_eq_nat_cmp}
use Rattle.bdb_base.specs.Same.{same_tuple}
use Rattle.bdb_base.specs.SameLemmas.{same_tuple-Decides}
use Rattle.bdb_base.specs.Worlds.{explicit, stated}
use Rattle.bdb_base.specs.declared.kinds.Sign.TheVariants.{Plus, Minus}
use Rattle.bdb_base.specs.declared.kinds.Stmt.{Stmt}
use Rattle.bdb_base.specs.declared.tuple.Tuple.{Tuple}
use Rattle.bdb_base.proofs.SetLemmas.{list_any-put_in}
use Rattle.bdb_base.proofs.WorldLemmas.{stated_tuples_are_explicit}
use Rattle.bdb_base.proofs.ClashLemmas.{same_tuple_turned}
use Rattle.bdb_base.proofs.OptionLemmas.{same_some}
use Rattle.bdb_base.proofs.BoolLemmas.{and_true, and_false}
use Rattle.bdb_keep.specs.Tables.{Tables}
use Rattle.bdb_key.specs.Grammar.{IsNum}
use Rattle.bdb_key.specs.Rows.{IsTupleRow}
use Rattle.bdb_tables.specs.InUse.{ValKey, meta_codec, user_codec, rel_codec, tuple_codec, tuple_ix_codec, val_codec, plain_codec}
use Rattle.bdb_tables.specs.InUseLaws.{numbers_in_order, tuples_in_order}
use Rattle.bdb_tables.specs.Marks.{Mark, sign_by, marked, mark_of}
use Rattle.bdb_tables.specs.Names.{Names, path_of}
use Rattle.bdb_tables.specs.Rows.{Tuples, HoldsTuples, has_key, row_named, row_for}
use Rattle.bdb_tables.specs.Stored.{is_table, SameBut, StoredOver}
use Rattle.bdb_tables.specs.Writes.{Gives, with_change, with_row_at}
use Rattle.bdb_tables.proofs.SignLemmas.{drop_unfelt}
use Rattle.bdb_tables.proofs.SameLemmas.{outside_one, change_same, same_then, gives_still, states_still}
use Rattle.bdb_tables.proofs.WriteLemmas.{change_gives, change_elsewhere, gives_same}
use Rattle.bdb_update.specs.ChangeLaws.{NumberPutStores, NumberTakenStores, DropLeavesTuples}
use Rattle.bdb_update.specs.Differing.{has_told}
use Rattle.bdb_update.specs.Keys.{keys_of}
use Rattle.bdb_update.specs.Numbering.{with_number, without_number, number_put, number_taken}

some_none : {X : Type 0} (o : Option X) (x : X) → o ≡ None → o ≡ Some x → ⊥
some_none o x a b = cc

-- a tuple of no statement has no row in any world
unstated_mark : (keys : ℕ → ℕ) (stmts : List Stmt) (w : List ℕ) (u : Tuple) → has_told stmts u ≡ false → mark_of keys stmts w u ≡ None
unstated_mark keys stmts w u none =
    let plus : stated keys stmts w u Plus ≡ false = false_from_ne_true (stated keys stmts w u Plus) (λ e. false≢true (sym none ∙ stated_tuples_are_explicit keys stmts w u Plus e)) in
    let minus : stated keys stmts w u Minus ≡ false = false_from_ne_true (stated keys stmts w u Minus) (λ e. false≢true (sym none ∙ stated_tuples_are_explicit keys stmts w u Minus e)) in
    ap (λ b. marked (explicit stmts w u) (sign_by b (stated keys stmts w u Minus))) plus ∙ ap (λ b. marked (explicit stmts w u) (sign_by false b)) minus

abbrev no_mark : Option Mark
no_mark = None

no_mark_either : (b : Bool) → cond b no_mark no_mark ≡ no_mark
no_mark_either true = refl
no_mark_either false = refl

no_row_named : (keys : ℕ → ℕ) (stmts : List Stmt) (k : ValKey) (p : Option (List ℕ)) (u : Tuple) → has_told stmts u ≡ false → row_named keys stmts k p (Some u) ≡ None
no_row_named keys stmts k None u none = refl
no_row_named keys stmts k (Some w) u none = ap (λ o. cond (has_key keys k u) o None) (unstated_mark keys stmts w u none) ∙ no_mark_either (has_key keys k u)

no_tuple_named : (keys : ℕ → ℕ) (stmts : List Stmt) (k : ValKey) (p : Option (List ℕ)) → row_named keys stmts k p None ≡ None
no_tuple_named keys stmts k None = refl
no_tuple_named keys stmts k (Some w) = refl

-- ---- the two tables of tuples

abbrev pub of_tuples : ℕ → Bool
of_tuples n = nat_eq n 4 || nat_eq n 5

pub two_same : (t : Tables) (x : ℕ × Option Tuple) (y : Tuple × Option ℕ) → SameBut of_tuples t (with_change tuple_ix_codec (with_change tuple_codec t x) y)
two_same t x y =
    same_then of_tuples t (with_change tuple_codec t x) (with_change tuple_ix_codec (with_change tuple_codec t x) y)
    (change_same tuple_codec of_tuples t x refl) (change_same tuple_ix_codec of_tuples (with_change tuple_codec t x) y refl)

outside_tuples : (n : ℕ) → is_table n ≡ false → of_tuples n ≡ false
outside_tuples n h = or_from (nat_eq n 4) (nat_eq n 5) (outside_one 4 refl n h) (outside_one 5 refl n h)

-- where two tables of tuples have changed, and no row of a world is another, the tables store the base with these tuples
with_tuples : (reached told less : List Stmt) (ns : Names) (ts us : Tuples) (t : Tables) (b : Contents) (x : ℕ × Option Tuple) (y : Tuple × Option ℕ)
    → StoredOver reached told ns ts t b → HoldsTuples less us (with_change tuple_ix_codec (with_change tuple_codec t x) y)
    → ((k : ValKey) → row_for (keys_of b) b.stmts (path_of ns) ts.tuple k ≡ row_for (keys_of b) b.stmts (path_of ns) us.tuple k)
    → StoredOver reached less ns us (with_change tuple_ix_codec (with_change tuple_codec t x) y) b
with_tuples reached told less ns ts us t b x y h tuples rows =
    let u = with_change tuple_ix_codec (with_change tuple_codec t x) y in
    let same = two_same t x y in
    record {
      format = gives_still of_tuples t u same meta_codec _ refl h.format;
      users = gives_still of_tuples t u same user_codec _ refl h.users;
      rels = gives_still of_tuples t u same rel_codec _ refl h.rels;
      tuples = tuples;
      states = states_still of_tuples t u same _ ns refl refl refl refl refl h.states;
      worlds = h.worlds;
      rows = gives_same val_codec u (row_for (keys_of b) b.stmts (path_of ns) ts.tuple) (row_for (keys_of b) b.stmts (path_of ns) us.tuple) (λ k f. rows k)
          (gives_still of_tuples t u same val_codec _ refl h.rows);
      plain = gives_still of_tuples t u same plain_codec _ refl h.plain;
      outside = λ n k out. same n k (outside_tuples n out) ∙ h.outside n k out;
    }

-- a number's row, and the row of its tuple, as those of functions
module _ (t : Tables) (ts : Tuples) (tid : ℕ) (u : Tuple) (o : Option Tuple) (i : Option ℕ) (num : IsNum tid) (fits : IsTupleRow u) (tuple_fits : MatchOption o (Unit {0}) IsTupleRow)
    (number_fits : MatchOption i (Unit {0}) IsNum) (h : Gives tuple_codec t ts.tuple) (k : Gives tuple_ix_codec t ts.number) where
  abbrev first : Tables
  first = with_change tuple_codec t (tid, o)

  pub tuple_given : Gives tuple_codec (with_change tuple_ix_codec first (u, i)) (λ q. cond (nat_eq q tid) o (ts.tuple q))
  tuple_given = change_elsewhere tuple_codec tuple_ix_codec (λ e. cc) first (λ q. cond (nat_eq q tid) o (ts.tuple q)) (u, i)
      (gives_same tuple_codec first (with_row_at tuple_codec ts.tuple (tid, o)) (λ q. cond (nat_eq q tid) o (ts.tuple q)) (λ q f. ap (λ b. cond b o (ts.tuple q)) (is_eq_nat_cmp q tid))
      (change_gives tuple_codec numbers_in_order t ts.tuple (tid, o) (record { key = num; row = tuple_fits }) h))

  pub number_given : Gives tuple_ix_codec (with_change tuple_ix_codec first (u, i)) (λ q. cond (same_tuple q u) i (ts.number q))
  number_given = gives_same tuple_ix_codec (with_change tuple_ix_codec first (u, i)) (with_row_at tuple_ix_codec ts.number (u, i)) (λ q. cond (same_tuple q u) i (ts.number q))
      (λ q f. ap (λ b. cond b i (ts.number q)) (is_eq_tuple_cmp q u))
      (change_gives tuple_ix_codec tuples_in_order first ts.number (u, i) (record { key = fits; row = number_fits })
      (change_elsewhere tuple_ix_codec tuple_codec (λ e. cc) t ts.number (tid, o) k))

-- ---- a number more

module _ (told : List Stmt) (ts : Tuples) (t : Tables) (x : Stmt) (tid : ℕ) (h : HoldsTuples told ts t) (num : IsNum tid) (fits : IsTupleRow x.tuple)
    (free : ts.tuple tid ≡ None) (new : has_told told x.tuple ≡ false) where
  no_number : ts.number x.tuple ≡ None
  no_number = by (ts.number x.tuple) refl
    where
      by : (o : Option ℕ) → ts.number x.tuple ≡ o → ts.number x.tuple ≡ None
      by None e = e
      by (Some n) e = absurd (false≢true (sym new ∙ sym (h.stated x.tuple) ∙ ap is_some e))

  named_more : (n : ℕ) (v : Tuple) → cond (nat_eq n tid) (Some x.tuple) (ts.tuple n) ≡ Some v → cond (same_tuple v x.tuple) (Some tid) (ts.number v) ≡ Some n
  named_more n v e = elim (cases_Bool (nat_eq n tid)) [
    | inl a ↦
        let s : x.tuple ≡ v = same_some x.tuple v (sym (cond-true (nat_eq n tid) (Some x.tuple) (ts.tuple n) a) ∙ e) in
        cond-true (same_tuple v x.tuple) (Some tid) (ts.number v) ((same_tuple-Decides v x.tuple).1 (sym s)) ∙ ap Some (sym (eqb-true n tid a))
    | inr a ↦
        let s : ts.tuple n ≡ Some v = sym (cond-false (nat_eq n tid) (Some x.tuple) (ts.tuple n) a) ∙ e in
        let f : same_tuple v x.tuple ≡ false = false_from_ne_true (same_tuple v x.tuple) (λ c. some_none (ts.number x.tuple) n no_number (ap ts.number (sym ((same_tuple-Decides v x.tuple).0 c)) ∙ h.named n v s)) in
        cond-false (same_tuple v x.tuple) (Some tid) (ts.number v) f ∙ h.named n v s
  ]

  numbered_more : (v : Tuple) (n : ℕ) → cond (same_tuple v x.tuple) (Some tid) (ts.number v) ≡ Some n → cond (nat_eq n tid) (Some x.tuple) (ts.tuple n) ≡ Some v
  numbered_more v n e = elim (cases_Bool (same_tuple v x.tuple)) [
    | inl a ↦
        let s : tid ≡ n = same_some tid n (sym (cond-true (same_tuple v x.tuple) (Some tid) (ts.number v) a) ∙ e) in
        cond-true (nat_eq n tid) (Some x.tuple) (ts.tuple n) (eq-eqb n tid (sym s)) ∙ ap Some (sym ((same_tuple-Decides v x.tuple).0 a))
    | inr a ↦
        let s : ts.tuple n ≡ Some v = h.numbered v n (sym (cond-false (same_tuple v x.tuple) (Some tid) (ts.number v) a) ∙ e) in
        let f : nat_eq n tid ≡ false = false_from_ne_true (nat_eq n tid) (λ c. some_none (ts.tuple tid) v free (ap ts.tuple (sym (eqb-true n tid c)) ∙ s)) in
        cond-false (nat_eq n tid) (Some x.tuple) (ts.tuple n) f ∙ s
  ]

  sized_more : (n : ℕ) (v : Tuple) → cond (nat_eq n tid) (Some x.tuple) (ts.tuple n) ≡ Some v → IsNum n
  sized_more n v e = elim (cases_Bool (nat_eq n tid)) [
    | inl a ↦ subst IsNum (sym (eqb-true n tid a)) num
    | inr a ↦ h.sized n v (sym (cond-false (nat_eq n tid) (Some x.tuple) (ts.tuple n) a) ∙ e)
  ]

  stated_more : (v : Tuple) → is_some (cond (same_tuple v x.tuple) (Some tid) (ts.number v)) ≡ has_told (with_statement told x) v
  stated_more v =
      let after = list_any-put_in statement_exact (λ z. same_tuple z.tuple v) told x in
      elim (cases_Bool (same_tuple v x.tuple)) [
        | inl a ↦ ap is_some (cond-true (same_tuple v x.tuple) (Some tid) (ts.number v) a) ∙ sym (after ∙ ap (λ b. b || has_told told v) (same_tuple_turned x.tuple v ∙ a))
        | inr a ↦ ap is_some (cond-false (same_tuple v x.tuple) (Some tid) (ts.number v) a) ∙ h.stated v ∙ sym (after ∙ ap (λ b. b || has_told told v) (same_tuple_turned x.tuple v ∙ a))
      ]

  tuples_more : HoldsTuples (with_statement told x) (with_number ts tid x.tuple) (number_put t tid x.tuple)
  tuples_more = record {
    tuples = tuple_given t ts tid x.tuple (Some x.tuple) (Some tid) num fits fits num h.tuples h.numbers;
    numbers = number_given t ts tid x.tuple (Some x.tuple) (Some tid) num fits fits num h.tuples h.numbers;
    named = named_more;
    numbered = numbered_more;
    sized = sized_more;
    stated = stated_more;
  }

pub number_put_stores : NumberPutStores
number_put_stores reached told ns ts t b x tid h within num fits free new =
    with_tuples reached told (with_statement told x) ns ts (with_number ts tid x.tuple) t b (tid, Some x.tuple) (x.tuple, Some tid) h
    (tuples_more told ts t x tid h.tuples num fits free new)
    (λ k.
    let p = path_of ns k.0 in
    elim (cases_Bool (nat_eq k.3 tid)) [
      | inl a ↦
          ap (λ o. row_named (keys_of b) b.stmts k p o) (ap ts.tuple (eqb-true k.3 tid a) ∙ free) ∙ no_tuple_named (keys_of b) b.stmts k p
          ∙ sym (ap (λ o. row_named (keys_of b) b.stmts k p o) (cond-true (nat_eq k.3 tid) (Some x.tuple) (ts.tuple k.3) a)
          ∙ no_row_named (keys_of b) b.stmts k p x.tuple (false_from_ne_true (has_told b.stmts x.tuple) (λ e. false≢true (sym new ∙ within.tuples x.tuple e))))
      | inr a ↦ ap (λ o. row_named (keys_of b) b.stmts k p o) (sym (cond-false (nat_eq k.3 tid) (Some x.tuple) (ts.tuple k.3) a))
    ])

-- ---- a number less

module _ (told less : List Stmt) (ts : Tuples) (t : Tables) (u : Tuple) (tid : ℕ) (h : HoldsTuples told ts t) (name : ts.tuple tid ≡ Some u)
    (gone : (v : Tuple) → has_told less v ≡ (has_told told v && not (same_tuple v u))) where
  named_less : (n : ℕ) (v : Tuple) → cond (nat_eq n tid) None (ts.tuple n) ≡ Some v → cond (same_tuple v u) None (ts.number v) ≡ Some n
  named_less n v e = elim (cases_Bool (nat_eq n tid)) [
    | inl a ↦ absurd (some_none (cond (nat_eq n tid) None (ts.tuple n)) v (cond-true (nat_eq n tid) None (ts.tuple n) a) e)
    | inr a ↦
        let s : ts.tuple n ≡ Some v = sym (cond-false (nat_eq n tid) None (ts.tuple n) a) ∙ e in
        let f : same_tuple v u ≡ false = false_from_ne_true (same_tuple v u) (λ c.
        let same : Some n ≡ Some tid = sym (h.named n v s) ∙ ap ts.number ((same_tuple-Decides v u).0 c) ∙ h.named tid u name in
        false≢true (sym a ∙ eq-eqb n tid (same_some n tid same))) in
        cond-false (same_tuple v u) None (ts.number v) f ∙ h.named n v s
  ]

  numbered_less : (v : Tuple) (n : ℕ) → cond (same_tuple v u) None (ts.number v) ≡ Some n → cond (nat_eq n tid) None (ts.tuple n) ≡ Some v
  numbered_less v n e = elim (cases_Bool (same_tuple v u)) [
    | inl a ↦ absurd (some_none (cond (same_tuple v u) None (ts.number v)) n (cond-true (same_tuple v u) None (ts.number v) a) e)
    | inr a ↦
        let s : ts.tuple n ≡ Some v = h.numbered v n (sym (cond-false (same_tuple v u) None (ts.number v) a) ∙ e) in
        let f : nat_eq n tid ≡ false = false_from_ne_true (nat_eq n tid) (λ c.
        let same : Some v ≡ Some u = sym s ∙ ap ts.tuple (eqb-true n tid c) ∙ name in
        false≢true (sym a ∙ (same_tuple-Decides v u).1 (same_some v u same))) in
        cond-false (nat_eq n tid) None (ts.tuple n) f ∙ s
  ]

  sized_less : (n : ℕ) (v : Tuple) → cond (nat_eq n tid) None (ts.tuple n) ≡ Some v → IsNum n
  sized_less n v e = elim (cases_Bool (nat_eq n tid)) [
    | inl a ↦ absurd (some_none (cond (nat_eq n tid) None (ts.tuple n)) v (cond-true (nat_eq n tid) None (ts.tuple n) a) e)
    | inr a ↦ h.sized n v (sym (cond-false (nat_eq n tid) None (ts.tuple n) a) ∙ e)
  ]

  stated_less : (v : Tuple) → is_some (cond (same_tuple v u) None (ts.number v)) ≡ has_told less v
  stated_less v = elim (cases_Bool (same_tuple v u)) [
    | inl a ↦ ap is_some (cond-true (same_tuple v u) None (ts.number v) a) ∙ sym (gone v ∙ ap (λ b. has_told told v && not b) a ∙ and_false (has_told told v))
    | inr a ↦ ap is_some (cond-false (same_tuple v u) None (ts.number v) a) ∙ h.stated v ∙ sym (gone v ∙ ap (λ b. has_told told v && not b) a ∙ and_true (has_told told v))
  ]

  tuple_is : IsTupleRow u
  tuple_is = subst (λ o. MatchOption o (Unit {0}) IsTupleRow) name (h.tuples.written tid (h.sized tid u name))

  tuples_less : HoldsTuples less (without_number ts tid u) (number_taken t tid u)
  tuples_less = record {
    tuples = tuple_given t ts tid u None None (h.sized tid u name) tuple_is tt tt h.tuples h.numbers;
    numbers = number_given t ts tid u None None (h.sized tid u name) tuple_is tt tt h.tuples h.numbers;
    named = named_less;
    numbered = numbered_less;
    sized = sized_less;
    stated = stated_less;
  }

pub number_taken_stores : NumberTakenStores
number_taken_stores reached told less ns ts t b u tid h name none gone =
    with_tuples reached told less ns ts (without_number ts tid u) t b (tid, None) (u, None) h
    (tuples_less told less ts t u tid h.tuples name gone)
    (λ k.
    let p = path_of ns k.0 in
    elim (cases_Bool (nat_eq k.3 tid)) [
      | inl a ↦
          ap (λ o. row_named (keys_of b) b.stmts k p o) (ap ts.tuple (eqb-true k.3 tid a) ∙ name) ∙ no_row_named (keys_of b) b.stmts k p u none
          ∙ sym (ap (λ o. row_named (keys_of b) b.stmts k p o) (cond-true (nat_eq k.3 tid) None (ts.tuple k.3) a) ∙ no_tuple_named (keys_of b) b.stmts k p)
      | inr a ↦ ap (λ o. row_named (keys_of b) b.stmts k p o) (sym (cond-false (nat_eq k.3 tid) None (ts.tuple k.3) a))
    ])

pub drop_leaves_tuples : DropLeavesTuples
drop_leaves_tuples stmts x none v = elim (cases_Bool (same_tuple v x.tuple)) [
  | inl a ↦ ap (has_told (without_statement stmts x)) ((same_tuple-Decides v x.tuple).0 a) ∙ none ∙ sym (ap (λ b. has_told stmts v && not b) a ∙ and_false (has_told stmts v))
  | inr a ↦ drop_unfelt (λ z. same_tuple z.tuple v) stmts x (same_tuple_turned x.tuple v ∙ a) ∙ sym (ap (λ b. has_told stmts v && not b) a ∙ and_true (has_told stmts v))
]
