-- The changes of a group told by numbers are those that settle the rows with their tuples.
use Rattle.std.proofs.Common.{◌≡◌, ◌∙◌, ℕ, Bool, true, false, not, ◌&&◌, ◌||◌, nat_eq, List, [], ◌∷◌, ◌++◌, Option, Some, None, MatchOption, cond, inl, inr, is_some, map, refl, ap, sym}
use Rattle.std.specs.List.{list_any, flat_map, AllByRecursion}
use Rattle.std.specs.Option.{option_map}
use Rattle.std.proofs.lemmas.Bool.{false≢true, cases_Bool, and_parts, and_from, false_from_ne_true, cond-true, cond-false, eqb-true, eq-eqb}
use Rattle.std.proofs.lemmas.List.{append-nil, map-append}
use Rattle.bdb_base.specs.Clash.{clash, same_key, key_of}
use Rattle.bdb_base.specs.Same.{same_sign, same_tuple, same_values}
use Rattle.bdb_base.specs.SameLemmas.{same_tuple-Decides, same_values-Decides}
use Rattle.bdb_base.specs.declared.kinds.Sign.{Sign}
use Rattle.bdb_base.specs.declared.kinds.Sign.TheVariants.{Plus, Minus}
use Rattle.bdb_base.specs.declared.kinds.Stmt.{Stmt}
use Rattle.bdb_base.specs.declared.kinds.Value.{Value}
use Rattle.bdb_base.specs.declared.tuple.Tuple.{Tuple}
use Rattle.bdb_keep.specs.Tables.{Tables}
use Rattle.bdb_key.specs.Grammar.{IsNum, AreKeyVals}
use Rattle.bdb_key.specs.Rows.{tuple_bytes}
use Rattle.bdb_tables.specs.Codec.{HasRow}
use Rattle.bdb_tables.specs.GroupMarks.{group_bytes, in_group}
use Rattle.bdb_tables.specs.InUse.{ValKey, tuple_codec, val_codec}
use Rattle.bdb_tables.specs.Marks.{Mark, sign_of, explicit_of}
use Rattle.bdb_tables.specs.Spans.{AreUnder, IsUnder}
use Rattle.bdb_val.specs.GroupChanges.{mark_under, is_explicit_plus, handed_down, group_change, own_change, new_change, group_changes}
use Rattle.bdb_val.specs.Middle.{HasExplicit}
use Rattle.bdb_val.specs.Reads.{AreTold, AreReadUnder, is_of_group}
use Rattle.bdb_val.specs.Settled.{LinkedWorlds, settled_mark, passed_on, is_barred}
use Rattle.bdb_val.specs.Settling.{RowChange, mark_in, barred_by, next_mark, same_mark, change_at, has_mark, fresh_change, AreNamed, row_key, keyed}
use Rattle.bdb_val.specs.Steps.{rows_made}
use Rattle.bdb_val.specs.declared.stored.StoredRow.{StoredRow}
use Rattle.bdb_val.proofs.ReadLemmas.{HasKey, keyed_under, key_fits, tuple_row, read_named, read_mark, read_apart, told_tested, group_span}
use Rattle.bdb_val.proofs.SettlingLemmas.{same_mark_itself, none_in, no_changes}
use Rattle.bdb_val.proofs.StepLemmas.{mark_of_each}

-- ---- marks

-- rows have their marks by number, with their tuples or without
pub mark_told : (t : Tables) (wid rel : ℕ) (v : List Value) (es : List (ℕ × Mark)) (xs : List StoredRow) → AreTold t (map (in_group wid rel v) es) xs → (tid : ℕ) → mark_under es tid ≡ mark_in xs tid
mark_told t wid rel v [] [] a tid = refl
mark_told t wid rel v [] (x ∷ xs) a tid = absurd a
mark_told t wid rel v (e ∷ es) [] a tid = absurd a
mark_told t wid rel v (e ∷ es) (x ∷ xs) a tid =
    ap (λ r. cond (nat_eq e.0 tid) (Some e.1) r) (mark_told t wid rel v es xs a.1 tid)
    ∙ ap (λ i. cond (nat_eq i tid) (Some e.1) (mark_in xs tid)) (sym a.0.tid)
    ∙ ap (λ m. cond (nat_eq x.tid tid) (Some m) (mark_in xs tid)) (sym a.0.mark)

-- what is passed on where one sign may be barred
handed : (bars : Sign → Bool) (barred : Bool) → ((s : Sign) → bars s ≡ (same_sign s Plus && barred)) → (o : Option Mark)
    → passed_on (is_barred bars (sign_of o)) (sign_of o) ≡ handed_down barred o
handed bars barred h None = refl
handed bars barred h (Some m) = ap (λ b. cond b None (Some (m.0, false))) (h m.0)

-- a change of a row, by its key
as_change : (keys : ℕ → ℕ) (wid rel : ℕ) (v : List Value) (tid : ℕ) (u : Tuple) (b : Bool) (next : Option Mark) → row_key keys wid tid u ≡ (wid, rel, v, tid)
    → map (keyed keys wid) (cond b [] ((tid, u, next) ∷ [])) ≡ map (in_group wid rel v) (cond b [] ((tid, next) ∷ []))
as_change keys wid rel v tid u true next k = refl
as_change keys wid rel v tid u false next k = ap (λ (z : ValKey). (z, next) ∷ []) k

or_same : (b : Bool) → (b || b) ≡ b
or_same true = refl
or_same false = refl

-- ---- what bars in a group

module _ (keys : ℕ → ℕ) (u : Tuple) where
  -- a row of the group, if it is explicit, is of another tuple
  abbrev IsOther : StoredRow → Type 0
  IsOther x = (x.mark.1 ≡ true → same_tuple u x.tuple ≡ false) × (same_key keys u x.tuple ≡ true)

  plus_bars : (b : Bool) (s : Sign) (x : Tuple) → (b ≡ true → same_tuple u x ≡ false) → same_key keys u x ≡ true → (b && clash keys u Plus x s) ≡ (b && same_sign s Plus)
  plus_bars false s x d k = refl
  plus_bars true Plus x d k = and_from (same_key keys u x) (not (same_tuple u x)) k (ap not (d refl))
  plus_bars true Minus x d k = d refl

  minus_bars : (b : Bool) (s : Sign) (x : Tuple) → (b ≡ true → same_tuple u x ≡ false) → (b && clash keys u Minus x s) ≡ false
  minus_bars false s x d = refl
  minus_bars true Plus x d = d refl
  minus_bars true Minus x d = refl

  all_plus : (t : Tables) (wid rel : ℕ) (v : List Value) (es : List (ℕ × Mark)) (xs : List StoredRow) → AreTold t (map (in_group wid rel v) es) xs → AllByRecursion IsOther xs
      → barred_by keys xs u Plus ≡ list_any is_explicit_plus es
  all_plus t wid rel v [] [] a q = refl
  all_plus t wid rel v [] (x ∷ xs) a q = absurd a
  all_plus t wid rel v (e ∷ es) [] a q = absurd a
  all_plus t wid rel v (e ∷ es) (x ∷ xs) a q =
      ap (λ b. b || barred_by keys xs u Plus) (plus_bars x.mark.1 x.mark.0 x.tuple q.0.0 q.0.1 ∙ ap (λ (m : Mark). m.1 && same_sign m.0 Plus) a.0.mark)
      ∙ ap (λ b. is_explicit_plus e || b) (all_plus t wid rel v es xs a.1 q.1)

  all_minus : (xs : List StoredRow) → AllByRecursion IsOther xs → barred_by keys xs u Minus ≡ false
  all_minus [] q = refl
  all_minus (x ∷ xs) q = ap (λ b. b || barred_by keys xs u Minus) (minus_bars x.mark.1 x.mark.0 x.tuple q.0.0) ∙ all_minus xs q.1

  -- rows of other tuples of the group bar a plus row where one of them is explicit and plus, and no minus row
  others_bar : (t : Tables) (wid rel : ℕ) (v : List Value) (es : List (ℕ × Mark)) (xs : List StoredRow) → AreTold t (map (in_group wid rel v) es) xs → AllByRecursion IsOther xs
      → (s : Sign) → barred_by keys xs u s ≡ (same_sign s Plus && list_any is_explicit_plus es)
  others_bar t wid rel v es xs a q Plus = all_plus t wid rel v es xs a q
  others_bar t wid rel v es xs a q Minus = all_minus xs q

-- ---- tuples of one group

-- the key of a tuple's row in its group
key_is : (keys : ℕ → ℕ) (rel : ℕ) (v : List Value) (wid tid : ℕ) (u : Tuple) → is_of_group keys rel v u ≡ true → row_key keys wid tid u ≡ (wid, rel, v, tid)
key_is keys rel v wid tid u e =
    let k = and_parts (nat_eq u.rel rel) (same_values (key_of keys u) v) e in
    ap (λ (n : ℕ). (wid, n, key_of keys u, tid)) (eqb-true u.rel rel k.0) ∙ ap (λ (x : List Value). (wid, rel, x, tid)) ((same_values-Decides (key_of keys u) v).0 k.1)

one_key : (keys : ℕ → ℕ) (rel : ℕ) (v : List Value) (a b : Tuple) → is_of_group keys rel v a ≡ true → is_of_group keys rel v b ≡ true → same_key keys a b ≡ true
one_key keys rel v a b e f =
    let j = and_parts (nat_eq a.rel rel) (same_values (key_of keys a) v) e in
    let k = and_parts (nat_eq b.rel rel) (same_values (key_of keys b) v) f in
    let same : key_of keys a ≡ key_of keys b = (same_values-Decides (key_of keys a) v).0 j.1 ∙ sym ((same_values-Decides (key_of keys b) v).0 k.1) in
    and_from (nat_eq a.rel b.rel) (same_values (key_of keys a) (key_of keys b)) (eq-eqb a.rel b.rel (eqb-true a.rel rel j.0 ∙ sym (eqb-true b.rel rel k.0)))
    ((same_values-Decides (key_of keys a) (key_of keys b)).1 same)

-- ---- the rows of a group, with their tuples

module _ (keys : ℕ → ℕ) (stmts : List Stmt) (n : LinkedWorlds) (tuple : ℕ → Option Tuple) (f : ValKey → Option Mark) (t : Tables) (h : HasExplicit keys stmts n tuple f t) (rel : ℕ) (v : List Value) (r : IsNum rel) (p : AreKeyVals v) where
  -- rows with the tuples of their numbers
  abbrev with_tuples : (es : List (ValKey × Mark)) → AllByRecursion (HasKey keys tuple f t h.rows) es → List StoredRow
  with_tuples [] k = []
  with_tuples (e ∷ es) k = record { tid = e.0.3; tuple = k.0.0; mark = e.1 } ∷ with_tuples es k.1

  has_row : (tid : ℕ) (u : Tuple) → IsNum tid → tuple tid ≡ Some u → HasRow tuple_codec t tid u
  has_row tid u i e = record { in_grammar = tuple_row keys tuple f t h.rows tid u e; found = h.rows.tuples.rows tid i ∙ ap (option_map tuple_bytes) e }

  are_told : (prefix : List ℕ) (es : List (ValKey × Mark)) → AllByRecursion (IsUnder val_codec prefix) es → (k : AllByRecursion (HasKey keys tuple f t h.rows) es) → AreTold t es (with_tuples es k)
  are_told prefix [] a k = tt
  are_told prefix (e ∷ es) a k = (record { tid = refl; mark = refl; tuple = has_row e.0.3 k.0.0 a.0.key.tuple k.0.1 }, are_told prefix es a.1 k.1)

  -- rows that are read can be read with their tuples
  pub read_with : (prefix : List ℕ) (es : List (ValKey × Mark)) → AreUnder val_codec t prefix es → (xs : List StoredRow) × AreTold t es xs × AreReadUnder t prefix xs
  read_with prefix es under =
      let k = keyed_under keys tuple f t h.rows prefix es under in
      let told = are_told prefix es under.each k in
      (with_tuples es k, told, record { entries = es; under = under; told = told })

  -- a row of the group: its number is that of its tuple, which is of the group, and its mark is found by its number
  abbrev IsIn : List StoredRow → StoredRow → Type 0
  IsIn all x = (tuple x.tid ≡ Some x.tuple) × (is_of_group keys rel v x.tuple ≡ true) × (mark_in all x.tid ≡ Some x.mark)

  all_in : (all xs : List StoredRow) → AreNamed tuple xs → AllByRecursion (λ x. is_of_group keys rel v x.tuple ≡ true) xs → AllByRecursion (λ x. mark_in all x.tid ≡ Some x.mark) xs → AllByRecursion (IsIn all) xs
  all_in all [] a b c = tt
  all_in all (x ∷ xs) a b c = ((a.0, b.0, c.0), all_in all xs a.1 b.1 c.1)

  read_in : (wid : ℕ) (xs : List StoredRow) → IsNum wid → AreReadUnder t (group_bytes wid rel v) xs → AllByRecursion (IsIn xs) xs
  read_in wid xs w read =
      let span = group_span keys h.rows.lengths wid rel v w r p in
      all_in xs xs (read_named keys tuple f t h.rows (group_bytes wid rel v) xs read) (told_tested keys tuple f t h.rows wid (is_of_group keys rel v) (group_bytes wid rel v) xs span read)
      (mark_of_each xs xs (λ _ _ k. k) (read_apart keys tuple f t h.rows wid (is_of_group keys rel v) (group_bytes wid rel v) xs span read))

  module _ (wid base : ℕ) (w : IsNum wid) (es fs : List (ℕ × Mark)) (xs ys : List StoredRow) (own_told : AreTold t (map (in_group wid rel v) es) xs)
      (from_told : AreTold t (map (in_group base rel v) fs) ys)
      (read : AreReadUnder t (group_bytes wid rel v) xs) (from_in : AllByRecursion (IsIn ys) ys) where
    own_in : AllByRecursion (IsIn xs) xs
    own_in = read_in wid xs w read

    mark_is : (tid : ℕ) (u : Tuple) → tuple tid ≡ Some u → is_of_group keys rel v u ≡ true → mark_in xs tid ≡ f (row_key keys wid tid u)
    mark_is tid u a b = read_mark keys tuple f t h.rows wid (is_of_group keys rel v) (group_bytes wid rel v) xs w (group_span keys h.rows.lengths wid rel v w r p) read tid u a b

    -- where a tuple's row is explicit, so is that of another number of the tuple
    stated_alike : (a b : ℕ) (u : Tuple) → tuple a ≡ Some u → tuple b ≡ Some u → is_of_group keys rel v u ≡ true → (m : Mark) → mark_in xs a ≡ Some m → explicit_of (mark_in xs b) ≡ explicit_of (Some m)
    stated_alike a b u i j e m k =
        let there : is_some (f (row_key keys wid a u)) ≡ true = ap is_some (sym (mark_is a u i e) ∙ k) in
        let named = h.worlds (row_key keys wid a u) (key_fits keys tuple f t h.rows wid a u w i) there in
        go (n.path wid) refl named
      where
        go : (o : Option (List ℕ)) → n.path wid ≡ o → is_some (n.path wid) ≡ true → explicit_of (mark_in xs b) ≡ explicit_of (Some m)
        go None q s = absurd (false≢true (ap is_some (sym q) ∙ s))
        go (Some y) q s =
            ap explicit_of (mark_is b u j e) ∙ h.explicit wid y b u q j ∙ sym (h.explicit wid y a u q i) ∙ ap explicit_of (sym (mark_is a u i e) ∙ k)

    explicit_some : (m : Mark) → m.1 ≡ true → explicit_of (Some m) ≡ Some m.0
    explicit_some m e = cond-true m.1 (Some m.0) None e

    -- an explicit row is of another tuple than one whose row is not
    others : (tid : ℕ) (u : Tuple) → tuple tid ≡ Some u → is_of_group keys rel v u ≡ true → explicit_of (mark_in xs tid) ≡ None → (zs : List StoredRow) → AllByRecursion (IsIn xs) zs → AllByRecursion (IsOther keys u) zs
    others tid u i e none [] a = tt
    others tid u i e none (z ∷ zs) a = (
      (
        (λ s. false_from_ne_true (same_tuple u z.tuple) (λ c.
            let same : u ≡ z.tuple = (same_tuple-Decides u z.tuple).0 c in
            some_none z.mark.0 (sym (stated_alike z.tid tid u (a.0.0 ∙ ap Some (sym same)) i e z.mark a.0.2 ∙ explicit_some z.mark s) ∙ none))),
        one_key keys rel v u z.tuple e a.0.1,
      ),
      others tid u i e none zs a.1,
    )
      where
        some_none : (s : Sign) → Some s ≡ None → ⊥
        some_none s k = cc

    abbrev barred : Bool
    barred = list_any is_explicit_plus es

    -- a row that is not explicit becomes what it is handed down
    next_is : (tid : ℕ) (u : Tuple) → tuple tid ≡ Some u → is_of_group keys rel v u ≡ true → explicit_of (mark_in xs tid) ≡ None → (o : Option Mark) → mark_in ys tid ≡ o
        → next_mark keys xs ys tid u ≡ handed_down barred o
    next_is tid u i e none o k =
        ap (λ s. settled_mark s (barred_by keys xs u) (sign_of (mark_in ys tid))) none
        ∙ ap (λ m. settled_mark None (barred_by keys xs u) (sign_of m)) k
        ∙ handed (barred_by keys xs u) barred (others_bar keys u t wid rel v es xs own_told (others tid u i e none xs own_in)) o

    -- the change of a row of the world
    own_is : (e : ℕ × Mark) (x : StoredRow) → x.tid ≡ e.0 → x.mark ≡ e.1 → IsIn xs x → map (in_group wid rel v) (own_change barred fs e) ≡ map (keyed keys wid) (change_at keys xs xs ys x)
    own_is e x i m k = elim (cases_Bool e.1.1) [
      | inl c ↦
          let stated : x.mark.1 ≡ true = ap (λ (z : Mark). z.1) m ∙ c in
          let next : next_mark keys xs ys x.tid x.tuple ≡ Some x.mark =
          ap (λ s. settled_mark s (barred_by keys xs x.tuple) (sign_of (mark_in ys x.tid))) (ap explicit_of k.2 ∙ explicit_some x.mark stated) ∙ ap (λ b. Some (x.mark.0, b)) (sym stated) in
          let same : same_mark (mark_in xs x.tid) (next_mark keys xs ys x.tid x.tuple) ≡ true =
          ap (λ o. same_mark o (next_mark keys xs ys x.tid x.tuple)) k.2 ∙ ap (same_mark (Some x.mark)) next ∙ same_mark_itself (Some x.mark) in
          ap (map (in_group wid rel v)) (cond-true e.1.1 [] (group_change e.0 (Some e.1) (handed_down barred (mark_under fs e.0))) c)
          ∙ sym (ap (map (keyed keys wid)) (cond-true (same_mark (mark_in xs x.tid) (next_mark keys xs ys x.tid x.tuple)) [] ((x.tid, x.tuple, next_mark keys xs ys x.tid x.tuple) ∷ []) same))
      | inr c ↦
          let loose : explicit_of (mark_in xs x.tid) ≡ None = ap explicit_of k.2 ∙ cond-false x.mark.1 (Some x.mark.0) None (ap (λ (z : Mark). z.1) m ∙ c) in
          let over : mark_in ys x.tid ≡ mark_under fs e.0 = sym (mark_told t base rel v fs ys from_told x.tid) ∙ ap (mark_under fs) i in
          let next = next_is x.tid x.tuple k.0 k.1 loose (mark_under fs e.0) over in
          ap (map (in_group wid rel v)) (cond-false e.1.1 [] (group_change e.0 (Some e.1) (handed_down barred (mark_under fs e.0))) c
          ∙ ap (λ (j : ℕ). group_change j (Some e.1) (handed_down barred (mark_under fs e.0))) (sym i)
          ∙ ap (λ (z : Mark). group_change x.tid (Some z) (handed_down barred (mark_under fs e.0))) (sym m)
          ∙ ap (λ o. group_change x.tid o (handed_down barred (mark_under fs e.0))) (sym k.2)
          ∙ ap (group_change x.tid (mark_in xs x.tid)) (sym next))
          ∙ sym (as_change keys wid rel v x.tid x.tuple (same_mark (mark_in xs x.tid) (next_mark keys xs ys x.tid x.tuple)) (next_mark keys xs ys x.tid x.tuple) (key_is keys rel v wid x.tid x.tuple k.1))
    ]

    -- what is handed down where the world has no row
    new_is : (e : ℕ × Mark) (y : StoredRow) → y.tid ≡ e.0 → y.mark ≡ e.1 → IsIn ys y → map (in_group wid rel v) (new_change barred es e) ≡ map (keyed keys wid) (fresh_change keys xs xs ys xs y)
    new_is e y i m k =
        let here : is_some (mark_under es e.0) ≡ is_some (mark_in xs y.tid) = ap is_some (ap (mark_under es) (sym i) ∙ mark_told t wid rel v es xs own_told y.tid) in
        let both : has_mark xs xs y.tid ≡ is_some (mark_in xs y.tid) = or_same (is_some (mark_in xs y.tid)) in
        elim (cases_Bool (is_some (mark_in xs y.tid))) [
          | inl c ↦
              ap (map (in_group wid rel v)) (cond-true (is_some (mark_under es e.0)) [] (group_change e.0 None (handed_down barred (Some e.1))) (here ∙ c))
              ∙ sym (ap (map (keyed keys wid)) (cond-true (has_mark xs xs y.tid) [] (change_at keys xs xs ys y) (both ∙ c)))
          | inr c ↦
              let none = none_in xs y.tid c in
              let next = next_is y.tid y.tuple k.0 k.1 (ap explicit_of none) (Some y.mark) k.2 in
              ap (map (in_group wid rel v)) (cond-false (is_some (mark_under es e.0)) [] (group_change e.0 None (handed_down barred (Some e.1))) (here ∙ c)
              ∙ ap (λ (j : ℕ). group_change j None (handed_down barred (Some e.1))) (sym i)
              ∙ ap (λ (z : Mark). group_change y.tid None (handed_down barred (Some z))) (sym m)
              ∙ ap (λ o. group_change y.tid o (handed_down barred (Some y.mark))) (sym none)
              ∙ ap (group_change y.tid (mark_in xs y.tid)) (sym next))
              ∙ sym (as_change keys wid rel v y.tid y.tuple (same_mark (mark_in xs y.tid) (next_mark keys xs ys y.tid y.tuple)) (next_mark keys xs ys y.tid y.tuple) (key_is keys rel v wid y.tid y.tuple k.1))
              ∙ sym (ap (map (keyed keys wid)) (cond-false (has_mark xs xs y.tid) [] (change_at keys xs xs ys y) (both ∙ c)))
        ]

    all_own : (ds : List (ℕ × Mark)) (zs : List StoredRow) → AreTold t (map (in_group wid rel v) ds) zs → AllByRecursion (IsIn xs) zs
        → map (in_group wid rel v) (flat_map (own_change barred fs) ds) ≡ map (keyed keys wid) (flat_map (change_at keys xs xs ys) zs)
    all_own [] [] a k = refl
    all_own [] (z ∷ zs) a k = absurd a
    all_own (d ∷ ds) [] a k = absurd a
    all_own (d ∷ ds) (z ∷ zs) a k =
        map-append (in_group wid rel v) (own_change barred fs d) (flat_map (own_change barred fs) ds)
        ∙ ap (λ cs. cs ++ map (in_group wid rel v) (flat_map (own_change barred fs) ds)) (own_is d z a.0.tid a.0.mark k.0)
        ∙ ap (λ cs. map (keyed keys wid) (change_at keys xs xs ys z) ++ cs) (all_own ds zs a.1 k.1)
        ∙ sym (map-append (keyed keys wid) (change_at keys xs xs ys z) (flat_map (change_at keys xs xs ys) zs))

    all_new : (ds : List (ℕ × Mark)) (zs : List StoredRow) → AreTold t (map (in_group base rel v) ds) zs → AllByRecursion (IsIn ys) zs
        → map (in_group wid rel v) (flat_map (new_change barred es) ds) ≡ map (keyed keys wid) (flat_map (fresh_change keys xs xs ys xs) zs)
    all_new [] [] a k = refl
    all_new [] (z ∷ zs) a k = absurd a
    all_new (d ∷ ds) [] a k = absurd a
    all_new (d ∷ ds) (z ∷ zs) a k =
        map-append (in_group wid rel v) (new_change barred es d) (flat_map (new_change barred es) ds)
        ∙ ap (λ cs. cs ++ map (in_group wid rel v) (flat_map (new_change barred es) ds)) (new_is d z a.0.tid a.0.mark k.0)
        ∙ ap (λ cs. map (keyed keys wid) (fresh_change keys xs xs ys xs z) ++ cs) (all_new ds zs a.1 k.1)
        ∙ sym (map-append (keyed keys wid) (fresh_change keys xs xs ys xs z) (flat_map (fresh_change keys xs xs ys xs) zs))

    -- no row of the world is fresh
    none_fresh : flat_map (fresh_change keys xs xs ys []) xs ≡ []
    none_fresh = no_changes (fresh_change keys xs xs ys []) (IsIn xs)
        (λ x k. cond-true (has_mark xs [] x.tid) [] (change_at keys xs xs ys x) (ap (λ o. is_some o || is_some (mark_in [] x.tid)) k.2)) xs own_in

    -- the changes told by numbers are those of the rows with their tuples
    pub made_alike : map (in_group wid rel v) (group_changes es fs) ≡ rows_made keys wid xs ys
    made_alike =
        let one = flat_map (change_at keys xs xs ys) xs in
        let three = flat_map (fresh_change keys xs xs ys xs) ys in
        map-append (in_group wid rel v) (flat_map (own_change barred fs) es) (flat_map (new_change barred es) fs)
        ∙ ap (λ cs. cs ++ map (in_group wid rel v) (flat_map (new_change barred es) fs)) (all_own es xs own_told own_in)
        ∙ ap (λ cs. map (keyed keys wid) one ++ cs) (all_new fs ys from_told from_in)
        ∙ sym (map-append (keyed keys wid) one three)
        ∙ ap (λ (cs : List RowChange). map (keyed keys wid) (cs ++ three)) (sym (append-nil one) ∙ ap (λ (cs : List RowChange). one ++ cs) (sym none_fresh))

  -- What settles a group, with the tuples: the rows that were read, and the changes made.
  pub record IsGroupRead (wid : ℕ) (link : Option ℕ) (es fs : List (ℕ × Mark)) : Type 0 where
    pub own : List StoredRow
    pub from : List StoredRow
    pub told : AreTold t (map (in_group wid rel v) es) own
    pub own_read : AreReadUnder t (group_bytes wid rel v) own
    pub from_read : MatchOption link (from ≡ []) (λ m. AreReadUnder t (group_bytes m rel v) from)
    pub made : map (in_group wid rel v) (group_changes es fs) ≡ rows_made keys wid own from

  pub group_read : (wid : ℕ) (link : Option ℕ) (es fs : List (ℕ × Mark)) → IsNum wid → MatchOption link (Unit {0}) IsNum → AreUnder val_codec t (group_bytes wid rel v) (map (in_group wid rel v) es)
      → MatchOption link (fs ≡ []) (λ m. AreUnder val_codec t (group_bytes m rel v) (map (in_group m rel v) fs)) → IsGroupRead wid link es fs
  group_read wid None es fs w l under none =
      let own = read_with (group_bytes wid rel v) (map (in_group wid rel v) es) under in
      record {
        own = own.0;
        from = [];
        told = own.1;
        own_read = own.2;
        from_read = refl;
        made = ap (λ (ds : List (ℕ × Mark)). map (in_group wid rel v) (group_changes es ds)) none ∙ made_alike wid wid w es [] own.0 [] own.1 tt own.2 tt;
      }
  group_read wid (Some m) es fs w l under over =
      let own = read_with (group_bytes wid rel v) (map (in_group wid rel v) es) under in
      let from = read_with (group_bytes m rel v) (map (in_group m rel v) fs) over in
      record {
        own = own.0;
        from = from.0;
        told = own.1;
        own_read = own.2;
        from_read = from.2;
        made = made_alike wid m w es fs own.0 from.0 own.1 from.1 own.2 (read_in m from.0 l from.2);
      }
