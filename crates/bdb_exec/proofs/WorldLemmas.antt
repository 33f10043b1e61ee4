-- The rows of worlds that are read from tables are those that the tables show, with their tuples.
use Rattle.std.proofs.Common.{◌≡◌, ◌∙◌, ℕ, ◌+◌, ◌-◌, ◌<◌, Bool, true, false, cond, nat_eq, List, [], ◌∷◌, ◌++◌, Option, Some, None, MatchOption, is_some, length, map, take, drop, get_or, refl, ap, sym, subst, arith}
use Rattle.std.specs.Prelude.{T}
use Rattle.std.specs.declared.cmp.Ordering.{Ordering}
use Rattle.std.specs.declared.cmp.Ordering.TheVariants.{Less, Equal, Greater}
use Rattle.std.specs.List.{AllByRecursion}
use Rattle.std.specs.Option.{option_map, unwrap_or}
use Rattle.std.specs.Ordering.{is_lt, is_eq, eq_by_cmp}
use Rattle.std.specs.FinMap as tables
use Rattle.std.specs.FinMap.{find}
use Rattle.std.specs.FinMap.Entries.{is_sorted, below_all}
use Rattle.std.proofs.lemmas.Bool.{and_parts, cond-true, cond-false, false≢true, eqb-true}
use Rattle.std.proofs.lemmas.Cmp.{nat_list_cmp_total, tied_itself}
use Rattle.std.proofs.lemmas.List.{take_more, length-append}
use Rattle.std.proofs.Math.Seq.{drop-append_seam}
use Rattle.bdb_base.specs.declared.kinds.Sign.{Sign}
use Rattle.bdb_base.specs.declared.kinds.Sign.TheVariants.{Plus, Minus}
use Rattle.bdb_base.specs.declared.tuple.Tuple.{Tuple}
use Rattle.bdb_base.specs.Segments.{is_prefix}
use Rattle.bdb_base.proofs.BoolLemmas.{is_T}
use Rattle.bdb_base.proofs.OptionLemmas.{none_is_some, same_some}
use Rattle.bdb_base.proofs.AllLemmas.{all_weaker, all_both, all_filter}
use Rattle.bdb_keep.specs.Tables.{Tables, bytes_cmp}
use Rattle.bdb_key.specs.Bytes.{num_bytes, vals_bytes}
use Rattle.bdb_key.specs.Grammar.{IsNum}
use Rattle.bdb_key.specs.Rows.{IsTupleRow, tuple_bytes, mark_bytes}
use Rattle.bdb_plan.specs.Running.{plus_tuples}
use Rattle.bdb_tables.specs.Codec.{HasRow, TableFits, place}
use Rattle.bdb_tables.specs.InUse.{ValKey, IsValKey, tuple_codec, val_codec}
use Rattle.bdb_tables.specs.InUseLaws.{tuple_rows_are_one}
use Rattle.bdb_tables.specs.Marks.{Mark, mark_of}
use Rattle.bdb_tables.specs.GroupMarks.{numbered}
use Rattle.bdb_tables.specs.Rows.{has_key, row_named, row_for}
use Rattle.bdb_tables.specs.Spans.{AreUnder, IsUnder}
use Rattle.bdb_tables.proofs.ListLemmas.{all_pass}
use Rattle.bdb_exec.specs.Readable.{CanBeRun}
use Rattle.bdb_exec.specs.Rows.{HasTuple, HasPushed, signed_at, signed_of}
use Rattle.bdb_exec.specs.Seen.{rows_at, sight_of, sign_in, signed_in, signed_under}
use Rattle.bdb_exec.specs.Spelled.{tuple_in}
use Rattle.bdb_exec.proofs.SpelledLemmas.{tuple_back, sign_back}
use Rattle.bdb_exec.proofs.TypedLemmas.{raw, rows_are}

-- ---- what is found at the places of tables

abbrev Raw : Type 0
Raw = List ℕ × List ℕ

abbrev pair : List ℕ → List ℕ → Raw
pair a b = (a, b)

abbrev signed : Tuple → Sign → Tuple × Sign
signed v s = (v, s)

later_found : (x : Raw) (all es : List Raw) → T (below_all bytes_cmp x.0 es) → AllByRecursion (λ e. find bytes_cmp e.0 all ≡ Some e.1) es → AllByRecursion (λ e. find bytes_cmp e.0 (x ∷ all) ≡ Some e.1) es
later_found x all [] b h = tt
later_found x all (e ∷ es) b h =
    let p = and_parts (is_lt (bytes_cmp x.0 e.0)) (below_all bytes_cmp x.0 es) (is_T _ b) in (
      cond-false (eq_by_cmp bytes_cmp e.0 x.0) (Some x.1) (find bytes_cmp e.0 all) (apart (bytes_cmp x.0 e.0) (bytes_cmp e.0 x.0) (nat_list_cmp_total.antisymm e.0 x.0) p.0) ∙ h.0,
      later_found x all es (subst T (sym p.1) tt) h.1,
    )
  where
    apart : (a b : Ordering) → b ≡ Rattle.std.specs.Ordering.ordering_reverse a → is_lt a ≡ true → is_eq b ≡ false
    apart Less b e l = ap is_eq e
    apart Equal b e l = absurd (false≢true l)
    apart Greater b e l = absurd (false≢true l)

all_found : (es : List Raw) → T (is_sorted bytes_cmp es) → AllByRecursion (λ e. find bytes_cmp e.0 es ≡ Some e.1) es
all_found [] s = tt
all_found (x ∷ es) s =
    let p = and_parts (below_all bytes_cmp x.0 es) (is_sorted bytes_cmp es) (is_T _ s) in (
      cond-true (eq_by_cmp bytes_cmp x.0 x.0) (Some x.1) (find bytes_cmp x.0 es) (ap is_eq (tied_itself nat_list_cmp_total x.0)),
      later_found x es es (subst T (sym p.0) tt) (all_found es (subst T (sym p.1) tt)),
    )

module _ (t : Tables) where
  rows_found : (begin : List ℕ) → AllByRecursion (λ e. tables.get t e.0 ≡ Some e.1) (rows_at t begin)
  rows_found begin =
      all_filter (λ e. tables.get t e.0 ≡ Some e.1) (λ e. is_prefix begin e.0) (tables.entries t)
      (all_weaker (λ e. find bytes_cmp e.0 (tables.entries t) ≡ Some e.1) (λ e. tables.get t e.0 ≡ Some e.1) (tables.entries t) (λ e h. tables.get-entries t e.0 ∙ h)
      (all_found (tables.entries t) (tables.entries_sorted t)))

  -- a row stands in the tables
  abbrev pub IsThere : ValKey × Mark → Type 0
  IsThere e = tables.get t (place val_codec e.0) ≡ Some (mark_bytes e.1)

  there_raw : (es : List (ValKey × Mark)) → AllByRecursion (λ e. tables.get t e.0 ≡ Some e.1) (map (raw val_codec) es) → AllByRecursion IsThere es
  there_raw [] h = tt
  there_raw (e ∷ es) h = (h.0, there_raw es h.1)

  -- rows under a beginning, typed
  pub record AreTyped (prefix : List ℕ) (es : List (ValKey × Mark)) : Type 0 where
    pub rows : rows_at t (val_codec.number ∷ prefix) ≡ map (raw val_codec) es
    pub each : AllByRecursion (IsUnder val_codec prefix) es
    pub there : AllByRecursion IsThere es

  typed : (prefix : List ℕ) (es : List (ValKey × Mark)) → rows_at t (val_codec.number ∷ prefix) ≡ map (raw val_codec) es → AllByRecursion (IsUnder val_codec prefix) es → AreTyped prefix es
  typed prefix es e u = record {
    rows = e;
    each = u;
    there = there_raw es (subst (AllByRecursion (λ x. tables.get t x.0 ≡ Some x.1)) e (rows_found (val_codec.number ∷ prefix)));
  }

  pub typed_under : (prefix : List ℕ) (es : List (ValKey × Mark)) → AreUnder val_codec t prefix es → AreTyped prefix es
  typed_under prefix es u = typed prefix es (rows_are val_codec t prefix es u) u.each

  -- all rows under a beginning can be typed
  one_typed : (prefix : List ℕ) → TableFits val_codec t → (x : Raw) → tables.get t x.0 ≡ Some x.1 → is_prefix (val_codec.number ∷ prefix) x.0 ≡ true
      → (e : ValKey × Mark) × (x ≡ raw val_codec e) × IsUnder val_codec prefix e
  one_typed prefix fits ([], r) found begins = absurd (false≢true begins)
  one_typed prefix fits (m ∷ k, r) found begins =
      let p = and_parts (nat_eq val_codec.number m) (is_prefix prefix k) begins in
      let n : val_codec.number ≡ m = eqb-true val_codec.number m p.0 in
      let e = fits k r (ap (λ j. tables.get t (j ∷ k)) n ∙ found) in (
        (e.key, e.row),
        ap (λ (j : ℕ). pair (j ∷ k) r) (sym n) ∙ ap (λ (j : List ℕ). pair (val_codec.number ∷ j) r) (sym e.key_reads.spelled) ∙ ap (pair (place val_codec e.key)) (sym e.row_reads.spelled),
        record { key = e.key_reads.fits; row = e.row_reads.fits; begins = ap (is_prefix prefix) e.key_reads.spelled ∙ p.1 },
      )

  all_typed : (prefix : List ℕ) → TableFits val_codec t → (xs : List Raw) → AllByRecursion (λ e. tables.get t e.0 ≡ Some e.1) xs → AllByRecursion (λ e. is_prefix (val_codec.number ∷ prefix) e.0 ≡ true) xs
      → (es : List (ValKey × Mark)) × (xs ≡ map (raw val_codec) es) × AllByRecursion (IsUnder val_codec prefix) es
  all_typed prefix fits [] f b = ([], refl, tt)
  all_typed prefix fits (x ∷ xs) f b =
      let one = one_typed prefix fits x f.0 b.0 in
      let rest = all_typed prefix fits xs f.1 b.1 in
      (one.0 ∷ rest.0, ap (λ (y : Raw). y ∷ xs) one.1 ∙ ap (λ (ys : List Raw). raw val_codec one.0 ∷ ys) rest.1, (one.2, rest.2))

  pub typed_rows : (prefix : List ℕ) → TableFits val_codec t → (es : List (ValKey × Mark)) × AreTyped prefix es
  typed_rows prefix fits =
      let all = all_typed prefix fits (rows_at t (val_codec.number ∷ prefix)) (rows_found (val_codec.number ∷ prefix)) (all_pass (λ e. is_prefix (val_codec.number ∷ prefix) e.0) (tables.entries t)) in
      (all.0, typed prefix all.0 all.1 all.2)

  -- ---- tuples

  number_at_end : (k : ValKey) → drop (length (place val_codec k) - 4) (place val_codec k) ≡ num_bytes k.3
  number_at_end k =
      let front : List ℕ = val_codec.number ∷ (num_bytes k.0 ++ num_bytes k.1 ++ vals_bytes k.2) in
      let whole : length (front ++ num_bytes k.3) ≡ length front + 4 = length-append front (num_bytes k.3) in
      let less : length (front ++ num_bytes k.3) - 4 ≡ length front = omega (arith, whole) in
      ap (λ n. drop n (front ++ num_bytes k.3)) less ∙ drop-append_seam front (num_bytes k.3)

  -- what the tables show of a row is the tuple of its number, with its sign
  pub signed_is : (e : ValKey × Mark) (u : Tuple) → HasRow tuple_codec t e.0.3 u → signed_of t e ≡ (u, e.1.0)
  signed_is e u r =
      ap (λ x. signed (tuple_in x) (sign_in (mark_bytes e.1))) (ap (λ b. unwrap_or (tables.get t (tuple_codec.number ∷ b)) []) (number_at_end e.0) ∙ ap (λ o. unwrap_or o []) r.found)
      ∙ ap (λ x. signed x (sign_in (mark_bytes e.1))) (tuple_back u r.in_grammar)
      ∙ ap (signed u) (sign_back e.1.0 e.1.1)

  sign_is : (e : ValKey × Mark) → (signed_of t e).1 ≡ e.1.0
  sign_is e = sign_back e.1.0 e.1.1

  pub shown : (prefix : List ℕ) (es : List (ValKey × Mark)) → AreTyped prefix es → signed_under t prefix ≡ map (signed_of t) es
  shown prefix es h = ap (map (signed_in t)) h.rows ∙ twice es
    where
      twice : (es : List (ValKey × Mark)) → map (signed_in t) (map (raw val_codec) es) ≡ map (signed_of t) es
      twice [] = refl
      twice (e ∷ es) = ap (λ (x : List (Tuple × Sign)). signed_of t e ∷ x) (twice es)

  -- ---- tuples with plus

  plus_append : (xs ys : List (Tuple × Sign)) → plus_tuples (xs ++ ys) ≡ plus_tuples xs ++ plus_tuples ys
  plus_append [] ys = refl
  plus_append ((u, Plus) ∷ xs) ys = ap (λ (x : List Tuple). u ∷ x) (plus_append xs ys)
  plus_append ((u, Minus) ∷ xs) ys = plus_append xs ys

  map_append : (xs ys : List (ℕ × Mark)) → map (signed_at t) (xs ++ ys) ≡ map (signed_at t) xs ++ map (signed_at t) ys
  map_append [] ys = refl
  map_append (x ∷ xs) ys = ap (λ (r : List (Tuple × Sign)). signed_at t x ∷ r) (map_append xs ys)

  plus_one : (x : Tuple × Sign) (s : Sign) (old new : List Tuple) → x.1 ≡ s → (s ≡ Plus → new ≡ old ++ x.0 ∷ []) → (s ≡ Minus → new ≡ old) → new ≡ old ++ plus_tuples (x ∷ [])
  plus_one (u, Plus) Plus old new e p m = p refl
  plus_one (u, Plus) Minus old new e p m = absurd cc
  plus_one (u, Minus) Plus old new e p m = absurd cc
  plus_one (u, Minus) Minus old new e p m = m refl ∙ sym (append_nil old)
    where
      append_nil : (xs : List Tuple) → xs ++ [] ≡ xs
      append_nil [] = refl
      append_nil (x ∷ xs) = ap (λ (r : List Tuple). x ∷ r) (append_nil xs)

  tuple_is : (n : ℕ) (u : Tuple) → HasRow tuple_codec t n u → tuple_in (unwrap_or (tables.get t (place tuple_codec n)) []) ≡ u
  tuple_is n u r = ap (λ o. tuple_in (unwrap_or o [])) r.found ∙ tuple_back u r.in_grammar

  pushed_one : (x : ℕ × Mark) (old new : List Tuple) → HasPushed t x.0 x.1.0 old new → new ≡ old ++ plus_tuples (signed_at t x ∷ [])
  pushed_one x old new h = plus_one (signed_at t x) x.1.0 old new refl (plus x.1.0 h) (minus x.1.0 h)
    where
      plus : (s : Sign) → HasPushed t x.0 s old new → s ≡ Plus → new ≡ old ++ (signed_at t x).0 ∷ []
      plus Plus h p = h.1 ∙ ap (λ (u : Tuple). old ++ u ∷ []) (sym (tuple_is x.0 h.0 h.2))
      plus Minus h p = absurd cc

      minus : (s : Sign) → HasPushed t x.0 s old new → s ≡ Minus → new ≡ old
      minus Plus h p = absurd cc
      minus Minus h p = h

  -- one more row of a list
  pub pushed_more : (xs : List (ℕ × Mark)) (i : ℕ) (x : ℕ × Mark) (old new : List Tuple) → i < length xs → x ≡ get_or xs i x → old ≡ plus_tuples (map (signed_at t) (take i xs))
      → HasPushed t x.0 x.1.0 old new → new ≡ plus_tuples (map (signed_at t) (take (i + 1) xs))
  pushed_more xs i x old new lt at inv h =
      pushed_one x old new h
      ∙ ap (λ (y : List Tuple). y ++ plus_tuples (signed_at t x ∷ [])) inv
      ∙ sym (plus_append (map (signed_at t) (take i xs)) (signed_at t x ∷ []))
      ∙ ap plus_tuples (sym (map_append (take i xs) (x ∷ [])))
      ∙ ap (λ y. plus_tuples (map (signed_at t) (take i xs ++ y ∷ []))) at
      ∙ ap (λ y. plus_tuples (map (signed_at t) y)) (sym (take_more xs i x lt))

  -- rows are told by the numbers of their tuples
  pub told_by_number : (es : List (ValKey × Mark)) → map (signed_of t) es ≡ map (signed_at t) (map numbered es)
  told_by_number [] = refl
  told_by_number (e ∷ es) = ap (λ (x : Tuple × Sign). x ∷ map (signed_of t) es) (one e) ∙ ap (λ (xs : List (Tuple × Sign)). signed_at t (numbered e) ∷ xs) (told_by_number es)
    where
      one : (e : ValKey × Mark) → signed_of t e ≡ signed_at t (numbered e)
      one e =
          ap (λ b. signed (tuple_in (unwrap_or (tables.get t (tuple_codec.number ∷ b)) [])) (sign_in (mark_bytes e.1))) (number_at_end e.0)
          ∙ ap (signed (tuple_in (unwrap_or (tables.get t (place tuple_codec e.0.3)) []))) (sign_back e.1.0 e.1.1)

-- ---- where plans can be run

module _ (t : Tables) (h : CanBeRun t) where
  pub has_row : (tid : ℕ) (u : Tuple) → h.tuples.tuple tid ≡ Some u → HasRow tuple_codec t tid u
  has_row tid u e = record {
    in_grammar = subst (λ o. MatchOption o (Unit {0}) IsTupleRow) e (h.held.tuples.written tid (h.held.sized tid u e));
    found = h.held.tuples.rows tid (h.held.sized tid u e) ∙ ap (option_map tuple_bytes) e;
  }

  pub tuple_named : (tid : ℕ) (u : Tuple) → IsNum tid → HasRow tuple_codec t tid u → h.tuples.tuple tid ≡ Some u
  tuple_named tid u n r = one (h.tuples.tuple tid) (h.held.tuples.written tid n) (sym (h.held.tuples.rows tid n) ∙ r.found)
    where
      one : (o : Option Tuple) → MatchOption o (Unit {0}) IsTupleRow → option_map tuple_bytes o ≡ Some (tuple_bytes u) → o ≡ Some u
      one None w e = absurd (none_is_some (tuple_bytes u) e)
      one (Some v) w e = ap Some (tuple_rows_are_one v u w r.in_grammar (same_some (tuple_bytes v) (tuple_bytes u) e))

  -- a row's number stands for a tuple, which has the row's relation and key
  abbrev pub StandsForTuple : ValKey × Mark → Type 0
  StandsForTuple e = (u : Tuple) × (h.tuples.tuple e.0.3 ≡ Some u) × (has_key (sight_of t).keys e.0 u ≡ true)

  row_told : (k : ValKey) (p : Option (List ℕ)) (o : Option Tuple) → is_some (row_named (sight_of t).keys h.stmts k p o) ≡ true → (u : Tuple) × (o ≡ Some u) × (has_key (sight_of t).keys k u ≡ true)
  row_told k None o e = absurd (false≢true e)
  row_told k (Some w) None e = absurd (false≢true e)
  row_told k (Some w) (Some u) e = by (has_key (sight_of t).keys k u) refl e
    where
      by : (b : Bool) → has_key (sight_of t).keys k u ≡ b → is_some (cond b (mark_of (sight_of t).keys h.stmts w u) None) ≡ true → (v : Tuple) × (Some u ≡ Some v) × (has_key (sight_of t).keys k v ≡ true)
      by true b i = (u, refl, b)
      by false b i = absurd (false≢true i)

  one_told : (e : ValKey × Mark) → IsValKey e.0 → IsThere t e → StandsForTuple e
  one_told e k there = row_told e.0 (h.path e.0.0) (h.tuples.tuple e.0.3) (mapped (row_for (sight_of t).keys h.stmts h.path h.tuples.tuple e.0) (sym (h.rows.rows e.0 k) ∙ there))
    where
      mapped : (o : Option Mark) → option_map mark_bytes o ≡ Some (mark_bytes e.1) → is_some o ≡ true
      mapped None e = absurd (none_is_some _ e)
      mapped (Some m) e = refl

  pub all_told : (prefix : List ℕ) (es : List (ValKey × Mark)) → AreTyped t prefix es → AllByRecursion StandsForTuple es
  all_told prefix es r = all_both (IsUnder val_codec prefix) (IsThere t) StandsForTuple es (λ e u i. one_told e u.key i) r.each r.there

  pub all_have : (prefix : List ℕ) (es : List (ValKey × Mark)) → AreTyped t prefix es → AllByRecursion (HasTuple t) (map numbered es)
  all_have prefix es r = have es (all_told prefix es r)
    where
      have : (es : List (ValKey × Mark)) → AllByRecursion StandsForTuple es → AllByRecursion (HasTuple t) (map numbered es)
      have [] k = tt
      have (e ∷ es) k = ((k.0.0, has_row e.0.3 k.0.0 k.0.1), have es k.1)
