-- Tables that store a base have as many rows as its worlds.
use Rattle.std.proofs.Common.{◌≡◌, ◌≢◌, ◌∙◌, ℕ, ◌+◌, ◌≤◌, Bool, true, false, not, ◌||◌, nat_eq, cond, List, [], ◌∷◌, length, Some, None, is_some, refl, sym, ap, subst, arith, inl, inr}
use Rattle.std.specs.Prelude.{sum_by}
use Rattle.std.specs.List.{AllByRecursion}
use Rattle.std.specs.Ordering.{is_eq, eq_by_cmp}
use Rattle.std.specs.FinMap as tables
use Rattle.std.proofs.lemmas.Bool.{cases_Bool, and_from, cond-true, cond-false, false≢true, false_from_ne_true, not_from_false, or_left, or_right, leb-true}
use Rattle.bdb_base.specs.Bases.{Contents, IsValid, are_distinct}
use Rattle.bdb_base.specs.Limits.{most_statements}
use Rattle.bdb_base.specs.Same.{same_text}
use Rattle.bdb_base.specs.SameLemmas.{same_text-Decides}
use Rattle.bdb_base.specs.declared.kinds.Stmt.{Stmt}
use Rattle.bdb_base.specs.declared.tuple.Tuple.{Tuple}
use Rattle.bdb_base.proofs.WorldLemmas.{valid_is_consistent}
use Rattle.bdb_base.proofs.OptionLemmas.{none_there}
use Rattle.bdb_canon.specs.Sizes.{counts_of}
use Rattle.bdb_keep.specs.Tables.{Tables, bytes_cmp}
use Rattle.bdb_keep.proofs.RowsLemmas.{same_place}
use Rattle.bdb_key.specs.Rows.{mark_bytes}
use Rattle.bdb_key.proofs.Forms.{tied}
use Rattle.bdb_tables.specs.Codec.{place}
use Rattle.bdb_tables.specs.InUse.{ValKey, val_codec}
use Rattle.bdb_tables.specs.Marks.{Mark}
use Rattle.bdb_tables.specs.Names.{Names}
use Rattle.bdb_tables.specs.Rows.{Tuples}
use Rattle.bdb_tables.specs.Writes.{with_change}
use Rattle.bdb_tables.proofs.DifferenceLemmas.{is_among}
use Rattle.bdb_tables.proofs.WriteLemmas.{get_after_change}
use Rattle.bdb_update.proofs.KeyLemmas.{lengths_fit}
use Rattle.bdb_update.specs.Differing.{has_told}
use Rattle.bdb_tables.specs.Stored.{StoredOver, Stores}
use Rattle.bdb_update.specs.Keys.{keys_of}
use Rattle.bdb_update.specs.Tallies.{HasRowCount, vals_at, nothing_at}
use Rattle.bdb_update.proofs.ComeLemmas.{rows_one}
use Rattle.bdb_update.proofs.RowLemmas.{AreUsed, rows_counted, rows_of}
use Rattle.bdb_update.proofs.SumLemmas.{rows_are_few, sum_of_states}

-- ---- a base over other worlds and tuples

module _ (reached told : List Stmt) (ns : Names) (ts : Tuples) (t : Tables) (b : Contents) (h : StoredOver reached told ns ts t b) (valid : IsValid b.catalog b.stmts)
    (within : (u : Tuple) → has_told b.stmts u ≡ true → has_told told u ≡ true) where
  used : AreUsed ns
  used = record { once = h.states.names.once; counted = h.states.names.counted; sized = λ n w e. h.states.names.sized w n (h.states.names.named n w e) }

  pub over_count : HasRowCount t (sum_by (rows_of (keys_of b) b.stmts ns) ns.used)
  over_count = rows_counted (keys_of b) b.stmts told ns ts t (lengths_fit t b.catalog.rels h.rels) used (valid_is_consistent b.catalog b.stmts valid) h.tuples within h.rows

  -- however many rows there are, they are few
  pub over_few : (a : ℕ) → HasRowCount t a → a ≤ 1310720000
  over_few a x =
      let few = rows_are_few (keys_of b) b.stmts ns (valid_is_consistent b.catalog b.stmts valid) (leb-true (length b.stmts) most_statements valid.stmts.few_stmts) h.states.names.few in
      let e = rows_one t a (sum_by (rows_of (keys_of b) b.stmts ns) ns.used) x over_count in
      omega arith

-- ---- a base

pub stored_count : (t : Tables) (b : Contents) → Stores t b → IsValid b.catalog b.stmts → HasRowCount t (counts_of b).rows
stored_count t b s valid =
    subst (HasRowCount t) (sum_of_states (keys_of b) b.stmts s.names s.stored.states.names s.stored.worlds) (over_count b.stmts b.stmts s.names s.tuples t b s.stored valid (λ u e. e))

-- ---- one row is put

all_at : (P : List ℕ → Type 0) (q : List ℕ) (ps : List (List ℕ)) → AllByRecursion P ps → is_among q ps ≡ true → P q
all_at P q [] h e = absurd (false≢true e)
all_at P q (p ∷ ps) h e = by (same_text q p) refl e (all_at P q ps h.1)
  where
    by : (c : Bool) → same_text q p ≡ c → (c || is_among q ps) ≡ true → (is_among q ps ≡ true → P q) → P q
    by true s f r = subst P (sym ((same_text-Decides q p).0 s)) h.0
    by false s f r = r f

module _ (t m : Tables) (k : ValKey) (mark : Mark) (made : m ≡ with_change val_codec t (k, Some mark)) (n : ℕ) (x : HasRowCount t n) where
  here : (q : List ℕ) → same_text q (place val_codec k) ≡ true → vals_at m q ≡ Some (mark_bytes mark)
  here q e =
      let same : q ≡ place val_codec k = (same_text-Decides q (place val_codec k)).0 e in
      ap (vals_at m) same ∙ ap (λ (u : Tables). tables.get u (place val_codec k)) made ∙ get_after_change val_codec t (k, Some mark) (place val_codec k)
      ∙ cond-true (eq_by_cmp bytes_cmp (place val_codec k) (place val_codec k)) (Some (mark_bytes mark)) (tables.get t (place val_codec k)) (ap is_eq (tied (place val_codec k) (place val_codec k) refl))

  away : (q : List ℕ) → same_text q (place val_codec k) ≡ false → vals_at m q ≡ vals_at t q
  away [] e = refl
  away (i ∷ r) e = ap (λ o. cond (nat_eq i 11) o None) (ap (λ (u : Tables). tables.get u (i ∷ r)) made ∙ get_after_change val_codec t (k, Some mark) (i ∷ r)
      ∙ cond-false (eq_by_cmp bytes_cmp (i ∷ r) (place val_codec k)) (Some (mark_bytes mark)) (tables.get t (i ∷ r))
      (false_from_ne_true (eq_by_cmp bytes_cmp (i ∷ r) (place val_codec k)) (λ f. false≢true (sym e ∙ (same_text-Decides (i ∷ r) (place val_codec k)).1 (same_place (i ∷ r) (place val_codec k) f)))))

  some_row : (q : List ℕ) → same_text q (place val_codec k) ≡ true → vals_at m q ≢ nothing_at q
  some_row q e f = bad (sym (here q e) ∙ f)
    where
      bad : Some (mark_bytes mark) ≡ None → ⊥
      bad g = cc

  each_still : (ps : List (List ℕ)) → AllByRecursion (λ q. vals_at t q ≢ nothing_at q) ps → AllByRecursion (λ q. vals_at m q ≢ nothing_at q) ps
  each_still [] h = tt
  each_still (q ∷ qs) h = (
    elim (cases_Bool (same_text q (place val_codec k))) [ inl e ↦ some_row q e | inr e ↦ λ f. h.0 (sym (away q e) ∙ f) ],
    each_still qs h.1,
  )

  -- a place that is none of those with rows, and not that of the row
  none_else : (q : List ℕ) → same_text q (place val_codec k) ≡ false → is_among q x.places ≡ false → vals_at m q ≡ nothing_at q
  none_else q e out = away q e ∙ x.are.only q out

  among_there : (q : List ℕ) → is_some (vals_at t q) ≡ true → is_among q x.places ≡ true
  among_there q s = elim (cases_Bool (is_among q x.places)) [ inl e ↦ e | inr e ↦ absurd (false≢true (ap is_some (sym (x.are.only q e)) ∙ s)) ]

  pub put_count : HasRowCount m (n + cond (is_some (tables.get t (place val_codec k))) 0 1)
  put_count = by (is_some (tables.get t (place val_codec k))) refl
    where
      by : (c : Bool) → is_some (tables.get t (place val_codec k)) ≡ c → HasRowCount m (n + cond c 0 1)
      by true stood = record {
        places = x.places;
        are = record {
          once = x.are.once;
          each = each_still x.places x.are.each;
          only = λ q out. none_else q (false_from_ne_true (same_text q (place val_codec k)) (λ e.
              false≢true (sym out ∙ among_there q (ap (λ z. is_some (vals_at t z)) ((same_text-Decides q (place val_codec k)).0 e) ∙ stood)))) out;
        };
        many = let e = x.many in omega arith;
      }
      by false none = record {
        places = place val_codec k ∷ x.places;
        are = record {
          once = and_from (not (is_among (place val_codec k) x.places)) (are_distinct x.places)
              (not_from_false (is_among (place val_codec k) x.places) (false_from_ne_true (is_among (place val_codec k) x.places) (λ e.
              all_at (λ q. vals_at t q ≢ nothing_at q) (place val_codec k) x.places x.are.each e (none_there (tables.get t (place val_codec k)) none)))) x.are.once;
          each = (some_row (place val_codec k) ((same_text-Decides (place val_codec k) (place val_codec k)).1 refl), each_still x.places x.are.each);
          only = λ q out. none_else q
              (false_from_ne_true (same_text q (place val_codec k)) (λ e. false≢true (sym out ∙ or_left (same_text q (place val_codec k)) (is_among q x.places) e)))
              (false_from_ne_true (is_among q x.places) (λ e. false≢true (sym out ∙ or_right (same_text q (place val_codec k)) (is_among q x.places) e)));
        };
        many = let e = x.many in omega arith;
      }
