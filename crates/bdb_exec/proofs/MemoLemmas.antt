-- What is remembered of tables, with one more look-up.
use Rattle.std.proofs.Common.{◌≡◌, ◌∙◌, ℕ, Bool, true, false, cond, List, Option, Some, None, refl, ap, sym, subst}
use Rattle.std.specs.Prelude.{IfSome}
use Rattle.std.specs.declared.cmp.Ordering.{Ordering}
use Rattle.std.specs.declared.cmp.Ordering.TheVariants.{Less, Equal, Greater}
use Rattle.std.specs.Ordering.{eq_by_cmp, is_eq, nat_cmp, ordering_then}
use Rattle.std.specs.BTreeMap.{BTreeMap, get, Updates}
use Rattle.std.proofs.lemmas.Bool.{false≢true}
use Rattle.std.proofs.lemmas.Option.{cond_some, none-some}
use Rattle.bdb_base.specs.declared.tuple.Tuple.{Tuple}
use Rattle.bdb_base.proofs.Numbers.{same_number}
use Rattle.bdb_keep.specs.Tables.{Tables, bytes_cmp}
use Rattle.bdb_keep.proofs.RowsLemmas.{same_place}
use Rattle.bdb_plan.specs.Running.{plus_tuples}
use Rattle.bdb_exec.specs.Memos.{pair_cmp, last_pool}
use Rattle.bdb_exec.specs.Seen.{signed_under}
use Rattle.bdb_exec.specs.declared.memo.KeyPool.{KeyPool}

-- what holds of all entries still does with one more of which it holds
pub after_insert : {K X : Type 0} (cmp : K → K → Ordering) (m n : BTreeMap K X) (k : K) (x : X) (P : K → X → Type 0) → ((q : K) → is_eq (cmp k q) ≡ true → k ≡ q) → P k x → Updates cmp m n k (Some x)
    → ((q : K) → IfSome (get cmp m q) (P q)) → (q : K) → IfSome (get cmp n q) (P q)
after_insert cmp m n k x P same here u h q = subst (λ o. IfSome o (P q)) (sym (u.0 q)) (by (is_eq (cmp k q)) refl (h q))
  where
    by : (b : Bool) → is_eq (cmp k q) ≡ b → IfSome (get cmp m q) (P q) → IfSome (cond b (Some x) (get cmp m q)) (P q)
    by true e h = subst (λ j. P j x) (same q e) here
    by false e h = h

pub pair_tied : (a b : ℕ × ℕ) → is_eq (pair_cmp a b) ≡ true → a ≡ b
pair_tied a b e = by (nat_cmp a.0 b.0) refl e
  where
    pair : ℕ → ℕ → ℕ × ℕ
    pair m n = (m, n)

    by : (o : Ordering) → nat_cmp a.0 b.0 ≡ o → is_eq (ordering_then o (nat_cmp a.1 b.1)) ≡ true → a ≡ b
    by Less k i = absurd (false≢true i)
    by Equal k i = ap (λ m. pair m a.1) (same_number a.0 b.0 (ap is_eq k)) ∙ ap (λ n. pair b.0 n) (same_number a.1 b.1 i)
    by Greater k i = absurd (false≢true i)

-- the tuples that are kept beside bytes are those of the rows whose keys begin so
pub pool_recalled : (t : Tables) (kept : Option KeyPool) (prefix : List ℕ) (tuples : List Tuple) → last_pool kept prefix ≡ Some tuples → IfSome kept (λ pool. pool.tuples ≡ plus_tuples (signed_under t pool.prefix))
    → tuples ≡ plus_tuples (signed_under t prefix)
pool_recalled t None prefix tuples is h = absurd (none-some tuples is)
pool_recalled t (Some p) prefix tuples is h =
    let both = cond_some (eq_by_cmp bytes_cmp p.prefix prefix) p.tuples tuples is in
    sym both.1 ∙ h ∙ ap (λ x. plus_tuples (signed_under t x)) (same_place p.prefix prefix both.0)
