-- Among the tuples that have the values that tests ask for of columns are all that these tests let through.
use Rattle.std.proofs.Common.{◌≡◌, ◌∙◌, ℕ, ◌<◌, Bool, true, false, cond, List, [], ◌∷◌, ◌++◌, Option, Some, None, length, filter, refl, ap, sym}
use Rattle.std.specs.List.{slice_get}
use Rattle.std.specs.Option.{option_and_then, option_map}
use Rattle.std.specs.Ordering.{is_eq, nat_cmp, ordering_then}
use Rattle.std.specs.declared.cmp.Ordering.{Ordering}
use Rattle.std.specs.declared.cmp.Ordering.TheVariants.{Less, Equal, Greater}
use Rattle.std.specs.BTreeMap.{BTreeMap, get, Updates}
use Rattle.std.proofs.lemmas.Bool.{false≢true}
use Rattle.std.proofs.lemmas.List.Elements.{filter-append}
use Rattle.bdb_base.specs.Order.{row_cmp}
use Rattle.bdb_base.specs.OrderLemmas.{is_eq_row_cmp}
use Rattle.bdb_base.specs.SameLemmas.{same_values-Decides}
use Rattle.bdb_base.specs.declared.kinds.Value.{Value}
use Rattle.bdb_base.specs.declared.tuple.Tuple.{Tuple}
use Rattle.bdb_base.proofs.Numbers.{same_number}
use Rattle.bdb_base.proofs.OptionLemmas.{none_is_some}
use Rattle.bdb_plan.specs.declared.step.Step.{Step}
use Rattle.bdb_exec.specs.Indexes.{group_of, GroupsBy, has_key, index_cmp, is_key, KeepsRest, PutsAt, values_of}
use Rattle.bdb_exec.specs.Keys.{passes, value_behind}
use Rattle.bdb_exec.specs.Memos.{pair_cmp}
use Rattle.bdb_exec.proofs.DenyLemmas.{filter_narrow}
use Rattle.bdb_exec.proofs.KeyLemmas.{asked_there}
use Rattle.bdb_exec.proofs.MemoLemmas.{pair_tied}

-- what is there of columns is there of any that have at least as much
values_more : (f g : ℕ → Option Value) → ((c : ℕ) (v : Value) → f c ≡ Some v → g c ≡ Some v) → (cols : List ℕ) (key : List Value) → values_of f cols ≡ Some key → values_of g cols ≡ Some key
values_more f g more [] key e = e
values_more f g more (c ∷ cs) key e = by (f c) refl (values_of f cs) refl (λ vs q. values_more f g more cs vs q) e
  where
    by : (o : Option Value) → f c ≡ o → (p : Option (List Value)) → values_of f cs ≡ p → ((vs : List Value) → values_of f cs ≡ Some vs → values_of g cs ≡ Some vs)
        → option_and_then (λ v. option_map (λ vs. v ∷ vs) p) o ≡ Some key → values_of g (c ∷ cs) ≡ Some key
    by None d p q rest k = absurd (none_is_some key k)
    by (Some v) d None q rest k = absurd (none_is_some key k)
    by (Some v) d (Some vs) q rest k =
        ap (option_and_then (λ v. option_map (λ vs. v ∷ vs) (values_of g cs))) (more c v d)
        ∙ ap (option_map (λ vs. v ∷ vs)) (rest vs q)
        ∙ k

key_itself : (key : List Value) → is_eq (row_cmp key key) ≡ true
key_itself key = is_eq_row_cmp key key ∙ (same_values-Decides key key).1 refl

-- among the tuples that have the values that are asked for are all that the tests let through
pub index_passes : (slots : List (Option Tuple)) (item : ℕ) (xs : List Step) (cols : List ℕ) (key : List Value) (pool : List Tuple) → item < length slots → values_of (value_behind slots item xs) cols ≡ Some key
    → filter (passes slots item xs) (filter (has_key cols key) pool) ≡ filter (passes slots item xs) pool
index_passes slots item xs cols key pool lt e = sym (filter_narrow (passes slots item xs) (has_key cols key) pool there)
  where
    there : (t : Tuple) → passes slots item xs t ≡ true → has_key cols key t ≡ true
    there t p = ap (is_key key) (values_more (value_behind slots item xs) (slice_get t.vals) (asked_there slots item t lt xs p) cols key e) ∙ key_itself key

-- ---- one more tuple

pub put_at : (m r n : BTreeMap (List Value) (List Tuple)) (key : List Value) (t : Tuple) → KeepsRest m r key → Updates row_cmp r n key (Some (group_of (get row_cmp m key) ++ (t ∷ []))) → PutsAt m n key t
put_at m r n key t rest u q = ap group_of (u.0 q) ∙ by (is_eq (row_cmp key q)) refl (rest q)
  where
    by : (b : Bool) → is_eq (row_cmp key q) ≡ b → (is_eq (row_cmp key q) ≡ false → get row_cmp r q ≡ get row_cmp m q)
        → group_of (cond b (Some (group_of (get row_cmp m key) ++ (t ∷ []))) (get row_cmp r q)) ≡ cond b (group_of (get row_cmp m q) ++ (t ∷ [])) (group_of (get row_cmp m q))
    by true e h = ap (λ k. group_of (get row_cmp m k) ++ (t ∷ [])) (same_key e)
      where
        same_key : is_eq (row_cmp key q) ≡ true → key ≡ q
        same_key e = (same_values-Decides key q).0 (sym (is_eq_row_cmp key q) ∙ e)
    by false e h = ap group_of (h e)

-- a tuple with values stands behind those that have them
pub grouped_more : (cols : List ℕ) (pool : List Tuple) (m n : BTreeMap (List Value) (List Tuple)) (key : List Value) (t : Tuple) → values_of (slice_get t.vals) cols ≡ Some key → GroupsBy cols pool m → PutsAt m n key t
    → GroupsBy cols (pool ++ (t ∷ [])) n
grouped_more cols pool m n key t e h put q =
    put q
    ∙ by (is_eq (row_cmp key q)) refl
    ∙ sym (filter-append (has_key cols q) pool (t ∷ []))
  where
    has : (b : Bool) → is_eq (row_cmp key q) ≡ b → has_key cols q t ≡ b
    has b k = ap (is_key q) e ∙ k

    by : (b : Bool) → is_eq (row_cmp key q) ≡ b → cond b (group_of (get row_cmp m q) ++ (t ∷ [])) (group_of (get row_cmp m q)) ≡ filter (has_key cols q) pool ++ filter (has_key cols q) (t ∷ [])
    by true k = ap (λ (x : List Tuple). x ++ (t ∷ [])) (h q) ∙ ap (λ b. filter (has_key cols q) pool ++ cond b (t ∷ []) []) (sym (has true k))
    by false k = h q ∙ sym (end (filter (has_key cols q) pool)) ∙ ap (λ b. filter (has_key cols q) pool ++ cond b (t ∷ []) []) (sym (has false k))
      where
        end : (xs : List Tuple) → xs ++ [] ≡ xs
        end [] = refl
        end (x ∷ xs) = ap (λ (r : List Tuple). x ∷ r) (end xs)

-- a tuple that hasn't the columns stands nowhere
pub grouped_same : (cols : List ℕ) (pool : List Tuple) (m : BTreeMap (List Value) (List Tuple)) (t : Tuple) → values_of (slice_get t.vals) cols ≡ None → GroupsBy cols pool m → GroupsBy cols (pool ++ (t ∷ [])) m
grouped_same cols pool m t e h q =
    h q
    ∙ sym (end (filter (has_key cols q) pool))
    ∙ ap (λ b. filter (has_key cols q) pool ++ cond b (t ∷ []) []) (sym (ap (is_key q) e))
    ∙ sym (filter-append (has_key cols q) pool (t ∷ []))
  where
    end : (xs : List Tuple) → xs ++ [] ≡ xs
    end [] = refl
    end (x ∷ xs) = ap (λ (r : List Tuple). x ∷ r) (end xs)

-- ---- places

pub index_tied : (a b : (ℕ × ℕ) × ℕ) → is_eq (index_cmp a b) ≡ true → a ≡ b
index_tied a b e = by (pair_cmp a.0 b.0) refl e
  where
    with_bits : ℕ × ℕ → ℕ → (ℕ × ℕ) × ℕ
    with_bits p n = (p, n)

    by : (o : Ordering) → pair_cmp a.0 b.0 ≡ o → is_eq (ordering_then o (nat_cmp a.1 b.1)) ≡ true → a ≡ b
    by Less k i = absurd (false≢true i)
    by Equal k i = ap (λ p. with_bits p a.1) (pair_tied a.0 b.0 (ap is_eq k)) ∙ ap (λ n. with_bits b.0 n) (same_number a.1 b.1 i)
    by Greater k i = absurd (false≢true i)
