-- Bytes that begin alike lie side by side in the order of bytes.
use Rattle.std.proofs.Common.{◌≡◌, ℕ, true, List, refl, sym, ap, ◌∙◌}
use Rattle.std.specs.declared.cmp.Ordering.{Ordering}
use Rattle.std.specs.declared.cmp.Ordering.TheVariants.{Less, Equal, Greater}
use Rattle.std.specs.Ordering.{is_le}
use Rattle.std.proofs.lemmas.Cmp.{nat_list_cmp_total, tied_itself}
use Rattle.bdb_keep.specs.Tables.{bytes_cmp}
use Rattle.bdb_keep.specs.Scans.{next_key}
use Rattle.bdb_keep.proofs.Scans.{above_key}
use Rattle.bdb_key.proofs.Forms.{same_bytes}

-- ---- the order of bytes

pub le_itself : (a : List ℕ) → is_le (bytes_cmp a a) ≡ true
le_itself a = ap is_le (tied_itself nat_list_cmp_total a)

pub lt_le_lt : (a b c : List ℕ) → bytes_cmp a b ≡ Less → is_le (bytes_cmp b c) ≡ true → bytes_cmp a c ≡ Less
lt_le_lt a b c lt le = by (bytes_cmp b c) refl le
  where
    by : (r : Ordering) → bytes_cmp b c ≡ r → is_le r ≡ true → bytes_cmp a c ≡ Less
    by Less e h = nat_list_cmp_total.trans a b c lt e
    by Equal e h = ap (bytes_cmp a) (sym (same_bytes b c e)) ∙ lt
    by Greater e h = absurd cc

pub le_trans : (a b c : List ℕ) → is_le (bytes_cmp a b) ≡ true → is_le (bytes_cmp b c) ≡ true → is_le (bytes_cmp a c) ≡ true
le_trans a b c ab bc = by (bytes_cmp a b) refl ab
  where
    by : (r : Ordering) → bytes_cmp a b ≡ r → is_le r ≡ true → is_le (bytes_cmp a c) ≡ true
    by Less e h = ap is_le (lt_le_lt a b c e bc)
    by Equal e h = ap (λ x. is_le (bytes_cmp x c)) (same_bytes a b e) ∙ bc
    by Greater e h = absurd cc

-- a key lies below the least that is above it
pub below_next : (k : List ℕ) → bytes_cmp k (next_key k) ≡ Less
below_next k = above_key k (next_key k) (le_itself (next_key k))
