-- Numbers of eight bytes come in the order of their bytes.
use Rattle.std.proofs.Common.{◌≡◌, ℕ, ◌^◌, ◌<◌, List, ◌++◌, refl, sym, ap, ◌∙◌}
use Rattle.std.specs.declared.cmp.Ordering.{Ordering}
use Rattle.std.specs.declared.cmp.Ordering.TheVariants.{Less, Equal, Greater}
use Rattle.std.specs.Ordering.{nat_cmp, ordering_then}
use Rattle.std.specs.Cmp.Lexicographic.{slice_cmp}
use Rattle.std.specs.Int.{to_be_bytes, w64}
use Rattle.std.proofs.lemmas.Map.Lookups.{exact_unsigned}
use Rattle.bdb_base.proofs.Numbers.{equal, numbers}

-- bytes that begin with eight each compare by the numbers of these, and then by what follows
pub words : (a b x y : List ℕ) (m n : ℕ) → a ≡ to_be_bytes w64 m ++ x → b ≡ to_be_bytes w64 n ++ y → m < 2 ^ 64 → n < 2 ^ 64
    → slice_cmp nat_cmp a b ≡ ordering_then (nat_cmp m n) (slice_cmp nat_cmp x y)
words a b x y m n e f hm hn =
    ap (λ (v : List ℕ). slice_cmp nat_cmp v b) e ∙ ap (λ (v : List ℕ). slice_cmp nat_cmp (to_be_bytes w64 m ++ x) v) f ∙ numbers 8 m n x y hm hn

-- the same where these numbers differ
pub words_apart : (a b x y : List ℕ) (m n : ℕ) (r : Ordering) → a ≡ to_be_bytes w64 m ++ x → b ≡ to_be_bytes w64 n ++ y → m < 2 ^ 64 → n < 2 ^ 64
    → (m ≡ n → ⊥) → r ≡ nat_cmp m n → r ≡ slice_cmp nat_cmp a b
words_apart a b x y m n r e f hm hn apart h = h ∙ decided (nat_cmp m n) refl ∙ sym (words a b x y m n e f hm hn)
  where
    decided : (o : Ordering) → nat_cmp m n ≡ o → o ≡ ordering_then o (slice_cmp nat_cmp x y)
    decided Less t = refl
    decided Equal t = absurd (apart (exact_unsigned m n t))
    decided Greater t = refl

-- the same where these numbers are equal
pub words_same : (a b x y : List ℕ) (m n : ℕ) (r : Ordering) → a ≡ to_be_bytes w64 m ++ x → b ≡ to_be_bytes w64 n ++ y → m < 2 ^ 64 → n < 2 ^ 64
    → m ≡ n → r ≡ slice_cmp nat_cmp x y → r ≡ slice_cmp nat_cmp a b
words_same a b x y m n r e f hm hn same h = h ∙ ap (λ o. ordering_then o (slice_cmp nat_cmp x y)) (sym (ap (λ k. nat_cmp k n) same ∙ equal n)) ∙ sym (words a b x y m n e f hm hn)
