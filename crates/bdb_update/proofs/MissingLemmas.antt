-- How many worlds a statement brings, by how far its path goes along states.
use Rattle.std.proofs.Common.{◌≡◌, ◌∙◌, ℕ, ◌-◌, ◌≤◌, ◌<◌, Bool, true, false, not, cond, List, [], ◌∷◌, refl, ap, suc, zero, arith, length, take, map, filter}
use Rattle.bdb_base.specs.States.{prefixes}
use Rattle.bdb_base.proofs.ListLemmas.{filter_kept_one, filter_dropped_one}

filter_map : (q : List ℕ → Bool) (i : ℕ) (ps : List (List ℕ)) → length (filter q (map (λ p. i ∷ p) ps)) ≡ length (filter (λ p. q (i ∷ p)) ps)
filter_map q i [] = refl
filter_map q i (p ∷ ps) = by (q (i ∷ p)) (filter_map q i ps)
  where
    by : (b : Bool) → length (filter q (map (λ p. i ∷ p) ps)) ≡ length (filter (λ p. q (i ∷ p)) ps)
        → length (cond b ((i ∷ p) ∷ filter q (map (λ p. i ∷ p) ps)) (filter q (map (λ p. i ∷ p) ps))) ≡ length (cond b (p ∷ filter (λ p. q (i ∷ p)) ps) (filter (λ p. q (i ∷ p)) ps))
    by true e = ap suc e
    by false e = e

-- prefixes of a path none of which is in a set
all_missing : (P : List ℕ → Bool) (w : List ℕ) → ((j : ℕ) → j ≤ length w → P (take j w) ≡ false) → length (filter (λ p. not (P p)) (prefixes w)) ≡ suc (length w)
all_missing P [] none = ap length (filter_kept_one (λ p. not (P p)) [] [] (ap not (none 0 (omega arith))))
all_missing P (i ∷ w) none =
    let rest : length (filter (λ p. not (P (i ∷ p))) (prefixes w)) ≡ suc (length w) = all_missing (λ p. P (i ∷ p)) w (λ j l. none (suc j) (omega arith)) in
    ap length (filter_kept_one (λ p. not (P p)) [] (map (λ p. i ∷ p) (prefixes w)) (ap not (none 0 (omega arith))))
    ∙ ap suc (filter_map (λ p. not (P p)) i (prefixes w) ∙ rest)

-- prefixes of a path that are in a set up to a length, and not beyond it
pub missing_behind : (P : List ℕ → Bool) (w : List ℕ) (len : ℕ) → len ≤ length w → ((j : ℕ) → j ≤ len → P (take j w) ≡ true) → ((j : ℕ) → len < j → j ≤ length w → P (take j w) ≡ false)
    → length (filter (λ p. not (P p)) (prefixes w)) ≡ length w - len
missing_behind P [] len l there none =
    let e : 0 ≡ 0 - len = omega arith in
    ap length (filter_dropped_one (λ p. not (P p)) [] [] (ap not (there 0 (omega arith)))) ∙ e
missing_behind P (i ∷ w) zero l there none =
    let e : suc (length w) ≡ suc (length w) - 0 = omega arith in
    ap length (filter_dropped_one (λ p. not (P p)) [] (map (λ p. i ∷ p) (prefixes w)) (ap not (there 0 (omega arith))))
    ∙ filter_map (λ p. not (P p)) i (prefixes w)
    ∙ all_missing (λ p. P (i ∷ p)) w (λ j m. none (suc j) (omega arith) (omega arith)) ∙ e
missing_behind P (i ∷ w) (suc len) l there none =
    let rest : length (filter (λ p. not (P (i ∷ p))) (prefixes w)) ≡ length w - len =
    missing_behind (λ p. P (i ∷ p)) w len (omega arith) (λ j m. there (suc j) (omega arith)) (λ j m n. none (suc j) (omega arith) (omega arith)) in
    let e : length w - len ≡ suc (length w) - suc len = omega arith in
    ap length (filter_dropped_one (λ p. not (P p)) [] (map (λ p. i ∷ p) (prefixes w)) (ap not (there 0 (omega arith))))
    ∙ filter_map (λ p. not (P p)) i (prefixes w) ∙ rest ∙ e
