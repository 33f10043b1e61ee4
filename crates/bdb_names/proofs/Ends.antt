-- Ends of paths, and the deepest ones in a set.
use Rattle.std.proofs.Common.{◌≡◌, ◌∙◌, ℕ, ◌≤◌, ◌<◌, Bool, true, false, not, nat_eq, List, [], ◌∷◌, ◌++◌, refl, ap, sym, inl, inr, ◌⊎◌, suc, arith, length, append_assoc, length-append}
use Rattle.std.proofs.lemmas.Bool.{cases_Bool, and_parts, and_right, or_right, or_cases, or_from, false≢true, false_from_ne_true, eqb-true, eq-eqb}
use Rattle.bdb_base.specs.Alternation.{alternates}
use Rattle.bdb_base.specs.Same.{same_path}
use Rattle.bdb_base.specs.SameLemmas.{same_path-Decides}
use Rattle.bdb_base.specs.Segments.{is_suffix}
use Rattle.bdb_base.specs.States.{deepest_suffix}
use Rattle.bdb_base.proofs.SegmentLemmas.{suffix_itself, length-suffix}
use Rattle.bdb_paths.proofs.SuffixLemmas.{deepest_here, deepest_past, length-deepest, deepest_is_suffix, none_is_longer}

-- ---- ends

-- an end has a front
pub front_of : (v w : List ℕ) → is_suffix v w ≡ true → (u : List ℕ) × (w ≡ u ++ v)
front_of v [] h = ([], sym ((same_path-Decides v []).0 h))
front_of v (j ∷ w) h = elim (or_cases (same_path v (j ∷ w)) (is_suffix v w) h) [
  | inl a ↦ ([], sym ((same_path-Decides v (j ∷ w)).0 a))
  | inr b ↦ let f = front_of v w b in (j ∷ f.0, ap (λ (x : List ℕ). j ∷ x) f.1)
]

pub ends_with : (u v : List ℕ) → is_suffix v (u ++ v) ≡ true
ends_with [] v = suffix_itself v
ends_with (j ∷ u) v = or_right (same_path v (j ∷ (u ++ v))) (is_suffix v (u ++ v)) (ends_with u v)

-- an end of an end is an end
pub suffix_then : (a b c : List ℕ) → is_suffix a b ≡ true → is_suffix b c ≡ true → is_suffix a c ≡ true
suffix_then a b [] h k = ap (is_suffix a) (sym ((same_path-Decides b []).0 k)) ∙ h
suffix_then a b (j ∷ c) h k = elim (or_cases (same_path b (j ∷ c)) (is_suffix b c) k) [
  | inl e ↦ ap (is_suffix a) (sym ((same_path-Decides b (j ∷ c)).0 e)) ∙ h
  | inr e ↦ or_right (same_path a (j ∷ c)) (is_suffix a c) (suffix_then a b c h e)
]

-- of two ends the shorter one is an end of the other
pub shorter_end : (a b c : List ℕ) → is_suffix a c ≡ true → is_suffix b c ≡ true → length a ≤ length b → is_suffix a b ≡ true
shorter_end a b [] h k l = ap (is_suffix a) ((same_path-Decides b []).0 k) ∙ h
shorter_end a b (j ∷ c) h k l = elim (or_cases (same_path b (j ∷ c)) (is_suffix b c) k) [
  | inl e ↦ ap (is_suffix a) ((same_path-Decides b (j ∷ c)).0 e) ∙ h
  | inr e ↦ elim (or_cases (same_path a (j ∷ c)) (is_suffix a c) h) [
    | inl f ↦ let g = ap length ((same_path-Decides a (j ∷ c)).0 f) in let n = length-suffix b c e in absurd (omega arith)
    | inr f ↦ shorter_end a b c f e l
  ]
]

-- an end as long as the path is the path
pub whole_end : (a c : List ℕ) → is_suffix a c ≡ true → length c ≤ length a → a ≡ c
whole_end a [] h l = (same_path-Decides a []).0 h
whole_end a (j ∷ c) h l = elim (or_cases (same_path a (j ∷ c)) (is_suffix a c) h) [
  | inl e ↦ (same_path-Decides a (j ∷ c)).0 e
  | inr e ↦ let n = length-suffix a c e in absurd (omega arith)
]

-- ---- one user more

pub length_more : (w : List ℕ) (i : ℕ) → length (w ++ i ∷ []) ≡ suc (length w)
length_more [] i = refl
length_more (j ∷ w) i = ap (λ n. suc n) (length_more w i)

pub suffix_more : (v w : List ℕ) (i : ℕ) → is_suffix v w ≡ true → is_suffix (v ++ i ∷ []) (w ++ i ∷ []) ≡ true
suffix_more v w i h =
    let f = front_of v w h in
    ap (λ (x : List ℕ). is_suffix (v ++ i ∷ []) (x ++ i ∷ [])) f.1 ∙ ap (is_suffix (v ++ i ∷ [])) (append_assoc f.0 v (i ∷ [])) ∙ ends_with f.0 (v ++ i ∷ [])

-- two paths with one user more are the same where the paths and the users are
pub one_more : (v w : List ℕ) (i j : ℕ) → v ++ i ∷ [] ≡ w ++ j ∷ [] → (v ≡ w) × (i ≡ j)
one_more [] [] i j e = (refl, cc)
one_more [] (b ∷ w) i j e = let n = ap length e in let m = length_more w j in absurd (omega arith)
one_more (a ∷ v) [] i j e = let n = ap length e in let m = length_more v i in absurd (omega arith)
one_more (a ∷ v) (b ∷ w) i j e =
    let h : a ≡ b = cc in
    let t : v ++ i ∷ [] ≡ w ++ j ∷ [] = cc in
    let r = one_more v w i j t in
    (ap (λ n. n ∷ v) h ∙ ap (λ (x : List ℕ). b ∷ x) r.0, r.1)

-- an end of a path with one user more is empty, or an end of the path with that user
pub end_of_more : (v w : List ℕ) (i : ℕ) → is_suffix v (w ++ i ∷ []) ≡ true → (v ≡ []) ⊎ ((u : List ℕ) × (v ≡ u ++ i ∷ []) × (is_suffix u w ≡ true))
end_of_more v [] i h = elim (or_cases (same_path v (i ∷ [])) (same_path v []) h) [
  | inl a ↦ inr ([], (same_path-Decides v (i ∷ [])).0 a, refl)
  | inr b ↦ inl ((same_path-Decides v []).0 b)
]
end_of_more v (j ∷ w) i h = elim (or_cases (same_path v (j ∷ (w ++ i ∷ []))) (is_suffix v (w ++ i ∷ [])) h) [
  | inl a ↦ inr (j ∷ w, (same_path-Decides v (j ∷ (w ++ i ∷ []))).0 a, suffix_itself (j ∷ w))
  | inr b ↦ elim (end_of_more v w i b) [
    | inl e ↦ inl e
    | inr u ↦ inr (u.0, u.1, or_right (same_path u.0 (j ∷ w)) (is_suffix u.0 w) u.2)
  ]
]

-- a path with one user more is an end of another one so exactly where the users are the same, and the path is an end
pub more_is_end : (v w : List ℕ) (i j : ℕ) → is_suffix (v ++ i ∷ []) (w ++ j ∷ []) ≡ true → (i ≡ j) × (is_suffix v w ≡ true)
more_is_end v w i j h = elim (end_of_more (v ++ i ∷ []) w j h) [
  | inl e ↦ let n = ap length e in let m = length_more v i in absurd (omega arith)
  | inr u ↦ let o = one_more v u.0 i j u.1 in (o.1, ap (λ x. is_suffix x w) o.0 ∙ u.2)
]

-- a path ends in the user that was added
pub own_end : (w : List ℕ) (i j : ℕ) → is_suffix (j ∷ []) (w ++ i ∷ []) ≡ nat_eq j i
own_end w i j = elim (cases_Bool (nat_eq j i)) [
  | inl e ↦ ap (λ k. is_suffix (k ∷ []) (w ++ i ∷ [])) (eqb-true j i e) ∙ ends_with w (i ∷ []) ∙ sym e
  | inr e ↦ false_from_ne_true (is_suffix (j ∷ []) (w ++ i ∷ [])) (λ t. false≢true (sym e ∙ eq-eqb j i (more_is_end [] w j i t).0)) ∙ sym e
]

-- a path that may be longer by a user doesn't end in the user
pub no_own_end : (w : List ℕ) (i : ℕ) → alternates (w ++ i ∷ []) ≡ true → is_suffix (i ∷ []) w ≡ false
no_own_end [] i h = refl
no_own_end (a ∷ []) i h = false_from_ne_true (is_suffix (i ∷ []) (a ∷ [])) (λ t. by (more_is_end [] [] i a t).0)
  where
    by : i ≡ a → ⊥
    by e =
        let b = (and_parts (not (nat_eq a i)) true h).0 in
        let s = eq-eqb a i (sym e) in
        false≢true (sym (ap not s) ∙ b)
no_own_end (a ∷ b ∷ w) i h =
    let rest = (and_parts (not (nat_eq a b)) (alternates (b ∷ w ++ i ∷ [])) h).1 in
    or_from (same_path (i ∷ []) (a ∷ b ∷ w)) (is_suffix (i ∷ []) (b ∷ w)) (and_right (nat_eq i a) (same_path [] (b ∷ w)) refl) (no_own_end (b ∷ w) i rest)

-- an end of what doesn't end in a user doesn't
pub ends_otherwise : (i : ℕ) (v w : List ℕ) → is_suffix v w ≡ true → is_suffix (i ∷ []) w ≡ false → is_suffix (i ∷ []) v ≡ false
ends_otherwise i v w h f = false_from_ne_true (is_suffix (i ∷ []) v) (λ t. false≢true (sym f ∙ suffix_then (i ∷ []) v w t h))

-- ---- the deepest end

-- a deepest end that is no longer than the back is the back's
pub deep_behind : (P : List ℕ → Bool) (u v : List ℕ) → length (deepest_suffix P (u ++ v)) ≤ length v → deepest_suffix P (u ++ v) ≡ deepest_suffix P v
deep_behind P [] v h = refl
deep_behind P (j ∷ u) v h = elim (cases_Bool (P (j ∷ (u ++ v)))) [
  | inl e ↦
      let d = ap length (deepest_here P j (u ++ v) e) in
      let n = length-append u v in
      absurd (omega arith)
  | inr e ↦
      let d = deepest_past P j (u ++ v) e in
      let n = ap length d in
      d ∙ deep_behind P u v (omega arith)
]

-- a member that is an end is an end of the deepest one
pub deep_has : (P : List ℕ → Bool) (q w : List ℕ) → P q ≡ true → is_suffix q w ≡ true → is_suffix q (deepest_suffix P w) ≡ true
deep_has P q w m h = shorter_end q (deepest_suffix P w) w h (deepest_is_suffix P w) (none_is_longer P w q m h)

-- what is no member has a shorter deepest end
pub deep_is_shorter : (P : List ℕ → Bool) (w : List ℕ) → P w ≡ false → 0 < length w → length (deepest_suffix P w) < length w
deep_is_shorter P [] f some = absurd (omega arith)
deep_is_shorter P (j ∷ w) f some = let d = ap length (deepest_past P j w f) in let n = length-deepest P w in omega arith
