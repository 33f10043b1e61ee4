-- Deepest suffixes: what they are, and how they change with the set.
use Rattle.std.proofs.Common.{◌≡◌, ◌∙◌, ℕ, ◌≤◌, ◌<◌, Bool, true, false, not, ◌&&◌, ◌||◌, nat_lt, cond, List, [], ◌∷◌, ◌++◌, refl, ap, sym, inl, inr, suc, arith, length, Some, slice_get}
use Rattle.std.specs.List.{list_any, list_all}
use Rattle.std.specs.Ordering.{is_eq, is_lt, nat_cmp, ordering_then}
use Rattle.std.specs.declared.cmp.Ordering.TheVariants.{Greater}
use Rattle.std.specs.Cmp.Lexicographic.{slice_cmp}
use Rattle.std.proofs.lemmas.Bool.{cases_Bool, and_parts, and_from, and_right, or_left, or_right, or_from, or_cases, false≢true, false_from_ne_true, cond-true, cond-false, ltb-true, lt-ltb}
use Rattle.std.proofs.lemmas.Bool.Decides.{nat_tests}
use Rattle.bdb_base.specs.declared.kinds.Sign.TheVariants.{Plus, Minus}
use Rattle.bdb_base.specs.Alternation.{tail}
use Rattle.bdb_base.specs.Clash.{clash}
use Rattle.bdb_base.specs.Order.{path_cmp}
use Rattle.bdb_base.specs.OrderLemmas.{is_eq_path_cmp}
use Rattle.bdb_base.specs.Same.{same_path}
use Rattle.bdb_base.specs.SameLemmas.{same_path-Decides}
use Rattle.bdb_base.specs.Segments.{is_suffix}
use Rattle.bdb_base.specs.SortedSet.{ascending, is_member}
use Rattle.bdb_base.specs.States.{is_state, deepest_suffix}
use Rattle.bdb_base.specs.Worlds.{stated}
use Rattle.bdb_base.proofs.WorldLemmas.{plain_inheritance}
use Rattle.bdb_base.proofs.ListLemmas.{list_any_same}
use Rattle.bdb_base.proofs.SegmentLemmas.{suffix_itself, length-suffix}
use Rattle.bdb_paths.specs.PathLaws.{DeepestSuffixIsLongest, StatesStandForPaths, StatesBelieveForPaths, SuffixesExtend, SuffixesGain, SuffixesLose, with_path, without_path}
use Rattle.bdb_paths.proofs.StateLemmas.{path_turned}

pub deepest_here : (P : List ℕ → Bool) (i : ℕ) (w : List ℕ) → P (i ∷ w) ≡ true → deepest_suffix P (i ∷ w) ≡ i ∷ w
deepest_here P i w e = cond-true (P (i ∷ w)) (i ∷ w) (deepest_suffix P w) e

pub deepest_past : (P : List ℕ → Bool) (i : ℕ) (w : List ℕ) → P (i ∷ w) ≡ false → deepest_suffix P (i ∷ w) ≡ deepest_suffix P w
deepest_past P i w e = cond-false (P (i ∷ w)) (i ∷ w) (deepest_suffix P w) e

-- a member is its own deepest suffix
pub deepest_of_member : (P : List ℕ → Bool) (w : List ℕ) → P w ≡ true → deepest_suffix P w ≡ w
deepest_of_member P [] e = refl
deepest_of_member P (i ∷ w) e = deepest_here P i w e

-- sets with the same paths have the same deepest suffixes
pub deepest_same : (P Q : List ℕ → Bool) → ((w : List ℕ) → P w ≡ Q w) → (w : List ℕ) → deepest_suffix P w ≡ deepest_suffix Q w
deepest_same P Q h [] = refl
deepest_same P Q h (i ∷ w) = ap (λ b. cond b (i ∷ w) (deepest_suffix P w)) (h (i ∷ w)) ∙ ap (λ v. cond (Q (i ∷ w)) (i ∷ w) v) (deepest_same P Q h w)

pub length-deepest : (P : List ℕ → Bool) (w : List ℕ) → length (deepest_suffix P w) ≤ length w
length-deepest P [] = omega arith
length-deepest P (i ∷ w) = elim (cases_Bool (P (i ∷ w))) [
  | inl e ↦ let d = ap length (deepest_here P i w e) in omega arith
  | inr e ↦ let d = ap length (deepest_past P i w e) in let k = length-deepest P w in omega arith
]

-- ---- the longest

pub deepest_is_member : (P : List ℕ → Bool) (w : List ℕ) → P [] ≡ true → P (deepest_suffix P w) ≡ true
deepest_is_member P [] root = root
deepest_is_member P (i ∷ w) root = elim (cases_Bool (P (i ∷ w))) [
  | inl e ↦ ap P (deepest_here P i w e) ∙ e
  | inr e ↦ ap P (deepest_past P i w e) ∙ deepest_is_member P w root
]

pub deepest_is_suffix : (P : List ℕ → Bool) (w : List ℕ) → is_suffix (deepest_suffix P w) w ≡ true
deepest_is_suffix P [] = refl
deepest_is_suffix P (i ∷ w) = elim (cases_Bool (P (i ∷ w))) [
  | inl e ↦ ap (λ v. is_suffix v (i ∷ w)) (deepest_here P i w e) ∙ suffix_itself (i ∷ w)
  | inr e ↦ ap (λ v. is_suffix v (i ∷ w)) (deepest_past P i w e)
      ∙ or_right (same_path (deepest_suffix P w) (i ∷ w)) (is_suffix (deepest_suffix P w) w) (deepest_is_suffix P w)
]

pub none_is_longer : (P : List ℕ → Bool) (w v : List ℕ) → P v ≡ true → is_suffix v w ≡ true → length v ≤ length (deepest_suffix P w)
none_is_longer P [] v e h = length-suffix v [] h
none_is_longer P (i ∷ w) v e h = elim (cases_Bool (P (i ∷ w))) [
  | inl t ↦ let d = ap length (deepest_here P i w t) in let k = length-suffix v (i ∷ w) h in omega arith
  | inr f ↦ elim (or_cases (same_path v (i ∷ w)) (is_suffix v w) h) [
    | inl a ↦ absurd (false≢true (sym f ∙ ap P (sym ((same_path-Decides v (i ∷ w)).0 a)) ∙ e))
    | inr b ↦ let d = ap length (deepest_past P i w f) in let k = none_is_longer P w v e b in omega arith
  ]
]

pub deepest_suffix_is_longest : DeepestSuffixIsLongest
deepest_suffix_is_longest P w root = (deepest_is_member P w root, deepest_is_suffix P w, none_is_longer P w)

-- ---- worlds

pub states_stand_for_paths : StatesStandForPaths
states_stand_for_paths keys stmts [] t s = refl
states_stand_for_paths keys stmts (i ∷ w) t s = elim (cases_Bool (is_state stmts (i ∷ w))) [
  | inl e ↦ ap (λ v. stated keys stmts v t s) (sym (deepest_here (is_state stmts) i w e))
  | inr e ↦ plain_inheritance keys stmts (i ∷ w) e t s ∙ states_stand_for_paths keys stmts w t s ∙ ap (λ v. stated keys stmts v t s) (sym (deepest_past (is_state stmts) i w e))
]

pub states_believe_for_paths : StatesBelieveForPaths
states_believe_for_paths keys stmts w t Plus = states_stand_for_paths keys stmts w t Plus
states_believe_for_paths keys stmts w t Minus =
    let v = deepest_suffix (is_state stmts) w in
    ap (λ b. b || list_any (λ x. clash keys t Plus x.tuple Plus && stated keys stmts w x.tuple Plus) stmts) (states_stand_for_paths keys stmts w t Minus)
    ∙ ap (λ b. stated keys stmts v t Minus || b)
    (list_any_same (λ x. clash keys t Plus x.tuple Plus && stated keys stmts w x.tuple Plus) (λ x. clash keys t Plus x.tuple Plus && stated keys stmts v x.tuple Plus)
    (λ x. ap (λ b. clash keys t Plus x.tuple Plus && b) (states_stand_for_paths keys stmts w x.tuple Plus)) stmts)

-- ---- longer paths, and other sets

pub suffixes_extend : SuffixesExtend
suffixes_extend P h [] i = refl
suffixes_extend P h (j ∷ w) i = elim (cases_Bool (P (j ∷ w))) [
  | inl e ↦ ap (λ v. deepest_suffix P (v ++ i ∷ [])) (sym (deepest_here P j w e))
  | inr e ↦
      let n : P (j ∷ (w ++ i ∷ [])) ≡ false = false_from_ne_true (P (j ∷ (w ++ i ∷ []))) (λ t. false≢true (sym e ∙ h (j ∷ w) (i ∷ []) t)) in
      deepest_past P j (w ++ i ∷ []) n ∙ suffixes_extend P h w i ∙ ap (λ v. deepest_suffix P (v ++ i ∷ [])) (sym (deepest_past P j w e))
]

-- a suffix is no longer than the path, so it is none of a shorter one
not_shorter : (p w : List ℕ) → length w ≤ length p → (is_suffix p w && nat_lt (length w) (length p)) ≡ false
not_shorter p w h = false_from_ne_true (is_suffix p w && nat_lt (length w) (length p))
    (λ t.
    let k = and_parts (is_suffix p w) (nat_lt (length w) (length p)) t in
    let a = length-suffix p w k.0 in
    let b = ltb-true (length w) (length p) k.1 in
    absurd (omega arith))

pub suffixes_gain : SuffixesGain
suffixes_gain P p [] =
    sym (cond-false (is_suffix p [] && nat_lt 0 (length p)) p [] (not_shorter p [] (omega arith)))
suffixes_gain P p (i ∷ w) =
    let q = i ∷ w in
    elim (cases_Bool (P q)) [
      | inl e ↦
          let now : with_path P p q ≡ true = or_left (P q) (same_path q p) e in
          let old = deepest_here P i w e in
          let n : (is_suffix p q && nat_lt (length (deepest_suffix P q)) (length p)) ≡ false = ap (λ v. is_suffix p q && nat_lt (length v) (length p)) old ∙ too_long p q in
          deepest_here (with_path P p) i w now ∙ sym old ∙ sym (cond-false (is_suffix p q && nat_lt (length (deepest_suffix P q)) (length p)) p (deepest_suffix P q) n)
      | inr e ↦ elim (cases_Bool (same_path q p)) [
        | inl s ↦
            let is : q ≡ p = (same_path-Decides q p).0 s in
            let now : with_path P p q ≡ true = or_right (P q) (same_path q p) s in
            let old = ap length (deepest_past P i w e) in
            let k = length-deepest P w in
            let l = ap length is in
            let b : (is_suffix p q && nat_lt (length (deepest_suffix P q)) (length p)) ≡ true = and_from (is_suffix p q) (nat_lt (length (deepest_suffix P q)) (length p))
            (ap (λ v. is_suffix p v) is ∙ suffix_itself p) (lt-ltb (length (deepest_suffix P q)) (length p) (omega arith)) in
            deepest_here (with_path P p) i w now ∙ is ∙ sym (cond-true (is_suffix p q && nat_lt (length (deepest_suffix P q)) (length p)) p (deepest_suffix P q) b)
        | inr s ↦
            let now : with_path P p q ≡ false = or_from (P q) (same_path q p) e s in
            let old = deepest_past P i w e in
            let b : is_suffix p q ≡ is_suffix p w = ap (λ c. c || is_suffix p w) (path_turned p q ∙ s) in
            deepest_past (with_path P p) i w now ∙ suffixes_gain P p w
            ∙ ap (λ v. cond (is_suffix p w && nat_lt (length v) (length p)) p v) (sym old)
            ∙ ap (λ c. cond (c && nat_lt (length (deepest_suffix P q)) (length p)) p (deepest_suffix P q)) (sym b)
      ]
    ]
  where
    too_long : (p q : List ℕ) → (is_suffix p q && nat_lt (length q) (length p)) ≡ false
    too_long p q = false_from_ne_true (is_suffix p q && nat_lt (length q) (length p))
        (λ t.
        let k = and_parts (is_suffix p q) (nat_lt (length q) (length p)) t in
        let a = length-suffix p q k.0 in
        let b = ltb-true (length q) (length p) k.1 in
        absurd (omega arith))

-- paths of different lengths differ
differs_by_length : (v p : List ℕ) → length v < length p → same_path v p ≡ false
differs_by_length v p h = false_from_ne_true (same_path v p) (λ t. let e = ap length ((same_path-Decides v p).0 t) in absurd (omega arith))

pub suffixes_lose : SuffixesLose
suffixes_lose P p [] n = sym (cond-false (same_path [] p) (deepest_suffix P (tail p)) [] (false_from_ne_true (same_path [] p) (λ t. n (sym ((same_path-Decides [] p).0 t)))))
suffixes_lose P p (i ∷ w) n =
    let q = i ∷ w in
    elim (cases_Bool (P q)) [
      | inr e ↦
          let now : without_path P p q ≡ false = ap (λ b. b && not (same_path q p)) e in
          deepest_past (without_path P p) i w now ∙ suffixes_lose P p w n
          ∙ ap (λ v. cond (same_path v p) (deepest_suffix P (tail p)) v) (sym (deepest_past P i w e))
      | inl e ↦
          let old = deepest_here P i w e in
          elim (cases_Bool (same_path q p)) [
            | inl s ↦
                let is : q ≡ p = (same_path-Decides q p).0 s in
                let now : without_path P p q ≡ false = and_right (P q) (not (same_path q p)) (ap not s) in
                let l = ap length is in
                let k = length-deepest P w in
                let apart : same_path (deepest_suffix P w) p ≡ false = differs_by_length (deepest_suffix P w) p (omega arith) in
                deepest_past (without_path P p) i w now ∙ suffixes_lose P p w n
                ∙ cond-false (same_path (deepest_suffix P w) p) (deepest_suffix P (tail p)) (deepest_suffix P w) apart
                ∙ ap (λ v. deepest_suffix P (tail v)) is
                ∙ sym (cond-true (same_path (deepest_suffix P q) p) (deepest_suffix P (tail p)) (deepest_suffix P q) (ap (λ v. same_path v p) old ∙ s))
            | inr s ↦
                let now : without_path P p q ≡ true = and_from (P q) (not (same_path q p)) e (ap not s) in
                deepest_here (without_path P p) i w now ∙ sym old
                ∙ sym (cond-false (same_path (deepest_suffix P q) p) (deepest_suffix P (tail p)) (deepest_suffix P q) (ap (λ v. same_path v p) old ∙ s))
          ]
    ]

-- ---- the empty path in a list of paths

above_root : (n : ℕ) → nat_cmp (suc n) 0 ≡ Greater
above_root n = grind (arith, nat_tests)

-- no path is below the empty one
root_is_least : (w : List ℕ) → is_lt (path_cmp w []) ≡ false
root_is_least [] = refl
root_is_least (i ∷ w) = ap (λ r. is_lt (ordering_then r (slice_cmp nat_cmp (i ∷ w) []))) (above_root (length w))

-- the empty path comes first
pub root_comes_first : (xs : List (List ℕ)) → ascending path_cmp xs ≡ true → is_member path_cmp xs [] ≡ true → slice_get xs 0 ≡ Some []
root_comes_first [] h e = absurd (false≢true e)
root_comes_first (y ∷ ys) h e = elim (or_cases (is_eq (path_cmp y [])) (is_member path_cmp ys []) e) [
  | inl a ↦ ap Some ((same_path-Decides y []).0 (sym (is_eq_path_cmp y []) ∙ a))
  | inr b ↦ absurd (none ys (and_parts (list_all (λ z. is_lt (path_cmp y z)) ys) (ascending path_cmp ys) h).0 b)
]
  where
    none : (zs : List (List ℕ)) → list_all (λ z. is_lt (path_cmp y z)) zs ≡ true → is_member path_cmp zs [] ≡ true → ⊥
    none [] g m = false≢true m
    none (z ∷ zs) g m =
        let k = and_parts (is_lt (path_cmp y z)) (list_all (λ x. is_lt (path_cmp y x)) zs) g in
        elim (or_cases (is_eq (path_cmp z [])) (is_member path_cmp zs []) m) [
          | inl a ↦ false≢true (sym (root_is_least y) ∙ ap (λ v. is_lt (path_cmp y v)) (sym ((same_path-Decides z []).0 (sym (is_eq_path_cmp z []) ∙ a))) ∙ k.0)
          | inr b ↦ none zs k.1 b
        ]
