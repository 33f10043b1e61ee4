-- Which deepest ends change where a path joins a set, told by paths.
use Rattle.std.proofs.Common.{◌≡◌, ◌∙◌, ℕ, ◌≤◌, ◌<◌, Bool, true, false, nat_lt, List, [], ◌∷◌, ◌++◌, refl, ap, sym, inl, inr, ◌⊎◌, arith, length, append_assoc}
use Rattle.std.proofs.lemmas.Bool.{cases_Bool, and_parts, and_from, or_cases, or_right, ltb-true, lt-ltb}
use Rattle.bdb_base.specs.Same.{same_path}
use Rattle.bdb_base.specs.SameLemmas.{same_path-Decides}
use Rattle.bdb_base.specs.Segments.{is_suffix}
use Rattle.bdb_base.specs.States.{HasPrefixes, deepest_suffix}
use Rattle.bdb_base.proofs.SegmentLemmas.{suffix_itself}
use Rattle.bdb_paths.proofs.SuffixLemmas.{deepest_past, deepest_of_member, deepest_is_member, length-deepest, deepest_is_suffix, none_is_longer, suffixes_extend}
use Rattle.bdb_names.specs.Moves.{gains}
use Rattle.bdb_names.proofs.Ends.{front_of, ends_with, suffix_then, length_more, suffix_more, end_of_more, more_is_end, deep_behind, deep_has, deep_is_shorter}

-- a path gains one that joins the set: it ends in it, and its deepest end was shorter
pub record Gains (P : List ℕ → Bool) (p w : List ℕ) : Type 0 where
  pub ends : is_suffix p w ≡ true
  pub shorter : length (deepest_suffix P w) < length p

pub gains_parts : (P : List ℕ → Bool) (p w : List ℕ) → gains P p w ≡ true → Gains P p w
gains_parts P p w h =
    let k = and_parts (is_suffix p w) (nat_lt (length (deepest_suffix P w)) (length p)) h in
    record { ends = k.0; shorter = ltb-true (length (deepest_suffix P w)) (length p) k.1 }

pub gains_from : (P : List ℕ → Bool) (p w : List ℕ) → Gains P p w → gains P p w ≡ true
gains_from P p w g = and_from (is_suffix p w) (nat_lt (length (deepest_suffix P w)) (length p)) g.ends (lt-ltb (length (deepest_suffix P w)) (length p) g.shorter)

-- a path that gains has the deepest end that the new one has
pub gains_led : (P : List ℕ → Bool) (p w : List ℕ) → Gains P p w → deepest_suffix P w ≡ deepest_suffix P p
gains_led P p w g =
    let f = front_of p w g.ends in
    let l = ap (λ x. length (deepest_suffix P x)) f.1 in
    let s = g.shorter in
    ap (deepest_suffix P) f.1 ∙ deep_behind P f.0 p (omega arith)

pub new_gains : (P : List ℕ → Bool) (p : List ℕ) → P p ≡ false → 0 < length p → Gains P p p
new_gains P p f some = record { ends = suffix_itself p; shorter = deep_is_shorter P p f some }

module _ (P : List ℕ → Bool) (whole : HasPrefixes P) (q : List ℕ) (i : ℕ) where
  abbrev leaf : List ℕ
  leaf = q ++ i ∷ []

  -- the deepest end of a longer path by way of the deepest end
  extend : (w : List ℕ) → deepest_suffix P (w ++ i ∷ []) ≡ deepest_suffix P (deepest_suffix P w ++ i ∷ [])
  extend w = suffixes_extend P whole w i

  -- what gains is longer than the leaf's front
  pub front_ends : (w : List ℕ) → Gains P leaf (w ++ i ∷ []) → is_suffix q w ≡ true
  front_ends w g = (more_is_end q w i i g.ends).1

  -- a path with a first user more, whose deepest end is no deeper than the leaf's, gains where its link's target does
  pub child_gains : (a : ℕ) (x : List ℕ) → Gains P leaf (deepest_suffix P x ++ i ∷ []) → length (deepest_suffix P ((a ∷ x) ++ i ∷ [])) < length leaf
      → Gains P leaf ((a ∷ x) ++ i ∷ [])
  child_gains a x g short =
      let v = deepest_suffix P x in
      let h = suffix_then q v x (front_ends v g) (deepest_is_suffix P x) in
      record { ends = suffix_more q (a ∷ x) i (or_right (same_path q (a ∷ x)) (is_suffix q x) h); shorter = short }

  -- where its deepest end is as deep as the leaf, it is itself a member with the user, and its tail gains
  pub record IsMet (a : ℕ) (x : List ℕ) : Type 0 where
    pub here : deepest_suffix P ((a ∷ x) ++ i ∷ []) ≡ (a ∷ x) ++ i ∷ []
    pub tail_gains : Gains P leaf (x ++ i ∷ [])

  pub child_met : (a : ℕ) (x : List ℕ) → P leaf ≡ false → P [] ≡ true → Gains P leaf (deepest_suffix P x ++ i ∷ [])
      → length leaf ≤ length (deepest_suffix P ((a ∷ x) ++ i ∷ [])) → IsMet a x
  child_met a x new root g long = record { here = whole_deep (end_of_more y (a ∷ x) i (deepest_is_suffix P w)); tail_gains = tail_gains }
    where
      w : List ℕ
      w = (a ∷ x) ++ i ∷ []

      y : List ℕ
      y = deepest_suffix P w

      v : List ℕ
      v = deepest_suffix P x

      by_tail : (u : List ℕ) → y ≡ u ++ i ∷ [] → is_suffix u x ≡ true → ⊥
      by_tail u e h =
          let m : P u ≡ true = whole u (i ∷ []) (ap P (sym e) ∙ deepest_is_member P w root) in
          let b = suffix_more u v i (deep_has P u x m h) in
          let n = none_is_longer P (v ++ i ∷ []) (u ++ i ∷ []) (ap P (sym e) ∙ deepest_is_member P w root) b in
          let s = g.shorter in
          let l = ap length e in
          absurd (omega arith)

      whole_deep : (y ≡ []) ⊎ ((u : List ℕ) × (y ≡ u ++ i ∷ []) × (is_suffix u (a ∷ x) ≡ true)) → y ≡ w
      whole_deep (inl e) = let l = ap length e in let m = length_more q i in absurd (omega arith)
      whole_deep (inr u) = elim (or_cases (same_path u.0 (a ∷ x)) (is_suffix u.0 x) u.2) [
        | inl e ↦ u.1 ∙ ap (λ (z : List ℕ). z ++ i ∷ []) ((same_path-Decides u.0 (a ∷ x)).0 e)
        | inr e ↦ absurd (by_tail u.0 u.1 e)
      ]

      tail_gains : Gains P leaf (x ++ i ∷ [])
      tail_gains = record {
        ends = suffix_more q x i (suffix_then q v x (front_ends v g) (deepest_is_suffix P x));
        shorter = let e = ap length (extend x) in let s = g.shorter in omega arith;
      }

  -- what gains, but for the leaf's front, is longer than it, and its link's target gains
  pub record IsBelow (w : List ℕ) : Type 0 where
    pub first : ℕ
    pub back : List ℕ
    pub is : w ≡ first ∷ back
    pub ends : is_suffix q back ≡ true
    pub target_gains : Gains P leaf (deepest_suffix P back ++ i ∷ [])

  pub gains_below : (w : List ℕ) → P q ≡ true → (w ≡ q → ⊥) → Gains P leaf (w ++ i ∷ []) → IsBelow w
  gains_below [] m other g = absurd (other (sym ((same_path-Decides q []).0 (front_ends [] g))))
  gains_below (a ∷ x) m other g = elim (or_cases (same_path q (a ∷ x)) (is_suffix q x) (front_ends (a ∷ x) g)) [
    | inl e ↦ absurd (other (sym ((same_path-Decides q (a ∷ x)).0 e)))
    | inr e ↦
        let v = deepest_suffix P x in
        let d = deepest_suffix P (v ++ i ∷ []) in
        let from = deepest_is_suffix P (v ++ i ∷ []) in
        let up = suffix_then d (v ++ i ∷ []) (x ++ i ∷ []) from (suffix_more v x i (deepest_is_suffix P x)) in
        record {
          first = a;
          back = x;
          is = refl;
          ends = e;
          target_gains = record {
            ends = suffix_more q v i (deep_has P q x m e);
            shorter = let s = g.shorter in let e = ap length (extend x) in let k = shorter_tail (a ∷ x ++ i ∷ []) (x ++ i ∷ []) (tail_no_longer a x) in omega arith;
          };
        }
  ]
    where
      shorter_tail : (b c : List ℕ) → length (deepest_suffix P c) ≤ length (deepest_suffix P b) → length (deepest_suffix P c) ≤ length (deepest_suffix P b)
      shorter_tail b c h = h

      tail_no_longer : (a : ℕ) (x : List ℕ) → length (deepest_suffix P (x ++ i ∷ [])) ≤ length (deepest_suffix P (a ∷ x ++ i ∷ []))
      tail_no_longer a x = elim (cases_Bool (P (a ∷ x ++ i ∷ []))) [
        | inl t ↦
            let e = ap length (deepest_of_member P (a ∷ x ++ i ∷ []) t) in
            let k = length-deepest P (x ++ i ∷ []) in
            omega arith
        | inr f ↦ let e = ap length (deepest_past P a (x ++ i ∷ []) f) in omega arith
      ]

  -- where the tail of a member gains, the member is one with the user at its end, and the link's target of what stands
  -- before it gains
  pub record IsMeeting (y : List ℕ) : Type 0 where
    pub front : List ℕ
    pub is : y ≡ front ++ i ∷ []
    pub ends : is_suffix q front ≡ true
    pub target_gains : Gains P leaf (deepest_suffix P front ++ i ∷ [])

  pub gains_met : (y : List ℕ) → P q ≡ true → Gains P leaf y → IsMeeting y
  gains_met y m g = by (front_of leaf y g.ends)
    where
      by : (u : List ℕ) × (y ≡ u ++ leaf) → IsMeeting y
      by u =
          let x = u.0 ++ q in
          let is : y ≡ x ++ i ∷ [] = u.1 ∙ sym (append_assoc u.0 q (i ∷ [])) in
          let h = ends_with u.0 q in
          record {
            front = x;
            is = is;
            ends = h;
            target_gains = record {
              ends = suffix_more q (deepest_suffix P x) i (deep_has P q x m h);
              shorter = let s = g.shorter in let e = ap length (ap (deepest_suffix P) is ∙ extend x) in omega arith;
            };
          }
