-- Grounds and ends of paths by states and suffix links.
use Rattle.std.proofs.Common.{◌≡◌, ◌∙◌, ℕ, ◌+◌, ◌-◌, ◌≤◌, Bool, true, false, ◌&&◌, List, [], ◌∷◌, refl, ap, sym, inl, inr, length, arith}
use Rattle.std.proofs.lemmas.Bool.{cases_Bool}
use Rattle.bdb_base.specs.declared.kinds.Sign.{Sign}
use Rattle.bdb_base.specs.declared.kinds.Stmt.{Stmt}
use Rattle.bdb_base.specs.declared.tuple.Tuple.{Tuple}
use Rattle.bdb_base.specs.Clash.{clash}
use Rattle.bdb_base.specs.Same.{same_path, same_tuple, same_sign}
use Rattle.bdb_base.specs.States.{is_state, deepest_suffix, suffix_link}
use Rattle.bdb_base.specs.Worlds.{least_clash}
use Rattle.bdb_base.proofs.ListLemmas.{filter_kept_one, filter_dropped_one}
use Rattle.bdb_base.proofs.WorldLemmas.{nothing_stands}
use Rattle.bdb_base.proofs.FindLemmas.{find_none}
use Rattle.bdb_paths.proofs.SuffixLemmas.{deepest_here, deepest_past, length-deepest}
use Rattle.bdb_why.specs.Ends.{ends, ends_in, ends_behind}
use Rattle.bdb_why.specs.Grounds.{ground_by, ground_from}
use Rattle.bdb_why.specs.WhyLaws.{GroundsGoByStates, EndsGoByLinks}

-- at a path that is no state nothing decides
pub ground_past : (keys : ℕ → ℕ) (stmts : List Stmt) (level i : ℕ) (w : List ℕ) (t : Tuple) (s : Sign) → is_state stmts (i ∷ w) ≡ false
    → ground_from keys stmts level (i ∷ w) t s ≡ ground_from keys stmts (level + 1) w t s
ground_past keys stmts level i w t s e =
    ap (λ b. ground_by b (least_clash keys stmts (i ∷ w) t s) level (ground_from keys stmts (level + 1) w t s))
    (nothing_stands stmts i w (λ x. same_tuple x.tuple t && same_sign x.sign s) e)
    ∙ ap (λ o. ground_by false o level (ground_from keys stmts (level + 1) w t s))
    (find_none (λ x. same_path x.path (i ∷ w) && clash keys t s x.tuple x.sign) stmts (nothing_stands stmts i w (λ x. clash keys t s x.tuple x.sign) e))

pub grounds_go_by_states : GroundsGoByStates
grounds_go_by_states keys stmts level [] t s = ap (λ n. ground_from keys stmts n [] t s) (omega arith)
grounds_go_by_states keys stmts level (i ∷ w) t s = elim (cases_Bool (is_state stmts (i ∷ w))) [
  | inl e ↦
      let d : deepest_suffix (is_state stmts) (i ∷ w) ≡ i ∷ w = deepest_here (is_state stmts) i w e in
      let n : level ≡ level + (length (i ∷ w) - length (i ∷ w)) = omega arith in
      ap (λ m. ground_from keys stmts m (i ∷ w) t s) n
      ∙ ap (λ v. ground_from keys stmts (level + (length (i ∷ w) - length v)) v t s) (sym d)
  | inr e ↦
      let v = deepest_suffix (is_state stmts) w in
      let d : deepest_suffix (is_state stmts) (i ∷ w) ≡ v = deepest_past (is_state stmts) i w e in
      let short : length v ≤ length w = length-deepest (is_state stmts) w in
      let n : level + 1 + (length w - length v) ≡ level + (length (i ∷ w) - length v) = omega arith in
      ground_past keys stmts level i w t s e ∙ grounds_go_by_states keys stmts (level + 1) w t s
      ∙ ap (λ m. ground_from keys stmts m v t s) n
      ∙ ap (λ u. ground_from keys stmts (level + (length (i ∷ w) - length u)) u t s) (sym d)
]

pub ends_here : (P : List ℕ → Bool) (i : ℕ) (w : List ℕ) → P (i ∷ w) ≡ true → ends_in P (i ∷ w) ≡ (i ∷ w) ∷ ends_in P w
ends_here P i w e = filter_kept_one P (i ∷ w) (ends w) e

pub ends_past : (P : List ℕ → Bool) (i : ℕ) (w : List ℕ) → P (i ∷ w) ≡ false → ends_in P (i ∷ w) ≡ ends_in P w
ends_past P i w e = filter_dropped_one P (i ∷ w) (ends w) e

-- the ends in a set are those of the deepest one
pub ends_of_deepest : (P : List ℕ → Bool) (w : List ℕ) → ends_in P w ≡ ends_in P (deepest_suffix P w)
ends_of_deepest P [] = refl
ends_of_deepest P (i ∷ w) = elim (cases_Bool (P (i ∷ w))) [
  | inl e ↦ ap (ends_in P) (sym (deepest_here P i w e))
  | inr e ↦ ends_past P i w e ∙ ends_of_deepest P w ∙ ap (ends_in P) (sym (deepest_past P i w e))
]

pub ends_go_by_links : EndsGoByLinks
ends_go_by_links P [] root = filter_kept_one P [] [] root
ends_go_by_links P (i ∷ w) root = elim (cases_Bool (P (i ∷ w))) [
  | inl e ↦ ends_here P i w e ∙ ap (λ vs. (i ∷ w) ∷ vs) (ends_of_deepest P w)
      ∙ ap (λ v. v ∷ ends_behind P (suffix_link P v)) (sym (deepest_here P i w e))
  | inr e ↦ ends_past P i w e ∙ ends_go_by_links P w root ∙ ap (λ v. v ∷ ends_behind P (suffix_link P v)) (sym (deepest_past P i w e))
]
