-- Edges with one user more, whom no path names.
use Rattle.std.proofs.Common.{◌≡◌, ◌∙◌, ℕ, Bool, true, false, not, ◌&&◌, ◌||◌, nat_eq, cond, List, [], ◌∷◌, ◌++◌, refl, ap, sym, inl, inr, Option, Some, None}
use Rattle.std.specs.Option.{option_map}
use Rattle.std.specs.List.{list_all}
use Rattle.std.proofs.lemmas.Bool.{cases_Bool, and_parts, or_left, or_right, or_cases, false≢true, false_from_ne_true, cond-true, cond-false, eqb-true}
use Rattle.bdb_base.specs.Same.{same_path}
use Rattle.bdb_base.specs.SameLemmas.{same_path-Decides}
use Rattle.bdb_base.specs.Segments.{is_suffix}
use Rattle.bdb_base.specs.States.{deepest_suffix, edge_target}
use Rattle.bdb_base.proofs.ListLemmas.{list_all_weaker}
use Rattle.bdb_paths.proofs.SuffixLemmas.{deepest_is_suffix}
use Rattle.bdb_tables.specs.Names.{Names, AreNames, path_of, number_of, is_named, edge_of}
use Rattle.bdb_names.specs.Drops.{with_one_user}
use Rattle.bdb_names.proofs.Ends.{ends_with, end_of_more}
use Rattle.bdb_names.proofs.NameLemmas.{path_is_named, deep_is_named, edge_at, edge_at_none, edge_is}

-- a path of users doesn't end in another
ends_in_none : (users : ℕ → Bool) (i : ℕ) (w : List ℕ) → list_all users w ≡ true → users i ≡ false → is_suffix (i ∷ []) w ≡ false
ends_in_none users i [] h f = refl
ends_in_none users i (j ∷ w) h f =
    let k = and_parts (users j) (list_all users w) h in
    false_from_ne_true (is_suffix (i ∷ []) (j ∷ w)) (λ t. elim (or_cases (same_path (i ∷ []) (j ∷ w)) (is_suffix (i ∷ []) w) t) [
      | inl e ↦ let is : i ≡ j = head_is i j w ((same_path-Decides (i ∷ []) (j ∷ w)).0 e) in false≢true (sym f ∙ ap users is ∙ k.0)
      | inr e ↦ false≢true (sym (ends_in_none users i w k.1 f) ∙ e)
    ])
  where
    head_is : (i j : ℕ) (w : List ℕ) → i ∷ [] ≡ j ∷ w → i ≡ j
    head_is i j w e = cc

module _ (users : ℕ → Bool) (ns : Names) (names : AreNames ns) (uid : ℕ) (new : users uid ≡ false) (own : (w : List ℕ) → is_named ns w ≡ true → list_all users w ≡ true) where
  abbrev more : ℕ → Bool
  more = with_one_user users uid

  -- the deepest end of a path with the new user behind it is empty
  deep_is_root : (w : List ℕ) → deepest_suffix (is_named ns) (w ++ uid ∷ []) ≡ []
  deep_is_root w =
      let d = deepest_suffix (is_named ns) (w ++ uid ∷ []) in
      elim (end_of_more d w uid (deepest_is_suffix (is_named ns) (w ++ uid ∷ []))) [
        | inl e ↦ e
        | inr u ↦ absurd (false≢true (sym (ends_in_none users uid d (own d (deep_is_named ns names (w ++ uid ∷ []))) new)
            ∙ ap (is_suffix (uid ∷ [])) u.1 ∙ ends_with u.0 (uid ∷ [])))
      ]

  new_edge : (k j : ℕ) → nat_eq j uid ≡ true → (o : Option (List ℕ)) → path_of ns k ≡ o → edge_of more ns (k, j) ≡ option_map (λ _. 0) o
  new_edge k j t None e = edge_at_none more ns k j e
  new_edge k j t (Some w) e =
      let is = eqb-true j uid t in
      let apart : is_suffix (j ∷ []) w ≡ false = ap (λ x. is_suffix (x ∷ []) w) is ∙ ends_in_none users uid w (own w (path_is_named ns names k w e)) new in
      edge_at more ns k j w e ∙ edge_is more ns j w (or_left (nat_eq j uid) (users j) t) apart
      ∙ ap (λ x. number_of ns (deepest_suffix (is_named ns) (w ++ x ∷ []))) is ∙ ap (number_of ns) (deep_is_root w) ∙ names.root

  old_edge : (k j : ℕ) → nat_eq j uid ≡ false → (o : Option (List ℕ)) → path_of ns k ≡ o → edge_of more ns (k, j) ≡ edge_of users ns (k, j)
  old_edge k j f None e = edge_at_none more ns k j e ∙ sym (edge_at_none users ns k j e)
  old_edge k j f (Some w) e =
      edge_at more ns k j w e ∙ ap (λ b. cond ((b || users j) && not (is_suffix (j ∷ []) w)) (number_of ns (edge_target (is_named ns) w j)) None) f
      ∙ sym (edge_at users ns k j w e)

  -- every world has an edge to the empty path for the new user, and the other edges stay
  pub edges_with_user : (k j : ℕ) → edge_of more ns (k, j) ≡ cond (nat_eq j uid) (option_map (λ _. 0) (path_of ns k)) (edge_of users ns (k, j))
  edges_with_user k j =
      let at = option_map (λ (w : List ℕ). 0) (path_of ns k) in
      elim (cases_Bool (nat_eq j uid)) [
        | inl t ↦ new_edge k j t (path_of ns k) refl ∙ sym (cond-true (nat_eq j uid) at (edge_of users ns (k, j)) t)
        | inr f ↦ old_edge k j f (path_of ns k) refl ∙ sym (cond-false (nat_eq j uid) at (edge_of users ns (k, j)) f)
      ]

  pub own_with_user : (w : List ℕ) → is_named ns w ≡ true → list_all more w ≡ true
  own_with_user w h = list_all_weaker users more (λ j e. or_right (nat_eq j uid) (users j) e) w (own w h)
