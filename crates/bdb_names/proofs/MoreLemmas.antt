-- Names with one more: depths, suffix links and edges, and that they are names.
use Rattle.std.proofs.Common.{◌≡◌, ◌∙◌, ℕ, ◌<◌, ◌^◌, Bool, true, false, not, ◌&&◌, ◌||◌, nat_eq, cond, List, [], ◌∷◌, ◌++◌, refl, ap, sym, subst, inl, inr, ◌⊎◌, arith, length, Option, Some, None}
use Rattle.std.specs.Option.{is_some, option_map}
use Rattle.std.specs.List.{list_all}
use Rattle.std.proofs.lemmas.Bool.{cases_Bool, and_from, and_left, and_right, or_cases, or_left, or_right, false_from_ne_true, cond-true, cond-false, eqb-true, eq-eqb, ne_eqb, eqb-false}
use Rattle.bdb_base.specs.Alternation.{alternates}
use Rattle.bdb_base.specs.Same.{same_path}
use Rattle.bdb_base.specs.SameLemmas.{same_path-Decides}
use Rattle.bdb_base.specs.Segments.{is_suffix}
use Rattle.bdb_base.specs.States.{deepest_suffix, edge_target}
use Rattle.bdb_base.proofs.ListLemmas.{or_false, list_all_push}
use Rattle.bdb_base.proofs.OptionLemmas.{none_is_some, same_some}
use Rattle.bdb_base.proofs.SegmentLemmas.{length-suffix}
use Rattle.bdb_base.specs.Causes.{is_listed}
use Rattle.bdb_paths.specs.PathLaws.{with_path}
use Rattle.bdb_paths.proofs.SuffixLemmas.{deepest_same, deepest_past, deepest_is_suffix, suffixes_gain, suffixes_extend}
use Rattle.bdb_tables.specs.Names.{Names, AreNames, path_of, number_of, is_named, are_once, with_name, depth_of, link_of, edge_of}
use Rattle.bdb_names.specs.Moves.{IsLeaf, gains, edge_gains, link_gains, at_path, edge_moves, link_moves}
use Rattle.bdb_names.proofs.Ends.{more_is_end, own_end, ends_otherwise}
use Rattle.bdb_names.proofs.NameLemmas.{is_named_by, root_is_named, deep_is_named, named_otherwise, depth_at, link_at, link_at_root, link_at_none, edge_at, edge_at_none}

abbrev no_number : Option ℕ
no_number = None

cond_and : (b g : Bool) (x y : Option ℕ) → cond b (cond g x y) no_number ≡ cond (b && g) x (cond b y no_number)
cond_and true g x y = refl
cond_and false g x y = refl

cond_none : (b : Bool) → cond b no_number no_number ≡ no_number
cond_none true = refl
cond_none false = refl

-- a beginning of a path with one user more is it, or a beginning of the path
begins_more : (a b q : List ℕ) (i : ℕ) → a ++ b ≡ q ++ i ∷ [] → (a ≡ q ++ i ∷ []) ⊎ ((c : List ℕ) × (q ≡ a ++ c))
begins_more [] b q i e = inr (q, refl)
begins_more (x ∷ a) b [] i e = let t : a ++ b ≡ [] = cc in let h : x ≡ i = cc in inl (ap (λ (z : List ℕ). x ∷ z) (none a b t) ∙ ap (λ n. n ∷ []) h)
  where
    none : (a b : List ℕ) → a ++ b ≡ [] → a ≡ []
    none [] b t = refl
    none (y ∷ a) b t = absurd cc
begins_more (x ∷ a) b (y ∷ q) i e =
    let h : x ≡ y = cc in
    let t : a ++ b ≡ q ++ i ∷ [] = cc in
    elim (begins_more a b q i t) [
      | inl s ↦ inl (ap (λ (z : List ℕ). x ∷ z) s ∙ ap (λ n. n ∷ (q ++ i ∷ [])) h)
      | inr c ↦ inr (c.0, ap (λ (z : List ℕ). y ∷ z) c.1 ∙ ap (λ n. n ∷ (a ++ c.0)) (sym h))
    ]

module _ (users : ℕ → Bool) (ns : Names) (q : List ℕ) (i m s : ℕ) (leaf : IsLeaf users ns q i m s) (n : ℕ) (free : path_of ns n ≡ None) where
  abbrev P : List ℕ → Bool
  P = is_named ns

  abbrev p : List ℕ
  p = q ++ i ∷ []

  abbrev more : Names
  more = with_name ns n p

  pub is_named_more : (w : List ℕ) → is_named more w ≡ with_path P p w
  is_named_more w = by (same_path w p) (ns.number w)
    where
      by : (b : Bool) (o : Option ℕ) → is_some (cond b (Some n) o) ≡ (is_some o || b)
      by true o = sym (or_right (is_some o) true refl)
      by false o = sym (or_false (is_some o))

  deep_more : (w : List ℕ) → deepest_suffix (is_named more) w ≡ cond (gains P p w) p (deepest_suffix P w)
  deep_more w = deepest_same (is_named more) (with_path P p) is_named_more w ∙ suffixes_gain P p w

  number_new : number_of more p ≡ Some n
  number_new = cond-true (same_path p p) (Some n) (number_of ns p) ((same_path-Decides p p).1 refl)

  number_old : (w : List ℕ) → P w ≡ true → number_of more w ≡ number_of ns w
  number_old w h = cond-false (same_path w p) (Some n) (number_of ns w) (named_otherwise ns p w leaf.new h)

  path_old : (k : ℕ) → nat_eq k n ≡ false → path_of more k ≡ path_of ns k
  path_old k h = cond-false (nat_eq k n) (Some p) (path_of ns k) h

  path_new : (k : ℕ) → nat_eq k n ≡ true → path_of more k ≡ Some p
  path_new k h = cond-true (nat_eq k n) (Some p) (path_of ns k) h

  target_more : (w : List ℕ) → number_of more (deepest_suffix (is_named more) w) ≡ cond (gains P p w) (Some n) (number_of ns (deepest_suffix P w))
  target_more w =
      ap (number_of more) (deep_more w) ∙ elim (cases_Bool (gains P p w)) [
        | inl t ↦ ap (number_of more) (cond-true (gains P p w) p (deepest_suffix P w) t) ∙ number_new ∙ sym (cond-true (gains P p w) (Some n) (number_of ns (deepest_suffix P w)) t)
        | inr f ↦ ap (number_of more) (cond-false (gains P p w) p (deepest_suffix P w) f) ∙ number_old (deepest_suffix P w) (deep_is_named ns leaf.names w)
            ∙ sym (cond-false (gains P p w) (Some n) (number_of ns (deepest_suffix P w)) f)
      ]

  -- ---- depths

  pub depths_more : (k : ℕ) → depth_of more k ≡ cond (nat_eq k n) (Some (length p)) (depth_of ns k)
  depths_more k = elim (cases_Bool (nat_eq k n)) [
    | inl t ↦ depth_at more k p (path_new k t) ∙ sym (cond-true (nat_eq k n) (Some (length p)) (depth_of ns k) t)
    | inr f ↦ ap (option_map (λ w. length w)) (path_old k f) ∙ sym (cond-false (nat_eq k n) (Some (length p)) (depth_of ns k) f)
  ]

  -- ---- suffix links

  longer_tail : (w : List ℕ) → length w < length p → is_suffix p w ≡ false
  longer_tail w h = false_from_ne_true (is_suffix p w) (λ t. let l = length-suffix p w t in absurd (omega arith))

  own_link : (k : ℕ) → nat_eq k n ≡ true → link_of more k ≡ Some s
  own_link k t = by q refl
    where
      by : (v : List ℕ) → q ≡ v → link_of more k ≡ Some s
      by [] e =
          let is : p ≡ i ∷ [] = ap (λ (z : List ℕ). z ++ i ∷ []) e in
          let f : P (i ∷ []) ≡ false = ap P (sym is) ∙ leaf.new in
          link_at more k i [] (path_new k t ∙ ap Some is) ∙ number_old [] (root_is_named ns leaf.names)
          ∙ ap (number_of ns) (sym (deepest_past P i [] f)) ∙ ap (λ x. number_of ns (deepest_suffix P x)) (sym is) ∙ leaf.led
      by (a ∷ v) e =
          let x = v ++ i ∷ [] in
          let is : p ≡ a ∷ x = ap (λ (z : List ℕ). z ++ i ∷ []) e in
          let l = ap length is in
          let f : P (a ∷ x) ≡ false = ap P (sym is) ∙ leaf.new in
          let none : gains P p x ≡ false = and_left (is_suffix p x) _ (longer_tail x (omega arith)) in
          link_at more k a x (path_new k t ∙ ap Some is) ∙ target_more x ∙ cond-false (gains P p x) (Some n) (number_of ns (deepest_suffix P x)) none
          ∙ ap (number_of ns) (sym (deepest_past P a x f)) ∙ ap (λ x. number_of ns (deepest_suffix P x)) (sym is) ∙ leaf.led

  old_link : (k : ℕ) → nat_eq k n ≡ false → (o : Option (List ℕ)) → path_of ns k ≡ o → link_of more k ≡ cond (at_path (link_gains P p) o) (Some n) (link_of ns k)
  old_link k f None e = link_at_none more k (path_old k f ∙ e) ∙ sym (link_at_none ns k e)
  old_link k f (Some []) e = link_at_root more k (path_old k f ∙ e) ∙ sym (link_at_root ns k e)
  old_link k f (Some (a ∷ x)) e = link_at more k a x (path_old k f ∙ e) ∙ target_more x ∙ ap (λ o. cond (gains P p x) (Some n) o) (sym (link_at ns k a x e))

  pub links_more : (k : ℕ) → link_of more k ≡ cond (nat_eq k n) (Some s) (cond (link_moves ns q i k) (Some n) (link_of ns k))
  links_more k = elim (cases_Bool (nat_eq k n)) [
    | inl t ↦ own_link k t ∙ sym (cond-true (nat_eq k n) (Some s) (cond (link_moves ns q i k) (Some n) (link_of ns k)) t)
    | inr f ↦ old_link k f (path_of ns k) refl ∙ sym (cond-false (nat_eq k n) (Some s) (cond (link_moves ns q i k) (Some n) (link_of ns k)) f)
  ]

  -- ---- edges

  -- the edges of the new world are those of its link's target, but for its last user
  own_edge : (k j : ℕ) → nat_eq k n ≡ true → edge_of users more (k, j) ≡ cond (nat_eq j i) None (edge_of users ns (s, j))
  own_edge k j t = edge_at users more k j p (path_new k t) ∙ ap (λ b. cond (users j && not b) (number_of more (edge_target (is_named more) p j)) None) (own_end q i j) ∙ elim (cases_Bool (nat_eq j i)) [
    | inl e ↦ cond-false (users j && not (nat_eq j i)) (number_of more (edge_target (is_named more) p j)) None (and_right (users j) (not (nat_eq j i)) (ap not e))
        ∙ sym (cond-true (nat_eq j i) None (edge_of users ns (s, j)) e)
    | inr e ↦
        let v = deepest_suffix P p in
        let none : gains P p (p ++ j ∷ []) ≡ false = and_left (is_suffix p (p ++ j ∷ [])) _
        (false_from_ne_true (is_suffix p (p ++ j ∷ [])) (λ h. eqb-false j i e (sym (more_is_end q p i j h).0))) in
        let apart : is_suffix (j ∷ []) v ≡ false = ends_otherwise j v p (deepest_is_suffix P p) (own_end q i j ∙ e) in
        let target : number_of more (edge_target (is_named more) p j) ≡ number_of ns (deepest_suffix P (v ++ j ∷ [])) =
        target_more (p ++ j ∷ []) ∙ cond-false (gains P p (p ++ j ∷ [])) (Some n) (number_of ns (deepest_suffix P (p ++ j ∷ []))) none
        ∙ ap (number_of ns) (suffixes_extend P leaf.names.prefixes p j) in
        let old : edge_of users ns (s, j) ≡ cond (users j && not (nat_eq j i)) (number_of ns (deepest_suffix P (v ++ j ∷ []))) None =
        edge_at users ns s j v (leaf.names.numbered v s leaf.led)
        ∙ ap (λ b. cond (users j && not b) (number_of ns (edge_target P v j)) None) (apart ∙ sym e) in
        ap (λ o. cond (users j && not (nat_eq j i)) o None) target ∙ sym old ∙ sym (cond-false (nat_eq j i) None (edge_of users ns (s, j)) e)
  ]

  old_edge : (k j : ℕ) → nat_eq k n ≡ false → (o : Option (List ℕ)) → path_of ns k ≡ o → edge_of users more (k, j) ≡ cond (at_path (edge_gains users P p j) o) (Some n) (edge_of users ns (k, j))
  old_edge k j f None e = edge_at_none users more k j (path_old k f ∙ e) ∙ sym (edge_at_none users ns k j e)
  old_edge k j f (Some w) e =
      let guard = users j && not (is_suffix (j ∷ []) w) in
      edge_at users more k j w (path_old k f ∙ e) ∙ ap (λ o. cond guard o None) (target_more (w ++ j ∷ []))
      ∙ cond_and guard (gains P p (w ++ j ∷ [])) (Some n) (number_of ns (deepest_suffix P (w ++ j ∷ [])))
      ∙ ap (λ o. cond (guard && gains P p (w ++ j ∷ [])) (Some n) o) (sym (edge_at users ns k j w e))

  -- no edge for another user moves
  other_stays : (k j : ℕ) → nat_eq j i ≡ false → (o : Option (List ℕ)) → at_path (edge_gains users P p j) o ≡ false
  other_stays k j e None = refl
  other_stays k j e (Some w) = and_right (users j && not (is_suffix (j ∷ []) w)) (gains P p (w ++ j ∷ []))
      (and_left (is_suffix p (w ++ j ∷ [])) _ (false_from_ne_true (is_suffix p (w ++ j ∷ [])) (λ h. eqb-false j i e (sym (more_is_end q w i j h).0))))

  moves_by_user : (k j : ℕ) → at_path (edge_gains users P p j) (path_of ns k) ≡ (nat_eq j i && edge_moves users ns q i k)
  moves_by_user k j = elim (cases_Bool (nat_eq j i)) [
    | inl t ↦ ap (λ x. at_path (edge_gains users P p x) (path_of ns k)) (eqb-true j i t) ∙ ap (λ b. b && edge_moves users ns q i k) (sym t)
    | inr f ↦ other_stays k j f (path_of ns k) ∙ ap (λ b. b && edge_moves users ns q i k) (sym f)
  ]

  pub edges_more : (k j : ℕ) → edge_of users more (k, j)
      ≡ cond (nat_eq k n) (cond (nat_eq j i) None (edge_of users ns (s, j))) (cond (nat_eq j i && edge_moves users ns q i k) (Some n) (edge_of users ns (k, j)))
  edges_more k j =
      let own = cond (nat_eq j i) no_number (edge_of users ns (s, j)) in
      let old = cond (nat_eq j i && edge_moves users ns q i k) (Some n) (edge_of users ns (k, j)) in
      elim (cases_Bool (nat_eq k n)) [
        | inl t ↦ own_edge k j t ∙ sym (cond-true (nat_eq k n) own old t)
        | inr f ↦ old_edge k j f (path_of ns k) refl ∙ ap (λ b. cond b (Some n) (edge_of users ns (k, j))) (moves_by_user k j) ∙ sym (cond-false (nat_eq k n) own old f)
      ]

  -- ---- names

  free_number : (w : List ℕ) (k : ℕ) → number_of ns w ≡ Some k → nat_eq k n ≡ false
  free_number w k e = ne_eqb k n (λ h. none_is_some w (sym free ∙ ap (path_of ns) (sym h) ∙ leaf.names.numbered w k e))

  pub names_more : n < 2 ^ 32 → length p < 2 ^ 32 → length ns.used < 65536 → AreNames more
  names_more sized short few = record {
    root = number_old [] (root_is_named ns leaf.names) ∙ leaf.names.root;
    named = λ k w e. elim (cases_Bool (nat_eq k n)) [
      | inl t ↦ ap (number_of more) (sym (same_some p w (sym (path_new k t) ∙ e))) ∙ number_new ∙ ap Some (sym (eqb-true k n t))
      | inr f ↦ let h = leaf.names.named k w (sym (path_old k f) ∙ e) in number_old w (is_named_by ns w k h) ∙ h
    ];
    numbered = λ w k e. elim (cases_Bool (same_path w p)) [
      | inl t ↦
          let h : Some n ≡ Some k = sym (cond-true (same_path w p) (Some n) (number_of ns w) t) ∙ e in
          path_new k (eq-eqb k n (same_some k n (sym h))) ∙ ap Some (sym ((same_path-Decides w p).0 t))
      | inr f ↦
          let h = sym (cond-false (same_path w p) (Some n) (number_of ns w) f) ∙ e in
          path_old k (free_number w k h) ∙ leaf.names.numbered w k h
    ];
    prefixes = λ a b e. elim (or_cases (P (a ++ b)) (same_path (a ++ b) p) (sym (is_named_more (a ++ b)) ∙ e)) [
      | inl t ↦ is_named_more a ∙ or_left (P a) (same_path a p) (leaf.names.prefixes a b t)
      | inr t ↦ elim (begins_more a b q i ((same_path-Decides (a ++ b) p).0 t)) [
        | inl h ↦ is_named_more a ∙ or_right (P a) (same_path a p) ((same_path-Decides a p).1 h)
        | inr c ↦ is_named_more a ∙ or_left (P a) (same_path a p) (leaf.names.prefixes a c.0 (ap P (sym c.1) ∙ is_named_by ns q m leaf.start))
      ]
    ];
    apart = λ w e. elim (or_cases (P w) (same_path w p) (sym (is_named_more w) ∙ e)) [
      | inl t ↦ leaf.names.apart w t
      | inr t ↦ ap alternates ((same_path-Decides w p).0 t) ∙ leaf.apart
    ];
    sized = λ w k e. elim (cases_Bool (same_path w p)) [
      | inl t ↦ subst (λ x. x < 2 ^ 32) (same_some n k (sym (cond-true (same_path w p) (Some n) (number_of ns w) t) ∙ e)) sized
      | inr f ↦ leaf.names.sized w k (sym (cond-false (same_path w p) (Some n) (number_of ns w) f) ∙ e)
    ];
    short = λ w e. elim (or_cases (P w) (same_path w p) (sym (is_named_more w) ∙ e)) [
      | inl t ↦ leaf.names.short w t
      | inr t ↦ subst (λ x. length x < 2 ^ 32) (sym ((same_path-Decides w p).0 t)) short
    ];
    counted = λ k. elim (cases_Bool (nat_eq k n)) [
      | inl t ↦ or_left (nat_eq k n) (is_listed k ns.used) t ∙ sym (ap is_some (path_new k t))
      | inr f ↦ ap (λ b. b || is_listed k ns.used) f ∙ leaf.names.counted k ∙ sym (ap is_some (path_old k f))
    ];
    once = and_from (not (is_listed n ns.used)) (are_once ns.used) (ap not (leaf.names.counted n ∙ ap is_some free)) leaf.names.once;
    few = omega arith;
  }

  -- each user of a path with a name is one of the users
  pub own_more : ((w : List ℕ) → P w ≡ true → list_all users w ≡ true) → (w : List ℕ) → is_named more w ≡ true → list_all users w ≡ true
  own_more own w e = elim (or_cases (P w) (same_path w p) (sym (is_named_more w) ∙ e)) [
    | inl t ↦ own w t
    | inr t ↦ ap (list_all users) ((same_path-Decides w p).0 t) ∙ list_all_push users q i (own q (is_named_by ns q m leaf.start)) leaf.user
  ]
