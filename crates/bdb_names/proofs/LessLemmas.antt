-- Names without one: depths, suffix links and edges, and that they are names.
use Rattle.std.proofs.Common.{◌≡◌, ◌∙◌, ℕ, Bool, true, false, not, ◌&&◌, ◌||◌, nat_eq, cond, List, [], ◌∷◌, ◌++◌, refl, ap, sym, inl, inr, arith, length, filter, append_assoc, Option, Some, None}
use Rattle.std.specs.Option.{is_some, option_map}
use Rattle.std.specs.List.{list_all}
use Rattle.std.proofs.lemmas.Bool.{cases_Bool, and_parts, and_from, and_left, and_right, false≢true, false_from_ne_true, cond-true, cond-false, not-true, eqb-true, eq-eqb, ne_eqb, eqb-false}
use Rattle.std.proofs.lemmas.List.{append-nil}
use Rattle.bdb_base.specs.Alternation.{tail}
use Rattle.bdb_base.specs.Same.{same_path}
use Rattle.bdb_base.specs.SameLemmas.{same_path-Decides}
use Rattle.bdb_base.specs.Segments.{is_suffix}
use Rattle.bdb_base.specs.States.{deepest_suffix}
use Rattle.bdb_base.proofs.ListLemmas.{length-filter_le}
use Rattle.bdb_base.proofs.OptionLemmas.{none_is_some, same_some}
use Rattle.bdb_base.specs.Causes.{is_listed}
use Rattle.bdb_paths.specs.PathLaws.{without_path}
use Rattle.bdb_paths.proofs.SuffixLemmas.{deepest_same, length-deepest, suffixes_lose}
use Rattle.bdb_tables.specs.Names.{Names, AreNames, path_of, number_of, is_named, are_once, leads_to, without_name, depth_of, link_of, edge_of}
use Rattle.bdb_names.specs.Drops.{IsLast, led_past}
use Rattle.bdb_names.proofs.NameLemmas.{same_number, deep_number, link_at, link_at_root, link_at_none, link_found, IsLinked, edge_at, edge_at_none}

abbrev no_number : Option ℕ
no_number = None

-- ---- numbers without one

pub listed-filter : (f : ℕ → Bool) (k : ℕ) (xs : List ℕ) → is_listed k (filter f xs) ≡ (is_listed k xs && f k)
listed-filter f k [] = refl
listed-filter f k (x ∷ xs) = by (listed-filter f k xs) (f x) refl
  where
    here : (b c d : Bool) → (b ≡ true → c ≡ true) → (b || (d && c)) ≡ ((b || d) && c)
    here true c d h = sym (h refl)
    here false c d h = refl

    past : (b c d : Bool) → (b ≡ true → c ≡ false) → (d && c) ≡ ((b || d) && c)
    past true c d h = and_right d c (h refl) ∙ sym (h refl)
    past false c d h = refl

    by : is_listed k (filter f xs) ≡ (is_listed k xs && f k) → (b : Bool) → f x ≡ b → is_listed k (cond b (x ∷ filter f xs) (filter f xs)) ≡ (is_listed k (x ∷ xs) && f k)
    by rest true e = ap (λ d. nat_eq k x || d) rest ∙ here (nat_eq k x) (f k) (is_listed k xs) (λ h. ap f (eqb-true k x h) ∙ e)
    by rest false e = rest ∙ past (nat_eq k x) (f k) (is_listed k xs) (λ h. ap f (eqb-true k x h) ∙ e)

pub once-filter : (f : ℕ → Bool) (xs : List ℕ) → are_once xs ≡ true → are_once (filter f xs) ≡ true
once-filter f [] h = refl
once-filter f (x ∷ xs) h = let k = and_parts (not (is_listed x xs)) (are_once xs) h in by (once-filter f xs k.1) k.0 (f x)
  where
    by : are_once (filter f xs) ≡ true → not (is_listed x xs) ≡ true → (b : Bool) → are_once (cond b (x ∷ filter f xs) (filter f xs)) ≡ true
    by rest k true = and_from (not (is_listed x (filter f xs))) (are_once (filter f xs)) (ap not (listed-filter f x xs ∙ and_left (is_listed x xs) (f x) (not-true (is_listed x xs) k))) rest
    by rest k false = rest

cond_past : (b : Bool) (n s : ℕ) (o : Option ℕ) → cond b (led_past n s o) no_number ≡ led_past n s (cond b o no_number)
cond_past true n s o = refl
cond_past false n s o = refl

module _ (ns : Names) (p : List ℕ) (n s : ℕ) (gone : IsLast ns p n s) where
  abbrev P : List ℕ → Bool
  P = is_named ns

  abbrev less : Names
  less = without_name ns n p

  pub is_named_less : (w : List ℕ) → is_named less w ≡ without_path P p w
  is_named_less w = by (same_path w p) (ns.number w)
    where
      by : (b : Bool) (o : Option ℕ) → is_some (cond b no_number o) ≡ (is_some o && not b)
      by true o = sym (and_right (is_some o) false refl)
      by false o = by_one (is_some o)
        where
          by_one : (b : Bool) → b ≡ (b && true)
          by_one true = refl
          by_one false = refl

  deep_less : (w : List ℕ) → deepest_suffix (is_named less) w ≡ cond (same_path (deepest_suffix P w) p) (deepest_suffix P (tail p)) (deepest_suffix P w)
  deep_less w = deepest_same (is_named less) (without_path P p) is_named_less w ∙ suffixes_lose P p w gone.some

  number_old : (w : List ℕ) → same_path w p ≡ false → number_of less w ≡ number_of ns w
  number_old w h = cond-false (same_path w p) no_number (number_of ns w) h

  path_old : (k : ℕ) → nat_eq k n ≡ false → path_of less k ≡ path_of ns k
  path_old k h = cond-false (nat_eq k n) None (path_of ns k) h

  path_gone : (k : ℕ) → nat_eq k n ≡ true → path_of less k ≡ None
  path_gone k h = cond-true (nat_eq k n) None (path_of ns k) h

  own_path : path_of ns n ≡ Some p
  own_path = gone.names.numbered p n gone.number

  -- where the path's own link leads
  link : IsLinked ns n s
  link = link_found ns n s gone.led

  tail_is : (a : ℕ) (x : List ℕ) → path_of ns n ≡ Some (a ∷ x) → p ≡ a ∷ x
  tail_is a x e = same_some p (a ∷ x) (sym own_path ∙ e)

  past_number : number_of less (deepest_suffix P (tail p)) ≡ Some s
  past_number =
      let is = tail_is link.first link.back link.path in
      let l = ap length is in
      let k = length-deepest P link.back in
      let apart : same_path (deepest_suffix P link.back) p ≡ false =
      false_from_ne_true (same_path (deepest_suffix P link.back) p) (λ t. let e = ap length ((same_path-Decides (deepest_suffix P link.back) p).0 t) in absurd (omega arith)) in
      ap (λ x. number_of less (deepest_suffix P (tail x))) is ∙ number_old (deepest_suffix P link.back) apart ∙ link.target

  target_less : (w : List ℕ) → number_of less (deepest_suffix (is_named less) w) ≡ led_past n s (number_of ns (deepest_suffix P w))
  target_less w =
      let d = deepest_suffix P w in
      let o = number_of ns d in
      ap (number_of less) (deep_less w) ∙ elim (cases_Bool (same_path d p)) [
        | inl t ↦
            let to : leads_to o n ≡ true = ap (λ x. leads_to (number_of ns x) n) ((same_path-Decides d p).0 t) ∙ ap (λ x. leads_to x n) gone.number ∙ eq-eqb n n refl in
            ap (number_of less) (cond-true (same_path d p) (deepest_suffix P (tail p)) d t) ∙ past_number ∙ sym (cond-true (leads_to o n) (Some s) o to)
        | inr f ↦
            let k = deep_number ns gone.names w in
            let to : leads_to o n ≡ false = ap (λ x. leads_to x n) k.1 ∙ ne_eqb k.0 n (λ e. false≢true (sym f ∙ (same_path-Decides d p).1 (same_number ns gone.names d p n (k.1 ∙ ap Some e) gone.number))) in
            ap (number_of less) (cond-false (same_path d p) (deepest_suffix P (tail p)) d f) ∙ number_old d f ∙ sym (cond-false (leads_to o n) (Some s) o to)
      ]

  pub depths_less : (k : ℕ) → depth_of less k ≡ cond (nat_eq k n) None (depth_of ns k)
  depths_less k = elim (cases_Bool (nat_eq k n)) [
    | inl t ↦ ap (option_map (λ w. length w)) (path_gone k t) ∙ sym (cond-true (nat_eq k n) None (depth_of ns k) t)
    | inr f ↦ ap (option_map (λ w. length w)) (path_old k f) ∙ sym (cond-false (nat_eq k n) None (depth_of ns k) f)
  ]

  old_link : (k : ℕ) → nat_eq k n ≡ false → (o : Option (List ℕ)) → path_of ns k ≡ o → link_of less k ≡ led_past n s (link_of ns k)
  old_link k f None e = link_at_none less k (path_old k f ∙ e) ∙ sym (ap (led_past n s) (link_at_none ns k e))
  old_link k f (Some []) e = link_at_root less k (path_old k f ∙ e) ∙ sym (ap (led_past n s) (link_at_root ns k e))
  old_link k f (Some (a ∷ x)) e = link_at less k a x (path_old k f ∙ e) ∙ target_less x ∙ ap (led_past n s) (sym (link_at ns k a x e))

  pub links_less : (k : ℕ) → link_of less k ≡ cond (nat_eq k n) None (led_past n s (link_of ns k))
  links_less k = elim (cases_Bool (nat_eq k n)) [
    | inl t ↦ link_at_none less k (path_gone k t) ∙ sym (cond-true (nat_eq k n) None (led_past n s (link_of ns k)) t)
    | inr f ↦ old_link k f (path_of ns k) refl ∙ sym (cond-false (nat_eq k n) None (led_past n s (link_of ns k)) f)
  ]

  module _ (users : ℕ → Bool) where
    old_edge : (k j : ℕ) → nat_eq k n ≡ false → (o : Option (List ℕ)) → path_of ns k ≡ o → edge_of users less (k, j) ≡ led_past n s (edge_of users ns (k, j))
    old_edge k j f None e = edge_at_none users less k j (path_old k f ∙ e) ∙ sym (ap (led_past n s) (edge_at_none users ns k j e))
    old_edge k j f (Some w) e =
        let guard = users j && not (is_suffix (j ∷ []) w) in
        edge_at users less k j w (path_old k f ∙ e) ∙ ap (λ o. cond guard o no_number) (target_less (w ++ j ∷ []))
        ∙ cond_past guard n s (number_of ns (deepest_suffix P (w ++ j ∷ [])))
        ∙ ap (led_past n s) (sym (edge_at users ns k j w e))

    pub edges_less : (k j : ℕ) → edge_of users less (k, j) ≡ cond (nat_eq k n) None (led_past n s (edge_of users ns (k, j)))
    edges_less k j = elim (cases_Bool (nat_eq k n)) [
      | inl t ↦ edge_at_none users less k j (path_gone k t) ∙ sym (cond-true (nat_eq k n) None (led_past n s (edge_of users ns (k, j))) t)
      | inr f ↦ old_edge k j f (path_of ns k) refl ∙ sym (cond-false (nat_eq k n) None (led_past n s (edge_of users ns (k, j))) f)
    ]

  old_parts : (w : List ℕ) → is_named less w ≡ true → (P w ≡ true) × (same_path w p ≡ false)
  old_parts w e = let k = and_parts (P w) (not (same_path w p)) (sym (is_named_less w) ∙ e) in (k.0, not-true (same_path w p) k.1)

  -- a beginning of a path that stays stays
  beginning_stays : (b : List ℕ) → P (p ++ b) ≡ true → same_path (p ++ b) p ≡ false → ⊥
  beginning_stays [] e f = false≢true (sym f ∙ (same_path-Decides (p ++ []) p).1 append_nil)
    where
      append_nil : p ++ [] ≡ p
      append_nil = append-nil p
  beginning_stays (j ∷ b) e f = false≢true (sym (gone.last j) ∙ gone.names.prefixes (p ++ j ∷ []) b (ap P (append_assoc p (j ∷ []) b) ∙ e))

  pub names_less : AreNames less
  names_less = record {
    root = number_old [] (false_from_ne_true (same_path [] p) (λ t. gone.some (sym ((same_path-Decides [] p).0 t)))) ∙ gone.names.root;
    named = λ k w e. elim (cases_Bool (nat_eq k n)) [
      | inl t ↦ absurd (none_is_some w (sym (path_gone k t) ∙ e))
      | inr f ↦
          let h = gone.names.named k w (sym (path_old k f) ∙ e) in
          number_old w (false_from_ne_true (same_path w p) (λ t. eqb-false k n f (same_some k n (sym h ∙ ap (number_of ns) ((same_path-Decides w p).0 t) ∙ gone.number)))) ∙ h
    ];
    numbered = λ w k e. elim (cases_Bool (same_path w p)) [
      | inl t ↦ absurd (none_is_some k (sym (cond-true (same_path w p) no_number (number_of ns w) t) ∙ e))
      | inr f ↦
          let h = sym (number_old w f) ∙ e in
          path_old k (ne_eqb k n (λ d. false≢true (sym f ∙ (same_path-Decides w p).1 (same_number ns gone.names w p n (h ∙ ap Some d) gone.number)))) ∙ gone.names.numbered w k h
    ];
    prefixes = λ a b e.
        let k = old_parts (a ++ b) e in
        let apart : same_path a p ≡ false = false_from_ne_true (same_path a p) (λ t.
        let is : a ++ b ≡ p ++ b = ap (λ (x : List ℕ). x ++ b) ((same_path-Decides a p).0 t) in
        beginning_stays b (ap P (sym is) ∙ k.0) (ap (λ x. same_path x p) (sym is) ∙ k.1)) in
        is_named_less a ∙ and_from (P a) (not (same_path a p)) (gone.names.prefixes a b k.0) (ap not apart);
    apart = λ w e. gone.names.apart w (old_parts w e).0;
    sized = λ w k e. gone.names.sized w k (elim (cases_Bool (same_path w p)) [
      | inl t ↦ absurd (none_is_some k (sym (cond-true (same_path w p) no_number (number_of ns w) t) ∙ e))
      | inr f ↦ sym (number_old w f) ∙ e
    ]);
    short = λ w e. gone.names.short w (old_parts w e).0;
    counted = λ k. listed-filter (λ x. not (nat_eq x n)) k ns.used ∙ elim (cases_Bool (nat_eq k n)) [
      | inl t ↦ and_right (is_listed k ns.used) (not (nat_eq k n)) (ap not t) ∙ sym (ap is_some (path_gone k t))
      | inr f ↦ and_one (is_listed k ns.used) (not (nat_eq k n)) (ap not f) ∙ gone.names.counted k ∙ sym (ap is_some (path_old k f))
    ];
    once = once-filter (λ k. not (nat_eq k n)) ns.used gone.names.once;
    few = let l = length-filter_le (λ k. not (nat_eq k n)) ns.used in let m = gone.names.few in omega arith;
  }
    where
      and_one : (b c : Bool) → c ≡ true → (b && c) ≡ b
      and_one true c e = e
      and_one false c e = refl

  pub own_less : (users : ℕ → Bool) → ((w : List ℕ) → P w ≡ true → list_all users w ≡ true) → (w : List ℕ) → is_named less w ≡ true → list_all users w ≡ true
  own_less users own w e = own w (old_parts w e).0
