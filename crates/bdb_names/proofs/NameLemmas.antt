-- Names, one by one: numbers and paths, suffix links and edges.
use Rattle.std.proofs.Common.{◌≡◌, ◌∙◌, ℕ, Bool, true, false, not, ◌&&◌, List, [], ◌∷◌, ◌++◌, refl, ap, sym, inl, inr, length, Option, Some, None}
use Rattle.std.specs.Option.{is_some, option_map, option_and_then}
use Rattle.std.proofs.lemmas.Bool.{cases_Bool, and_parts, and_from, false≢true, false_from_ne_true, cond-true, cond-false, not-true}
use Rattle.bdb_base.specs.Same.{same_path}
use Rattle.bdb_base.specs.SameLemmas.{same_path-Decides}
use Rattle.bdb_base.specs.Segments.{is_suffix}
use Rattle.bdb_base.specs.States.{deepest_suffix, suffix_link, edge_target}
use Rattle.bdb_base.proofs.OptionLemmas.{some_of, none_is_some, same_some}
use Rattle.bdb_paths.proofs.SuffixLemmas.{deepest_is_member}
use Rattle.bdb_tables.specs.Names.{Names, AreNames, path_of, number_of, is_named, depth_of, link_of, edge_from, edge_of}

-- ---- numbers and paths

pub is_named_by : (ns : Names) (w : List ℕ) (n : ℕ) → number_of ns w ≡ Some n → is_named ns w ≡ true
is_named_by ns w n e = ap is_some e

pub number_is : (ns : Names) (w : List ℕ) → is_named ns w ≡ true → (n : ℕ) × (number_of ns w ≡ Some n)
number_is ns w h = some_of (number_of ns w) h

pub root_is_named : (ns : Names) → AreNames ns → is_named ns [] ≡ true
root_is_named ns a = ap is_some a.root

pub path_is_named : (ns : Names) → AreNames ns → (n : ℕ) (w : List ℕ) → path_of ns n ≡ Some w → is_named ns w ≡ true
path_is_named ns a n w e = ap is_some (a.named n w e)

pub same_number : (ns : Names) → AreNames ns → (v w : List ℕ) (n : ℕ) → number_of ns v ≡ Some n → number_of ns w ≡ Some n → v ≡ w
same_number ns a v w n e f = same_some v w (sym (a.numbered v n e) ∙ a.numbered w n f)

-- the deepest end of any path has a number
pub deep_is_named : (ns : Names) → AreNames ns → (w : List ℕ) → is_named ns (deepest_suffix (is_named ns) w) ≡ true
deep_is_named ns a w = deepest_is_member (is_named ns) w (root_is_named ns a)

pub deep_number : (ns : Names) → AreNames ns → (w : List ℕ) → (n : ℕ) × (number_of ns (deepest_suffix (is_named ns) w) ≡ Some n)
deep_number ns a w = number_is ns (deepest_suffix (is_named ns) w) (deep_is_named ns a w)

pub named_otherwise : (ns : Names) (p w : List ℕ) → is_named ns p ≡ false → is_named ns w ≡ true → same_path w p ≡ false
named_otherwise ns p w f t = false_from_ne_true (same_path w p) (λ e. false≢true (sym f ∙ ap (is_named ns) (sym ((same_path-Decides w p).0 e)) ∙ t))

-- ---- depths

pub depth_at : (ns : Names) (k : ℕ) (w : List ℕ) → path_of ns k ≡ Some w → depth_of ns k ≡ Some (length w)
depth_at ns k w e = ap (option_map (λ w. length w)) e

-- ---- suffix links

pub link_at : (ns : Names) (k a : ℕ) (x : List ℕ) → path_of ns k ≡ Some (a ∷ x) → link_of ns k ≡ number_of ns (deepest_suffix (is_named ns) x)
link_at ns k a x e = ap (λ o. option_and_then (number_of ns) (option_and_then (suffix_link (is_named ns)) o)) e

pub link_at_root : (ns : Names) (k : ℕ) → path_of ns k ≡ Some [] → link_of ns k ≡ None
link_at_root ns k e = ap (λ o. option_and_then (number_of ns) (option_and_then (suffix_link (is_named ns)) o)) e

pub link_at_none : (ns : Names) (k : ℕ) → path_of ns k ≡ None → link_of ns k ≡ None
link_at_none ns k e = ap (λ o. option_and_then (number_of ns) (option_and_then (suffix_link (is_named ns)) o)) e

-- what the link of a number that has one is
pub record IsLinked (ns : Names) (k v : ℕ) : Type 0 where
  pub first : ℕ
  pub back : List ℕ
  pub path : path_of ns k ≡ Some (first ∷ back)
  pub target : number_of ns (deepest_suffix (is_named ns) back) ≡ Some v

pub link_found : (ns : Names) (k v : ℕ) → link_of ns k ≡ Some v → IsLinked ns k v
link_found ns k v e = by (path_of ns k) refl
  where
    by : (o : Option (List ℕ)) → path_of ns k ≡ o → IsLinked ns k v
    by None h = absurd (none_is_some v (sym (link_at_none ns k h) ∙ e))
    by (Some []) h = absurd (none_is_some v (sym (link_at_root ns k h) ∙ e))
    by (Some (a ∷ x)) h = record { first = a; back = x; path = h; target = sym (link_at ns k a x h) ∙ e }

-- ---- edges

module _ (users : ℕ → Bool) (ns : Names) where
  pub edge_at : (k j : ℕ) (w : List ℕ) → path_of ns k ≡ Some w → edge_of users ns (k, j) ≡ edge_from users ns j w
  edge_at k j w e = ap (option_and_then (edge_from users ns j)) e

  pub edge_at_none : (k j : ℕ) → path_of ns k ≡ None → edge_of users ns (k, j) ≡ None
  edge_at_none k j e = ap (option_and_then (edge_from users ns j)) e

  pub edge_is : (j : ℕ) (w : List ℕ) → users j ≡ true → is_suffix (j ∷ []) w ≡ false → edge_from users ns j w ≡ number_of ns (deepest_suffix (is_named ns) (w ++ j ∷ []))
  edge_is j w u f = cond-true (users j && not (is_suffix (j ∷ []) w)) (number_of ns (edge_target (is_named ns) w j)) None (and_from (users j) (not (is_suffix (j ∷ []) w)) u (ap not f))

  -- what the edge of a number that has one is
  pub record IsEdge (k j x : ℕ) : Type 0 where
    pub front : List ℕ
    pub path : path_of ns k ≡ Some front
    pub user : users j ≡ true
    pub apart : is_suffix (j ∷ []) front ≡ false
    pub target : number_of ns (deepest_suffix (is_named ns) (front ++ j ∷ [])) ≡ Some x

  pub edge_found : (k j x : ℕ) → edge_of users ns (k, j) ≡ Some x → IsEdge k j x
  edge_found k j x e = by (path_of ns k) refl
    where
      by : (o : Option (List ℕ)) → path_of ns k ≡ o → IsEdge k j x
      by None h = absurd (none_is_some x (sym (edge_at_none k j h) ∙ e))
      by (Some w) h =
          let f = sym (edge_at k j w h) ∙ e in
          elim (cases_Bool (users j && not (is_suffix (j ∷ []) w))) [
            | inl t ↦
                let u = and_parts (users j) (not (is_suffix (j ∷ []) w)) t in
                record { front = w; path = h; user = u.0; apart = not-true (is_suffix (j ∷ []) w) u.1; target = sym (edge_is j w u.0 (not-true (is_suffix (j ∷ []) w) u.1)) ∙ f }
            | inr g ↦ absurd (none_is_some x (sym (cond-false (users j && not (is_suffix (j ∷ []) w)) (number_of ns (edge_target (is_named ns) w j)) None g) ∙ f))
          ]
