-- Tables with the one world of the empty path.
use Rattle.std.proofs.Common.{◌≡◌, ◌∙◌, ℕ, ◌<◌, ◌^◌, Bool, true, false, nat_eq, cond, List, [], ◌∷◌, ◌++◌, refl, ap, sym, subst, inl, inr, arith, length, Option, Some, None, lit<}
use Rattle.std.specs.Option.{is_some, option_map}
use Rattle.std.specs.List.{list_all}
use Rattle.std.specs.FinMap as map
use Rattle.std.proofs.lemmas.Bool.{cases_Bool, false≢true, cond-true, cond-false, eqb-true}
use Rattle.bdb_base.specs.Alternation.{alternates}
use Rattle.bdb_base.specs.Same.{same_path}
use Rattle.bdb_base.specs.SameLemmas.{same_path-Decides}
use Rattle.bdb_base.specs.OrderLemmas.{is_eq_nat_cmp}
use Rattle.bdb_base.proofs.ListLemmas.{or_false}
use Rattle.bdb_base.proofs.OptionLemmas.{none_is_some, same_some}
use Rattle.bdb_keep.specs.Tables.{Tables}
use Rattle.bdb_key.specs.Grammar.{IsNum}
use Rattle.bdb_tables.specs.Codec.{Codec}
use Rattle.bdb_tables.specs.InUse.{depth_codec, link_codec, linked_codec, edge_codec, led_codec}
use Rattle.bdb_tables.specs.InUseLaws.{numbers_in_order}
use Rattle.bdb_tables.specs.Names.{AreNames, path_of, number_of, is_named, leads_to, depth_of, link_of, edge_of}
use Rattle.bdb_tables.specs.States.{row_where}
use Rattle.bdb_tables.specs.Writes.{Gives, with_row_at}
use Rattle.bdb_tables.proofs.WriteLemmas.{change_gives, change_elsewhere, gives_same}
use Rattle.bdb_names.proofs.NameLemmas.{link_at_root, link_at_none, edge_found}
use Rattle.bdb_worlds.specs.Root.{root_names, RootIsWorld}

none_gives : {Key Row : Type 0} (c : Codec Key Row) (t : Tables) → ((k : List ℕ) → map.get t (c.number ∷ k) ≡ None) → Gives c t (λ _. None)
none_gives c t none = record { fits = λ k r found. absurd (none_is_some r (sym (none k) ∙ found)); rows = λ key fits. none (c.key_bytes key); written = λ key fits. tt }

only_root : (w : List ℕ) (n : ℕ) → number_of root_names w ≡ Some n → (w ≡ []) × (n ≡ 0)
only_root w n e = elim (cases_Bool (same_path w [])) [
  | inl t ↦ ((same_path-Decides w []).0 t, same_some n 0 (sym e ∙ cond-true (same_path w []) (Some 0) None t))
  | inr f ↦ absurd (none_is_some n (sym (cond-false (same_path w []) (Some 0) None f) ∙ e))
]

only_zero : (n : ℕ) (w : List ℕ) → path_of root_names n ≡ Some w → (n ≡ 0) × (w ≡ [])
only_zero n w e = elim (cases_Bool (nat_eq n 0)) [
  | inl t ↦ (eqb-true n 0 t, same_some w [] (sym e ∙ cond-true (nat_eq n 0) (Some []) None t))
  | inr f ↦ absurd (none_is_some w (sym (cond-false (nat_eq n 0) (Some []) None f) ∙ e))
]

named_root : (w : List ℕ) → is_named root_names w ≡ true → w ≡ []
named_root w h = by (same_path w []) refl
  where
    by : (b : Bool) → same_path w [] ≡ b → w ≡ []
    by true t = (same_path-Decides w []).0 t
    by false f = absurd (false≢true (ap (λ b. is_some {T = ℕ} (cond b (Some 0) None)) (sym f) ∙ h))

front_is_empty : (p q : List ℕ) → p ++ q ≡ [] → p ≡ []
front_is_empty [] q e = refl
front_is_empty (i ∷ p) q e = absurd cc

pub root_is_names : AreNames root_names
root_is_names = record {
  root = refl;
  named = λ n w e. let k = only_zero n w e in ap (number_of root_names) k.1 ∙ ap Some (sym k.0);
  numbered = λ w n e. let k = only_root w n e in ap (path_of root_names) k.1 ∙ ap Some (sym k.0);
  prefixes = λ p q h. ap (is_named root_names) (front_is_empty p q (named_root (p ++ q) h));
  apart = λ w h. ap alternates (named_root w h);
  sized = λ w n e. subst IsNum (sym (only_root w n e).1) (lit< tt);
  short = λ w h. subst (λ v. length v < 2 ^ 32) (sym (named_root w h)) (lit< tt);
  counted = λ n. or_false (nat_eq n 0) ∙ by (nat_eq n 0);
  once = refl;
  few = omega arith;
}
  where
    by : (b : Bool) → b ≡ is_some {T = List ℕ} (cond b (Some []) None)
    by true = refl
    by false = refl

no_link : (k : ℕ) (o : Option (List ℕ)) → path_of root_names k ≡ o → link_of root_names k ≡ None
no_link k None e = link_at_none root_names k e
no_link k (Some w) e = link_at_root root_names k (e ∙ ap Some (only_zero k w e).1)

no_edge : (k : ℕ × ℕ) (o : Option ℕ) → edge_of (λ _. false) root_names k ≡ o → edge_of (λ _. false) root_names k ≡ None
no_edge k None e = e
no_edge k (Some x) e = absurd (false≢true (edge_found (λ _. false) root_names k.0 k.1 x e).user)

depth_is : (b : Bool) → cond b (Some 0) None ≡ option_map (λ (w : List ℕ). length w) (cond b (Some []) None)
depth_is true = refl
depth_is false = refl

pub root_is_world : RootIsWorld
root_is_world t none = record {
  names = root_is_names;
  numbers = λ i h. absurd (false≢true h);
  own = λ w h. ap (list_all (λ _. false)) (named_root w h);
  tables = record {
    depth = gives_same depth_codec _ (with_row_at depth_codec (λ _. None) (0, Some 0)) (depth_of root_names) (λ q _. ap (λ b. cond b (Some 0) None) (is_eq_nat_cmp q 0) ∙ depth_is (nat_eq q 0))
        (change_gives depth_codec numbers_in_order t (λ _. None) (0, Some 0) (record { key = lit< tt; row = lit< tt }) (none_gives depth_codec t (λ k. none 6 k refl)));
    link = change_elsewhere link_codec depth_codec (λ x. cc) t (link_of root_names) (0, Some 0)
        (gives_same link_codec t (λ _. None) (link_of root_names) (λ q _. sym (no_link q (path_of root_names q) refl)) (none_gives link_codec t (λ k. none 7 k refl)));
    linked = change_elsewhere linked_codec depth_codec (λ x. cc) t _ (0, Some 0)
        (gives_same linked_codec t (λ _. None) (λ k. row_where (leads_to (link_of root_names k.1) k.0)) (λ q _. sym (ap (λ o. row_where (leads_to o q.0)) (no_link q.1 (path_of root_names q.1) refl))) (none_gives linked_codec t (λ k. none 8 k refl)));
    edge = change_elsewhere edge_codec depth_codec (λ x. cc) t (edge_of (λ _. false) root_names) (0, Some 0)
        (gives_same edge_codec t (λ _. None) (edge_of (λ _. false) root_names) (λ q _. sym (no_edge q (edge_of (λ _. false) root_names q) refl)) (none_gives edge_codec t (λ k. none 9 k refl)));
    led = change_elsewhere led_codec depth_codec (λ x. cc) t _ (0, Some 0)
        (gives_same led_codec t (λ _. None) (λ k. row_where (leads_to (edge_of (λ _. false) root_names (k.1, k.2)) k.0)) (λ q _. sym (ap (λ o. row_where (leads_to o q.0)) (no_edge (q.1, q.2) (edge_of (λ _. false) root_names (q.1, q.2)) refl))) (none_gives led_codec t (λ k. none 10 k refl)));
  };
}
