-- Suffix links of worlds in tables.
use Rattle.std.proofs.Common.{◌≡◌, ◌∙◌, ℕ, Bool, true, false, List, [], ◌∷◌, length, take, get_or, ◌+◌, ◌<◌, arith, Option, Some, None, is_some, refl, ap, sym, subst}
use Rattle.std.specs.Prelude.{MatchOption}
use Rattle.std.specs.Bool.{MatchBool}
use Rattle.std.specs.List.{AllByRecursion}
use Rattle.std.specs.Option.{option_and_then, option_map}
use Rattle.std.specs.FinMap as tables
use Rattle.std.proofs.lemmas.Bool.{false≢true}
use Rattle.bdb_base.specs.States.{deepest_suffix, suffix_link}
use Rattle.bdb_keep.specs.Tables.{Tables}
use Rattle.bdb_key.specs.Bytes.{num_bytes}
use Rattle.bdb_key.specs.Grammar.{IsNum}
use Rattle.bdb_tables.specs.Codec.{HasAt, TableFits, place}
use Rattle.bdb_tables.specs.InUse.{link_codec}
use Rattle.bdb_tables.specs.InUseLaws.{number_rows_are_one}
use Rattle.bdb_tables.specs.Names.{Names, AreNames, is_named, link_of, number_of, path_of}
use Rattle.bdb_tables.specs.Writes.{Gives}
use Rattle.bdb_tables.proofs.Loops.{all_at_index, all_take_more}
use Rattle.bdb_names.proofs.NameLemmas.{deep_number, link_at_none, link_found}
use Rattle.bdb_entries.proofs.ReadLemmas.{past}
use Rattle.bdb_entries.proofs.TupleLemmas.{holding}
use Rattle.bdb_graph.specs.Naming.{names_of, path_in}
use Rattle.bdb_graph.specs.States.{AllKeysPass, AreIndexed, HasLink, IsAmongWorlds, is_right, is_world, link_from}
use Rattle.bdb_names.specs.declared.named.NamedWorld.{NamedWorld}
use Rattle.bdb_graph.proofs.FindingLemmas.{all_by_place, each_at, member_is, world_at, world_fits}
use Rattle.bdb_graph.proofs.PassLemmas.{no_row, row_told}

-- ---- numbers are of four bytes

pub number_fits : (ns : Names) → AreNames ns → (w : List ℕ) → MatchOption (number_of ns w) (Unit {0}) IsNum
number_fits ns a w = by (number_of ns w) refl
  where
    by : (o : Option ℕ) → number_of ns w ≡ o → MatchOption o (Unit {0}) IsNum
    by None e = tt
    by (Some n) e = a.sized w n e

link_from_fits : (ns : Names) → AreNames ns → (w : List ℕ) → MatchOption (link_from ns w) (Unit {0}) IsNum
link_from_fits ns a [] = tt
link_from_fits ns a (i ∷ w) = number_fits ns a (deepest_suffix (is_named ns) w)

link_is : (ns : Names) (n : ℕ) (w : List ℕ) → path_of ns n ≡ Some w → link_of ns n ≡ link_from ns w
link_is ns n w e = ap (λ o. option_and_then (number_of ns) (option_and_then (suffix_link (is_named ns)) o)) e

link_fits : (ns : Names) → AreNames ns → (n : ℕ) → MatchOption (link_of ns n) (Unit {0}) IsNum
link_fits ns a n = by (path_of ns n) refl
  where
    by : (o : Option (List ℕ)) → path_of ns n ≡ o → MatchOption (link_of ns n) (Unit {0}) IsNum
    by None e = subst (λ o. MatchOption o (Unit {0}) IsNum) (sym (link_at_none ns n e)) tt
    by (Some w) e = subst (λ o. MatchOption o (Unit {0}) IsNum) (sym (link_is ns n w e)) (link_from_fits ns a w)

-- ---- one world

-- any path but the empty one has a link
pub link_missing : (ns : Names) → AreNames ns → (w : List ℕ) (found : Option ℕ) → 0 < length w → found ≡ None → false ≡ is_right found (link_from ns w)
link_missing ns a [] found some none = absurd (omega arith)
link_missing ns a (i ∷ w) found some none =
    let m = deep_number ns a w in
    sym (ap (λ o. is_right o (link_from ns (i ∷ w))) none ∙ ap (is_right None) m.1)

pub link_told : (t : Tables) (ws : List NamedWorld) → AreNames (names_of ws) → (x : NamedWorld) → IsAmongWorlds ws x → (found : Option ℕ) (b : Bool) → HasAt link_codec t x.wid found
    → b ≡ is_right found (link_from (names_of ws) x.path) → MatchBool b (HasLink t ws x) (HasLink t ws x → ⊥)
link_told t ws a x is found b h told =
    row_told link_codec number_rows_are_one t x.wid (link_of (names_of ws)) found (link_from (names_of ws) x.path) b h (link_is (names_of ws) x.wid x.path is) (link_from_fits (names_of ws) a x.path) told

-- ---- all worlds

pub linked_more : (t u : Tables) (ws : List NamedWorld) (k : ℕ) (x : NamedWorld) (b : Bool) → k < length ws → x ≡ get_or ws k x → u ≡ t → b ≡ true
    → MatchBool b (HasLink u ws x) (HasLink u ws x → ⊥) → AllByRecursion (HasLink t ws) (take k ws) → AllByRecursion (HasLink t ws) (take (k + 1) ws)
linked_more t u ws k x b l is same good told h = all_take_more (HasLink t ws) ws k x l is h (subst (λ v. HasLink v ws x) same (holding (HasLink u ws x) (HasLink u ws x → ⊥) b good told))

pub not_linked : (t u : Tables) (ws : List NamedWorld) (k : ℕ) (x : NamedWorld) (b : Bool) → k < length ws → x ≡ get_or ws k x → u ≡ t → b ≡ false
    → MatchBool b (HasLink u ws x) (HasLink u ws x → ⊥) → AllByRecursion (HasLink t ws) ws → ⊥
not_linked t u ws k x b l is same bad told h = past (HasLink u ws x) (HasLink u ws x → ⊥) b bad told (subst (λ v. HasLink v ws x) (sym same) (all_at_index (HasLink t ws) ws k x l is h))

-- ---- the table

module _ (t : Tables) (ws : List NamedWorld) (ps : List (List ℕ)) (h : AreIndexed ws ps) where
  links_give : TableFits link_codec t → AllByRecursion (HasLink t ws) ws → AllKeysPass link_codec t (is_world ws) → Gives link_codec t (link_of (names_of ws))
  links_give fits each only = record {
    fits = fits;
    rows = λ k f. by k f (path_in ws k) refl;
    written = λ k f. link_fits (names_of ws) h.names k;
  }
    where
      by : (k : ℕ) → IsNum k → (o : Option (List ℕ)) → path_in ws k ≡ o → tables.get t (place link_codec k) ≡ option_map num_bytes (link_of (names_of ws) k)
      by k f None e =
          no_row link_codec (is_world ws) t k f only (member_is ws k ∙ ap is_some e)
          ∙ ap (option_map num_bytes) (sym (link_at_none (names_of ws) k e))
      by k f (Some w) e = each_at (λ n. tables.get t (place link_codec n) ≡ option_map num_bytes (link_of (names_of ws) n)) ws each k w e

  all_linked : Gives link_codec t (link_of (names_of ws)) → AllByRecursion (HasLink t ws) ws
  all_linked gives =
      all_by_place (HasLink t ws) ws (λ k x l is. gives.rows x.wid (world_fits ws h.names x (world_at ws k x h.sorted l is)))

  only_linked : Gives link_codec t (link_of (names_of ws)) → AllKeysPass link_codec t (is_world ws)
  only_linked gives k f s = by (link_of (names_of ws) k) refl
    where
      by : (o : Option ℕ) → link_of (names_of ws) k ≡ o → is_world ws k ≡ true
      by None e = absurd (false≢true (sym (ap is_some (gives.rows k f ∙ ap (option_map num_bytes) e)) ∙ s))
      by (Some x) e = member_is ws k ∙ ap is_some (link_found (names_of ws) k x e).path

  pub links_known : (u : Tables) (a b : Bool) → u ≡ t → TableFits link_codec t → a ≡ true → MatchBool a (AllByRecursion (HasLink t ws) ws) (AllByRecursion (HasLink t ws) ws → ⊥)
      → MatchBool b (AllKeysPass link_codec u (is_world ws)) (AllKeysPass link_codec u (is_world ws) → ⊥)
      → MatchBool b (Gives link_codec t (link_of (names_of ws))) (Gives link_codec t (link_of (names_of ws)) → ⊥)
  links_known u a true same fits e each only = links_give fits (holding (AllByRecursion (HasLink t ws) ws) (AllByRecursion (HasLink t ws) ws → ⊥) a e each) (subst (λ v. AllKeysPass link_codec v (is_world ws)) same only)
  links_known u a false same fits e each only = λ gives. only (subst (λ v. AllKeysPass link_codec v (is_world ws)) (sym same) (only_linked gives))

  pub no_links : (a : Bool) → a ≡ false → MatchBool a (AllByRecursion (HasLink t ws) ws) (AllByRecursion (HasLink t ws) ws → ⊥) → Gives link_codec t (link_of (names_of ws)) → ⊥
  no_links a e each gives = past (AllByRecursion (HasLink t ws) ws) (AllByRecursion (HasLink t ws) ws → ⊥) a e each (all_linked gives)
