-- Where links and edges lead, and the lists of a valid base.
use Rattle.std.proofs.Common.{◌≡◌, ◌∙◌, ℕ, ◌≤◌, true, List, [], ◌∷◌, ◌++◌, refl, ap, sym, arith, length, map, Some}
use Rattle.std.proofs.lemmas.Bool.{leb-true}
use Rattle.bdb_base.specs.declared.kinds.Catalog.{Catalog}
use Rattle.bdb_base.specs.declared.kinds.Stmt.{Stmt}
use Rattle.bdb_base.specs.declared.tuple.Tuple.{Tuple}
use Rattle.bdb_base.specs.Bases.{IsValid, tuple_count, world_count}
use Rattle.bdb_base.specs.Limits.{most_tuples, most_worlds}
use Rattle.bdb_base.specs.Order.{path_cmp, tuple_cmp}
use Rattle.bdb_base.specs.OrderLemmas.{path_exact, tuple_exact}
use Rattle.bdb_base.specs.Same.{same_tuple}
use Rattle.bdb_base.specs.SameLemmas.{same_tuple-Decides}
use Rattle.bdb_base.specs.SortedSet.{ascending, is_member}
use Rattle.bdb_base.specs.States.{deepest_suffix, is_state, states_of, stated_prefixes}
use Rattle.bdb_base.specs.WorldRows.{tuples_of}
use Rattle.bdb_base.proofs.CountLemmas.{put_all_count}
use Rattle.bdb_base.proofs.SetLemmas.{loop_makes_set, set_is_ascending}
use Rattle.bdb_paths.proofs.StateLemmas.{list_has_states, states_are_counted}
use Rattle.bdb_paths.proofs.PlaceLemmas.{target_stands}
use Rattle.bdb_paths.proofs.SuffixLemmas.{deepest_same}
use Rattle.bdb_canon.specs.Canonical.{AreStates, AreTuplesInOrder}
use Rattle.bdb_canon.specs.CanonLaws.{LinksLeadToStates, EdgesLeadToStates}

-- ---- states

pub root_is_listed : (stmts : List Stmt) → is_member path_cmp (states_of stmts) [] ≡ true
root_is_listed stmts = list_has_states stmts []

pub listed_deepest : (stmts : List Stmt) (w : List ℕ) → deepest_suffix (is_member path_cmp (states_of stmts)) w ≡ deepest_suffix (is_state stmts) w
listed_deepest stmts = deepest_same (is_member path_cmp (states_of stmts)) (is_state stmts) (list_has_states stmts)

pub links_lead_to_states : LinksLeadToStates
links_lead_to_states stmts [] = refl
links_lead_to_states stmts (i ∷ w) = target_stands (states_of stmts) w (root_is_listed stmts) ∙ ap Some (listed_deepest stmts w)

pub edges_lead_to_states : EdgesLeadToStates
edges_lead_to_states stmts w i = target_stands (states_of stmts) (w ++ i ∷ []) (root_is_listed stmts) ∙ ap Some (listed_deepest stmts (w ++ i ∷ []))

-- ---- the lists of a valid base

pub few_states : (c : Catalog) (stmts : List Stmt) → IsValid c stmts → length (states_of stmts) ≤ most_worlds
few_states c stmts v = let n = states_are_counted stmts in let m = leb-true (world_count stmts) most_worlds v.stmts.few_worlds in omega arith

pub few_tuples : (c : Catalog) (stmts : List Stmt) → IsValid c stmts → length (tuples_of stmts) ≤ most_tuples
few_tuples c stmts v =
    let ts = map (λ (x : Stmt). x.tuple) stmts in
    let n : length (tuples_of stmts) ≡ tuple_count stmts = ap length (sym (loop_makes_set tuple_exact ts)) ∙ put_all_count same_tuple same_tuple-Decides tuple_exact ts in
    let m = leb-true (tuple_count stmts) most_tuples v.stmts.few_tuples in
    omega arith

pub states_are : (c : Catalog) (stmts : List Stmt) (states : List (List ℕ)) → IsValid c stmts → states ≡ states_of stmts → AreStates states
states_are c stmts states v e =
    let n = few_states c stmts v in
    let l = ap length e in
    record {
      sorted = ap (ascending path_cmp) e ∙ set_is_ascending path_exact (stated_prefixes stmts);
      root = ap (λ xs. is_member path_cmp xs []) e ∙ root_is_listed stmts;
      few = omega arith;
    }

pub tuples_are : (c : Catalog) (stmts : List Stmt) (tuples : List Tuple) → IsValid c stmts → tuples ≡ tuples_of stmts → AreTuplesInOrder tuples
tuples_are c stmts tuples v e =
    let n = few_tuples c stmts v in
    let l = ap length e in
    record { sorted = ap (ascending tuple_cmp) e ∙ set_is_ascending tuple_exact (map (λ x. x.tuple) stmts); few = omega arith }
