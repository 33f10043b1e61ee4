-- The sets of the tuples and of the states of statements, as tests.
use Rattle.std.proofs.Common.{◌≡◌, ◌∙◌, ℕ, Bool, true, ◌||◌, List, [], ◌∷◌, map, refl, ap}
use Rattle.bdb_base.specs.Bases.{has_tuple}
use Rattle.bdb_base.specs.Order.{path_cmp, tuple_cmp}
use Rattle.bdb_base.specs.OrderLemmas.{path_exact, tuple_exact, is_eq_tuple_cmp}
use Rattle.bdb_base.specs.Same.{same_tuple}
use Rattle.bdb_base.specs.SortedSet.{ascending, is_member}
use Rattle.bdb_base.specs.States.{is_state, stated_prefixes, states_of}
use Rattle.bdb_base.specs.WorldRows.{tuples_of}
use Rattle.bdb_base.specs.declared.kinds.Stmt.{Stmt}
use Rattle.bdb_base.specs.declared.tuple.Tuple.{Tuple}
use Rattle.bdb_base.proofs.ClashLemmas.{same_tuple_turned}
use Rattle.bdb_base.proofs.SetLemmas.{set_is_ascending, set_keeps_members}
use Rattle.bdb_base.proofs.ListLemmas.{list_all_same}
use Rattle.bdb_paths.proofs.StateLemmas.{list_has_states}
use Rattle.bdb_decode.specs.Explicit.{Paths, TupleRows}
use Rattle.bdb_decode.specs.Stated.{all_in, all_stated, all_states}

member_stated : (stmts : List Stmt) (u : Tuple) → is_member tuple_cmp (map (λ x. x.tuple) stmts) u ≡ has_tuple stmts u
member_stated [] u = refl
member_stated (x ∷ stmts) u =
    ap (λ b. b || is_member tuple_cmp (map (λ x. x.tuple) stmts) u) (is_eq_tuple_cmp x.tuple u ∙ same_tuple_turned x.tuple u)
    ∙ ap (λ b. same_tuple u x.tuple || b) (member_stated stmts u)

pub tuples_ascend : (stmts : List Stmt) (set : List Tuple) → set ≡ tuples_of stmts → ascending tuple_cmp set ≡ true
tuples_ascend stmts set e = ap (ascending tuple_cmp) e ∙ set_is_ascending tuple_exact (map (λ x. x.tuple) stmts)

pub tells_stated : (stmts : List Stmt) (set : List Tuple) (tuples : TupleRows) (b : Bool) → set ≡ tuples_of stmts → b ≡ all_in tuple_cmp set tuples → b ≡ all_stated stmts tuples
tells_stated stmts set tuples b e own =
    own ∙ ap (λ s. all_in tuple_cmp s tuples) e
    ∙ list_all_same (λ (r : ℕ × Tuple). is_member tuple_cmp (tuples_of stmts) r.1) (λ r. has_tuple stmts r.1)
    (λ r. set_keeps_members tuple_exact (map (λ x. x.tuple) stmts) r.1 ∙ member_stated stmts r.1) tuples

pub states_ascend : (stmts : List Stmt) (set : List (List ℕ)) → set ≡ states_of stmts → ascending path_cmp set ≡ true
states_ascend stmts set e = ap (ascending path_cmp) e ∙ set_is_ascending path_exact (stated_prefixes stmts)

pub tells_states : (stmts : List Stmt) (set : List (List ℕ)) (worlds : Paths) (b : Bool) → set ≡ states_of stmts → b ≡ all_in path_cmp set worlds → b ≡ all_states stmts worlds
tells_states stmts set worlds b e own =
    own ∙ ap (λ s. all_in path_cmp s worlds) e
    ∙ list_all_same (λ (r : ℕ × List ℕ). is_member path_cmp (states_of stmts) r.1) (λ r. is_state stmts r.1) (λ r. list_has_states stmts r.1) worlds
