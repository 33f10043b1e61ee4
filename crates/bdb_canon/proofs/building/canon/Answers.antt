use Rattle.std.proofs.Common.{◌≡◌, ◌∙◌, ℕ, List, ap, map}
use Rattle.std.specs.List.{flat_map}
use Rattle.bdb_base.specs.declared.kinds.Stmt.{Stmt}
use Rattle.bdb_base.specs.declared.tuple.Tuple.{Tuple}
use Rattle.bdb_base.specs.Bases.{key_lengths}
use Rattle.bdb_base.specs.Queries.{user_numbers}
use Rattle.bdb_base.specs.States.{states_of}
use Rattle.bdb_base.specs.WorldRows.{tuples_of}
use Rattle.bdb_canon.specs.declared.structure.Canon.{Canon}
use Rattle.bdb_canon.specs.declared.structure.CanonEdge.{CanonEdge}
use Rattle.bdb_canon.specs.declared.structure.CanonRow.{CanonRow}
use Rattle.bdb_canon.specs.declared.structure.CanonWorld.{CanonWorld}
use Rattle.bdb_canon.specs.Canonical.{canon_over, edges_from, rows_from, world_entry}
use Rattle.bdb_canon.proofs.PlaceLemmas.{states_are, tuples_are}
use Rattle.bdb_canon.proofs.building.canon.Goals as goal

pub worlds_of-requires : goal.worlds_of-requires
worlds_of-requires c = states_are c.args.base.now.catalog c.args.base.now.stmts c.as_slice-2.result.now c.stmts-stmts.ensures.valid
    (c.as_slice-2.ensures ∙ c.in_ok-states.ensures ∙ ap states_of c.stmts-stmts.ensures.value)

pub edges_of-requires : goal.edges_of-requires
edges_of-requires c = states_are c.args.base.now.catalog c.args.base.now.stmts c.as_slice-4.result.now c.stmts-stmts.ensures.valid
    (c.as_slice-4.ensures ∙ c.in_ok-states.ensures ∙ ap states_of c.stmts-stmts.ensures.value)

pub rows_of-requires-clause-states : goal.rows_of-requires-clause-states
rows_of-requires-clause-states c = states_are c.args.base.now.catalog c.args.base.now.stmts c.as_slice-5.result.now c.stmts-stmts.ensures.valid
    (c.as_slice-5.ensures ∙ c.in_ok-states.ensures ∙ ap states_of c.stmts-stmts.ensures.value)

pub rows_of-requires-clause-tuples : goal.rows_of-requires-clause-tuples
rows_of-requires-clause-tuples c = tuples_are c.args.base.now.catalog c.args.base.now.stmts c.as_slice-6.result.now c.stmts-stmts.ensures.valid
    (c.as_slice-6.ensures ∙ c.in_ok-tuples.ensures ∙ ap tuples_of c.stmts-stmts.ensures.value)

abbrev made : List CanonWorld → List Tuple → List CanonEdge → List CanonRow → Canon
made ws ts es rs = record { worlds = ws; tuples = ts; edges = es; rows = rs }

from_parts : (keys : ℕ → ℕ) (stmts : List Stmt) (users : List ℕ) (states : List (List ℕ)) (tuples : List Tuple) (ws : List CanonWorld) (ts : List Tuple) (es : List CanonEdge) (rs : List CanonRow)
    → ws ≡ map (world_entry states) states → ts ≡ tuples → es ≡ flat_map (edges_from users states) states → rs ≡ flat_map (rows_from keys stmts states tuples) states
    → made ws ts es rs ≡ canon_over keys stmts users states tuples
from_parts keys stmts users states tuples ws ts es rs w t e r =
    ap (λ x. made x ts es rs) w ∙ ap (λ x. made (map (world_entry states) states) x es rs) t
    ∙ ap (λ x. made (map (world_entry states) states) tuples x rs) e
    ∙ ap (λ x. made (map (world_entry states) states) tuples (flat_map (edges_from users states) states) x) r

pub returns : goal.returns
returns c =
    let base = c.args.base.now in
    let stmts = c.stmts-stmts.ensures.value in
    let users = c.as_slice-3.ensures ∙ c.in_ok-users.ensures ∙ ap user_numbers (c.as_slice.ensures ∙ ap (λ k. k.users) c.catalog-catalog.ensures.value) in
    let states = c.in_ok-states.ensures ∙ ap states_of stmts in
    let tuples = c.in_ok-tuples.ensures ∙ ap tuples_of stmts in
    let keys = key_lengths base.catalog.rels in
    from_parts keys base.stmts (user_numbers base.catalog.users) (states_of base.stmts) (tuples_of base.stmts)
    c.in_ok-worlds.worlds c.in_ok-tuples.tuples c.in_ok-edges.edges c.in_ok-rows.rows
    (c.in_ok-worlds.ensures ∙ ap (λ xs. map (world_entry xs) xs) (c.as_slice-2.ensures ∙ states))
    tuples
    (c.in_ok-edges.ensures ∙ ap (λ us. flat_map (edges_from us c.as_slice-4.result.now) c.as_slice-4.result.now) users
    ∙ ap (λ xs. flat_map (edges_from (user_numbers base.catalog.users) xs) xs) (c.as_slice-4.ensures ∙ states))
    (c.in_ok-rows.ensures ∙ ap (λ rs. flat_map (rows_from (key_lengths rs) c.stmts-stmts.result.now c.as_slice-5.result.now c.as_slice-6.result.now) c.as_slice-5.result.now)
    (c.as_slice-rels.ensures ∙ ap (λ k. k.rels) c.catalog-catalog.ensures.value)
    ∙ ap (λ ss. flat_map (rows_from keys ss c.as_slice-5.result.now c.as_slice-6.result.now) c.as_slice-5.result.now) stmts
    ∙ ap (λ xs. flat_map (rows_from keys base.stmts xs c.as_slice-6.result.now) xs) (c.as_slice-5.ensures ∙ states)
    ∙ ap (λ ts. flat_map (rows_from keys base.stmts (states_of base.stmts) ts) (states_of base.stmts)) (c.as_slice-6.ensures ∙ tuples))
