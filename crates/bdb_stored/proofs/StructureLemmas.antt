-- The structure, put together from what is read of its parts.
use Rattle.std.proofs.Common.{◌∙◌, ◌<◌, ◌^◌, List, length, ap, arith, ◌≡◌, ◌≤◌, ◌+◌, ◌*◌, ℕ, sym}
use Rattle.std.proofs.lemmas.List.{length-map}
use Rattle.std.proofs.lemmas.Nat.{mul-le}
use Rattle.bdb_base.specs.Bases.{Contents}
use Rattle.bdb_base.specs.Queries.{user_numbers}
use Rattle.bdb_base.specs.States.{states_of}
use Rattle.bdb_base.specs.WorldRows.{tuples_of}
use Rattle.bdb_base.specs.declared.tuple.Tuple.{Tuple}
use Rattle.bdb_canon.specs.Canonical.{AreTuplesInOrder, canon_of}
use Rattle.bdb_canon.specs.declared.structure.Canon.{Canon}
use Rattle.bdb_canon.specs.declared.structure.CanonEdge.{CanonEdge}
use Rattle.bdb_canon.specs.declared.structure.CanonRow.{CanonRow}
use Rattle.bdb_canon.specs.declared.structure.CanonWorld.{CanonWorld}
use Rattle.bdb_canon.proofs.PlaceLemmas.{few_states, tuples_are}
use Rattle.bdb_keep.specs.Tables.{Tables}
use Rattle.bdb_stored.specs.Structure.{edges_of, rows_of, worlds_with_links}
use Rattle.bdb_catalog.specs.Bases.{StoresSome, StoresValid}
use Rattle.bdb_catalog.specs.Opening.{IsPartOf}
use Rattle.bdb_stored.specs.Worlds.{TellsStates}
use Rattle.bdb_names.specs.declared.named.NamedWorld.{NamedWorld}
use Rattle.bdb_stored.proofs.UserLemmas.{few_numbers}

-- there are few states
pub states_few : (t : Tables) (worlds : List NamedWorld) → StoresSome t → TellsStates t worlds → length worlds < 2 ^ 32
states_few t worlds s are =
    let b = s.base in
    let n = ap length (are b s.stores) ∙ length-map (states_of b.stmts) _ in
    let f = few_states b.catalog b.stmts s.stores.valid in
    omega arith

-- the tuples are in order, and few
pub tuples_in_set : (t : Tables) (tuples : List Tuple) → StoresSome t → IsPartOf (λ b. tuples_of b.stmts) t tuples → AreTuplesInOrder tuples
tuples_in_set t tuples s told = tuples_are s.base.catalog s.base.stmts tuples s.stores.valid (told s.base s.stores)

made : List CanonWorld → List Tuple → List CanonEdge → List CanonRow → Canon
made worlds tuples edges rows = record { worlds = worlds; tuples = tuples; edges = edges; rows = rows }

pub structure_told : (t : Tables) (worlds : List CanonWorld) (tuples : List Tuple) (edges : List CanonEdge) (rows : List CanonRow) → IsPartOf worlds_with_links t worlds → IsPartOf (λ b. tuples_of b.stmts) t tuples
    → IsPartOf edges_of t edges → IsPartOf rows_of t rows → IsPartOf canon_of t (record { worlds = worlds; tuples = tuples; edges = edges; rows = rows })
unfolding made
structure_told t worlds tuples edges rows w u e r b v =
    ap (λ x. made x tuples edges rows) (w b v) ∙ ap (λ x. made (worlds_with_links b) x edges rows) (u b v)
    ∙ ap (λ x. made (worlds_with_links b) (tuples_of b.stmts) x rows) (e b v) ∙ ap (λ x. made (worlds_with_links b) (tuples_of b.stmts) (edges_of b) x) (r b v)

-- ---- how much is read

pub users_at_most : (t : Tables) (numbers : List ℕ) (b : Contents) → StoresValid t b → IsPartOf (λ b. user_numbers b.catalog.users) t numbers → length numbers ≤ length b.catalog.users
users_at_most t numbers b v told =
    let many = ap (λ (xs : List ℕ). length xs) (told b v) in
    let few = few_numbers b.catalog.users in
    omega (arith, many, few)

pub linked_as_many : (t : Tables) (worlds : List NamedWorld) (linked : List CanonWorld) (b : Contents) → StoresValid t b → TellsStates t worlds → IsPartOf worlds_with_links t linked → length linked ≡ length worlds
linked_as_many t worlds linked b v are told =
    ap (λ (xs : List CanonWorld). length xs) (told b v) ∙ length-map (states_of b.stmts) _
    ∙ sym (ap (λ (xs : List NamedWorld). length xs) (are b v) ∙ length-map (states_of b.stmts) _)

pub read_in_all : (a b c d e f h : ℕ) (users worlds tuples rows : ℕ) (u u1 w w2 w3 u4 w5 : ℕ) → u ≤ users → worlds ≡ w → u1 ≡ u → w2 ≡ w → w3 ≡ w → u4 ≡ u → w5 ≡ w
    → b ≤ a + (users + 1) → c ≤ b + (w + 1 + w * (2 * u1)) → d ≤ c + (tuples + 1) → e ≤ d + w2 → f ≤ e + w3 * u4 → h ≤ f + (w5 + 2 * rows)
    → h ≤ a + (3 * (worlds * users) + 3 * worlds + users + tuples + 2 * rows + 3)
read_in_all a b c d e f h users worlds tuples rows u u1 w w2 w3 u4 w5 lu ew e1 e2 e3 e4 e5 r1 r2 r3 r4 r5 r6 =
    let p : w * (2 * u1) ≡ 2 * (w * u1) = double w u1 in
    let l : w * u1 ≤ worlds * users = mul-le w u1 worlds users (omega (arith, ew)) (omega (arith, e1, lu)) in
    let q : w3 * u4 ≤ worlds * users = mul-le w3 u4 worlds users (omega (arith, ew, e3)) (omega (arith, e4, lu)) in
    omega (arith, p, l, q, ew, e2, e5, r1, r2, r3, r4, r5, r6)
  where
    double : (m n : ℕ) → m * (2 * n) ≡ 2 * (m * n)
    double m n = grind arith
