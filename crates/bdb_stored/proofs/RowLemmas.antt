-- The rows of the states' worlds, by the places of states and tuples.
use Rattle.std.proofs.Common.{◌≡◌, ◌∙◌, ℕ, ◌+◌, ◌<◌, ◌≤◌, List, [], ◌++◌, length, map, take, get_or, refl, ap, sym, arith, length-append}
use Rattle.std.specs.List.{flat_map}
use Rattle.std.proofs.lemmas.List.{length-map, take_all}
use Rattle.bdb_base.specs.Order.{path_cmp}
use Rattle.bdb_base.specs.States.{states_of}
use Rattle.bdb_base.specs.WorldRows.{tuples_of, world_of}
use Rattle.bdb_base.specs.declared.kinds.Held.{Held}
use Rattle.bdb_base.specs.declared.tuple.Tuple.{Tuple}
use Rattle.bdb_base.proofs.WorldLemmas.{valid_is_consistent}
use Rattle.bdb_canon.specs.Canonical.{rows_from}
use Rattle.bdb_canon.specs.declared.structure.CanonRow.{CanonRow}
use Rattle.bdb_keep.specs.Tables.{Tables}
use Rattle.bdb_paths.specs.Places.{place_in}
use Rattle.bdb_val.specs.WorldReads.{AreRowsAt}
use Rattle.bdb_stored.specs.Structure.{row_placed, rows_of}
use Rattle.bdb_catalog.specs.Opening.{IsPartOf}
use Rattle.bdb_stored.specs.Worlds.{TellsStates}
use Rattle.bdb_names.specs.declared.named.NamedWorld.{NamedWorld}
use Rattle.bdb_stored.proofs.LinkLemmas.{flat_more}
use Rattle.bdb_stored.proofs.PlaceLemmas.{at_place}
use Rattle.bdb_update.proofs.KeyLemmas.{lengths_fit}
use Rattle.bdb_update.specs.Keys.{keys_of}

-- the rows of the worlds of the first states
abbrev pub FirstRows : ℕ → Tables → List CanonRow → Type 0
FirstRows k t xs = IsPartOf (λ b. flat_map (rows_from (keys_of b) b.stmts (states_of b.stmts) (tuples_of b.stmts)) (take k (states_of b.stmts))) t xs

-- a row with a world's place
placed_at : (tuples : List Tuple) (m n : ℕ) → m ≡ n → (hs : List Held) → map (row_placed tuples m) hs ≡ map (row_placed tuples n) hs
placed_at tuples m n e hs = ap (λ k. map (row_placed tuples k) hs) e

-- the rows with those of one world more
pub rows_many : (tuples : List Tuple) (place : ℕ) (held : List Held) (now next : List CanonRow) → next ≡ now ++ map (row_placed tuples place) held → length next ≡ length now + length held
rows_many tuples place held now next made =
    ap (λ (rs : List CanonRow). length rs) made ∙ length-append now (map (row_placed tuples place) held) ∙ ap (λ n. length now + n) (length-map held (row_placed tuples place))

module _ (t : Tables) (worlds : List NamedWorld) (are : TellsStates t worlds) where
  pub rows_begin : FirstRows 0 t []
  rows_begin b v = refl

  pub rows_more : (k : ℕ) (x d : NamedWorld) (place : ℕ) (tuples : List Tuple) (held : List Held) (now next : List CanonRow) → k < length worlds → x ≡ get_or worlds k d → place ≡ k
      → IsPartOf (λ b. tuples_of b.stmts) t tuples → FirstRows k t now → AreRowsAt t x.wid held → next ≡ now ++ map (row_placed tuples place) held → FirstRows (k + 1) t next
  rows_more k x d place tuples held now next l is same told first read made b v =
      let a = at_place t b v worlds (are b v) k x d l is in
      let s = v.stored.stored in
      let states = states_of b.stmts in
      let all = tuples_of b.stmts in
      let f = rows_from (keys_of b) b.stmts states all in
      made
      ∙ ap (λ rs. now ++ rs)
      (ap (map (row_placed tuples place)) (read (keys_of b) b.stmts v.stored.names v.stored.tuples x.path (lengths_fit t b.catalog.rels s.rels) (valid_is_consistent b.catalog b.stmts v.valid) s.states.names s.tuples s.rows a.state)
      ∙ ap (λ us. map (row_placed us place) (world_of (keys_of b) b.stmts x.path)) (told b v)
      ∙ placed_at all place (place_in path_cmp states x.path) (same ∙ a.place) (world_of (keys_of b) b.stmts x.path)
      ∙ ap f a.path)
      ∙ ap (λ rs. rs ++ f (get_or states k [])) (first b v)
      ∙ sym (flat_more f states k [] a.within)

  pub rows_all : (k : ℕ) (xs : List CanonRow) → length worlds ≤ k → FirstRows k t xs → IsPartOf rows_of t xs
  rows_all k xs l first b v =
      let n = ap length (are b v) ∙ length-map (states_of b.stmts) _ in
      first b v ∙ ap (flat_map (rows_from (keys_of b) b.stmts (states_of b.stmts) (tuples_of b.stmts))) (take_all k (states_of b.stmts) (omega arith))
