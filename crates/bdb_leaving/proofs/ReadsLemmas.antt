-- How many reads it takes to find the statements whose paths name a user.
use Rattle.std.proofs.Common.{◌≡◌, ◌∙◌, ℕ, ◌+◌, ◌*◌, ◌<◌, ◌≤◌, true, List, [], ◌∷◌, length, map, take, get_or, refl, ap, sym, subst, arith}
use Rattle.std.specs.Prelude.{sum_by}
use Rattle.std.proofs.lemmas.Bool.{cond-true}
use Rattle.std.proofs.lemmas.List.{length-map, take_more}
use Rattle.std.proofs.lemmas.List.Sums.{sum_by-cons, sum_by_push}
use Rattle.bdb_base.specs.Bases.{Contents, key_lengths}
use Rattle.bdb_base.specs.Changes.{names_user}
use Rattle.bdb_base.specs.States.{states_of}
use Rattle.bdb_base.specs.WorldRows.{world_of}
use Rattle.bdb_base.specs.declared.kinds.Held.{Held}
use Rattle.bdb_base.proofs.WorldLemmas.{valid_is_consistent}
use Rattle.bdb_keep.specs.Seen.{Seen}
use Rattle.bdb_keep.specs.Tables.{Tables}
use Rattle.bdb_tables.specs.Names.{Names}
use Rattle.bdb_update.proofs.KeyLemmas.{lengths_fit}
use Rattle.bdb_val.specs.WorldReads.{AreRowsAt}
use Rattle.bdb_catalog.specs.Bases.{StoresValid}
use Rattle.bdb_stored.specs.Worlds.{IsState, TellsStates, named_world}
use Rattle.bdb_names.specs.declared.named.NamedWorld.{NamedWorld}
use Rattle.bdb_stored.proofs.PlaceLemmas.{at_place}
use Rattle.bdb_leaving.specs.Naming.{ReadsAt, ReadsNaming, ReadsRows, reads_at}
use Rattle.bdb_leaving.specs.Paths.{path_lengths}

-- ---- one world

pub reads_said : (uid : ℕ) (x : NamedWorld) (old new : Seen) (rows : List Held) → names_user uid x.path ≡ true → AreRowsAt old.kept x.wid rows → new.reads ≤ old.reads + (2 * length rows + 1) → ReadsAt uid x old new
reads_said uid x old new rows named read le b v state =
    let s = v.stored.stored in
    let world = world_of (key_lengths b.catalog.rels) b.stmts x.path in
    let is : rows ≡ world =
    read (key_lengths b.catalog.rels) b.stmts v.stored.names v.stored.tuples x.path (lengths_fit old.kept b.catalog.rels s.rels) (valid_is_consistent b.catalog b.stmts v.valid) s.states.names s.tuples s.rows state in
    subst (λ n. new.reads ≤ old.reads + n) (ap (λ (hs : List Held). 2 * length hs + 1) is ∙ sym (cond-true (names_user uid x.path) (2 * length world + 1) 0 named)) le

-- ---- all worlds

-- those of the first states
abbrev pub FirstReads : ℕ → ℕ → Seen → Seen → Type 0
FirstReads k uid old new = (b : Contents) → StoresValid old.kept b → new.reads ≤ old.reads + sum_by (reads_at (key_lengths b.catalog.rels) b.stmts uid) (take k (states_of b.stmts))

module _ (uid : ℕ) (old now new : Seen) (worlds : List NamedWorld) (are : TellsStates old.kept worlds) where
  pub reads_more : (k : ℕ) (x d : NamedWorld) → k < length worlds → x ≡ get_or worlds k d → now.kept ≡ old.kept → FirstReads k uid old now → ReadsAt uid x now new → FirstReads (k + 1) uid old new
  reads_more k x d less is same first more b v =
      let a = at_place old.kept b v worlds (are b v) k x d less is in
      let states = states_of b.stmts in
      let f = reads_at (key_lengths b.catalog.rels) b.stmts uid in
      let here = moved now.kept (sym same) more b v a.state in
      let sum = ap (sum_by f) (take_more states k [] a.within) ∙ sum_by_push f (take k states) (get_or states k []) in
      let path = ap f a.path in
      let before = first b v in
      omega (arith, before, here, sum, path)
    where
      moved : (t : Tables) → old.kept ≡ t → ((c : Contents) (w : StoresValid t c) → IsState t c w x → new.reads ≤ now.reads + reads_at (key_lengths c.catalog.rels) c.stmts uid x.path)
          → (c : Contents) (w : StoresValid old.kept c) → IsState old.kept c w x → new.reads ≤ now.reads + reads_at (key_lengths c.catalog.rels) c.stmts uid x.path
      moved t e h = subst (λ u. (c : Contents) (w : StoresValid u c) → IsState u c w x → new.reads ≤ now.reads + reads_at (key_lengths c.catalog.rels) c.stmts uid x.path) (sym e) h

-- ---- worlds and their rows

lengths_named : (ns : Names) (ws : List (List ℕ)) → path_lengths (map (named_world ns) ws) ≡ sum_by (λ w. length w) ws
lengths_named ns [] = refl
lengths_named ns (w ∷ ws) =
    sum_by-cons (λ (x : NamedWorld). length x.path) (named_world ns w) (map (named_world ns) ws) ∙ ap (λ n. length w + n) (lengths_named ns ws) ∙ sym (sum_by-cons (λ (v : List ℕ). length v) w ws)

pub reads_together : (uid : ℕ) (old mid new : Seen) (worlds : List NamedWorld) → TellsStates old.kept worlds → mid.reads ≤ old.reads + (length worlds + 1 + path_lengths worlds) → mid.kept ≡ old.kept → ReadsRows uid mid new → ReadsNaming uid old new
reads_together uid old mid new worlds are found same rows b v =
    let ns = v.stored.names in
    let states = states_of b.stmts in
    let n = ap length (are b v) ∙ length-map states (named_world ns) in
    let m = ap path_lengths (are b v) ∙ lengths_named ns states in
    let r = rows b (subst (λ t. StoresValid t b) (sym same) v) in
    omega (arith, found, n, m, r)
