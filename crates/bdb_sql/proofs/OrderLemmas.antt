-- A connection is tied to the rows that it was loaded with.
use Rattle.std.proofs.Common.{◌≡◌, ◌⊎◌, inl, inr, ℕ, true, false, Bool, Ok, Err, Result, refl, sym, ap, subst, ◌∙◌, IsTrue, true≢false}
use Rattle.std.specs.Prelude.{IfOk, OnOk}
use Rattle.sqlite_trees.specs.declared.store.Shape.{Shape}
use Rattle.sqlite_trees.specs.declared.store.Shape.TheVariants.{Table}
use Rattle.sqlite_trees.specs.declared.store.Store.{Ghosts}
use Rattle.sqlite_trees.specs.Objects.{catalog_tree, IsListed}
use Rattle.sqlite_trees.specs.Tree.{Trees}
use Rattle.sqlite_trees.specs.View.{IsShaped, IsOrdered}
use Rattle.sqlite_schema.specs.declared.schema.Schema.{Schema}
use Rattle.sqlite_rules.specs.Lists.{Has}
use Rattle.sqlite_rules.proofs.ListLemmas.{all_has}
use Rattle.sqlite_catalog.specs.Listing.{IsSound}
use Rattle.sqlite_catalog.proofs.LayoutLemmas.{laid_out}
use Rattle.sqlite.specs.Effect.{Database, IsDatabase}
use Rattle.sqlite.specs.Held.{Held, state}
use Rattle.sqlite.specs.State.{State, IsLive}
use Rattle.bdb_keep.specs.Tables.{Tables}
use Rattle.bdb_keep.specs.declared.keeper.KeepError.{KeepError}
use Rattle.bdb_sql.specs.Kept.{IsBareOrKept, kept_table, kept_schema, no_schema}
use Rattle.bdb_sql.specs.Rows.{StoresTables}
use Rattle.bdb_sql.specs.Stays.{StaysAs}
use Rattle.bdb_sql.specs.Tied.{IsReadyFile, IsTied, IsWhole}

-- the rows of the one table stand by rising numbers
pub shaped_table : (shape : ℕ → Shape) (reals : ℕ → ℕ) (trees : Trees) (schema : Schema) → schema ≡ kept_schema → IsOrdered shape trees → IsListed (trees catalog_tree) shape reals → IsSound schema trees → IsShaped Table (trees 0)
shaped_table shape reals trees schema is ordered listed sound =
    let catalog : IsShaped Table (trees catalog_tree) = subst (λ k. IsShaped k (trees catalog_tree)) listed.itself.0 (ordered catalog_tree) in
    let laid = laid_out listed catalog sound.lists.listed in
    let at : shape 0 ≡ Table = all_has (λ t. shape t.tree ≡ Table) schema.tables kept_table laid.tables (subst (λ (s : Schema). Has s.tables kept_table) (sym is) (inl refl)) in
    subst (λ k. IsShaped k (trees 0)) at (ordered 0)

-- a store that isn't broken is open
open_if : (shut broken : Bool) → (shut ≡ false → broken ≡ true) → broken ≡ false → shut ≡ true
open_if true broken law unbroken = refl
open_if false broken law unbroken = absurd (true≢false (sym (law refl) ∙ unbroken))

-- What the laws of a store say of a connection over it.
module _ {S : Type 0} (g : Ghosts S) (c : Held S)
    (shut : (g.view c.store).is_open ≡ false → IsTrue (g.view c.store).is_broken)
    (ordered : (g.view c.store).is_broken ≡ false → IsOrdered (g.view c.store).shape (g.view c.store).trees)
    (listed : (g.view c.store).is_broken ≡ false → IsListed ((g.view c.store).trees catalog_tree) (g.view c.store).shape (g.view c.store).reals) where
  is_open : IsWhole g c → IsTrue (state g c).is_open
  is_open (inl unbroken) = open_if _ _ shut unbroken
  is_open (inr it) = it.0

  ready : IsWhole g c → IsDatabase (state g c).now → IsBareOrKept (state g c) → IsReadyFile (state g c)
  ready whole sound (inl bare) = inl bare
  ready (inl unbroken) sound (inr kept) = inr (record { schema = kept; sound = sound; shaped = shaped_table (g.view c.store).shape (g.view c.store).reals (g.view c.store).trees c.schema kept (ordered unbroken) (listed unbroken) sound })
  ready (inr it) sound (inr kept) = elim it.1 [ inl bare ↦ inl bare | inr shaped ↦ inr (record { schema = kept; sound = sound; shaped = shaped }) ]

  -- it is as well known by its schema and its rows
  known : IsWhole g c → IsLive (state g c) → IsBareOrKept (state g c) → IsTrue (g.view c.store).is_open × ((c.schema ≡ no_schema) ⊎ IsShaped Table ((g.view c.store).trees 0))
  known whole live found =
      let stays_open = is_open whole in
      (stays_open, elim (ready whole (live stays_open).0 found) [ inl bare ↦ inl bare | inr holds ↦ inr holds.shaped ])

  -- so it is whole as long as it sees the file as it did
  pub whole_if : {V E : Type 0} (new : Held S) (r : Result V E) → IsWhole g c → IsLive (state g c) → OnOk r (IsBareOrKept (state g c)) → OnOk r (StaysAs (state g c) (state g new)) → OnOk r (IsWhole g new)
  whole_if new (Ok v) whole live found stays =
      let was = known whole live found in
      inr (
        stays.open_is ∙ was.0,
        elim was.1 [
          | inl bare ↦ inl (ap (λ (d : Database). d.schema) stays.now_is ∙ bare)
          | inr shaped ↦ inr (subst (IsShaped Table) (sym (ap (λ (d : Database). d.trees 0) stays.now_is)) shaped)
        ],
      )
  whole_if new (Err e) whole live found stays = tt

  -- where loading over it went well, it is tied to what was loaded
  module _ (settled : (db : Trees) → IsTrue (g.view c.store).is_open → g.recovers c.store db → db ≡ (g.view c.store).committed)
      (old : State) (live : IsLive old) (alone : old.in_transaction ≡ false) (same : IsTrue old.is_open → old.now ≡ old.committed) where
    ties : (t : Tables) → IsWhole g c → IsBareOrKept old → StoresTables old.now t → StaysAs old (state g c) → IsTied (state g c) t
    ties t whole found stores stays =
        let stays_open = is_open whole in
        let was_open : IsTrue old.is_open = sym stays.open_is ∙ stays_open in
        let sound = subst IsDatabase (sym stays.now_is) (live was_open).0 in
        let settles = stays.now_is ∙ same was_open ∙ sym stays.committed_is in
        record {
          is_open = stays_open;
          autocommit = stays.mode ∙ alone;
          settled = settles;
          sound = sound;
          ready = ready whole sound (subst (λ (d : Database). (d.schema ≡ no_schema) ⊎ (d.schema ≡ kept_schema)) (sym stays.now_is) found);
          rows = subst (λ d. StoresTables d t) (sym stays.now_is) stores;
          crash = λ db may. settled db stays_open may ∙ ap (λ (d : Database). d.trees) (sym settles);
        }

    pub ties_if : {V : Type 0} (tables : V → Tables) (r : Result V KeepError) → OnOk r (IsWhole g c) → OnOk r (IsBareOrKept old) → IfOk r (λ v. StoresTables old.now (tables v)) → OnOk r (StaysAs old (state g c))
        → IfOk r (λ v. IsTied (state g c) (tables v))
    ties_if tables (Ok v) whole found stores stays = ties (tables v) whole found stores stays
    ties_if tables (Err e) whole found stores stays = tt

-- what holds in any case holds where it went well
pub on_ok : {V E : Type 0} {P : Type 0} (r : Result V E) → P → OnOk r P
on_ok (Ok v) p = p
on_ok (Err e) p = tt
