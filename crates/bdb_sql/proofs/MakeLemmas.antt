-- What the text that makes the table does inside a transaction, over nothing and over the table.
use Rattle.std.proofs.Common.{◌≡◌, inl, inr, ℕ, List, [], ◌∷◌, map, None, false, Ok, Err, Result, sym, ap, subst, ◌∙◌}
use Rattle.std.specs.Prelude.{OnOk}
use Rattle.std.specs.FinMap as fin
use Rattle.sqlite_value.specs.Order.{Row}
use Rattle.sqlite_trees.specs.declared.store.Shape.TheVariants.{Table}
use Rattle.sqlite_trees.specs.View.{IsShaped}
use Rattle.sqlite_schema.specs.declared.command.Command.TheVariants.{CreateTable, Nothing}
use Rattle.sqlite_schema.specs.declared.schema.Schema.{Schema}
use Rattle.sqlite_catalog.specs.Change.{created, next_tree}
use Rattle.sqlite.specs.Does.{Tally, lacks_sequence}
use Rattle.sqlite.specs.Effect.{Database, IsDatabase}
use Rattle.sqlite.specs.declared.error.Error.{Error}
use Rattle.sqlite.specs.State.{State, Writes, ExecutesInside}
use Rattle.sqlite.proofs.Callers.{runs_as}
use Rattle.bdb_keep.specs.Tables.{Tables}
use Rattle.bdb_sql.specs.Kept.{kept_table, kept_schema, no_schema}
use Rattle.bdb_sql.specs.Rows.{AreAllRows, TreesHave, entry}
use Rattle.bdb_sql.specs.Tied.{HoldsTable, IsReadyFile}
use Rattle.bdb_sql.specs.Written.{HasTable}
use Rattle.bdb_sql.proofs.RowLemmas.{rows_empty}
use Rattle.bdb_sql.proofs.RemoveLemmas.{went, same_value}
use Rattle.bdb_sql.proofs.TextLemmas.{create_text, create_is, create_plain, create_again_is, create_again_plain, made_is}

-- the one table isn't nothing
pub never_both : no_schema ≡ kept_schema → ⊥
never_both e = let f : [] ≡ kept_table ∷ [] = ap (λ (s : Schema). s.tables) e in cc

-- a connection that sees the file as before holds the table as before
pub holds_still : (old new : State) → new.now ≡ old.now → HoldsTable old → HoldsTable new
holds_still old new same holds = record {
  schema = ap (λ (d : Database). d.schema) same ∙ holds.schema;
  sound = subst IsDatabase (sym same) holds.sound;
  shaped = subst (λ (d : Database). IsShaped Table (d.trees 0)) (sym same) holds.shaped;
}

no_rows : (rows : List Row) (t : Tables) → rows ≡ [] → t ≡ fin.empty → AreAllRows (map entry rows) t
no_rows rows t none empty = subst (λ l. AreAllRows (map entry l) t) (sym none) (subst (AreAllRows []) (sym empty) rows_empty)

module _ (old new : State) where
  made_new : old.now.schema ≡ no_schema → (count : ℕ) → ExecutesInside 0 create_text [] old new (Ok count) → HasTable old new
  made_new none count ran =
      let w = subst (λ t. Writes old new None CreateTable t [] count) create_is.1 (runs_as create_text [] old new no_schema none CreateTable create_is.0 create_plain count ran.0) in
      let all = went w.changed in
      let first = went all.1 in
      let made = first.1 in
      let both : Ok made.table ≡ Ok kept_table = sym made.defined ∙ made_is.0 in
      let same : made.table ≡ kept_table = cc in
      let schema : first.0.schema ≡ kept_schema = made.is ∙ ap (λ s. created s made.table) none ∙ ap (created no_schema) same ∙ made_is.1 in
      let plain : lacks_sequence first.0.schema ≡ false = ap lacks_sequence schema in
      let now : new.now ≡ first.0 = ap (λ (p : Tally × Database). p.1) (same_value all.2) ∙ same_value (rw plain at first.2) in
      let empty : new.now.trees 0 ≡ [] = ap (λ (d : Database). d.trees 0) now ∙ subst (λ s. first.0.trees (next_tree s) ≡ []) none made.empty in
      record {
        table = record { schema = ap (λ (d : Database). d.schema) now ∙ schema; sound = w.sound; shaped = subst (IsShaped Table) (sym empty) (tt, tt) };
        rows = λ t stores. elim stores [
          | inl bare ↦ no_rows (new.now.trees 0) t empty bare.1
          | inr kept ↦ absurd (never_both (sym none ∙ kept.0))
        ];
        committed = ran.1.committed_is;
        mode = ran.1.mode;
      }

  made_again : HoldsTable old → (count : ℕ) → ExecutesInside 0 create_text [] old new (Ok count) → HasTable old new
  made_again holds count ran =
      let same = (runs_as create_text [] old new kept_schema holds.schema Nothing create_again_is create_again_plain count ran.0).0.0.now_is in
      record {
        table = holds_still old new same holds;
        rows = λ t stores. elim stores [
          | inl bare ↦ absurd (never_both (sym bare.0 ∙ holds.schema))
          | inr kept ↦ subst (λ (d : Database). TreesHave d.trees t) (sym same) kept.1
        ];
        committed = ran.1.committed_is;
        mode = ran.1.mode;
      }

  -- inside a transaction the table is there afterwards, with the rows that the file had
  pub makes_inside : (r : Result ℕ Error) → IsReadyFile old → ExecutesInside 0 create_text [] old new r → OnOk r (HasTable old new)
  makes_inside (Err e) ready ran = tt
  makes_inside (Ok count) (inl none) ran = made_new none count ran
  makes_inside (Ok count) (inr holds) ran = made_again holds count ran
