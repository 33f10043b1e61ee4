-- A file that is opened has the rows of its table by rising numbers.
use Rattle.std.proofs.Common.{◌≡◌, inl, inr, true, sym, ap, subst, ◌∙◌, arith}
use Rattle.std.proofs.Math.Logic.{∥∥₁_elim}
use Rattle.sqlite_disk.specs.declared.Disk.{Ghosts}
use Rattle.sqlite_wal.specs.Recovery.{Image}
use Rattle.sqlite_pool.specs.File.{version_in}
use Rattle.sqlite_trees.specs.declared.store.Shape.TheVariants.{Table}
use Rattle.sqlite_trees.specs.Objects.{catalog_tree, IsListed}
use Rattle.sqlite_trees.specs.Props.{IsShaped-prop}
use Rattle.sqlite_trees.specs.Tree.{Trees}
use Rattle.sqlite_trees.specs.View.{IsShaped, IsOrdered}
use Rattle.sqlite_schema.specs.declared.schema.Schema.{Schema}
use Rattle.sqlite_catalog.specs.Listing.{IsSound}
use Rattle.sqlite_store.specs.declared.store.FileStore.{FileStore}
use Rattle.sqlite_store.specs.FileStore.{view}
use Rattle.sqlite_store.specs.Listed.{catalog_rows, is_listed}
use Rattle.sqlite_store.specs.Listing.{IsOurs, all_shapes, all_reals}
use Rattle.sqlite_store.proofs.ListingLemmas.{all_ordered}
use Rattle.sqlite.specs.Effect.{Database}
use Rattle.sqlite.specs.Files.{AreFoundIn, IsOpened, file_state, over_files}
use Rattle.sqlite.specs.Held.{Held}
use Rattle.sqlite.specs.Start.{FindsIn}
use Rattle.bdb_sql.specs.Kept.{IsBareOrKept, kept_schema}
use Rattle.bdb_sql.specs.Tied.{IsWhole}
use Rattle.bdb_sql.proofs.OrderLemmas.{shaped_table}

-- so it is of what the pages of a file read as, and of a file without pages
found_shaped : (image : Image) (schema : Schema) (db : Trees) → schema ≡ kept_schema → IsSound schema db → AreFoundIn image db → IsShaped Table (db 0)
found_shaped image schema db is sound (inl (size, pages, wanted, adopts, ours, same)) =
    ∥∥₁_elim ours (IsShaped-prop Table (db 0)) (λ (it : IsOurs size true wanted pages).
    let ordered = subst (IsOrdered (all_shapes wanted)) (sym same) (all_ordered it.file.db (version_in pages)) in
    let rows = ap (λ (t : Trees). t catalog_tree) same ∙ catalog_rows size wanted _ in
    shaped_table (all_shapes wanted) (all_reals wanted) db schema is ordered (subst (λ rows. IsListed rows (all_shapes wanted) (all_reals wanted)) (sym rows) (is_listed wanted)) sound)
found_shaped image schema db is sound (inr (nothing, empty)) = subst (IsShaped Table) (sym (empty.0 0 (omega arith))) (tt, tt)

module _ {D : Type 0} {g : Ghosts D} where
  -- a connection that was just opened, over a file that has nothing or the one table, is whole
  pub opened_whole : (image : Image) (c : Held (FileStore D g)) → IsOpened c → FindsIn image (file_state c) → IsBareOrKept (file_state c) → IsWhole over_files c
  opened_whole image c opened found (inl bare) = inr (opened.0.is_open, inl bare)
  opened_whole image c opened found (inr kept) =
      let read = subst (AreFoundIn image) (sym (ap (λ (d : Database). d.trees) opened.0.clean)) found.reads in
      inr (opened.0.is_open, inr (found_shaped image c.schema (view c.store).trees kept (opened.1 opened.0.is_open).0 read))
