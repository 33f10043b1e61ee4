-- The worlds of a valid base.
use Rattle.std.proofs.Common.{◌≡◌, ◌∙◌, ℕ, true, List, ap, sym}
use Rattle.bdb_base.specs.declared.kinds.Catalog.{Catalog}
use Rattle.bdb_base.specs.declared.kinds.Held.{Held}
use Rattle.bdb_base.specs.declared.kinds.Stmt.{Stmt}
use Rattle.bdb_base.specs.Bases.{IsValid, key_lengths}
use Rattle.bdb_base.specs.SortedSet.{ascending}
use Rattle.bdb_base.specs.WorldRows.{world_of, has_row, row_tuple_cmp}
use Rattle.bdb_base.proofs.WorldLemmas.{valid_is_consistent}
use Rattle.bdb_base.proofs.WorldRowsLemmas.{tuples_stand_once, rows_do_not_clash}
use Rattle.bdb_model.specs.Agreement.{AreCompatible}

pub valid_world_once : (c : Catalog) (xs : List Stmt) (w : List ℕ) (rows : List Held) → IsValid c xs → rows ≡ world_of (key_lengths c.rels) xs w → ascending row_tuple_cmp rows ≡ true
valid_world_once c xs w rows h e = ap (ascending row_tuple_cmp) e ∙ tuples_stand_once (key_lengths c.rels) xs (valid_is_consistent c xs h) w

pub valid_world_agrees : (c : Catalog) (xs : List Stmt) (w : List ℕ) (rows : List Held) → IsValid c xs → rows ≡ world_of (key_lengths c.rels) xs w → AreCompatible (key_lengths c.rels) rows
valid_world_agrees c xs w rows h e a b m n =
    rows_do_not_clash (key_lengths c.rels) xs (valid_is_consistent c xs h) w a b (ap (λ r. has_row r a) (sym e) ∙ m) (ap (λ r. has_row r b) (sym e) ∙ n)
