-- A database has the rows of one choice of tables.
use Rattle.std.proofs.Common.{◌≡◌, inl, inr, ℕ, List, [], ◌∷◌, Some, sym, subst, ◌∙◌}
use Rattle.std.specs.Prelude.{filter}
use Rattle.std.specs.List.{AllZip}
use Rattle.std.specs.FinMap as fin
use Rattle.sqlite_value.specs.Order.{Row}
use Rattle.sqlite_trees.specs.Objects.{catalog_tree}
use Rattle.sqlite_trees.specs.Tree.{Trees}
use Rattle.sqlite_schema.specs.declared.schema.Schema.{Schema}
use Rattle.sqlite_catalog.specs.Listing.{IsSound, IsTableRow, is_table_row}
use Rattle.bdb_base.proofs.OptionLemmas.{same_option}
use Rattle.bdb_keep.specs.Tables.{LieInTables, Tables}
use Rattle.bdb_keep.proofs.Gets.{tables_from_gets}
use Rattle.bdb_sql.specs.Content.{HasOneContent, LeavesOneContent}
use Rattle.bdb_sql.specs.Entries.{IsFiledRow}
use Rattle.bdb_sql.specs.Kept.{kept_schema, kept_table, no_schema}
use Rattle.bdb_sql.specs.Rows.{AreAllRows}
use Rattle.bdb_sql.proofs.MakeLemmas.{never_both}

-- a row stands for one row of the tables
same_row : (u : Tables) (r : Row) (n m : ℕ) (k l c d : List ℕ) → IsFiledRow r n k c → IsFiledRow r m l d → fin.get u (m ∷ l) ≡ Some d → fin.get u (n ∷ k) ≡ Some c
same_row u r n m k l c d a b some =
    let e = sym a.tab_is ∙ b.tab_is in
    let f = sym a.key_is ∙ b.key_is in
    let h = sym a.row_is ∙ b.row_is in
    let p : m ∷ l ≡ n ∷ k = cc in
    let q : Some d ≡ Some c = cc in
    subst (λ x. fin.get u x ≡ Some c) p (some ∙ q)

module _ (rows : List Row) (t u : Tables) (all : LieInTables t) (one : AreAllRows rows t) (other : AreAllRows rows u) where
  within : (q c : List ℕ) → fin.get t q ≡ Some c → fin.get u q ≡ Some c
  within [] c some = absurd (all [] c some)
  within (n ∷ k) c some =
      let w = one.all n k c some in
      let v = other.each w.0 w.1 in
      same_row u w.0 n v.0 k v.1 c v.2 w.2 v.3 v.4

same_tables : (rows : List Row) (t u : Tables) → LieInTables t → LieInTables u → AreAllRows rows t → AreAllRows rows u → t ≡ u
same_tables rows t u lt lu a b = tables_from_gets t u (λ q. same_option (fin.get t q) (fin.get u q) (within rows t u lt a b q) (within rows u t lu b a q))

pub one_content : HasOneContent
one_content db t u lt lu (inl none) (inl nothing) = none.1 ∙ sym nothing.1
one_content db t u lt lu (inl none) (inr kept) = absurd (never_both (sym none.0 ∙ kept.0))
one_content db t u lt lu (inr kept) (inl none) = absurd (never_both (sym none.0 ∙ kept.0))
one_content db t u lt lu (inr a) (inr b) = same_tables _ t u lt lu a.1 b.1

-- no list of objects is that of no table and of one
never_listed : (rows : List Row) → AllZip IsTableRow rows [] → AllZip IsTableRow rows (kept_table ∷ []) → ⊥
never_listed [] none one = one
never_listed (r ∷ rows) none one = none

-- no trees are listed as those of no table and of the one
never_read : (none one : Schema) (db : Trees) → IsSound none db → IsSound one db → none ≡ no_schema → one ≡ kept_schema → ⊥
never_read none one db a b bare kept =
    never_listed (filter is_table_row (db catalog_tree)) (subst (λ (s : Schema). AllZip IsTableRow (filter is_table_row (db catalog_tree)) s.tables) bare a.lists.listed.tables)
    (subst (λ (s : Schema). AllZip IsTableRow (filter is_table_row (db catalog_tree)) s.tables) kept b.lists.listed.tables)

pub left_content : LeavesOneContent
left_content db t u lt lu (s, sound, inl none) (r, other, inl nothing) = none.1 ∙ sym nothing.1
left_content db t u lt lu (s, sound, inl none) (r, other, inr kept) = absurd (never_read s r db sound other none.0 kept.0)
left_content db t u lt lu (s, sound, inr kept) (r, other, inl none) = absurd (never_read r s db other sound none.0 kept.0)
left_content db t u lt lu (s, sound, inr a) (r, other, inr b) = same_tables _ t u lt lu a.1 b.1
