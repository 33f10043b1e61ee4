-- The columns of an alias.
use Rattle.std.proofs.Common.{ℕ, ◌≤◌, List, length, Option, Some, None, inl, inr, arith, subst, sym}
use Rattle.std.proofs.lemmas.Bool.{cases_Bool, cond-true, cond-false}
use Rattle.bdb_base.specs.declared.kinds.Catalog.{Catalog}
use Rattle.bdb_base.specs.declared.kinds.ColDef.{ColDef}
use Rattle.bdb_base.specs.Bases.{IsCatalog}
use Rattle.bdb_syntax.specs.declared.command.RawItem.{RawItem}
use Rattle.bdb_bind.specs.Lookup.{columns_of}
use Rattle.bdb_bind.specs.Scope.{is_users, item_of, user_columns, item_columns, columns_found, columns_named}
use Rattle.bdb_bind.proofs.CatalogLemmas.{columns_few}

few_of_item : (c : Catalog) (i : RawItem) → IsCatalog c → length (item_columns c.rels i) ≤ 16
few_of_item c i valid =
    let Few : List ColDef → Type 0 = λ cols. length cols ≤ 16 in
    elim (cases_Bool (is_users i)) [
      | inl users ↦ subst Few (sym (cond-true (is_users i) user_columns (columns_of c.rels i.rel) users)) (omega arith)
      | inr other ↦ subst Few (sym (cond-false (is_users i) user_columns (columns_of c.rels i.rel) other)) (columns_few c i.rel valid)
    ]

few_found : (c : Catalog) (o : Option RawItem) → IsCatalog c → length (columns_found c.rels o) ≤ 16
few_found c None valid = omega arith
few_found c (Some i) valid = few_of_item c i valid

-- an item of a valid catalog has few columns
pub named_few : (c : Catalog) (items : List RawItem) (alias : Option (List ℕ)) → IsCatalog c → length (columns_named c.rels items alias) ≤ 16
named_few c items alias valid = few_found c (item_of items alias) valid
