-- Items and columns of a query can be numbered.
use Rattle.std.proofs.Common.{◌≡◌, ◌∙◌, ℕ, ◌<◌, ◌≤◌, ◌^◌, true, nat_lt, List, [], ◌∷◌, length, Option, Some, None, refl, sym, ap, arith}
use Rattle.std.specs.Option.{option_and_then}
use Rattle.std.specs.List.{list_all, slice_get}
use Rattle.std.proofs.lemmas.Bool.{and_from, and_parts, or_parts, ltb-true, ltb-false, lt-ltb}
use Rattle.bdb_base.specs.declared.kinds.Catalog.{Catalog}
use Rattle.bdb_base.specs.declared.kinds.Query.{Query}
use Rattle.bdb_base.specs.declared.kinds.RelDef.{RelDef}
use Rattle.bdb_base.specs.Bases.{IsCatalog, is_valid_relation}
use Rattle.bdb_base.specs.Queries.{columns_of_definition, columns_at}
use Rattle.bdb_base.specs.Safety.{query_fits}
use Rattle.bdb_base.proofs.ListLemmas.{list_all_get}
use Rattle.bdb_syntax.specs.declared.command.Command.{Command}
use Rattle.bdb_syntax.specs.declared.command.RawQuery.{RawQuery}
use Rattle.bdb_bind.specs.Lines.{items_line}
use Rattle.bdb_bind.specs.Parts.{query_of}
use Rattle.bdb_bind.specs.QueryLines.{query_items}
use Rattle.bdb_bind.specs.Refusal.{names_refused}
use Rattle.bdb_bind.proofs.CatalogLemmas.{columns_within}
use Rattle.bdb_bind.proofs.Cleared.{cleared, neither, not_refused}

pub few_items : (c : Catalog) (q : Query) → query_fits c q ≡ true → length q.items < 2 ^ 32
few_items c q fits = ltb-true (length q.items) (2 ^ 32) (and_parts (nat_lt (length q.items) (2 ^ 32)) _ fits).0

pub few_columns_each : (c : Catalog) (q : Query) → query_fits c q ≡ true → list_all (λ def. nat_lt (length def.cols) (2 ^ 32)) c.rels ≡ true
few_columns_each c q fits =
    (and_parts (list_all (λ def. nat_lt (length def.cols) (2 ^ 32)) c.rels) _ (and_parts (nat_lt (length q.items) (2 ^ 32)) _ fits).1).0

few_of_found : (rels : List RelDef) (rel : ℕ) (o : Option RelDef) → slice_get rels rel ≡ o → list_all (λ def. nat_lt (length def.cols) (2 ^ 32)) rels ≡ true
    → length (columns_of_definition o) < 2 ^ 32
few_of_found rels rel None there few = omega arith
few_of_found rels rel (Some def) there few = ltb-true (length def.cols) (2 ^ 32) (list_all_get (λ d. nat_lt (length d.cols) (2 ^ 32)) rels rel def few there)

pub few_columns_at : (rels : List RelDef) (rel : ℕ) → list_all (λ def. nat_lt (length def.cols) (2 ^ 32)) rels ≡ true → length (columns_at rels rel) < 2 ^ 32
few_columns_at rels rel few = few_of_found rels rel (slice_get rels rel) refl few

valid_few : (rels : List RelDef) → list_all is_valid_relation rels ≡ true → list_all (λ def. nat_lt (length def.cols) (2 ^ 32)) rels ≡ true
valid_few [] valid = refl
valid_few (r ∷ rs) valid =
    let parts = and_parts (is_valid_relation r) (list_all is_valid_relation rs) valid in
    let few = (columns_within r parts.0).1 in
    and_from _ _ (lt-ltb (length r.cols) (2 ^ 32) (omega arith)) (valid_few rs parts.1)

pub catalog_few : (c : Catalog) → IsCatalog c → list_all (λ def. nat_lt (length def.cols) (2 ^ 32)) c.rels ≡ true
catalog_few c valid = valid_few c.rels valid.rels_valid

-- a query that isn't refused has at most 8 items
few_by_line : (c : Command) (q : RawQuery) → items_line c ≡ None → query_of c ≡ Some q → length q.items ≤ 8
unfolding items_line
few_by_line c q line same =
    let none : query_items q ≡ None = ap (option_and_then query_items) (sym same) ∙ (neither _ _ line).1 in
    ltb-false 8 (length q.items) (or_parts (nat_lt 8 (length q.items)) (nat_lt 32 (length q.take)) (not_refused _ _ none)).0

pub few_of_query : (catalog : Catalog) (c : Command) (q : RawQuery) → names_refused catalog c ≡ None → query_of c ≡ Some q → length q.items ≤ 8
few_of_query catalog c q accepted same = few_by_line c q (cleared catalog c accepted).items same
