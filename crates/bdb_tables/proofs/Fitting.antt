-- What a valid base has may be written.
use Rattle.std.proofs.Common.{◌≡◌, ℕ, ◌<◌, ◌≤◌, true, not, ◌&&◌, Option, Some, None, List, [], ◌∷◌, length, map, nat_le, nat_lt, refl, arith}
use Rattle.std.specs.List.{AllByRecursion, list_all, slice_get}
use Rattle.std.proofs.lemmas.Bool.{and_parts, false≢true, leb-true}
use Rattle.bdb_base.specs.Alternation.{alternates}
use Rattle.bdb_base.specs.Bases.{IsCatalog, belongs, is_user, is_plain, is_key, is_valid_relation, are_distinct, fits_kind, fits_columns, fits_definition, fits_relation, users_name}
use Rattle.bdb_base.specs.Limits.{deepest_statement}
use Rattle.bdb_base.specs.Same.{same_text}
use Rattle.bdb_base.specs.declared.kinds.Catalog.{Catalog}
use Rattle.bdb_base.specs.declared.kinds.ColDef.{ColDef}
use Rattle.bdb_base.specs.declared.kinds.Kind.{Kind}
use Rattle.bdb_base.specs.declared.kinds.Kind.TheVariants as kind
use Rattle.bdb_base.specs.declared.kinds.RelDef.{RelDef}
use Rattle.bdb_base.specs.declared.kinds.Stmt.{Stmt}
use Rattle.bdb_base.specs.declared.kinds.Value.{Value}
use Rattle.bdb_base.specs.declared.kinds.Value.TheVariants.{Int, Text}
use Rattle.bdb_base.proofs.ListLemmas.{list_all_get}
use Rattle.bdb_key.specs.Grammar.{HasPlainText, IsNum}
use Rattle.bdb_key.specs.Rows.{IsRelRow, IsCol}
use Rattle.bdb_tables.specs.InUse.{MayBePlain}

-- ---- values

value_text : (k : Kind) (v : Value) → fits_kind k v ≡ true → HasPlainText v
value_text k (Int m) h = tt
value_text kind.Int (Text t) h = absurd (false≢true h)
value_text kind.Text (Text t) h = h

texts_plain : (cols : List ColDef) (vals : List Value) → fits_columns cols vals ≡ true → AllByRecursion HasPlainText vals
texts_plain [] [] h = tt
texts_plain [] (v ∷ vals) h = absurd (false≢true h)
texts_plain (c ∷ cols) [] h = absurd (false≢true h)
texts_plain (c ∷ cols) (v ∷ vals) h =
    let parts = and_parts (fits_kind c.kind v) (fits_columns cols vals) h in
    (value_text c.kind v parts.0, texts_plain cols vals parts.1)

some_values : (cols : List ColDef) (vals : List Value) → 0 < length cols → fits_columns cols vals ≡ true → 0 < length vals
some_values [] vals some h = omega (arith, some)
some_values (c ∷ cols) [] some h = absurd (false≢true h)
some_values (c ∷ cols) (v ∷ vals) some h = omega arith

-- ---- relations

cols_plain : (cols : List ColDef) → list_all (λ (c : ColDef). is_plain c.name) cols ≡ true → AllByRecursion IsCol cols
cols_plain [] h = tt
cols_plain (c ∷ cols) h = let parts = and_parts (is_plain c.name) (list_all (λ (c : ColDef). is_plain c.name) cols) h in (parts.0, cols_plain cols parts.1)

small : (n m : ℕ) → n ≤ m → m ≤ 16 → IsNum n
small n m a b = omega (arith, a, b)

pub relation_row : (def : RelDef) → is_valid_relation def ≡ true → IsRelRow def
relation_row def h =
    let size = nat_lt 0 (length def.cols) && nat_le (length def.cols) 16 in
    let names = list_all (λ (c : ColDef). is_plain c.name) def.cols in
    let own = is_plain def.name && not (same_text def.name users_name) in
    let differ = are_distinct (map (λ (c : ColDef). c.name) def.cols) in
    let parts = and_parts size (differ && names && own && is_key def) h in
    let some = and_parts (nat_lt 0 (length def.cols)) (nat_le (length def.cols) 16) parts.0 in
    let first = and_parts (differ && names && own) (is_key def) parts.1 in
    let last = and_parts (differ && names) own first.0 in
    let cols = and_parts differ names last.0 in
    let key = and_parts (nat_lt 0 def.key) (nat_le def.key (length def.cols)) first.1 in
    record {
      name = (and_parts (is_plain def.name) (not (same_text def.name users_name)) last.1).0;
      key = (leb-true 1 def.key key.0, leb-true def.key (length def.cols) key.1);
      some = leb-true 1 (length def.cols) some.0;
      short = small def.key (length def.cols) (leb-true def.key (length def.cols) key.1) (leb-true (length def.cols) 16 some.1);
      names = cols_plain def.cols cols.1;
    }

-- ---- statements

values_of : (rels : List RelDef) (o : Option RelDef) (n : ℕ) (vals : List Value) → list_all is_valid_relation rels ≡ true → slice_get rels n ≡ o → fits_definition o vals ≡ true
    → (0 < length vals) × AllByRecursion HasPlainText vals
values_of rels None n vals valid is h = absurd (false≢true h)
values_of rels (Some def) n vals valid is h =
    let row = relation_row def (list_all_get is_valid_relation rels n def valid is) in
    (some_values def.cols vals row.some h, texts_plain def.cols vals h)

pub belonging_may_be : (c : Catalog) (x : Stmt) → IsCatalog c → belongs c x ≡ true → MayBePlain (x.path, x.tuple)
belonging_may_be c x valid h =
    let path = alternates x.path && nat_le (length x.path) deepest_statement in
    let fit = and_parts (path && list_all (is_user c.users) x.path) (fits_relation c.rels x.tuple) h in
    let users = and_parts path (list_all (is_user c.users) x.path) fit.0 in
    let apart = and_parts (alternates x.path) (nat_le (length x.path) deepest_statement) users.0 in
    let few : length x.path ≤ deepest_statement = leb-true (length x.path) deepest_statement apart.1 in
    let vals = values_of c.rels (slice_get c.rels x.tuple.rel) x.tuple.rel x.tuple.vals valid.rels_valid refl fit.1 in
    record { apart = apart.0; short = omega (arith, few); tuple = record { some = vals.0; texts = vals.1 } }
