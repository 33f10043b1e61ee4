-- The names and values of a valid base have no line feed.
use Rattle.std.proofs.Common.{◌≡◌, ◌∙◌, ℕ, ◌-◌, suc, Bool, true, false, not, ◌&&◌, nat_eq, nat_le, nat_lt, List, [], ◌∷◌, length, map, find, Option, Some, None, refl, arith, unwrap_or}
use Prim.Native.Nat.{zero}
use Rattle.std.specs.List.{list_all, slice_get}
use Rattle.std.specs.Option.{option_map_or}
use Rattle.std.specs.Str.{is_utf8}
use Rattle.std.specs.declared.cmp.Ordering.{Ordering}
use Rattle.std.specs.declared.cmp.Ordering.TheVariants.{Less, Equal, Greater}
use Rattle.std.proofs.lemmas.Bool.{false≢true, and_from, and_parts, cond_both}
use Rattle.std.proofs.lemmas.Bool.Decides.{nat_tests}
use Rattle.std.proofs.lemmas.List.Folds.{list_all-append, list_all-map}
use Rattle.bdb_base.specs.declared.kinds.Catalog.{Catalog}
use Rattle.bdb_base.specs.declared.kinds.ColDef.{ColDef}
use Rattle.bdb_base.specs.declared.kinds.Held.{Held}
use Rattle.bdb_base.specs.declared.kinds.Kind.{Kind}
use Rattle.bdb_base.specs.declared.kinds.Kind.TheVariants as kind
use Rattle.bdb_base.specs.declared.kinds.RelDef.{RelDef}
use Rattle.bdb_base.specs.declared.kinds.Sign.{Sign}
use Rattle.bdb_base.specs.declared.kinds.Sign.TheVariants.{Plus, Minus}
use Rattle.bdb_base.specs.declared.kinds.Stmt.{Stmt}
use Rattle.bdb_base.specs.declared.kinds.UserSlot.{UserSlot}
use Rattle.bdb_base.specs.declared.kinds.UserSlot.TheVariants.{Live, Gone}
use Rattle.bdb_base.specs.declared.kinds.Value.{Value}
use Rattle.bdb_base.specs.declared.kinds.Value.TheVariants.{Int, Text}
use Rattle.bdb_base.specs.declared.tuple.Tuple.{Tuple}
use Rattle.bdb_base.specs.Alternation.{alternates}
use Rattle.bdb_base.specs.Bases.{IsCatalog, are_distinct, belongs, fits_columns, fits_definition, fits_kind, fits_relation, is_clean, is_key, is_plain, is_user, is_valid_relation, name_at, user_names, users_name}
use Rattle.bdb_base.specs.Limits.{deepest_statement, longest_text, most_columns}
use Rattle.bdb_base.specs.Order.{tuple_cmp}
use Rattle.bdb_base.specs.Queries.{user_name as name_of}
use Rattle.bdb_base.specs.Same.{same_text}
use Rattle.bdb_base.specs.SortedSet.{put_at, put_in, sorted_set}
use Rattle.bdb_base.specs.WorldRows.{row_at, rows_at, tuples_of, world_of}
use Rattle.bdb_base.specs.Worlds.{explicit, stated}
use Rattle.bdb_base.proofs.ListLemmas.{list_all_weaker}
use Rattle.bdb_base.proofs.WorldRowsLemmas.{list_all-flat_map}
use Rattle.bdb_lex.specs.Spans.{lacks}
use Rattle.bdb_session.proofs.ErrorTexts.{IsFlat, is_flat_value}

-- ---- names

pub visible_is_other : (c : ℕ) → nat_le 32 c ≡ true → not (nat_eq c 10) ≡ true
visible_is_other c h = grind (arith, nat_tests)

pub plain_flat : (t : List ℕ) → is_plain t ≡ true → IsFlat t
plain_flat t h =
    let k = and_parts (nat_le (length t) longest_text) (is_clean t) h in
    let c = and_parts (is_utf8 t) (list_all (λ c. nat_le 32 c) t) k.1 in
    list_all_weaker (λ c. nat_le 32 c) (λ c. not (nat_eq c 10)) visible_is_other t c.1

slot_flat : (users : List UserSlot) (at : ℕ) → list_all is_plain (user_names users) ≡ true → IsFlat (unwrap_or (name_at users at) [])
slot_flat [] at h = refl
slot_flat (Live n ∷ users) zero h = plain_flat n (and_parts (is_plain n) (list_all is_plain (user_names users)) h).0
slot_flat (Live n ∷ users) (suc at) h = slot_flat users at (and_parts (is_plain n) (list_all is_plain (user_names users)) h).1
slot_flat (Gone ∷ users) zero h = refl
slot_flat (Gone ∷ users) (suc at) h = slot_flat users at h

-- the name of a user, by his number
pub name_flat : (c : Catalog) → IsCatalog c → (uid : ℕ) → IsFlat (unwrap_or (name_of c.users uid) [])
name_flat c v uid = cond_both (is_user c.users uid) (name_at c.users (uid - 1)) None (λ o. IsFlat (unwrap_or o []))
    (λ e. slot_flat c.users (uid - 1) v.users_plain) (λ e. refl)

-- the names of a relation
pub record HasFlatNames (def : RelDef) : Type 0 where
  pub name : IsFlat def.name
  pub cols : list_all (λ c. lacks 10 c.name) def.cols ≡ true

pub names_flat : (def : RelDef) → is_valid_relation def ≡ true → HasFlatNames def
names_flat def h =
    let few = nat_lt 0 (length def.cols) && nat_le (length def.cols) most_columns in
    let columns = are_distinct (map (λ (c : ColDef). c.name) def.cols) && list_all (λ (c : ColDef). is_plain c.name) def.cols in
    let name = is_plain def.name && not (same_text def.name users_name) in
    let k = and_parts few (columns && name && is_key def) h in
    let m = and_parts (columns && name) (is_key def) k.1 in
    let n = and_parts columns name m.0 in
    record {
      name = plain_flat def.name (and_parts (is_plain def.name) (not (same_text def.name users_name)) n.1).0;
      cols = list_all_weaker (λ (c : ColDef). is_plain c.name) (λ c. lacks 10 c.name) (λ c e. plain_flat c.name e) def.cols
          (and_parts (are_distinct (map (λ (c : ColDef). c.name) def.cols)) (list_all (λ (c : ColDef). is_plain c.name) def.cols) n.0).1;
    }

pub relation_flat : (rels : List RelDef) (at : ℕ) → list_all is_valid_relation rels ≡ true → IsFlat (option_map_or (λ def. def.name) (slice_get rels at) [])
relation_flat [] at h = refl
relation_flat (def ∷ rels) zero h = (names_flat def (and_parts (is_valid_relation def) (list_all is_valid_relation rels) h).0).name
relation_flat (def ∷ rels) (suc at) h = relation_flat rels at (and_parts (is_valid_relation def) (list_all is_valid_relation rels) h).1

-- ---- tuples

abbrev pub is_flat_tuple : Tuple → Bool
is_flat_tuple t = list_all is_flat_value t.vals

kind_flat : (k : Kind) (v : Value) → fits_kind k v ≡ true → is_flat_value v ≡ true
kind_flat k (Int n) h = refl
kind_flat kind.Int (Text t) h = absurd (false≢true h)
kind_flat kind.Text (Text t) h = plain_flat t h

columns_flat : (cols : List ColDef) (vals : List Value) → fits_columns cols vals ≡ true → list_all is_flat_value vals ≡ true
columns_flat [] [] h = refl
columns_flat [] (v ∷ vals) h = absurd (false≢true h)
columns_flat (c ∷ cols) [] h = refl
columns_flat (c ∷ cols) (v ∷ vals) h =
    let k = and_parts (fits_kind c.kind v) (fits_columns cols vals) h in
    and_from (is_flat_value v) (list_all is_flat_value vals) (kind_flat c.kind v k.0) (columns_flat cols vals k.1)

definition_flat : (o : Option RelDef) (vals : List Value) → fits_definition o vals ≡ true → list_all is_flat_value vals ≡ true
definition_flat None vals h = absurd (false≢true h)
definition_flat (Some def) vals h = columns_flat def.cols vals h

pub tuple_flat : (rels : List RelDef) (t : Tuple) → fits_relation rels t ≡ true → is_flat_tuple t ≡ true
tuple_flat rels t h = definition_flat (slice_get rels t.rel) t.vals h

pub statement_flat : (c : Catalog) (x : Stmt) → belongs c x ≡ true → is_flat_tuple x.tuple ≡ true
statement_flat c x h =
    let path = alternates x.path && nat_le (length x.path) deepest_statement && list_all (is_user c.users) x.path in
    tuple_flat c.rels x.tuple (and_parts path (fits_relation c.rels x.tuple) h).1

-- the tuples of statements
abbrev pub have_flat_tuples : List Stmt → Bool
have_flat_tuples stmts = list_all (λ x. is_flat_tuple x.tuple) stmts

pub statements_flat : (c : Catalog) (stmts : List Stmt) → list_all (belongs c) stmts ≡ true → have_flat_tuples stmts ≡ true
statements_flat c stmts h = list_all_weaker (belongs c) (λ x. is_flat_tuple x.tuple) (statement_flat c) stmts h

-- ---- sets, and what is found

put_all_pass : {X : Type 0} (p : X → Bool) (R : X → X → Ordering) (xs : List X) (x : X) → list_all p xs ≡ true → p x ≡ true → list_all p (put_in R xs x) ≡ true
put_all_pass p R [] x h g = and_from (p x) true g refl
put_all_pass p R (y ∷ ys) x h g =
    let k = and_parts (p y) (list_all p ys) h in
    by (R y x) k.0 k.1 (put_all_pass p R ys x k.1 g)
  where
    by : (r : Ordering) → p y ≡ true → list_all p ys ≡ true → list_all p (put_in R ys x) ≡ true → list_all p (put_at r y ys x (put_in R ys x)) ≡ true
    by Less a b d = and_from (p y) (list_all p (put_in R ys x)) a d
    by Equal a b d = and_from (p y) (list_all p ys) a b
    by Greater a b d = and_from (p x) (p y && list_all p ys) g (and_from (p y) (list_all p ys) a b)

pub set_all_pass : {X : Type 0} (p : X → Bool) (R : X → X → Ordering) (xs : List X) → list_all p xs ≡ true → list_all p (sorted_set R xs) ≡ true
set_all_pass p R [] h = refl
set_all_pass p R (x ∷ xs) h =
    let k = and_parts (p x) (list_all p xs) h in
    put_all_pass p R (sorted_set R xs) x (set_all_pass p R xs k.1) k.0

-- what there is passes
abbrev pub if_there : {X : Type 0} → (X → Bool) → Option X → Bool
if_there p None = true
if_there p (Some x) = p x

pub found_passes : {X : Type 0} (p q : X → Bool) (xs : List X) → list_all q xs ≡ true → if_there q (find p xs) ≡ true
found_passes p q [] h = refl
found_passes p q (x ∷ xs) h =
    let k = and_parts (q x) (list_all q xs) h in
    cond_both (p x) (Some x) (find p xs) (λ o. if_there q o ≡ true) (λ e. k.0) (λ e. found_passes p q xs k.1)

pub place_passes : {X : Type 0} (q : X → Bool) (xs : List X) (at : ℕ) → list_all q xs ≡ true → if_there q (slice_get xs at) ≡ true
place_passes q [] at h = refl
place_passes q (x ∷ xs) zero h = (and_parts (q x) (list_all q xs) h).0
place_passes q (x ∷ xs) (suc at) h = place_passes q xs at (and_parts (q x) (list_all q xs) h).1

-- ---- the tuples and the rows of worlds

pub tuples_flat : (stmts : List Stmt) → have_flat_tuples stmts ≡ true → list_all is_flat_tuple (tuples_of stmts) ≡ true
tuples_flat stmts h = set_all_pass is_flat_tuple tuple_cmp (map (λ x. x.tuple) stmts) (list_all-map is_flat_tuple (λ (x : Stmt). x.tuple) stmts ∙ h)

abbrev pub is_flat_row : Held → Bool
is_flat_row h = is_flat_tuple h.tuple

row_at_flat : (keys : ℕ → ℕ) (stmts : List Stmt) (w : List ℕ) (t : Tuple) (s : Sign) → is_flat_tuple t ≡ true → list_all is_flat_row (row_at keys stmts w t s) ≡ true
row_at_flat keys stmts w t s h =
    cond_both (stated keys stmts w t s) (record { tuple = t; sign = s; explicit = explicit stmts w t s } ∷ []) [] (λ hs. list_all is_flat_row hs ≡ true)
    (λ e. and_from (is_flat_tuple t) true h refl) (λ e. refl)

rows_at_flat : (keys : ℕ → ℕ) (stmts : List Stmt) (w : List ℕ) (t : Tuple) → is_flat_tuple t ≡ true → list_all is_flat_row (rows_at keys stmts w t) ≡ true
rows_at_flat keys stmts w t h =
    let plus = row_at keys stmts w t Plus in
    let minus = row_at keys stmts w t Minus in
    list_all-append is_flat_row plus minus
    ∙ and_from (list_all is_flat_row plus) (list_all is_flat_row minus) (row_at_flat keys stmts w t Plus h) (row_at_flat keys stmts w t Minus h)

pub world_flat : (keys : ℕ → ℕ) (stmts : List Stmt) (w : List ℕ) → have_flat_tuples stmts ≡ true → list_all is_flat_row (world_of keys stmts w) ≡ true
world_flat keys stmts w h =
    list_all-flat_map is_flat_tuple is_flat_row (rows_at keys stmts w) (rows_at_flat keys stmts w) (tuples_of stmts) (tuples_flat stmts h)
