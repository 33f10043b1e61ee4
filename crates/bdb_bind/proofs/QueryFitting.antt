-- The law of fitting for queries.
use Rattle.std.proofs.Common.{◌≡◌, ◌∙◌, ℕ, zero, suc, codes, ◌≤◌, ◌^◌, true, false, nat_eq, nat_lt, List, [], ◌∷◌, length, map, Option, Some, None, refl, sym, ap, inl, inr, arith, zero-add}
use Rattle.std.specs.Option.{option_map, option_and_then, is_some, unwrap_or}
use Rattle.std.specs.List.{list_any, list_all, slice_get}
use Rattle.std.proofs.lemmas.Bool.{cases_Bool, cond-true, cond-false, and_from, and_parts, or_parts, or_cases, not-false, not_from_false, eqb-true, lt-ltb}
use Rattle.std.proofs.lemmas.List.{length-map}
use Rattle.std.proofs.lemmas.Option.{slice_get-map}
use Rattle.bdb_base.specs.declared.kinds.Catalog.{Catalog}
use Rattle.bdb_base.specs.declared.kinds.Item.TheVariants as item
use Rattle.bdb_base.specs.declared.kinds.Kind.{Kind}
use Rattle.bdb_base.specs.declared.kinds.RelDef.{RelDef}
use Rattle.bdb_base.specs.declared.kinds.Value.{Value}
use Rattle.bdb_base.specs.declared.kinds.Value.TheVariants as value
use Rattle.bdb_base.specs.declared.kinds.Kind.TheVariants as kind
use Rattle.bdb_base.specs.Bases.{IsCatalog, is_plain}
use Rattle.bdb_base.specs.Same.{same_text}
use Rattle.bdb_base.specs.Queries.{columns_at, columns_of_definition}
use Rattle.bdb_base.specs.Safety.{item_kinds, column_kind, literal_kind, operand_kind, one_kind, joins_one_kind, is_users_item, who_fits, begins_with_another, fixed_differ, item_fits, query_fits}
use Rattle.bdb_base.proofs.OptionLemmas.{some_of}
use Rattle.bdb_syntax.specs.declared.command.RawCol.{RawCol}
use Rattle.bdb_syntax.specs.declared.command.RawCond.{RawCond}
use Rattle.bdb_syntax.specs.declared.command.RawItem.{RawItem}
use Rattle.bdb_syntax.specs.declared.command.RawQuery.{RawQuery}
use Rattle.bdb_syntax.specs.declared.command.RawSide.{RawSide}
use Rattle.bdb_syntax.specs.declared.command.RawSide.TheVariants.{Col, Lit}
use Rattle.bdb_syntax.specs.declared.command.RawWho.{RawWho}
use Rattle.bdb_syntax.specs.declared.command.RawWho.TheVariants as who
use Rattle.bdb_bind.specs.declared.bound.BindError.{BindError}
use Rattle.bdb_bind.specs.Firsts.{first_in}
use Rattle.bdb_bind.specs.Fits.{is_unclean}
use Rattle.bdb_bind.specs.Kinds.{kind_of}
use Rattle.bdb_bind.specs.Lookup.{is_user_name, uid_at, relation_number, columns_of, column_at}
use Rattle.bdb_bind.specs.Parts.{value_texts, side_texts, is_long}
use Rattle.bdb_bind.specs.QueryBinding.{place_named, query_column_at, query_side, query_cond, query_who, query_item, bound_query}
use Rattle.bdb_bind.specs.QueryLines.{item_relation, who_user, item_user, in_who, in_path, in_side, in_cond, in_later_columns, in_columns, column_alias, column_missing, column_not_uid, begins_with_name, repeats_name, kind_named, kind_of_side, cond_kind}
use Rattle.bdb_bind.specs.Scope.{is_users, item_place, item_of, user_columns, item_columns, columns_found, columns_named, are_users}
use Rattle.bdb_bind.proofs.Cleared.{neither, not_refused}
use Rattle.bdb_bind.proofs.CatalogLemmas.{relation_found}
use Rattle.bdb_bind.proofs.FitLemmas.{column_found, plain_text}
use Rattle.bdb_bind.proofs.Founds.{found, one_name}
use Rattle.bdb_bind.proofs.PathLemmas.{known_uid, uid_is_user}
use Rattle.bdb_bind.proofs.SafeLemmas.{catalog_few}

-- no reason applies to a query
pub record IsClearQuery (catalog : Catalog) (q : RawQuery) : Type 0 where
  pub few : length q.items ≤ 8
  pub relation : first_in (item_relation catalog.rels) q.items ≡ None
  pub user : first_in (item_user catalog.users) q.items ≡ None
  pub alias : in_columns (column_alias q.items) (column_alias q.items) q ≡ None
  pub column : in_columns (column_missing catalog.rels q.items) (column_not_uid q.items) q ≡ None
  pub no_repeat : list_any (λ i. repeats_name i.path) q.items ≡ false
  pub kinds : first_in (cond_kind catalog.rels q.items) q.conds ≡ None
  pub short : list_any (λ c. list_any is_long (side_texts c.right)) q.conds ≡ false
  pub clean : list_any (λ c. list_any is_unclean (side_texts c.right)) q.conds ≡ false

-- a rule that applies to none of a list doesn't apply to one of them
none_at : {X : Type 0} (rule : X → Option BindError) (xs : List X) (at : ℕ) (x : X) → first_in rule xs ≡ None → slice_get xs at ≡ Some x → rule x ≡ None
none_at rule [] at x none there = cc
none_at rule (y ∷ ys) zero x none there = let same : y ≡ x = cc in ap rule (sym same) ∙ (neither (rule y) (first_in rule ys) none).0
none_at rule (y ∷ ys) (suc at) x none there = none_at rule ys at x (neither (rule y) (first_in rule ys) none).1 there

-- ---- the item of an alias

record IsItem (items : List RawItem) (alias : Option (List ℕ)) : Type 0 where
  item : RawItem
  there : slice_get items (place_named items alias) ≡ Some item
  first : item_of items alias ≡ Some item

item_named : (items : List RawItem) (alias : Option (List ℕ)) → is_some (item_place items alias) ≡ true → IsItem items alias
item_named items None known = cc
item_named items (Some a) known =
    let w = some_of (item_place items (Some a)) known in
    let f = found (λ i. same_text i.alias a) 0 items w.0 w.1 in
    let place : place_named items (Some a) ≡ f.at = ap (λ o. unwrap_or o 0) w.1 ∙ f.place ∙ zero-add f.at in
    record { item = f.item; there = ap (slice_get items) place ∙ f.there; first = f.first }

alias_known : (items : List RawItem) (c : RawCol) → column_alias items c ≡ None → is_some (item_place items c.alias) ≡ true
alias_known items c none = not-false _ (not_refused _ _ none)

-- what is bound for the item of an alias
bound_item : (catalog : Catalog) (items : List RawItem) (alias : Option (List ℕ)) (w : IsItem items alias)
    → slice_get (map (query_item catalog items) items) (place_named items alias) ≡ Some (query_item catalog items w.item)
bound_item catalog items alias w =
    slice_get-map (query_item catalog items) items (place_named items alias) ∙ ap (option_map (query_item catalog items)) w.there

-- ---- the columns of an item

-- the columns of a relation by its name and by its number
numbered_columns : (catalog : Catalog) (name : List ℕ) → is_some (relation_number catalog.rels name) ≡ true
    → columns_at catalog.rels (unwrap_or (relation_number catalog.rels name) 0) ≡ columns_of catalog.rels name
numbered_columns catalog name known =
    let w = relation_found catalog name known in
    let f = w.2 in
    let place : unwrap_or (relation_number catalog.rels name) 0 ≡ f.at = ap (λ o. unwrap_or o 0) w.1 ∙ f.place ∙ zero-add f.at in
    ap columns_of_definition (ap (slice_get catalog.rels) place ∙ f.there) ∙ sym (ap columns_of_definition f.first)

relation_there : (catalog : Catalog) (name : List ℕ) → is_some (relation_number catalog.rels name) ≡ true
    → is_some (slice_get catalog.rels (unwrap_or (relation_number catalog.rels name) 0)) ≡ true
relation_there catalog name known =
    let w = relation_found catalog name known in
    let f = w.2 in
    let place : unwrap_or (relation_number catalog.rels name) 0 ≡ f.at = ap (λ o. unwrap_or o 0) w.1 ∙ f.place ∙ zero-add f.at in
    ap is_some (ap (slice_get catalog.rels) place ∙ f.there)

-- the relation of an item that doesn't stand for the users is there
relation_known : (rels : List RelDef) (i : RawItem) → item_relation rels i ≡ None → is_users i ≡ false → is_some (relation_number rels i.rel) ≡ true
relation_known rels i none other = elim (or_cases (is_users i) (is_some (relation_number rels i.rel)) (not-false _ (not_refused _ _ none))) [
  | inl users ↦ cc
  | inr known ↦ known
]

-- the item that a query's item is bound to, by cases
bound_users : (catalog : Catalog) (items : List RawItem) (i : RawItem) → is_users i ≡ true → query_item catalog items i ≡ item.Users i.alias
bound_users catalog items i users = cond-true (is_users i) (item.Users i.alias) _ users

bound_relation : (catalog : Catalog) (items : List RawItem) (i : RawItem) → is_users i ≡ false
    → query_item catalog items i ≡ item.Rel i.alias (unwrap_or (relation_number catalog.rels i.rel) 0) i.sign (map (query_who catalog.users items) i.path)
bound_relation catalog items i other = cond-false (is_users i) (item.Users i.alias) _ other

-- the kinds of a bound item's columns
kinds_are : (catalog : Catalog) (items : List RawItem) (i : RawItem) → item_relation catalog.rels i ≡ None
    → item_kinds catalog.rels (query_item catalog items i) ≡ map (λ c. c.kind) (item_columns catalog.rels i)
kinds_are catalog items i none = elim (cases_Bool (is_users i)) [
  | inl users ↦ ap (item_kinds catalog.rels) (bound_users catalog items i users)
      ∙ sym (ap (map (λ c. c.kind)) (cond-true (is_users i) user_columns (columns_of catalog.rels i.rel) users))
  | inr other ↦ ap (item_kinds catalog.rels) (bound_relation catalog items i other)
      ∙ ap (map (λ c. c.kind)) (numbered_columns catalog i.rel (relation_known catalog.rels i none other))
      ∙ sym (ap (map (λ c. c.kind)) (cond-false (is_users i) user_columns (columns_of catalog.rels i.rel) other))
]

-- a column that is there has its kind after binding too
record IsColumnOf (catalog : Catalog) (items : List RawItem) (c : RawCol) : Type 0 where
  kind : Kind
  named : kind_named catalog.rels items c ≡ Some kind
  numbered : column_kind catalog.rels (map (query_item catalog items) items) (query_column_at catalog.rels items c) ≡ Some kind

column_bound : (catalog : Catalog) (items : List RawItem) (c : RawCol) → first_in (item_relation catalog.rels) items ≡ None → column_alias items c ≡ None
    → column_missing catalog.rels items c ≡ None → IsColumnOf catalog items c
column_bound catalog items c relations alias missing =
    let w = item_named items c.alias (alias_known items c alias) in
    let cols = columns_named catalog.rels items c.alias in
    let found_column = column_found cols c.col (not-false _ (not_refused _ _ missing)) in
    let at = unwrap_or (column_at cols c.col) 0 in
    let named : cols ≡ item_columns catalog.rels w.item = ap (columns_found catalog.rels) w.first in
    let kinds = kinds_are catalog items w.item (none_at (item_relation catalog.rels) items (place_named items c.alias) w.item relations w.there) in
    record {
      kind = found_column.item.kind;
      named = found_column.kind;
      numbered = ap (option_and_then (λ i. slice_get (item_kinds catalog.rels i) at)) (bound_item catalog items c.alias w)
          ∙ ap (λ ks. slice_get ks at) (kinds ∙ ap (map (λ d. d.kind)) (sym named))
          ∙ slice_get-map (λ d. d.kind) cols at ∙ ap (option_map (λ d. d.kind)) found_column.there;
    }

-- ---- the users of a path

who_fit : (catalog : Catalog) (items : List RawItem) (w : RawWho) → who_user catalog.users w ≡ None → in_who (column_alias items) w ≡ None
    → in_who (column_not_uid items) w ≡ None → who_fits catalog.users (map (query_item catalog items) items) (query_who catalog.users items w) ≡ true
who_fit catalog items (who.Name name) known alias uid = uid_is_user catalog.users name (not-false _ (not_refused _ _ known))
who_fit catalog items (who.Col c) known alias uid =
    let w = item_named items c.alias (alias_known items c alias) in
    let number = and_parts (are_users (item_of items c.alias)) (same_text c.col (codes "uid")) (not-false _ (not_refused _ _ uid)) in
    let users : is_users w.item ≡ true = sym (ap are_users w.first) ∙ number.0 in
    ap is_users_item (bound_item catalog items c.alias w ∙ ap Some (bound_users catalog items w.item users))

whos_fit : (catalog : Catalog) (items : List RawItem) (path : List RawWho) → first_in (who_user catalog.users) path ≡ None → first_in (in_who (column_alias items)) path ≡ None
    → first_in (in_who (column_not_uid items)) path ≡ None
    → list_all (who_fits catalog.users (map (query_item catalog items) items)) (map (query_who catalog.users items) path) ≡ true
whos_fit catalog items [] known alias uid = refl
whos_fit catalog items (w ∷ ws) known alias uid =
    let knowns = neither (who_user catalog.users w) (first_in (who_user catalog.users) ws) known in
    let aliases = neither (in_who (column_alias items) w) (first_in (in_who (column_alias items)) ws) alias in
    let uids = neither (in_who (column_not_uid items) w) (first_in (in_who (column_not_uid items)) ws) uid in
    and_from _ _ (who_fit catalog items w knowns.0 aliases.0 uids.0) (whos_fit catalog items ws knowns.1 aliases.1 uids.1)

-- where two neighbouring names differ, so do their numbers
next_differs : (catalog : Catalog) (items : List RawItem) (n : List ℕ) (ws : List RawWho) → is_user_name catalog.users n ≡ true → first_in (who_user catalog.users) ws ≡ None
    → begins_with_name n ws ≡ false → begins_with_another (uid_at catalog.users n) (map (query_who catalog.users items) ws) ≡ true
next_differs catalog items n [] known others apart = refl
next_differs catalog items n (who.Col c ∷ ws) known others apart = refl
next_differs catalog items n (who.Name m ∷ ws) known others apart =
    let next = not-false _ (not_refused _ _ (neither (who_user catalog.users (who.Name m)) (first_in (who_user catalog.users) ws) others).0) in
    let a = uid_at catalog.users n in
    let b = uid_at catalog.users m in
    elim (cases_Bool (nat_eq a b)) [
      | inl same ↦ let one = one_name catalog.users n m a (known_uid catalog.users n known) (known_uid catalog.users m next ∙ ap Some (sym (eqb-true a b same))) in cc
      | inr other ↦ not_from_false (nat_eq a b) other
    ]

path_differs : (catalog : Catalog) (items : List RawItem) (path : List RawWho) → first_in (who_user catalog.users) path ≡ None → repeats_name path ≡ false
    → fixed_differ (map (query_who catalog.users items) path) ≡ true
path_differs catalog items [] known apart = refl
path_differs catalog items (who.Name n ∷ ws) known apart =
    let knowns = neither (who_user catalog.users (who.Name n)) (first_in (who_user catalog.users) ws) known in
    let parts = or_parts (begins_with_name n ws) (repeats_name ws) apart in
    and_from _ _ (next_differs catalog items n ws (not-false _ (not_refused _ _ knowns.0)) knowns.1 parts.0) (path_differs catalog items ws knowns.1 parts.1)
path_differs catalog items (who.Col c ∷ ws) known apart =
    path_differs catalog items ws (neither (who_user catalog.users (who.Col c)) (first_in (who_user catalog.users) ws) known).1 apart

-- ---- the items

one_item_fits : (catalog : Catalog) (items : List RawItem) (i : RawItem) → item_relation catalog.rels i ≡ None → item_user catalog.users i ≡ None
    → in_path (column_alias items) i ≡ None → in_path (column_not_uid items) i ≡ None → repeats_name i.path ≡ false
    → item_fits catalog (map (query_item catalog items) items) (query_item catalog items i) ≡ true
one_item_fits catalog items i relation known alias uid apart = elim (cases_Bool (is_users i)) [
  | inl users ↦ ap (item_fits catalog (map (query_item catalog items) items)) (bound_users catalog items i users)
  | inr other ↦ ap (item_fits catalog (map (query_item catalog items) items)) (bound_relation catalog items i other)
      ∙ and_from _ _ (relation_there catalog i.rel (relation_known catalog.rels i relation other))
      (and_from _ _ (whos_fit catalog items i.path known alias uid) (path_differs catalog items i.path known apart))
]

items_fit : (catalog : Catalog) (items rest : List RawItem) → first_in (item_relation catalog.rels) rest ≡ None → first_in (item_user catalog.users) rest ≡ None
    → first_in (in_path (column_alias items)) rest ≡ None → first_in (in_path (column_not_uid items)) rest ≡ None → list_any (λ i. repeats_name i.path) rest ≡ false
    → list_all (item_fits catalog (map (query_item catalog items) items)) (map (query_item catalog items) rest) ≡ true
items_fit catalog items [] relation known alias uid apart = refl
items_fit catalog items (i ∷ is) relation known alias uid apart =
    let relations = neither (item_relation catalog.rels i) (first_in (item_relation catalog.rels) is) relation in
    let knowns = neither (item_user catalog.users i) (first_in (item_user catalog.users) is) known in
    let aliases = neither (in_path (column_alias items) i) (first_in (in_path (column_alias items)) is) alias in
    let uids = neither (in_path (column_not_uid items) i) (first_in (in_path (column_not_uid items)) is) uid in
    let aparts = or_parts (repeats_name i.path) (list_any (λ x. repeats_name x.path) is) apart in
    and_from _ _ (one_item_fits catalog items i relations.0 knowns.0 aliases.0 uids.0 aparts.0) (items_fit catalog items is relations.1 knowns.1 aliases.1 uids.1 aparts.1)

-- ---- select columns

takes_fit : (catalog : Catalog) (items : List RawItem) (cols : List RawCol) → first_in (item_relation catalog.rels) items ≡ None
    → first_in (column_alias items) cols ≡ None → first_in (column_missing catalog.rels items) cols ≡ None
    → list_all (λ r. is_some (column_kind catalog.rels (map (query_item catalog items) items) r)) (map (query_column_at catalog.rels items) cols) ≡ true
takes_fit catalog items [] relations alias missing = refl
takes_fit catalog items (c ∷ cs) relations alias missing =
    let aliases = neither (column_alias items c) (first_in (column_alias items) cs) alias in
    let missings = neither (column_missing catalog.rels items c) (first_in (column_missing catalog.rels items) cs) missing in
    let w = column_bound catalog items c relations aliases.0 missings.0 in
    and_from _ _ (ap is_some w.numbered) (takes_fit catalog items cs relations aliases.1 missings.1)

-- ---- comparisons

-- a literal that is short and clean may stand in a base
literal_fits : (v : Value) → list_any is_long (value_texts v) ≡ false → list_any is_unclean (value_texts v) ≡ false → literal_kind v ≡ Some (kind_of v)
literal_fits (value.Int n) short clean = refl
literal_fits (value.Text t) short clean =
    cond-true (is_plain t) (Some kind.Text) None (plain_text t (or_parts (is_long t) false short).0 (or_parts (is_unclean t) false clean).0)

side_bound : (catalog : Catalog) (items : List RawItem) (side : RawSide) → first_in (item_relation catalog.rels) items ≡ None → in_side (column_alias items) side ≡ None
    → in_side (column_missing catalog.rels items) side ≡ None → list_any is_long (side_texts side) ≡ false → list_any is_unclean (side_texts side) ≡ false
    → operand_kind catalog.rels (map (query_item catalog items) items) (query_side catalog.rels items side) ≡ kind_of_side catalog.rels items side
side_bound catalog items (Lit v) relations alias missing short clean = literal_fits v short clean
side_bound catalog items (Col c) relations alias missing short clean =
    let w = column_bound catalog items c relations alias missing in w.numbered ∙ sym w.named

one_cond_fits : (catalog : Catalog) (items : List RawItem) (c : RawCond) → first_in (item_relation catalog.rels) items ≡ None → in_cond (column_alias items) c ≡ None
    → in_cond (column_missing catalog.rels items) c ≡ None → cond_kind catalog.rels items c ≡ None → list_any is_long (side_texts c.right) ≡ false
    → list_any is_unclean (side_texts c.right) ≡ false
    → joins_one_kind catalog.rels (map (query_item catalog items) items) (query_cond catalog.rels items c) ≡ true
one_cond_fits catalog items c relations alias missing agree short clean =
    let aliases = neither (column_alias items c.left) (in_side (column_alias items) c.right) alias in
    let missings = neither (column_missing catalog.rels items c.left) (in_side (column_missing catalog.rels items) c.right) missing in
    let left = column_bound catalog items c.left relations aliases.0 missings.0 in
    let right = side_bound catalog items c.right relations aliases.1 missings.1 short clean in
    let bound = map (query_item catalog items) items in
    ap (λ k. one_kind k (operand_kind catalog.rels bound (query_side catalog.rels items c.right))) (left.numbered ∙ sym left.named)
    ∙ ap (one_kind (kind_named catalog.rels items c.left)) right
    ∙ not-false _ (not_refused _ _ agree)

conds_all_fit : (catalog : Catalog) (items : List RawItem) (conds : List RawCond) → first_in (item_relation catalog.rels) items ≡ None
    → first_in (in_cond (column_alias items)) conds ≡ None → first_in (in_cond (column_missing catalog.rels items)) conds ≡ None
    → first_in (cond_kind catalog.rels items) conds ≡ None → list_any (λ c. list_any is_long (side_texts c.right)) conds ≡ false
    → list_any (λ c. list_any is_unclean (side_texts c.right)) conds ≡ false
    → list_all (joins_one_kind catalog.rels (map (query_item catalog items) items)) (map (query_cond catalog.rels items) conds) ≡ true
conds_all_fit catalog items [] relations alias missing agree short clean = refl
conds_all_fit catalog items (c ∷ cs) relations alias missing agree short clean =
    let aliases = neither (in_cond (column_alias items) c) (first_in (in_cond (column_alias items)) cs) alias in
    let missings = neither (in_cond (column_missing catalog.rels items) c) (first_in (in_cond (column_missing catalog.rels items)) cs) missing in
    let agrees = neither (cond_kind catalog.rels items c) (first_in (cond_kind catalog.rels items) cs) agree in
    let shorts = or_parts (list_any is_long (side_texts c.right)) (list_any (λ x. list_any is_long (side_texts x.right)) cs) short in
    let cleans = or_parts (list_any is_unclean (side_texts c.right)) (list_any (λ x. list_any is_unclean (side_texts x.right)) cs) clean in
    and_from _ _ (one_cond_fits catalog items c relations aliases.0 missings.0 agrees.0 shorts.0 cleans.0)
    (conds_all_fit catalog items cs relations aliases.1 missings.1 agrees.1 shorts.1 cleans.1)

-- ---- the query

few_items_bound : (catalog : Catalog) (items : List RawItem) → length items ≤ 8 → nat_lt (length (map (query_item catalog items) items)) (2 ^ 32) ≡ true
few_items_bound catalog items few =
    let many = length-map items (query_item catalog items) in
    lt-ltb (length (map (query_item catalog items) items)) (2 ^ 32) (omega arith)

pub clear_query_fits : (catalog : Catalog) (q : RawQuery) → IsCatalog catalog → IsClearQuery catalog q → query_fits catalog (bound_query catalog q) ≡ true
unfolding bound_query
clear_query_fits catalog q valid clear =
    let alias = neither (first_in (column_alias q.items) q.take) (in_later_columns (column_alias q.items) (column_alias q.items) q) clear.alias in
    let aliases = neither (first_in (in_path (column_alias q.items)) q.items) (first_in (in_cond (column_alias q.items)) q.conds) alias.1 in
    let column = neither (first_in (column_missing catalog.rels q.items) q.take) (in_later_columns (column_missing catalog.rels q.items) (column_not_uid q.items) q) clear.column in
    let columns = neither (first_in (in_path (column_not_uid q.items)) q.items) (first_in (in_cond (column_missing catalog.rels q.items)) q.conds) column.1 in
    and_from _ _ (few_items_bound catalog q.items clear.few) (and_from _ _ (catalog_few catalog valid)
    (and_from _ _ (items_fit catalog q.items q.items clear.relation clear.user aliases.0 columns.0 clear.no_repeat)
    (and_from _ _ (takes_fit catalog q.items q.take clear.relation alias.0 column.0)
    (conds_all_fit catalog q.items q.conds clear.relation aliases.1 columns.1 clear.kinds clear.short clear.clean))))
