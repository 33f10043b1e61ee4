-- The law of fitting, command by command.
use Rattle.std.proofs.Common.{◌≡◌, ◌∙◌, ℕ, ℤ, pos, negsuc, unsigned_abs, int_lt, Option, ◌<◌, Bool, true, false, not, ◌&&◌, ◌||◌, nat_lt, nat_le, List, [], ◌∷◌, ◌++◌, length, map, Some, None, refl, sym, ap, arith, zero-add}
use Rattle.std.specs.Option.{is_some, is_none, option_and_then, unwrap_or}
use Rattle.std.specs.List.{list_any, list_all, slice_get}
use Rattle.std.proofs.lemmas.Bool.{ltb-true, ltb-false, and_from, and_parts, or_parts, not-true, not_from_false, le-leb, lt-ltb}
use Rattle.std.proofs.lemmas.List.{map-append}
use Rattle.bdb_base.specs.declared.kinds.Catalog.{Catalog}
use Rattle.bdb_base.specs.declared.kinds.ColDef.{ColDef}
use Rattle.bdb_base.specs.declared.kinds.RelDef.{RelDef}
use Rattle.bdb_base.specs.declared.kinds.Sign.{Sign}
use Rattle.bdb_base.specs.declared.kinds.Value.{Value}
use Rattle.bdb_base.specs.Same.{same_text}
use Rattle.bdb_base.specs.Bases.{IsCatalog, is_plain, fits_columns, fits_relation, are_distinct, is_user, user_names, users_name, is_called}
use Rattle.bdb_base.specs.Queries.{columns_of_definition}
use Rattle.bdb_base.proofs.CountLemmas.{list_any-map}
use Rattle.bdb_base.proofs.OptionLemmas.{nothing_mapped}
use Rattle.bdb_syntax.specs.declared.command.Command.{Command}
use Rattle.bdb_syntax.specs.declared.command.Command.TheVariants.{CreateUser, DropUser, CreateRelation, Insert, Delete, Update, Select, Explain, ShowWorld, Why, ShowTables, Undo, Redo}
use Rattle.bdb_syntax.specs.declared.command.RawCond.{RawCond}
use Rattle.bdb_syntax.specs.declared.command.RawQuery.{RawQuery}
use Rattle.bdb_syntax.specs.declared.command.RawSet.{RawSet}
use Rattle.bdb_bind.specs.Lookup.{is_user_name, uid_at, relation_number, columns_of, has_column}
use Rattle.bdb_bind.specs.Parts.{query_of, relation_name, tuple_values, columns_for, change_columns, value_texts, side_texts, cond_columns, is_long, some_who_text, some_query_text, some_signed_text, some_text}
use Rattle.bdb_bind.specs.Lines.{first_repeated, missing_column, items_line, relation_line, user_line, alias_line, column_line, key_line, repeat_line, taken_line, misfit, values_kind, fits_set, fits_cond, set_kinds, cond_kinds, change_kind, kind_line}
use Rattle.bdb_bind.specs.Binding.{relation_at, key_length, bound_cond, bound_set, bound_of}
use Rattle.bdb_bind.specs.QueryBinding.{bound_query}
use Rattle.bdb_bind.specs.QueryLines.{query_items, query_relation, query_user, query_alias, query_column, query_repeat, query_kind}
use Rattle.bdb_bind.specs.Refusal.{unsafe_line, refusal_of}
use Rattle.bdb_bind.specs.Fits.{can_be_answered, is_unclean, names_allowed, is_allowed, set_fits, cond_fits, columns_numbered, fits_catalog, WhatIsBoundFits}
use Rattle.bdb_bind.proofs.Founds.{all_pass}
use Rattle.bdb_bind.proofs.Cleared.{IsCleared, cleared, both_accepted, neither, not_refused, no_long_text, few_columns, key_told, users_known}
use Rattle.bdb_bind.proofs.CatalogLemmas.{relation_found, named_relation, values_counted}
use Rattle.bdb_bind.proofs.PathLemmas.{uid_is_user}
use Rattle.bdb_bind.proofs.QueryFitting.{IsClearQuery, clear_query_fits}
use Rattle.bdb_bind.proofs.FitLemmas.{plain_text, path_fits, values_fit, sets_fit, conds_fit, none_among, none_called, distinct_with, none_repeated}

-- the relation of a name, by its number
record IsRelation (catalog : Catalog) (name : List ℕ) : Type 0 where
  def : RelDef
  there : slice_get catalog.rels (relation_at catalog.rels name) ≡ Some def
  columns : columns_of catalog.rels name ≡ def.cols
  within : relation_at catalog.rels name < length catalog.rels

relation_numbered : (catalog : Catalog) (name : List ℕ) → is_some (relation_number catalog.rels name) ≡ true → IsRelation catalog name
relation_numbered catalog name known =
    let w = relation_found catalog name known in
    let f = w.2 in
    let place : relation_at catalog.rels name ≡ f.at = ap (λ o. unwrap_or o 0) w.1 ∙ f.place ∙ zero-add f.at in
    record { def = f.item; there = ap (slice_get catalog.rels) place ∙ f.there; columns = ap columns_of_definition f.first; within = omega (arith, place, f.within) }

-- the columns of a name and of its number are the same
same_columns : (catalog : Catalog) (name : List ℕ) (r : IsRelation catalog name) → columns_numbered catalog.rels (relation_at catalog.rels name) ≡ columns_of catalog.rels name
same_columns catalog name r = ap columns_of_definition r.there ∙ sym r.columns

columns_there : (cols : List ColDef) (names : List (List ℕ)) → missing_column cols names ≡ None → list_all (has_column cols) names ≡ true
unfolding missing_column
columns_there cols names e = all_pass (has_column cols) names (nothing_mapped _ _ e)

delete_columns : (catalog : Catalog) (users : List (List ℕ)) (sign : Sign) (rel : List ℕ) (conds : List RawCond)
    → column_line catalog (Delete users sign rel conds) ≡ None → list_all (has_column (columns_of catalog.rels rel)) (cond_columns conds) ≡ true
unfolding column_line
delete_columns catalog users sign rel conds e = columns_there (columns_of catalog.rels rel) (cond_columns conds) (neither _ _ e).0

update_columns : (catalog : Catalog) (users : List (List ℕ)) (sign : Sign) (rel : List ℕ) (sets : List RawSet) (conds : List RawCond)
    → column_line catalog (Update users sign rel sets conds) ≡ None
    → (list_all (has_column (columns_of catalog.rels rel)) (map (λ s. s.col) sets) ≡ true) × (list_all (has_column (columns_of catalog.rels rel)) (cond_columns conds) ≡ true)
unfolding column_line
update_columns catalog users sign rel sets conds e =
    let parts = neither _ _ (neither _ _ e).0 in
    (columns_there (columns_of catalog.rels rel) (map (λ s. s.col) sets) parts.0, columns_there (columns_of catalog.rels rel) (cond_columns conds) parts.1)

-- kinds agree
conds_agree : (cols : List ColDef) (conds : List RawCond) → cond_kinds cols conds ≡ None → list_all (fits_cond cols) conds ≡ true
unfolding cond_kinds
conds_agree cols conds e = all_pass (fits_cond cols) conds (nothing_mapped _ _ e)

sets_agree : (cols : List ColDef) (sets : List RawSet) → set_kinds cols sets ≡ None → list_all (fits_set cols) sets ≡ true
unfolding set_kinds
sets_agree cols sets e = all_pass (fits_set cols) sets (nothing_mapped _ _ e)

-- a command names a path and a tuple
record NamesTuple (c : Command) (users : List (List ℕ)) (rel : List ℕ) (vals : List Value) : Type 0 where
  relation : relation_name c ≡ Some rel
  values : tuple_values c ≡ Some vals
  kinds : (cols : List ColDef) → change_kind cols c ≡ values_kind cols vals
  texts : (p : List ℕ → Bool) → some_text p c ≡ some_signed_text p users vals

tuple_kinds : (catalog : Catalog) (c : Command) (users : List (List ℕ)) (rel : List ℕ) (vals : List Value) → NamesTuple c users rel vals
    → kind_line catalog c ≡ None → misfit (columns_of catalog.rels rel) vals ≡ None
unfolding kind_line
tuple_kinds catalog c users rel vals names e =
    let cols : change_columns catalog.rels c ≡ columns_of catalog.rels rel = ap (columns_for catalog.rels) names.relation in
    nothing_mapped _ _ (sym (names.kinds (columns_of catalog.rels rel)) ∙ (ap (λ x. change_kind x c) (sym cols) ∙ (neither _ _ e).0))

delete_kinds : (catalog : Catalog) (users : List (List ℕ)) (sign : Sign) (rel : List ℕ) (conds : List RawCond)
    → kind_line catalog (Delete users sign rel conds) ≡ None → list_all (fits_cond (columns_of catalog.rels rel)) conds ≡ true
unfolding kind_line
delete_kinds catalog users sign rel conds e = conds_agree (columns_of catalog.rels rel) conds (neither _ _ e).0

update_kinds : (catalog : Catalog) (users : List (List ℕ)) (sign : Sign) (rel : List ℕ) (sets : List RawSet) (conds : List RawCond)
    → kind_line catalog (Update users sign rel sets conds) ≡ None
    → (list_all (fits_set (columns_of catalog.rels rel)) sets ≡ true) × (list_all (fits_cond (columns_of catalog.rels rel)) conds ≡ true)
unfolding kind_line
update_kinds catalog users sign rel sets conds e =
    let parts = neither _ _ (neither _ _ e).0 in
    (sets_agree (columns_of catalog.rels rel) sets parts.0, conds_agree (columns_of catalog.rels rel) conds parts.1)

-- new names are not taken
user_free : (catalog : Catalog) (name : List ℕ) → taken_line catalog (CreateUser name) ≡ None → is_user_name catalog.users name ≡ false
unfolding taken_line
user_free catalog name e = not_refused _ _ e

relation_free : (catalog : Catalog) (name : List ℕ) (cols : List ColDef) (key : Option ℤ) → taken_line catalog (CreateRelation name cols key) ≡ None
    → (is_some (relation_number catalog.rels name) ≡ false) × (same_text name users_name ≡ false) × (first_repeated [] cols ≡ None)
unfolding taken_line
relation_free catalog name cols key e =
    let parts = neither _ _ e in
    let free = or_parts (is_some (relation_number catalog.rels name)) (same_text name users_name) (not_refused _ _ parts.0) in
    (free.0, free.1, nothing_mapped _ _ parts.1)

above_none : (n : ℤ) → int_lt (pos 0) n ≡ true → nat_lt 0 (unsigned_abs n) ≡ true
above_none (pos n) e = e
above_none (negsuc n) e = cc

-- the key of a new relation has a column, and no more than there are
has_key : (name : List ℕ) (cols : List ColDef) (key : Option ℤ) → nat_lt 0 (length cols) ≡ true → key_line (CreateRelation name cols key) ≡ None
    → (nat_lt 0 (key_length key) && nat_le (key_length key) (length cols)) ≡ true
has_key name cols None some e = let one = ltb-true 0 (length cols) some in le-leb 1 (length cols) (omega arith)
has_key name cols (Some n) some e =
    let parts = and_parts (int_lt (pos 0) n) (nat_le (unsigned_abs n) (length cols)) (key_told (CreateRelation name cols (Some n)) n refl e) in
    and_from (nat_lt 0 (unsigned_abs n)) (nat_le (unsigned_abs n) (length cols)) (above_none n parts.0) parts.1

-- the texts of an allowed command are clean
texts_clean : (c : Command) → is_allowed c ≡ true → some_text is_unclean c ≡ false
texts_clean c allowed = not-true (some_text is_unclean c) (and_parts (not (some_text is_unclean c)) (names_allowed c) allowed).0

new_user_fits : (catalog : Catalog) (name : List ℕ) → IsCatalog catalog → is_allowed (CreateUser name) ≡ true → IsCleared catalog (CreateUser name)
    → (is_plain name && are_distinct (user_names catalog.users ++ name ∷ [])) ≡ true
new_user_fits catalog name valid allowed clear =
    and_from _ _ (plain_text name (no_long_text (CreateUser name) clear.text) (texts_clean (CreateUser name) allowed))
    (distinct_with (user_names catalog.users) name valid.users_differ
    (none_called catalog.users name (none_among (is_called name) 1 catalog.users (user_free catalog name clear.taken))))

-- who leaves is a live user
leaver_fits : (catalog : Catalog) (name : List ℕ) → IsCleared catalog (DropUser name) → is_user catalog.users (uid_at catalog.users name) ≡ true
leaver_fits catalog name clear =
    uid_is_user catalog.users name (and_parts (is_user_name catalog.users name) true (users_known catalog (DropUser name) clear.user)).0

new_relation_fits : (catalog : Catalog) (name : List ℕ) (cols : List ColDef) (key : Option ℤ) → IsCatalog catalog → is_allowed (CreateRelation name cols key) ≡ true
    → IsCleared catalog (CreateRelation name cols key) → fits_catalog catalog (bound_of catalog (CreateRelation name cols key)) ≡ true
new_relation_fits catalog name cols key valid allowed clear =
    let names = (and_parts true (nat_lt 0 (length cols) && (is_plain name && list_all (λ c. is_plain c.name) cols)) allowed).1 in
    let some = and_parts (nat_lt 0 (length cols)) (is_plain name && list_all (λ c. is_plain c.name) cols) names in
    let plain = and_parts (is_plain name) (list_all (λ c. is_plain c.name) cols) some.1 in
    let free = relation_free catalog name cols key clear.taken in
    let apart = none_repeated [] cols free.2 in
    let counts = and_from (nat_lt 0 (length cols)) (nat_le (length cols) 16) some.0 (le-leb (length cols) 16 (few_columns (CreateRelation name cols key) clear.items)) in
    let own = and_from (is_plain name) (not (same_text name users_name)) plain.0 (not_from_false (same_text name users_name) free.1) in
    let columns = and_from (are_distinct (map (λ c. c.name) cols)) (list_all (λ c. is_plain c.name) cols) apart.distinct plain.1 in
    let others : list_any (λ x. same_text x name) (map (λ r. r.name) catalog.rels) ≡ false =
    list_any-map (λ x. same_text x name) (λ r. r.name) catalog.rels ∙ none_among (λ r. same_text r.name name) 0 catalog.rels free.0 in
    and_from _ _ (and_from _ _ counts (and_from _ _ (and_from _ _ columns own) (has_key name cols key some.0 clear.key)))
    (ap are_distinct (map-append (λ r. r.name) catalog.rels (record { name = name; cols = cols; key = key_length key } ∷ []))
    ∙ distinct_with (map (λ r. r.name) catalog.rels) name valid.rels_differ others)

-- the tuple fits its relation
tuple_fits : (catalog : Catalog) (c : Command) (users : List (List ℕ)) (rel : List ℕ) (vals : List Value) → NamesTuple c users rel vals → is_allowed c ≡ true
    → IsCleared catalog c → fits_relation catalog.rels (record { rel = relation_at catalog.rels rel; vals = vals }) ≡ true
tuple_fits catalog c users rel vals names allowed clear =
    let r = relation_numbered catalog rel (named_relation catalog c rel names.relation clear.relation) in
    let many = values_counted catalog c rel vals names.relation names.values clear.arity in
    let fit = tuple_kinds catalog c users rel vals names clear.kinds in
    let short = or_parts (list_any is_long users) (list_any (λ v. list_any is_long (value_texts v)) vals) (sym (names.texts is_long) ∙ no_long_text c clear.text) in
    let clean = or_parts (list_any is_unclean users) (list_any (λ v. list_any is_unclean (value_texts v)) vals) (sym (names.texts is_unclean) ∙ texts_clean c allowed) in
    let fits : fits_columns r.def.cols vals ≡ true =
    ap (λ cols. fits_columns cols vals) (sym r.columns) ∙ values_fit (columns_of catalog.rels rel) vals many fit short.1 clean.1 in
    let there = r.there in
    rw there fits

insert_fits : (catalog : Catalog) (users : List (List ℕ)) (sign : Sign) (rel : List ℕ) (vals : List Value) → is_allowed (Insert users sign rel vals) ≡ true
    → IsCleared catalog (Insert users sign rel vals) → fits_catalog catalog (bound_of catalog (Insert users sign rel vals)) ≡ true
insert_fits catalog users sign rel vals allowed clear =
    let c = Insert users sign rel vals in
    and_from _ _ (path_fits catalog c clear)
    (tuple_fits catalog c users rel vals (record { relation = refl; values = refl; kinds = λ cols. refl; texts = λ p. refl }) allowed clear)

why_fits : (catalog : Catalog) (users : List (List ℕ)) (sign : Sign) (rel : List ℕ) (vals : List Value) → is_allowed (Why users sign rel vals) ≡ true
    → IsCleared catalog (Why users sign rel vals) → fits_catalog catalog (bound_of catalog (Why users sign rel vals)) ≡ true
why_fits catalog users sign rel vals allowed clear =
    let c = Why users sign rel vals in
    and_from _ _ (path_fits catalog c clear)
    (tuple_fits catalog c users rel vals (record { relation = refl; values = refl; kinds = λ cols. refl; texts = λ p. refl }) allowed clear)

conds_fit_at : (catalog : Catalog) (rel : List ℕ) (conds : List RawCond) (r : IsRelation catalog rel)
    → list_all (cond_fits (columns_of catalog.rels rel)) (map (bound_cond (columns_of catalog.rels rel)) conds) ≡ true
    → list_all (cond_fits (columns_numbered catalog.rels (relation_at catalog.rels rel))) (map (bound_cond (columns_of catalog.rels rel)) conds) ≡ true
conds_fit_at catalog rel conds r fit =
    ap (λ cols. list_all (cond_fits cols) (map (bound_cond (columns_of catalog.rels rel)) conds)) (same_columns catalog rel r) ∙ fit

delete_fits : (catalog : Catalog) (users : List (List ℕ)) (sign : Sign) (rel : List ℕ) (conds : List RawCond) → is_allowed (Delete users sign rel conds) ≡ true
    → IsCleared catalog (Delete users sign rel conds) → fits_catalog catalog (bound_of catalog (Delete users sign rel conds)) ≡ true
delete_fits catalog users sign rel conds allowed clear =
    let c = Delete users sign rel conds in
    let r = relation_numbered catalog rel (named_relation catalog c rel refl clear.relation) in
    let short = or_parts (list_any is_long users) (list_any (λ x. list_any is_long (side_texts x.right)) conds) (no_long_text c clear.text) in
    let clean = or_parts (list_any is_unclean users) (list_any (λ x. list_any is_unclean (side_texts x.right)) conds) (texts_clean c allowed) in
    let fit = conds_fit (columns_of catalog.rels rel) conds (delete_columns catalog users sign rel conds clear.column)
    (delete_kinds catalog users sign rel conds clear.kinds) short.1 clean.1 in
    and_from _ _ (path_fits catalog c clear) (and_from _ _ (lt-ltb (relation_at catalog.rels rel) (length catalog.rels) r.within) (conds_fit_at catalog rel conds r fit))

update_fits : (catalog : Catalog) (users : List (List ℕ)) (sign : Sign) (rel : List ℕ) (sets : List RawSet) (conds : List RawCond)
    → is_allowed (Update users sign rel sets conds) ≡ true → IsCleared catalog (Update users sign rel sets conds)
    → fits_catalog catalog (bound_of catalog (Update users sign rel sets conds)) ≡ true
update_fits catalog users sign rel sets conds allowed clear =
    let c = Update users sign rel sets conds in
    let cols = columns_of catalog.rels rel in
    let r = relation_numbered catalog rel (named_relation catalog c rel refl clear.relation) in
    let short = or_parts (list_any is_long users) (list_any (λ s. list_any is_long (value_texts s.to)) sets || list_any (λ x. list_any is_long (side_texts x.right)) conds) (no_long_text c clear.text) in
    let shorts = or_parts (list_any (λ s. list_any is_long (value_texts s.to)) sets) (list_any (λ x. list_any is_long (side_texts x.right)) conds) short.1 in
    let clean = or_parts (list_any is_unclean users) (list_any (λ s. list_any is_unclean (value_texts s.to)) sets || list_any (λ x. list_any is_unclean (side_texts x.right)) conds) (texts_clean c allowed) in
    let cleans = or_parts (list_any (λ s. list_any is_unclean (value_texts s.to)) sets) (list_any (λ x. list_any is_unclean (side_texts x.right)) conds) clean.1 in
    let known = update_columns catalog users sign rel sets conds clear.column in
    let agree = update_kinds catalog users sign rel sets conds clear.kinds in
    let conds_done = conds_fit cols conds known.1 agree.1 shorts.1 cleans.1 in
    let sets_done = ap (λ x. list_all (set_fits x) (map (bound_set cols) sets)) (same_columns catalog rel r) ∙ sets_fit cols sets known.0 agree.0 shorts.0 cleans.0 in
    and_from _ _ (path_fits catalog c clear) (and_from _ _ (lt-ltb (relation_at catalog.rels rel) (length catalog.rels) r.within)
    (and_from _ _ sets_done (conds_fit_at catalog rel conds r conds_done)))

-- the reasons to refuse a query, one by one
clear_query : (catalog : Catalog) (c : Command) (q : RawQuery) → query_of c ≡ Some q → IsCleared catalog c → some_query_text is_long q ≡ false
    → some_query_text is_unclean q ≡ false → IsClearQuery catalog q
unfolding items_line relation_line user_line alias_line column_line repeat_line kind_line
clear_query catalog c q same clear short clean =
    let items : query_items q ≡ None = ap (option_and_then query_items) (sym same) ∙ (neither _ _ clear.items).1 in
    let repeats : query_repeat q ≡ None = ap (option_and_then query_repeat) (sym same) ∙ (neither _ _ clear.no_repeat).1 in
    record {
      few = ltb-false 8 (length q.items) (or_parts (nat_lt 8 (length q.items)) (nat_lt 32 (length q.take)) (not_refused _ _ items)).0;
      relation = ap (option_and_then (query_relation catalog.rels)) (sym same) ∙ (neither _ _ clear.relation).1;
      user = ap (option_and_then (query_user catalog.users)) (sym same) ∙ (neither _ _ clear.user).1;
      alias = ap (option_and_then query_alias) (sym same) ∙ clear.alias;
      column = ap (option_and_then (query_column catalog.rels)) (sym same) ∙ (neither _ _ clear.column).1;
      no_repeat = not_refused _ _ repeats;
      kinds = ap (option_and_then (query_kind catalog.rels)) (sym same) ∙ (neither _ _ clear.kinds).1;
      short = (or_parts (list_any (λ i. list_any (some_who_text is_long) i.path) q.items) (list_any (λ x. list_any is_long (side_texts x.right)) q.conds) short).1;
      clean = (or_parts (list_any (λ i. list_any (some_who_text is_unclean) i.path) q.items) (list_any (λ x. list_any is_unclean (side_texts x.right)) q.conds) clean).1;
    }

-- a query that isn't refused can be answered
selected_fits : (catalog : Catalog) (q : RawQuery) → IsCatalog catalog → is_allowed (Select q) ≡ true → refusal_of catalog (Select q) ≡ None
    → can_be_answered catalog (bound_query catalog q) ≡ true
unfolding unsafe_line
selected_fits catalog q valid allowed accepted =
    let both = both_accepted catalog (Select q) accepted in
    let clear = cleared catalog (Select q) both.0 in
    and_from _ _
    (clear_query_fits catalog q valid (clear_query catalog (Select q) q refl clear (no_long_text (Select q) clear.text) (texts_clean (Select q) allowed)))
    (ap is_none (nothing_mapped _ _ both.1))

explained_fits : (catalog : Catalog) (q : RawQuery) → IsCatalog catalog → is_allowed (Explain q) ≡ true → refusal_of catalog (Explain q) ≡ None
    → can_be_answered catalog (bound_query catalog q) ≡ true
unfolding unsafe_line
explained_fits catalog q valid allowed accepted =
    let both = both_accepted catalog (Explain q) accepted in
    let clear = cleared catalog (Explain q) both.0 in
    and_from _ _
    (clear_query_fits catalog q valid (clear_query catalog (Explain q) q refl clear (no_long_text (Explain q) clear.text) (texts_clean (Explain q) allowed)))
    (ap is_none (nothing_mapped _ _ both.1))

-- nothing in a command's names is refused
names_cleared : (catalog : Catalog) (c : Command) → refusal_of catalog c ≡ None → IsCleared catalog c
names_cleared catalog c accepted = cleared catalog c (both_accepted catalog c accepted).0

pub what_is_bound_fits : WhatIsBoundFits
what_is_bound_fits catalog (CreateUser name) valid allowed accepted = new_user_fits catalog name valid allowed (names_cleared catalog (CreateUser name) accepted)
what_is_bound_fits catalog (DropUser name) valid allowed accepted = leaver_fits catalog name (names_cleared catalog (DropUser name) accepted)
what_is_bound_fits catalog (CreateRelation name cols key) valid allowed accepted =
    new_relation_fits catalog name cols key valid allowed (names_cleared catalog (CreateRelation name cols key) accepted)
what_is_bound_fits catalog (Insert users sign rel vals) valid allowed accepted =
    insert_fits catalog users sign rel vals allowed (names_cleared catalog (Insert users sign rel vals) accepted)
what_is_bound_fits catalog (Delete users sign rel conds) valid allowed accepted =
    delete_fits catalog users sign rel conds allowed (names_cleared catalog (Delete users sign rel conds) accepted)
what_is_bound_fits catalog (Update users sign rel sets conds) valid allowed accepted =
    update_fits catalog users sign rel sets conds allowed (names_cleared catalog (Update users sign rel sets conds) accepted)
what_is_bound_fits catalog (Select query) valid allowed accepted = selected_fits catalog query valid allowed accepted
what_is_bound_fits catalog (Explain query) valid allowed accepted = explained_fits catalog query valid allowed accepted
what_is_bound_fits catalog (ShowWorld users) valid allowed accepted = path_fits catalog (ShowWorld users) (names_cleared catalog (ShowWorld users) accepted)
what_is_bound_fits catalog (Why users sign rel vals) valid allowed accepted =
    why_fits catalog users sign rel vals allowed (names_cleared catalog (Why users sign rel vals) accepted)
what_is_bound_fits catalog ShowTables valid allowed accepted = refl
what_is_bound_fits catalog Undo valid allowed accepted = refl
what_is_bound_fits catalog Redo valid allowed accepted = refl
