-- The first reason to refuse a command, by its kind: a query, or another command.
use Rattle.std.proofs.Common.{◌≡◌, ◌≢◌, Result, Ok, Err, IfErr, ◌∙◌, ◌≤◌, ◌<◌, ◌^◌, List, [], ◌∷◌, ◌++◌, length, Option, Some, None, refl, sym, ap, arith}
use Rattle.std.proofs.lemmas.Bool.{or_parts, ltb-false}
use Rattle.std.proofs.lemmas.List.{length-map}
use Rattle.std.specs.Prelude.{nat_lt}
use Rattle.bdb_base.specs.declared.kinds.Catalog.{Catalog}
use Rattle.bdb_base.specs.declared.kinds.Query.{Query}
use Rattle.bdb_syntax.specs.declared.command.Command.{Command}
use Rattle.bdb_syntax.specs.declared.command.Command.TheVariants.{CreateUser, DropUser, CreateRelation, Insert, Delete, Update, Select, Explain, ShowWorld, Why, ShowTables, Undo, Redo}
use Rattle.bdb_syntax.specs.declared.command.RawQuery.{RawQuery}
use Rattle.bdb_bind.specs.declared.bound.BindError.{BindError}
use Rattle.bdb_bind.specs.declared.bound.BindError.TheVariants as error
use Rattle.bdb_bind.specs.Firsts.{or_next}
use Rattle.bdb_bind.specs.Lines.{too_many_columns, unknown_relation, unknown_user, change_column, path_repeats, path_too_deep, change_kind, text_line, items_line, relation_line, user_line, alias_twice_line, alias_line, column_line, taken_line, key_line, repeat_line, deep_line, arity_line, kind_line}
use Rattle.bdb_bind.specs.Parts.{query_of, path_names, relation_name, change_columns}
use Rattle.bdb_bind.specs.QueryBinding.{bound_query, query_item}
use Rattle.bdb_bind.specs.QueryLines.{query_items, query_relation, query_user, query_alias_twice, query_alias, query_column, query_repeat, query_deep, query_kind}
use Rattle.bdb_bind.specs.Refusal.{first_refusal, names_refused, query_names_refused, change_refused, query_refusal, query_unsafe, unsafe_line, refusal_of}
use Rattle.bdb_bind.proofs.Cleared.{neither, not_refused}

or_nothing : (a : Option BindError) → or_next a None ≡ a
or_nothing None = refl
or_nothing (Some e) = refl

grouped : (a b c : Option BindError) → or_next (or_next a b) c ≡ or_next a (or_next b c)
grouped None b c = refl
grouped (Some e) b c = refl

-- a list of reasons, and one reason more
first_of_both : (lines : List (Option BindError)) (last : Option BindError) → first_refusal (lines ++ last ∷ []) ≡ or_next (first_refusal lines) last
first_of_both [] last = or_nothing last
first_of_both (line ∷ lines) last = ap (or_next line) (first_of_both lines last) ∙ sym (grouped line (first_refusal lines) last)

names_and_sizes : Catalog → RawQuery → List (Option BindError)
names_and_sizes catalog q =
    query_items q ∷ query_relation catalog.rels q ∷ query_user catalog.users q ∷ query_alias_twice q ∷ query_alias q ∷ query_column catalog.rels q
    ∷ query_repeat q ∷ query_deep q ∷ []

query_reasons : (catalog : Catalog) (q : RawQuery) (unsafe : Option BindError)
    → or_next (first_refusal (names_and_sizes catalog q ++ query_kind catalog.rels q ∷ [])) unsafe
    ≡ or_next (query_names_refused catalog q) (or_next (query_kind catalog.rels q) unsafe)
unfolding names_and_sizes
query_reasons catalog q unsafe =
    ap (λ e. or_next e unsafe) (first_of_both (names_and_sizes catalog q) (query_kind catalog.rels q))
    ∙ grouped (query_names_refused catalog q) (query_kind catalog.rels q) unsafe

-- where its texts are short, a query is refused for its own reasons
pub select_refusal : (catalog : Catalog) (c : Command) (q : RawQuery) → c ≡ Select q → text_line c ≡ None → refusal_of catalog c ≡ query_refusal catalog q
unfolding refusal_of names_refused items_line relation_line user_line alias_twice_line alias_line column_line taken_line key_line repeat_line deep_line arity_line kind_line unsafe_line names_and_sizes
select_refusal catalog c q same short =
    let shown : refusal_of catalog c ≡ refusal_of catalog (Select q) = ap (refusal_of catalog) same in
    let texts : text_line (Select q) ≡ None = ap text_line (sym same) ∙ short in
    let unsafe = query_unsafe catalog.rels (bound_query catalog q) in
    shown ∙ ap (λ t. or_next (or_next t (first_refusal (names_and_sizes catalog q ++ query_kind catalog.rels q ∷ []))) unsafe) texts ∙ query_reasons catalog q unsafe

pub explain_refusal : (catalog : Catalog) (c : Command) (q : RawQuery) → c ≡ Explain q → text_line c ≡ None → refusal_of catalog c ≡ query_refusal catalog q
unfolding refusal_of names_refused items_line relation_line user_line alias_twice_line alias_line column_line taken_line key_line repeat_line deep_line arity_line kind_line unsafe_line names_and_sizes
explain_refusal catalog c q same short =
    let shown : refusal_of catalog c ≡ refusal_of catalog (Explain q) = ap (refusal_of catalog) same in
    let texts : text_line (Explain q) ≡ None = ap text_line (sym same) ∙ short in
    let unsafe = query_unsafe catalog.rels (bound_query catalog q) in
    shown ∙ ap (λ t. or_next (or_next t (first_refusal (names_and_sizes catalog q ++ query_kind catalog.rels q ∷ []))) unsafe) texts ∙ query_reasons catalog q unsafe

-- a long text is the first reason
pub text_refused : (catalog : Catalog) (c : Command) (e : BindError) → text_line c ≡ Some e → refusal_of catalog c ≡ Some e
unfolding refusal_of names_refused
text_refused catalog c e long = rw long refl

-- where its texts are short, another command is refused for its own reasons
pub change_names : (catalog : Catalog) (c : Command) → query_of c ≡ None → text_line c ≡ None → names_refused catalog c ≡ change_refused catalog c
unfolding names_refused items_line relation_line user_line alias_twice_line alias_line column_line repeat_line deep_line kind_line
change_names catalog c none short =
    rw (
      none,
      short,
      or_nothing (too_many_columns c),
      or_nothing (unknown_relation catalog.rels (relation_name c)),
      or_nothing (unknown_user catalog.users (path_names c)),
      or_nothing (change_column (change_columns catalog.rels c) c),
      or_nothing (path_repeats c),
      or_nothing (path_too_deep c),
      or_nothing (change_kind (change_columns catalog.rels c) c),
      or_nothing (change_kind (change_columns catalog.rels c) c),
    ) refl

-- a command that is no query is never unsafe
never_unsafe : (catalog : Catalog) (c : Command) → query_of c ≡ None → unsafe_line catalog c ≡ None
unfolding unsafe_line
never_unsafe catalog (Select raw) none = cc
never_unsafe catalog (Explain raw) none = cc
never_unsafe catalog (CreateUser name) none = refl
never_unsafe catalog (DropUser name) none = refl
never_unsafe catalog (CreateRelation name cols key) none = refl
never_unsafe catalog (Insert users sign rel vals) none = refl
never_unsafe catalog (Delete users sign rel conds) none = refl
never_unsafe catalog (Update users sign rel sets conds) none = refl
never_unsafe catalog (ShowWorld users) none = refl
never_unsafe catalog (Why users sign rel vals) none = refl
never_unsafe catalog ShowTables none = refl
never_unsafe catalog Undo none = refl
never_unsafe catalog Redo none = refl

pub change_refusal : (catalog : Catalog) (c : Command) → query_of c ≡ None → text_line c ≡ None → refusal_of catalog c ≡ change_refused catalog c
unfolding refusal_of
change_refusal catalog c none short =
    ap (or_next (names_refused catalog c)) (never_unsafe catalog c none) ∙ or_nothing (names_refused catalog c) ∙ change_names catalog c none short

-- a query that isn't refused has at most 8 items
pub few_items_each : (catalog : Catalog) (q : RawQuery) → query_names_refused catalog q ≡ None → length q.items ≤ 8
few_items_each catalog q accepted =
    ltb-false 8 (length q.items) (or_parts (nat_lt 8 (length q.items)) (nat_lt 32 (length q.take)) (not_refused _ _ (neither _ _ accepted).0)).0

pub few_bound_items : (catalog : Catalog) (raw : RawQuery) (q : Query) → query_names_refused catalog raw ≡ None → q ≡ bound_query catalog raw → length q.items < 2 ^ 32
unfolding bound_query
few_bound_items catalog raw q accepted same =
    let few = few_items_each catalog raw accepted in
    let many : length q.items ≡ length raw.items = ap (λ x. length x.items) same ∙ length-map raw.items (query_item catalog raw.items) in
    omega arith

pub texts_first : {X : Type 0} (catalog : Catalog) (c : Command) (r : Result X BindError) → IfErr r (λ e. e ≢ error.Memory → text_line c ≡ Some e)
    → IfErr r (λ e. e ≢ error.Memory → refusal_of catalog c ≡ Some e)
texts_first catalog c (Ok x) h = h
texts_first catalog c (Err e) h = λ named. text_refused catalog c e (h named)
