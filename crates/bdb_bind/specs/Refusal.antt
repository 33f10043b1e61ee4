-- Why a command is refused over a catalog.
use Rattle.std.specs.Prelude.{ℕ, List, [], ◌∷◌, Option, None, Some}
use Rattle.std.specs.Option.{option_map, unwrap_or}
use Rattle.std.specs.List.{slice_get}
use Rattle.bdb_base.specs.declared.kinds.Catalog.{Catalog}
use Rattle.bdb_base.specs.declared.kinds.ColDef.{ColDef}
use Rattle.bdb_base.specs.declared.kinds.Item.{Item}
use Rattle.bdb_base.specs.declared.kinds.Item.TheVariants.{Users, Rel}
use Rattle.bdb_base.specs.declared.kinds.Query.{Query}
use Rattle.bdb_base.specs.declared.kinds.RelDef.{RelDef}
use Rattle.bdb_base.specs.Queries.{columns_at}
use Rattle.bdb_syntax.specs.declared.command.Command.{Command}
use Rattle.bdb_syntax.specs.declared.command.RawQuery.{RawQuery}
use Rattle.bdb_bind.specs.declared.bound.BindError.{BindError}
use Rattle.bdb_bind.specs.declared.bound.BindError.TheVariants as error
use Rattle.bdb_bind.specs.declared.bound.Bound.{Bound}
use Rattle.bdb_bind.specs.declared.bound.Bound.TheVariants as bound
use Rattle.bdb_bind.specs.Binding.{bound_of}
use Rattle.bdb_bind.specs.Firsts.{or_next}
use Rattle.bdb_bind.specs.QueryBinding.{bound_query}
use Rattle.bdb_bind.specs.QueryLines.{query_items, query_relation, query_user, query_alias_twice, query_alias, query_column, query_repeat, query_deep, query_kind}
use Rattle.bdb_bind.specs.Parts.{relation_name, path_names, change_columns}
use Rattle.bdb_bind.specs.Lines.{too_many_columns, unknown_relation, unknown_user, change_column, path_repeats, path_too_deep, change_kind, text_line, items_line, relation_line, user_line, alias_twice_line, alias_line, column_line, taken_line, key_line, repeat_line, deep_line, arity_line, kind_line}
use Rattle.bdb_bind.specs.Safe.{first_unbound}

-- the first refusal of a list that applies
abbrev pub first_refusal : List (Option BindError) → Option BindError
first_refusal [] = None
first_refusal (line ∷ lines) = or_next line (first_refusal lines)

-- the first reason, in this order, that applies to the names and values of a command
unfoldable pub names_refused : Catalog → Command → Option BindError
names_refused catalog c = first_refusal
    (text_line c ∷ items_line c ∷ relation_line catalog c ∷ user_line catalog c ∷ alias_twice_line c ∷ alias_line c ∷ column_line catalog c
    ∷ taken_line catalog c ∷ key_line c ∷ repeat_line c ∷ deep_line c ∷ arity_line catalog c ∷ kind_line catalog c ∷ [])

-- the first reason that applies to the names and sizes of a query
abbrev pub query_names_refused : Catalog → RawQuery → Option BindError
query_names_refused catalog q = first_refusal
    (query_items q ∷ query_relation catalog.rels q ∷ query_user catalog.users q ∷ query_alias_twice q ∷ query_alias q ∷ query_column catalog.rels q
    ∷ query_repeat q ∷ query_deep q ∷ [])

-- the first reason that applies to the names and values of another command
abbrev pub change_refused : Catalog → Command → Option BindError
change_refused catalog c = first_refusal
    (too_many_columns c ∷ unknown_relation catalog.rels (relation_name c) ∷ unknown_user catalog.users (path_names c)
    ∷ change_column (change_columns catalog.rels c) c ∷ taken_line catalog c ∷ key_line c ∷ path_repeats c ∷ path_too_deep c ∷ arity_line catalog c
    ∷ change_kind (change_columns catalog.rels c) c ∷ [])

-- the alias of an item
abbrev pub item_alias : Item → List ℕ
item_alias (Users alias) = alias
item_alias (Rel alias rel sign path) = alias

-- the columns of an item's relation
abbrev pub relation_columns : List RelDef → Option Item → List ColDef
relation_columns rels (Some (Rel alias rel sign path)) = columns_at rels rel
relation_columns rels _ = []

-- the refusal of a column of a minus item, by the places of both
abbrev pub unsafe_at : List RelDef → List Item → ℕ × ℕ → BindError
unsafe_at rels items at = error.Unsafe (unwrap_or (option_map item_alias (slice_get items at.0)) [])
    (unwrap_or (option_map (λ c. c.name) (slice_get (relation_columns rels (slice_get items at.0)) at.1)) [])

-- the first column of a minus item that nothing binds
abbrev pub query_unsafe : List RelDef → Query → Option BindError
query_unsafe rels q = option_map (unsafe_at rels q.items) (first_unbound rels q)

-- the first reason to refuse a query: its names and sizes, then that two kinds are joined, and then that it isn't safe
abbrev pub query_refusal : Catalog → RawQuery → Option BindError
query_refusal catalog q = or_next (query_names_refused catalog q) (or_next (query_kind catalog.rels q) (query_unsafe catalog.rels (bound_query catalog q)))

-- a query isn't safe
abbrev pub bound_unsafe : List RelDef → Bound → Option BindError
bound_unsafe rels (bound.Select query) = query_unsafe rels query
bound_unsafe rels (bound.Explain query) = query_unsafe rels query
bound_unsafe rels _ = None

unfoldable pub unsafe_line : Catalog → Command → Option BindError
unsafe_line catalog c = bound_unsafe catalog.rels (bound_of catalog c)

-- the refusal of a command: the first reason to refuse its names and values, and then that it isn't safe
unfoldable pub refusal_of : Catalog → Command → Option BindError
refusal_of catalog c = or_next (names_refused catalog c) (unsafe_line catalog c)
