-- The reasons to refuse a query, one by one.
use Rattle.std.specs.Prelude.{ℕ, Bool, false, not, ◌||◌, nat_lt, List, [], ◌∷◌, ◌++◌, length, Option, None, Some}
use Rattle.std.specs.Option.{is_some, unwrap_or}
use Rattle.std.specs.List.{list_any}
use Rattle.bdb_base.specs.Limits.{most_items, most_select_columns, deepest_query}
use Rattle.bdb_base.specs.declared.kinds.Kind.{Kind}
use Rattle.bdb_base.specs.declared.kinds.RelDef.{RelDef}
use Rattle.bdb_base.specs.declared.kinds.UserSlot.{UserSlot}
use Rattle.bdb_base.specs.Same.{same_text}
use Rattle.bdb_base.specs.Safety.{one_kind}
use Rattle.bdb_syntax.specs.declared.command.RawCol.{RawCol}
use Rattle.bdb_syntax.specs.declared.command.RawCond.{RawCond}
use Rattle.bdb_syntax.specs.declared.command.RawItem.{RawItem}
use Rattle.bdb_syntax.specs.declared.command.RawQuery.{RawQuery}
use Rattle.bdb_syntax.specs.declared.command.RawSide.{RawSide}
use Rattle.bdb_syntax.specs.declared.command.RawSide.TheVariants.{Col, Lit}
use Rattle.bdb_syntax.specs.declared.command.RawWho.{RawWho}
use Rattle.bdb_syntax.specs.declared.command.RawWho.TheVariants as who
use Rattle.bdb_bind.specs.declared.bound.BindError.{BindError}
use Rattle.bdb_bind.specs.declared.bound.BindError.TheVariants as error
use Rattle.bdb_bind.specs.Firsts.{refused_if, or_next, first_in}
use Rattle.bdb_bind.specs.Kinds.{kind_of}
use Rattle.bdb_bind.specs.Lookup.{is_user_name, relation_number, has_column, kind_at}
use Rattle.bdb_bind.specs.Scope.{is_users, item_place, columns_named, is_uid}

-- too many items, or too many select columns
abbrev pub query_items : RawQuery → Option BindError
query_items q = refused_if (nat_lt most_items (length q.items) || nat_lt most_select_columns (length q.take)) error.Items

-- an item's relation isn't in the catalog
abbrev pub item_relation : List RelDef → RawItem → Option BindError
item_relation rels i = refused_if (not (is_users i || is_some (relation_number rels i.rel))) (error.Relation i.rel)

-- the first item whose relation isn't in the catalog
abbrev pub query_relation : List RelDef → RawQuery → Option BindError
query_relation rels q = first_in (item_relation rels) q.items

-- a name after BELIEF is no live user's
abbrev pub who_user : List UserSlot → RawWho → Option BindError
who_user users (who.Name name) = refused_if (not (is_user_name users name)) (error.User name)
who_user users (who.Col c) = None

-- the first name of an item's path that is no live user's
abbrev pub item_user : List UserSlot → RawItem → Option BindError
item_user users i = first_in (who_user users) i.path

-- the first name after BELIEF that is no live user's
abbrev pub query_user : List UserSlot → RawQuery → Option BindError
query_user users q = first_in (item_user users) q.items

-- the first item whose alias stands at an earlier item, or among the items seen before
abbrev pub alias_twice : List RawItem → List RawItem → Option BindError
alias_twice seen [] = None
alias_twice seen (i ∷ is) = or_next (refused_if (list_any (λ e. same_text i.alias e.alias) seen) (error.AliasTwice i.alias)) (alias_twice (seen ++ i ∷ []) is)

abbrev pub query_alias_twice : RawQuery → Option BindError
query_alias_twice q = alias_twice [] q.items

-- a rule for the column on a comparison's right side
abbrev pub in_side : (RawCol → Option BindError) → RawSide → Option BindError
in_side rule (Col c) = rule c
in_side rule (Lit v) = None

-- a rule for the columns of a comparison, left before right
abbrev pub in_cond : (RawCol → Option BindError) → RawCond → Option BindError
in_cond rule c = or_next (rule c.left) (in_side rule c.right)

-- a rule for a column after BELIEF
abbrev pub in_who : (RawCol → Option BindError) → RawWho → Option BindError
in_who rule (who.Name name) = None
in_who rule (who.Col c) = rule c

-- a rule for the columns of an item's path
abbrev pub in_path : (RawCol → Option BindError) → RawItem → Option BindError
in_path rule i = first_in (in_who rule) i.path

-- a rule for the columns of a query behind `from`, and one for those after BELIEF: each item's path, then comparisons
abbrev pub in_later_columns : (RawCol → Option BindError) → (RawCol → Option BindError) → RawQuery → Option BindError
in_later_columns rule path_rule q = or_next (first_in (in_path path_rule) q.items) (first_in (in_cond rule) q.conds)

-- the same for all columns of a query: select columns come first
abbrev pub in_columns : (RawCol → Option BindError) → (RawCol → Option BindError) → RawQuery → Option BindError
in_columns rule path_rule q = or_next (first_in rule q.take) (in_later_columns rule path_rule q)

-- no item has a column's alias
abbrev pub column_alias : List RawItem → RawCol → Option BindError
column_alias items c = refused_if (not (is_some (item_place items c.alias))) (error.Alias (unwrap_or c.alias []))

-- the first column whose alias no item has
abbrev pub query_alias : RawQuery → Option BindError
query_alias q = in_columns (column_alias q.items) (column_alias q.items) q

-- an item has no such column
abbrev pub column_missing : List RelDef → List RawItem → RawCol → Option BindError
column_missing rels items c = refused_if (not (has_column (columns_named rels items c.alias) c.col)) (error.Column c.alias c.col)

-- a column after BELIEF isn't the number of a user
abbrev pub column_not_uid : List RawItem → RawCol → Option BindError
column_not_uid items c = refused_if (not (is_uid items c)) (error.Column c.alias c.col)

-- the first column that its item does not have, or that stands after BELIEF and isn't the number of a user
abbrev pub query_column : List RelDef → RawQuery → Option BindError
query_column rels q = in_columns (column_missing rels q.items) (column_not_uid q.items) q

-- a path begins with this name
abbrev pub begins_with_name : List ℕ → List RawWho → Bool
begins_with_name name (who.Name n ∷ whos) = same_text name n
begins_with_name name _ = false

-- two neighbours of a path are names, and are equal
abbrev pub repeats_name : List RawWho → Bool
repeats_name [] = false
repeats_name (who.Name n ∷ whos) = begins_with_name n whos || repeats_name whos
repeats_name (who.Col c ∷ whos) = repeats_name whos

-- a path names one user twice in a row
abbrev pub query_repeat : RawQuery → Option BindError
query_repeat q = refused_if (list_any (λ i. repeats_name i.path) q.items) error.Repeat

-- a path is too long
abbrev pub query_deep : RawQuery → Option BindError
query_deep q = refused_if (list_any (λ i. nat_lt deepest_query (length i.path)) q.items) error.Deep

-- the kind of a column
abbrev pub kind_named : List RelDef → List RawItem → RawCol → Option Kind
kind_named rels items c = kind_at (columns_named rels items c.alias) c.col

-- the kind of a comparison's right side
abbrev pub kind_of_side : List RelDef → List RawItem → RawSide → Option Kind
kind_of_side rels items (Col c) = kind_named rels items c
kind_of_side rels items (Lit v) = Some (kind_of v)

-- a comparison joins two kinds
abbrev pub cond_kind : List RelDef → List RawItem → RawCond → Option BindError
cond_kind rels items c = refused_if (not (one_kind (kind_named rels items c.left) (kind_of_side rels items c.right))) (error.Kind c.left.alias c.left.col)

-- the first comparison that joins two kinds
abbrev pub query_kind : List RelDef → RawQuery → Option BindError
query_kind rels q = first_in (cond_kind rels q.items) q.conds
