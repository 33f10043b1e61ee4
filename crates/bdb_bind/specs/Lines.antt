-- The reasons to refuse a command, one by one.
use Rattle.std.specs.Prelude.{map, ◌++◌, ℕ, ℤ, pos, unsigned_abs, Bool, false, not, ◌&&◌, ◌||◌, ◌==◌, nat_lt, nat_le, int_lt, List, [], ◌∷◌, length, Option, None, Some, find, if◌then◌else◌}
use Rattle.std.specs.Option.{option_map, option_and_then, is_some}
use Rattle.std.specs.List.{list_any}
use Rattle.bdb_base.specs.Limits.{most_columns}
use Rattle.bdb_base.specs.declared.kinds.Catalog.{Catalog}
use Rattle.bdb_base.specs.declared.kinds.ColDef.{ColDef}
use Rattle.bdb_base.specs.declared.kinds.RelDef.{RelDef}
use Rattle.bdb_base.specs.declared.kinds.Kind.{Kind}
use Rattle.bdb_base.specs.declared.kinds.UserSlot.{UserSlot}
use Rattle.bdb_base.specs.declared.kinds.Value.{Value}
use Rattle.bdb_base.specs.Same.{same_text, same_kind}
use Rattle.bdb_base.specs.Bases.{users_name}
use Rattle.bdb_base.specs.Safety.{one_kind}
use Rattle.bdb_syntax.specs.declared.command.Command.{Command}
use Rattle.bdb_syntax.specs.declared.command.Command.TheVariants.{CreateUser, CreateRelation, Insert, Delete, Update, Why}
use Rattle.bdb_syntax.specs.declared.command.RawCond.{RawCond}
use Rattle.bdb_syntax.specs.declared.command.RawSide.{RawSide}
use Rattle.bdb_syntax.specs.declared.command.RawSide.TheVariants.{Col, Lit}
use Rattle.bdb_syntax.specs.declared.command.RawSet.{RawSet}
use Rattle.bdb_bind.specs.declared.bound.BindError.{BindError}
use Rattle.bdb_bind.specs.declared.bound.BindError.TheVariants as error
use Rattle.bdb_bind.specs.Firsts.{refused_if, or_next}
use Rattle.bdb_bind.specs.Kinds.{kind_of}
use Rattle.bdb_bind.specs.Lookup.{is_user_name, relation_number, has_column, kind_at}
use Rattle.bdb_bind.specs.Parts.{query_of, change_columns, path_names, depth_limit, relation_name, tuple_values, new_columns, new_key, cond_columns, is_long, some_text}
use Rattle.bdb_bind.specs.QueryLines.{query_items, query_relation, query_user, query_alias_twice, query_alias, query_column, query_repeat, query_deep, query_kind}

-- a text has too many bytes
unfoldable pub text_line : Command → Option BindError
text_line c = refused_if (some_text is_long c) error.Text

-- a new relation has too many columns
abbrev pub too_many_columns : Command → Option BindError
too_many_columns c = refused_if (nat_lt most_columns (length (new_columns c))) error.Items

-- a new relation has too many columns, or a query too many items or columns
unfoldable pub items_line : Command → Option BindError
items_line c = or_next (too_many_columns c) (option_and_then query_items (query_of c))

-- a name that should be a relation's is none
abbrev pub unknown_relation : List RelDef → Option (List ℕ) → Option BindError
unknown_relation rels None = None
unknown_relation rels (Some name) = refused_if (not (is_some (relation_number rels name))) (error.Relation name)

-- a relation isn't in the catalog
unfoldable pub relation_line : Catalog → Command → Option BindError
relation_line catalog c = or_next (unknown_relation catalog.rels (relation_name c)) (option_and_then (query_relation catalog.rels) (query_of c))

-- the first name of a path that is no live user's
abbrev pub unknown_user : List UserSlot → List (List ℕ) → Option BindError
unknown_user users names = option_map error.User (find (λ name. not (is_user_name users name)) names)

-- the first name after BELIEF, or of who is to leave, that is no live user's
unfoldable pub user_line : Catalog → Command → Option BindError
user_line catalog c = or_next (unknown_user catalog.users (path_names c)) (option_and_then (query_user catalog.users) (query_of c))

-- the first alias that stands at an earlier item too
unfoldable pub alias_twice_line : Command → Option BindError
alias_twice_line c = option_and_then query_alias_twice (query_of c)

-- the first alias that no item has
unfoldable pub alias_line : Command → Option BindError
alias_line c = option_and_then query_alias (query_of c)

-- the first of these columns that a relation does not have
unfoldable pub missing_column : List ColDef → List (List ℕ) → Option BindError
missing_column cols names = option_map (error.Column None) (find (λ name. not (has_column cols name)) names)

-- the first column of a change that is none of these: sets before tests, left before right
abbrev pub change_column : List ColDef → Command → Option BindError
change_column cols (Delete users sign rel conds) = missing_column cols (cond_columns conds)
change_column cols (Update users sign rel sets conds) = or_next (missing_column cols (map (λ s. s.col) sets)) (missing_column cols (cond_columns conds))
change_column cols _ = None

-- the first column that isn't there
unfoldable pub column_line : Catalog → Command → Option BindError
column_line catalog c = or_next (change_column (change_columns catalog.rels c) c) (option_and_then (query_column catalog.rels) (query_of c))

-- the first column whose name stands earlier in the list, or among the columns seen before
abbrev pub first_repeated : List ColDef → List ColDef → Option (List ℕ)
first_repeated seen [] = None
first_repeated seen (c ∷ cs) = if list_any (λ d. same_text c.name d.name) seen then Some c.name else first_repeated (seen ++ c ∷ []) cs

-- a new name is taken: that of a live user, of a relation or `Users`, or of an earlier column
unfoldable pub taken_line : Catalog → Command → Option BindError
taken_line catalog (CreateUser name) = refused_if (is_user_name catalog.users name) (error.TakenUser name)
taken_line catalog (CreateRelation name cols key) = or_next
    (refused_if (is_some (relation_number catalog.rels name) || same_text name users_name) (error.TakenName name))
    (option_map error.TakenName (first_repeated [] cols))
taken_line catalog _ = None

-- a key of this length has a column, and no more than there are
abbrev pub is_key_length : ℕ → ℤ → Bool
is_key_length columns n = int_lt (pos 0) n && nat_le (unsigned_abs n) columns

-- the length of a key, if one is said, is below 1 or above the number of columns
abbrev pub key_refused : List ColDef → Option ℤ → Option BindError
key_refused cols None = None
key_refused cols (Some n) = refused_if (not (is_key_length (length cols) n)) (error.KeyLength n)

-- the length of a new relation's key is below 1 or above the number of its columns
unfoldable pub key_line : Command → Option BindError
key_line c = key_refused (new_columns c) (new_key c)

-- a list of names begins with this one
abbrev pub begins_with : List ℕ → List (List ℕ) → Bool
begins_with name [] = false
begins_with name (n ∷ ns) = same_text name n

-- two neighbours are equal
abbrev pub has_repeat : List (List ℕ) → Bool
has_repeat [] = false
has_repeat (n ∷ ns) = begins_with n ns || has_repeat ns

-- the path of a command that is no query names one user twice in a row
abbrev pub path_repeats : Command → Option BindError
path_repeats c = refused_if (has_repeat (path_names c)) error.Repeat

-- a path names one user twice in a row
unfoldable pub repeat_line : Command → Option BindError
repeat_line c = or_next (path_repeats c) (option_and_then query_repeat (query_of c))

-- the path of a command that is no query is too long
abbrev pub path_too_deep : Command → Option BindError
path_too_deep c = refused_if (nat_lt (depth_limit c) (length (path_names c))) error.Deep

-- a path is too long
unfoldable pub deep_line : Command → Option BindError
deep_line c = or_next (path_too_deep c) (option_and_then query_deep (query_of c))

-- a tuple, if there is one, has another number of values than there are columns
abbrev pub values_arity : List ColDef → Option (List Value) → Option BindError
values_arity cols None = None
values_arity cols (Some vals) = refused_if (not (length vals == length cols)) error.Arity

-- the tuple of a command has another number of values than there are columns
abbrev pub change_arity : List ColDef → Command → Option BindError
change_arity cols c = values_arity cols (tuple_values c)

-- the tuple of a command has another number of values than its relation has columns
unfoldable pub arity_line : Catalog → Command → Option BindError
arity_line catalog c = change_arity (change_columns catalog.rels c) c

-- the first column whose value is of another kind
abbrev pub misfit : List ColDef → List Value → Option (List ℕ)
misfit [] vals = None
misfit (c ∷ cs) [] = None
misfit (c ∷ cs) (v ∷ vs) = if same_kind c.kind (kind_of v) then misfit cs vs else Some c.name

-- the kind of a comparison's right side
abbrev pub side_kind : List ColDef → RawSide → Option Kind
side_kind cols (Col c) = kind_at cols c.col
side_kind cols (Lit v) = Some (kind_of v)

-- a set gives a column a value of its kind
abbrev pub fits_set : List ColDef → RawSet → Bool
fits_set cols s = one_kind (kind_at cols s.col) (Some (kind_of s.to))

-- a comparison's sides are of one kind
abbrev pub fits_cond : List ColDef → RawCond → Bool
fits_cond cols c = one_kind (kind_at cols c.left.col) (side_kind cols c.right)

-- the first set that joins two kinds
unfoldable pub set_kinds : List ColDef → List RawSet → Option BindError
set_kinds cols sets = option_map (λ s. error.Kind None s.col) (find (λ s. not (fits_set cols s)) sets)

-- the first comparison that joins two kinds
unfoldable pub cond_kinds : List ColDef → List RawCond → Option BindError
cond_kinds cols conds = option_map (λ c. error.Kind None c.left.col) (find (λ c. not (fits_cond cols c)) conds)

-- the first value of a tuple that is of another kind than its column
abbrev pub values_kind : List ColDef → List Value → Option BindError
values_kind cols vals = option_map (error.Kind None) (misfit cols vals)

-- a value, a set or a comparison of a command that is no query joins two kinds
abbrev pub change_kind : List ColDef → Command → Option BindError
change_kind cols (Insert users sign rel vals) = values_kind cols vals
change_kind cols (Why users sign rel vals) = values_kind cols vals
change_kind cols (Delete users sign rel conds) = cond_kinds cols conds
change_kind cols (Update users sign rel sets conds) = or_next (set_kinds cols sets) (cond_kinds cols conds)
change_kind cols _ = None

-- the first value, set or comparison that joins two kinds
unfoldable pub kind_line : Catalog → Command → Option BindError
kind_line catalog c = or_next (change_kind (change_columns catalog.rels c) c) (option_and_then (query_kind catalog.rels) (query_of c))
