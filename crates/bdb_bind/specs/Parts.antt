-- What a command says of users, relations, columns and texts.
use Rattle.std.specs.Prelude.{ℕ, ℤ, Bool, false, ◌||◌, nat_lt, List, [], ◌∷◌, ◌++◌, length, Option, None, Some}
use Rattle.std.specs.Option.{option_and_then}
use Rattle.std.specs.List.{list_any}
use Rattle.bdb_base.specs.Limits.{longest_text, deepest_statement, deepest_query}
use Rattle.bdb_base.specs.declared.kinds.ColDef.{ColDef}
use Rattle.bdb_base.specs.declared.kinds.RelDef.{RelDef}
use Rattle.bdb_base.specs.declared.kinds.Value.{Value}
use Rattle.bdb_base.specs.declared.kinds.Value.TheVariants.{Int, Text}
use Rattle.bdb_syntax.specs.declared.command.Command.{Command}
use Rattle.bdb_syntax.specs.declared.command.Command.TheVariants.{CreateUser, DropUser, CreateRelation, Insert, Delete, Update, Select, Explain, ShowWorld, Why}
use Rattle.bdb_syntax.specs.declared.command.RawCond.{RawCond}
use Rattle.bdb_syntax.specs.declared.command.RawSide.{RawSide}
use Rattle.bdb_syntax.specs.declared.command.RawSide.TheVariants.{Col, Lit}
use Rattle.bdb_syntax.specs.declared.command.RawQuery.{RawQuery}
use Rattle.bdb_syntax.specs.declared.command.RawWho.{RawWho}
use Rattle.bdb_syntax.specs.declared.command.RawWho.TheVariants as who
use Rattle.bdb_bind.specs.Lookup.{relation_number, columns_of}

-- the query of a command
abbrev pub query_of : Command → Option RawQuery
query_of (Select query) = Some query
query_of (Explain query) = Some query
query_of _ = None

-- the names of a command's one path; a user who leaves is a path of his own
abbrev pub path_names : Command → List (List ℕ)
path_names (DropUser name) = name ∷ []
path_names (Insert users sign rel vals) = users
path_names (Delete users sign rel conds) = users
path_names (Update users sign rel sets conds) = users
path_names (ShowWorld users) = users
path_names (Why users sign rel vals) = users
path_names _ = []

-- the longest path that a command with one path may have
abbrev pub depth_limit : Command → ℕ
depth_limit (ShowWorld users) = deepest_query
depth_limit (Why users sign rel vals) = deepest_query
depth_limit _ = deepest_statement

-- the relation that a command names, outside queries
abbrev pub relation_name : Command → Option (List ℕ)
relation_name (Insert users sign rel vals) = Some rel
relation_name (Delete users sign rel conds) = Some rel
relation_name (Update users sign rel sets conds) = Some rel
relation_name (Why users sign rel vals) = Some rel
relation_name _ = None

-- the values of the tuple that a command names
abbrev pub tuple_values : Command → Option (List Value)
tuple_values (Insert users sign rel vals) = Some vals
tuple_values (Why users sign rel vals) = Some vals
tuple_values _ = None

-- the place of the relation that a command names
abbrev pub relation_place : List RelDef → Command → Option ℕ
relation_place rels c = option_and_then (relation_number rels) (relation_name c)

-- the columns of a relation that may not be named
abbrev pub columns_for : List RelDef → Option (List ℕ) → List ColDef
columns_for rels None = []
columns_for rels (Some name) = columns_of rels name

-- the columns of the relation that a command names
abbrev pub change_columns : List RelDef → Command → List ColDef
change_columns rels c = columns_for rels (relation_name c)

-- the columns of a new relation
abbrev pub new_columns : Command → List ColDef
new_columns (CreateRelation name cols key) = cols
new_columns _ = []

-- the length that a new relation's key is said to have
abbrev pub new_key : Command → Option ℤ
new_key (CreateRelation name cols key) = key
new_key _ = None

-- the columns that a comparison's right side names
abbrev pub side_columns : RawSide → List (List ℕ)
side_columns (Col c) = c.col ∷ []
side_columns (Lit v) = []

-- the columns that comparisons name, left before right
abbrev pub cond_columns : List RawCond → List (List ℕ)
cond_columns [] = []
cond_columns (c ∷ cs) = c.left.col ∷ (side_columns c.right ++ cond_columns cs)

-- the texts of a value
abbrev pub value_texts : Value → List (List ℕ)
value_texts (Int n) = []
value_texts (Text t) = t ∷ []

-- the texts of a comparison's right side
abbrev pub side_texts : RawSide → List (List ℕ)
side_texts (Col c) = []
side_texts (Lit v) = value_texts v

-- a text has too many bytes
abbrev pub is_long : List ℕ → Bool
is_long text = nat_lt longest_text (length text)

-- a test holds of a name after BELIEF
abbrev pub some_who_text : (List ℕ → Bool) → RawWho → Bool
some_who_text p (who.Name name) = p name
some_who_text p (who.Col c) = false

-- a test holds of a text of a query
abbrev pub some_query_text : (List ℕ → Bool) → RawQuery → Bool
some_query_text p q = list_any (λ i. list_any (some_who_text p) i.path) q.items || list_any (λ c. list_any p (side_texts c.right)) q.conds

-- a test holds of a text of a path or a tuple
abbrev pub some_signed_text : (List ℕ → Bool) → List (List ℕ) → List Value → Bool
some_signed_text p users vals = list_any p users || list_any (λ v. list_any p (value_texts v)) vals

-- a test holds of a text of a command
abbrev pub some_text : (List ℕ → Bool) → Command → Bool
some_text p (CreateUser name) = p name
some_text p (DropUser name) = p name
some_text p (Insert users sign rel vals) = some_signed_text p users vals
some_text p (Delete users sign rel conds) = list_any p users || list_any (λ c. list_any p (side_texts c.right)) conds
some_text p (Update users sign rel sets conds) = list_any p users || (list_any (λ s. list_any p (value_texts s.to)) sets
    || list_any (λ c. list_any p (side_texts c.right)) conds)
some_text p (ShowWorld users) = list_any p users
some_text p (Why users sign rel vals) = some_signed_text p users vals
some_text p (Select query) = some_query_text p query
some_text p (Explain query) = some_query_text p query
some_text p _ = false
