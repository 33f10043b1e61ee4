-- Looking names up in a catalog.
use Rattle.std.specs.Prelude.{ℕ, Bool, false, List, map, Option, None, Some, find}
use Rattle.std.specs.Option.{option_map, is_some, unwrap_or}
use Rattle.std.specs.List.{position_from}
use Rattle.bdb_base.specs.declared.kinds.Kind.{Kind}
use Rattle.bdb_base.specs.declared.kinds.ColDef.{ColDef}
use Rattle.bdb_base.specs.declared.kinds.RelDef.{RelDef}
use Rattle.bdb_base.specs.declared.kinds.UserSlot.{UserSlot}
use Rattle.bdb_base.specs.Bases.{is_called}
use Rattle.bdb_base.specs.Same.{same_text}
use Rattle.bdb_base.specs.Queries.{columns_of_definition}

-- there is such a place, its user is live, and is called so
abbrev pub is_called_at : List ℕ → Option UserSlot → Bool
is_called_at name None = false
is_called_at name (Some user) = is_called name user

-- the uid of a name: the place of the first live user of that name, from 1
abbrev pub uid_of : List UserSlot → List ℕ → Option ℕ
uid_of users name = position_from (is_called name) 1 users

-- a name is that of a live user
abbrev pub is_user_name : List UserSlot → List ℕ → Bool
is_user_name users name = is_some (uid_of users name)

-- the uid of a name that is a live user's
abbrev pub uid_at : List UserSlot → List ℕ → ℕ
uid_at users name = unwrap_or (uid_of users name) 0

-- the path of names, each of which is a live user's
abbrev pub path_of : List UserSlot → List (List ℕ) → List ℕ
path_of users names = map (uid_at users) names

-- a name may stand here, and is this one
abbrev pub is_name : List ℕ → Option (List ℕ) → Bool
is_name name None = false
is_name name (Some x) = same_text x name

-- the number of a relation: its place, from 0
abbrev pub relation_number : List RelDef → List ℕ → Option ℕ
relation_number rels name = position_from (λ r. same_text r.name name) 0 rels

-- the columns of the relation of a name
abbrev pub columns_of : List RelDef → List ℕ → List ColDef
columns_of rels name = columns_of_definition (find (λ r. same_text r.name name) rels)

-- the place of a column, from 0
abbrev pub column_at : List ColDef → List ℕ → Option ℕ
column_at cols name = position_from (λ c. same_text c.name name) 0 cols

-- there is a column of this name
abbrev pub has_column : List ColDef → List ℕ → Bool
has_column cols name = is_some (column_at cols name)

-- the kind of the column of a name
abbrev pub kind_at : List ColDef → List ℕ → Option Kind
kind_at cols name = option_map (λ c. c.kind) (find (λ c. same_text c.name name) cols)
