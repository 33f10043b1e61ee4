-- What the aliases and columns of a query stand for.
use Rattle.std.specs.Prelude.{◌≡◌, ℕ, Bool, false, ◌&&◌, ◌==◌, List, [], ◌∷◌, length, Option, None, Some, find, if◌then◌else◌, codes}
use Rattle.std.specs.List.{position_from}
use Rattle.bdb_base.specs.declared.kinds.ColDef.{ColDef}
use Rattle.bdb_base.specs.declared.kinds.Kind.TheVariants as kind
use Rattle.bdb_base.specs.declared.kinds.RelDef.{RelDef}
use Rattle.bdb_base.specs.declared.kinds.Sign.TheVariants.{Plus}
use Rattle.bdb_base.specs.Bases.{users_name}
use Rattle.bdb_base.specs.Same.{same_text, same_sign}
use Rattle.indexmap.specs.IndexMap.{IndexMap, get_by}
use Rattle.std.specs.Borrow.{Bor}
use Rattle.bdb_syntax.specs.declared.command.RawCol.{RawCol}
use Rattle.bdb_syntax.specs.declared.command.RawItem.{RawItem}
use Rattle.bdb_bind.specs.Lookup.{columns_of}

-- an item stands for the users: it is `Users`, with no path and without `not`
abbrev pub is_users : RawItem → Bool
is_users i = same_text i.rel users_name && (same_sign i.sign Plus && (length i.path == 0))

-- the place of the first item of an alias
abbrev pub item_place : List RawItem → Option (List ℕ) → Option ℕ
item_place items None = None
item_place items (Some alias) = position_from (λ i. same_text i.alias alias) 0 items

-- a map tells of each alias the place of the first item that has it
abbrev pub TellsItems : {S : Type 0} → IndexMap (Bor (List ℕ)) ℕ S → List RawItem → Type 0
TellsItems places items = (alias : List ℕ) → get_by (λ k. same_text alias k.now) places ≡ item_place items (Some alias)

-- the first item of an alias
abbrev pub item_of : List RawItem → Option (List ℕ) → Option RawItem
item_of items None = None
item_of items (Some alias) = find (λ i. same_text i.alias alias) items

-- the columns of a user
abbrev pub user_columns : List ColDef
user_columns = record { name = codes "uid"; kind = kind.Int } ∷ record { name = codes "name"; kind = kind.Text } ∷ []

-- the columns of an item
abbrev pub item_columns : List RelDef → RawItem → List ColDef
item_columns rels i = if is_users i then user_columns else columns_of rels i.rel

-- the columns of an item that may not be there
abbrev pub columns_found : List RelDef → Option RawItem → List ColDef
columns_found rels None = []
columns_found rels (Some i) = item_columns rels i

-- the columns of the item of an alias
abbrev pub columns_named : List RelDef → List RawItem → Option (List ℕ) → List ColDef
columns_named rels items alias = columns_found rels (item_of items alias)

-- an item that may not be there stands for the users
abbrev pub are_users : Option RawItem → Bool
are_users None = false
are_users (Some i) = is_users i

-- a column is the number of a user
abbrev pub is_uid : List RawItem → RawCol → Bool
is_uid items c = are_users (item_of items c.alias) && same_text c.col (codes "uid")
