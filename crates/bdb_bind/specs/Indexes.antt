-- What an index tells of a catalog.
use Rattle.std.specs.Prelude.{◌≡◌, ℕ, true, List, Option, None, Some, if◌then◌else◌}
use Rattle.std.specs.Option.{option_or}
use Rattle.std.specs.BTreeMap.{get_by_text}
use Rattle.std.specs.List.{position_from}
use Rattle.bdb_base.specs.declared.kinds.Catalog.{Catalog}
use Rattle.bdb_base.specs.declared.kinds.UserSlot.{UserSlot}
use Rattle.bdb_base.specs.declared.kinds.UserSlot.TheVariants.{Live, Gone}
use Rattle.bdb_base.specs.Bases.{are_distinct, user_names, without_user, is_called}
use Rattle.bdb_base.specs.Queries.{user_name}
use Rattle.bdb_base.specs.Same.{same_text}
use Rattle.bdb_bind.specs.declared.index.NameIndex.{NameIndex}
use Rattle.bdb_bind.specs.Lookup.{relation_number}

-- what is told of a name, where nothing was told before: its place
abbrev pub or_place : Option ℕ → List ℕ → ℕ → List ℕ → Option ℕ
or_place told name at q = option_or told (if same_text name q then Some at else None)

-- what is told of a name, where a place of users is looked at: where nothing was told before, that a live user stands there
abbrev pub or_slot : Option ℕ → UserSlot → ℕ → List ℕ → Option ℕ
or_slot told (Live name) at q = or_place told name at q
or_slot told Gone at q = told

-- what is told of a name once another is forgotten: what was told before, and nothing of that other
abbrev pub but_of : Option ℕ → List ℕ → List ℕ → Option ℕ
but_of told name q = if same_text name q then None else told

-- the place of the first live user of a name, from 0
abbrev pub user_place : List UserSlot → List ℕ → Option ℕ
user_place users name = position_from (is_called name) 0 users

-- An index of a catalog that forgets the name of a live user tells of the catalog without him.
abbrev pub WhoLeavesIsForgotten : Type 0
WhoLeavesIsForgotten = (c : Catalog) (uid : ℕ) (name q : List ℕ) → are_distinct (user_names c.users) ≡ true → user_name c.users uid ≡ Some name
    → user_place (without_user c uid).users q ≡ but_of (user_place c.users q) name q

-- an index tells of each name where its first live user and its first relation stand
pub record TellsOf (c : Catalog) (n : NameIndex) : Type 0 where
  pub users : (name : List ℕ) → get_by_text n.users name ≡ user_place c.users name
  pub rels : (name : List ℕ) → get_by_text n.rels name ≡ relation_number c.rels name
