-- What reading the users and the relations of tables of any bytes tells.
use Rattle.std.specs.Prelude.{ℕ, ◌≤◌, ◌^◌, ◌+◌, Bool, true, false, not, ◌&&◌, nat_le, List, [], ◌∷◌, Option, MatchOption, length, map}
use Rattle.std.specs.List.{list_all, list_any, slice_get}
use Rattle.bdb_base.specs.Bases.{IsCatalog, are_distinct, is_called, is_plain, is_valid_relation, user_names}
use Rattle.bdb_base.specs.Limits.{most_users, most_relations}
use Rattle.bdb_base.specs.Same.{same_text}
use Rattle.bdb_base.specs.declared.kinds.Catalog.{Catalog}
use Rattle.bdb_base.specs.declared.kinds.RelDef.{RelDef}
use Rattle.bdb_base.specs.declared.kinds.UserSlot.{UserSlot}
use Rattle.bdb_base.specs.declared.kinds.UserSlot.TheVariants.{Live, Gone}
use Rattle.bdb_keep.specs.Tables.{Tables}
use Rattle.bdb_tables.specs.InUse.{user_codec, rel_codec}
use Rattle.bdb_tables.specs.Stored.{slot_of}
use Rattle.bdb_tables.specs.Writes.{Gives}

-- the places of users of tables are these, whose numbers are of four bytes
pub record HasUserPlaces (t : Tables) (users : List UserSlot) : Type 0 where
  pub gives : Gives user_codec t (slot_of users)
  pub sized : length users + 1 ≤ 2 ^ 32

-- the relations of tables are these, whose numbers are of four bytes
pub record HasRelations (t : Tables) (rels : List RelDef) : Type 0 where
  pub gives : Gives rel_codec t (slice_get rels)
  pub sized : length rels ≤ 2 ^ 32

-- the places of users of tables; none where no list is theirs
abbrev pub TellsUsers : Tables → Option (List UserSlot) → Type 0
TellsUsers t found = MatchOption found ((users : List UserSlot) → HasUserPlaces t users → ⊥) (HasUserPlaces t)

-- the relations of tables; none where no list is theirs
abbrev pub TellsRelations : Tables → Option (List RelDef) → Type 0
TellsRelations t found = MatchOption found ((rels : List RelDef) → HasRelations t rels → ⊥) (HasRelations t)

-- tables have the users and relations of a valid base
pub record HasCatalog (t : Tables) (c : Catalog) : Type 0 where
  pub valid : IsCatalog c
  pub users : Gives user_codec t (slot_of c.users)
  pub rels : Gives rel_codec t (slice_get c.rels)

-- the users and relations of tables; none where they have those of no valid base
abbrev pub TellsCatalog : Tables → Option Catalog → Type 0
TellsCatalog t found = MatchOption found ((c : Catalog) → HasCatalog t c → ⊥) (HasCatalog t)

-- ---- which users and relations are those of a valid base, as tests

-- no item has the name of a later one
abbrev pub names_differ : {X : Type 0} → (X → List ℕ) → List X → Bool
names_differ f [] = true
names_differ f (x ∷ xs) = not (list_any (λ y. same_text (f x) (f y)) xs) && names_differ f xs

-- one of these users has the name of the live user of a place
abbrev pub has_name_of : List UserSlot → UserSlot → Bool
has_name_of users (Live name) = list_any (is_called name) users
has_name_of users Gone = false

-- no live user has the name of a later one
abbrev pub slots_differ : List UserSlot → Bool
slots_differ [] = true
slots_differ (u ∷ us) = not (has_name_of us u) && slots_differ us

-- a place has a plain name, if its user is live
abbrev pub has_plain_name : UserSlot → Bool
has_plain_name (Live name) = is_plain name
has_plain_name Gone = true

-- the places are not too many, and the names of live users are plain and differ
abbrev pub are_users : List UserSlot → Bool
are_users users = nat_le (length users) most_users && (are_distinct (user_names users) && list_all is_plain (user_names users))

abbrev pub are_relations : List RelDef → Bool
are_relations rels = nat_le (length rels) most_relations && (are_distinct (map (λ r. r.name) rels) && list_all is_valid_relation rels)

abbrev pub is_catalog : Catalog → Bool
is_catalog c = are_users c.users && are_relations c.rels
