-- Bases, and when one is valid.
use Rattle.std.specs.Prelude.{◌≡◌, ℕ, ◌+◌, ◌-◌, Bool, true, false, not, ◌&&◌, nat_lt, nat_le, List, [], ◌∷◌, ◌++◌, length, map, take, Option, None, Some, cond}
use Rattle.std.specs.List.{list_any, list_all, filter_map, slice_get, slice_set}
use Rattle.std.specs.Option.{option_and_then, is_some}
use Rattle.std.specs.Str.{is_utf8}
use Rattle.bdb_base.specs.declared.kinds.Value.{Value}
use Rattle.bdb_base.specs.declared.kinds.Value.TheVariants.{Int, Text}
use Rattle.bdb_base.specs.declared.kinds.Kind.{Kind}
use Rattle.bdb_base.specs.declared.kinds.Kind.TheVariants as kind
use Rattle.bdb_base.specs.declared.kinds.ColDef.{ColDef}
use Rattle.bdb_base.specs.declared.kinds.RelDef.{RelDef}
use Rattle.bdb_base.specs.declared.kinds.Catalog.{Catalog}
use Rattle.bdb_base.specs.declared.kinds.Stmt.{Stmt}
use Rattle.bdb_base.specs.declared.kinds.UserSlot.{UserSlot}
use Rattle.bdb_base.specs.declared.kinds.UserSlot.TheVariants.{Live, Gone}
use Rattle.bdb_base.specs.declared.tuple.Tuple.{Tuple}
use Rattle.bdb_base.specs.Same.{same_text, same_path, same_tuple}
use Rattle.bdb_base.specs.Alternation.{alternates}
use Rattle.bdb_base.specs.Limits.{longest_text, most_columns, most_users, most_relations, deepest_statement, most_statements, most_tuples, most_worlds}
use Rattle.bdb_base.specs.Order.{statement_cmp}
use Rattle.bdb_base.specs.SortedSet.{is_member, ascending, put_in, taken_out}
use Rattle.bdb_base.specs.States.{stated_prefixes}
use Rattle.bdb_base.specs.Worlds.{contradicted}

-- the catalog, and the standing statements in order
pub record Contents : Type 0 where
  pub catalog : Catalog
  pub stmts : List Stmt

-- the length of a definition's key; where there is none it counts as 1
abbrev pub key_at : Option RelDef → ℕ
key_at None = 1
key_at (Some def) = def.key

-- the length of each relation's key
abbrev pub key_lengths : List RelDef → ℕ → ℕ
key_lengths rels rel = key_at (slice_get rels rel)

-- the name of the user of a place; none where he is gone
abbrev pub live_name : UserSlot → Option (List ℕ)
live_name (Live name) = Some name
live_name Gone = None

-- the name of the user at a place, the first of which is 0; none where he is gone, and past the last place
abbrev pub name_at : List UserSlot → ℕ → Option (List ℕ)
name_at users at = option_and_then live_name (slice_get users at)

-- the user of a place is live, and is called so
abbrev pub is_called : List ℕ → UserSlot → Bool
is_called name (Live x) = same_text x name
is_called name Gone = false

-- a number is that of a live user: the places are numbered from 1
abbrev pub is_user : List UserSlot → ℕ → Bool
is_user users uid = nat_lt 0 uid && is_some (name_at users (uid - 1))

-- there is such a place, and its user is gone
abbrev pub is_left : Option UserSlot → Bool
is_left (Some Gone) = true
is_left _ = false

-- a number is that of a user who is gone
abbrev pub is_gone : List UserSlot → ℕ → Bool
is_gone users uid = nat_lt 0 uid && is_left (slice_get users (uid - 1))

-- the names of the live users, in order
abbrev pub user_names : List UserSlot → List (List ℕ)
user_names users = filter_map live_name users

-- the bytes are those of a text without characters below U+0020
abbrev pub is_clean : List ℕ → Bool
is_clean text = is_utf8 text && list_all (λ c. nat_le 32 c) text

-- a clean text, not too long
abbrev pub is_plain : List ℕ → Bool
is_plain text = nat_le (length text) longest_text && is_clean text

-- a value is one that tuples may have: a text has to be plain
abbrev pub is_written : Value → Bool
is_written (Int n) = true
is_written (Text t) = is_plain t

-- a value is of a kind; a text is a plain one
abbrev pub fits_kind : Kind → Value → Bool
fits_kind kind.Int (Int n) = true
fits_kind kind.Text (Text t) = is_plain t
fits_kind _ _ = false

-- values fit columns in number and kind
abbrev pub fits_columns : List ColDef → List Value → Bool
fits_columns [] [] = true
fits_columns (c ∷ cs) (v ∷ vs) = fits_kind c.kind v && fits_columns cs vs
fits_columns _ _ = false

-- values fit a relation, if there is one
abbrev pub fits_definition : Option RelDef → List Value → Bool
fits_definition None vals = false
fits_definition (Some def) vals = fits_columns def.cols vals

-- a tuple fits its relation
abbrev pub fits_relation : List RelDef → Tuple → Bool
fits_relation rels t = fits_definition (slice_get rels t.rel) t.vals

-- no name stands twice
abbrev pub are_distinct : List (List ℕ) → Bool
are_distinct [] = true
are_distinct (n ∷ ns) = not (list_any (same_text n) ns) && are_distinct ns

-- how many different items a list has: those that are not among the later ones
abbrev pub distinct_count : {X : Type 0} → (X → X → Bool) → List X → ℕ
distinct_count same [] = 0
distinct_count same (x ∷ xs) = cond (list_any (same x) xs) 0 1 + distinct_count same xs

-- the name of the item that lists the users in a query: `Users`
abbrev pub users_name : List ℕ
users_name = 85 ∷ 115 ∷ 101 ∷ 114 ∷ 115 ∷ []

-- a key is of the first columns, at least one and at most all
abbrev pub is_key : RelDef → Bool
is_key def = nat_lt 0 def.key && nat_le def.key (length def.cols)

-- at least one column and not too many, plain names that differ, a plain name that isn't `Users`, and a key
abbrev pub is_valid_relation : RelDef → Bool
is_valid_relation def = nat_lt 0 (length def.cols) && nat_le (length def.cols) most_columns && (are_distinct (map (λ c. c.name) def.cols)
    && list_all (λ c. is_plain c.name) def.cols && (is_plain def.name && not (same_text def.name users_name)) && is_key def)

-- the live users and the relations have plain names that differ; the places of users, and the relations, are not too many
pub record IsCatalog (c : Catalog) : Type 0 where
  pub users_differ : are_distinct (user_names c.users) ≡ true
  pub users_plain : list_all is_plain (user_names c.users) ≡ true
  pub few_users : nat_le (length c.users) most_users ≡ true
  pub rels_differ : are_distinct (map (λ r. r.name) c.rels) ≡ true
  pub rels_valid : list_all is_valid_relation c.rels ≡ true
  pub few_rels : nat_le (length c.rels) most_relations ≡ true

-- a statement's path is one of live users and not too deep, and its tuple fits its relation
abbrev pub belongs : Catalog → Stmt → Bool
belongs c x = alternates x.path && nat_le (length x.path) deepest_statement && list_all (is_user c.users) x.path && fits_relation c.rels x.tuple

-- a statement has the tuple
abbrev pub has_tuple : List Stmt → Tuple → Bool
has_tuple stmts t = list_any (λ x. same_tuple t x.tuple) stmts

-- how many different tuples the statements have
abbrev pub tuple_count : List Stmt → ℕ
tuple_count stmts = distinct_count same_tuple (map (λ x. x.tuple) stmts)

-- how many worlds the statements bring into being: their states
abbrev pub world_count : List Stmt → ℕ
world_count stmts = distinct_count same_path (stated_prefixes stmts)

-- the statements are in order, belong to the catalog and do not clash at one path; they, their tuples and their worlds
-- are not too many
pub record AreStatements (c : Catalog) (stmts : List Stmt) : Type 0 where
  pub sorted : ascending statement_cmp stmts ≡ true
  pub belong : list_all (belongs c) stmts ≡ true
  pub no_clash : list_all (λ x. not (contradicted (key_lengths c.rels) stmts x.path x.tuple x.sign)) stmts ≡ true
  pub few_stmts : nat_le (length stmts) most_statements ≡ true
  pub few_tuples : nat_le (tuple_count stmts) most_tuples ≡ true
  pub few_worlds : nat_le (world_count stmts) most_worlds ≡ true

-- a catalog and statements are those of a valid base
pub record IsValid (c : Catalog) (xs : List Stmt) : Type 0 where
  pub catalog : IsCatalog c
  pub stmts : AreStatements c xs

-- no relations, users or statements
abbrev pub empty_contents : Contents
empty_contents = record { catalog = record { rels = []; users = [] }; stmts = [] }

-- the catalog with one more user, at a place behind the others
abbrev pub with_user : Catalog → List ℕ → Catalog
with_user c name = record c { users = c.users ++ Live name ∷ [] }

-- the catalog with one more relation
abbrev pub with_relation : Catalog → RelDef → Catalog
with_relation c def = record c { rels = c.rels ++ def ∷ [] }

-- the catalog without a user: he is gone from his place, and all other places stay as they are
abbrev pub without_user : Catalog → ℕ → Catalog
without_user c uid = record c { users = slice_set c.users (uid - 1) Gone }

-- the catalog with a live user of this name at the place of one who is gone
abbrev pub with_user_back : Catalog → ℕ → List ℕ → Catalog
with_user_back c uid name = record c { users = slice_set c.users (uid - 1) (Live name) }

-- the catalog without the place of the user added last
abbrev pub without_last_user : Catalog → Catalog
without_last_user c = record c { users = take (length c.users - 1) c.users }

-- the catalog without the relation added last
abbrev pub without_last_relation : Catalog → Catalog
without_last_relation c = record c { rels = take (length c.rels - 1) c.rels }

-- a statement stands
abbrev pub stands : List Stmt → Stmt → Bool
stands = is_member statement_cmp

-- the statements with one more
abbrev pub with_statement : List Stmt → Stmt → List Stmt
with_statement = put_in statement_cmp

-- the statements without one
abbrev pub without_statement : List Stmt → Stmt → List Stmt
without_statement = taken_out statement_cmp
