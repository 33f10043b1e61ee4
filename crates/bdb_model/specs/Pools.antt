-- What can be chosen for the items of a query.
use Rattle.std.specs.Prelude.{ℕ, ◌+◌, Bool, ◌&&◌, nat_eq, nat_lt, List, [], ◌∷◌, map, filter, length, Option, None, Some, cond}
use Rattle.std.specs.List.{list_any, slice_get}
use Rattle.std.specs.Option.{option_map, option_and_then}
use Rattle.bdb_base.specs.declared.kinds.ColDef.{ColDef}
use Rattle.bdb_base.specs.declared.kinds.Cond.{Cond}
use Rattle.bdb_base.specs.declared.kinds.Held.{Held}
use Rattle.bdb_base.specs.declared.kinds.Item.{Item}
use Rattle.bdb_base.specs.declared.kinds.Item.TheVariants.{Users, Rel}
use Rattle.bdb_base.specs.declared.kinds.RelDef.{RelDef}
use Rattle.bdb_base.specs.declared.kinds.Ref.{Ref}
use Rattle.bdb_base.specs.declared.kinds.Sign.TheVariants.{Plus, Minus}
use Rattle.bdb_base.specs.declared.kinds.Stmt.{Stmt}
use Rattle.bdb_base.specs.declared.kinds.UserSlot.{UserSlot}
use Rattle.bdb_base.specs.declared.kinds.Value.{Value}
use Rattle.bdb_base.specs.declared.tuple.Tuple.{Tuple}
use Rattle.bdb_base.specs.Alternation.{alternates}
use Rattle.bdb_base.specs.Bases.{fits_definition, key_lengths}
use Rattle.bdb_base.specs.Clash.{clash}
use Rattle.bdb_base.specs.Queries.{columns_at}
use Rattle.bdb_base.specs.Same.{same_sign, tuple_of}
use Rattle.bdb_base.specs.WorldRows.{world_of}
use Rattle.bdb_queries.specs.Slots.{known_operand, path_of, user_tuples}
use Rattle.bdb_model.specs.Sources.{source_of}

-- the world of a path, if it is there and has no equal neighbours; else nothing
abbrev pub world_at : (ℕ → ℕ) → List Stmt → Option (List ℕ) → List Held
world_at keys stmts None = []
world_at keys stmts (Some w) = cond (alternates w) (world_of keys stmts w) []

-- the world of an item's path, with the chosen users put in
abbrev pub item_world : (ℕ → ℕ) → List Stmt → List (Option Tuple) → Item → List Held
item_world keys stmts slots (Users alias) = []
item_world keys stmts slots (Rel alias rel sign path) = world_at keys stmts (path_of slots path)

-- the live users, for a `Users` item
abbrev pub user_pool : List UserSlot → Item → Option (List Tuple)
user_pool users (Users alias) = Some (user_tuples 1 users)
user_pool users (Rel alias rel sign path) = None

-- a row has plus and is of a relation
abbrev pub is_plus_of : ℕ → Held → Bool
is_plus_of rel h = nat_eq h.tuple.rel rel && same_sign h.sign Plus

-- the tuples of a relation that a world has with plus
abbrev pub plus_tuples : ℕ → List Held → List Tuple
plus_tuples rel world = map (λ h. h.tuple) (filter (is_plus_of rel) world)

-- the tuples that a plus item's path believes
abbrev pub plus_pool : Item → List Held → Option (List Tuple)
plus_pool (Rel alias rel Plus path) world = Some (plus_tuples rel world)
plus_pool _ world = None

abbrev pub plus_pools : List Item → List (List Held) → List (Option (List Tuple))
plus_pools (item ∷ items) (world ∷ worlds) = plus_pool item world ∷ plus_pools items worlds
plus_pools _ _ = []

-- the value of a column by its source
abbrev pub sourced_value : List Cond → List (Option Tuple) → Ref → Option Value
sourced_value sources slots r = option_and_then (known_operand slots) (source_of sources r)

-- the values of an item's columns from one on, by their sources
abbrev pub sourced_values : List Cond → List (Option Tuple) → ℕ → ℕ → List ColDef → Option (List Value)
sourced_values sources slots item col [] = Some []
sourced_values sources slots item col (c ∷ cs) =
    option_and_then (λ v. option_map (λ vs. v ∷ vs) (sourced_values sources slots item (col + 1) cs)) (sourced_value sources slots (record { item = item; col = col }))

-- a world denies a tuple: a row of it clashes with the tuple's being there
abbrev pub denies : (ℕ → ℕ) → List Held → Tuple → Bool
denies keys world t = list_any (λ h. clash keys t Plus h.tuple h.sign) world

-- values are those of a tuple that fits its relation, and that a world denies
abbrev pub is_denied : List RelDef → List Held → ℕ → List Value → Bool
is_denied rels world rel vals = nat_lt 0 (length vals) && (fits_definition (slice_get rels rel) vals && denies (key_lengths rels) world (tuple_of rel vals))

-- the tuple of these values, if they are there, it fits its relation, and a world denies it
abbrev pub denied_tuples : List RelDef → List Held → ℕ → Option (List Value) → List Tuple
denied_tuples rels world rel None = []
denied_tuples rels world rel (Some vals) = cond (is_denied rels world rel vals) (tuple_of rel vals ∷ []) []

-- the tuple whose negation a minus item's path believes, by the sources of its columns
abbrev pub minus_pool : List RelDef → List Cond → List (Option Tuple) → ℕ → Item → List Held → Option (List Tuple)
minus_pool rels sources slots at (Rel alias rel Minus path) world = Some (denied_tuples rels world rel (sourced_values sources slots at 0 (columns_at rels rel)))
minus_pool rels sources slots at _ world = None

abbrev pub minus_pools : List RelDef → List Cond → List (Option Tuple) → ℕ → List Item → List (List Held) → List (Option (List Tuple))
minus_pools rels sources slots at (item ∷ items) (world ∷ worlds) = minus_pool rels sources slots at item world ∷ minus_pools rels sources slots (at + 1) items worlds
minus_pools rels sources slots at _ _ = []
