-- What a query that isn't refused is bound to.
use Rattle.std.specs.Prelude.{ℕ, List, map, Option, if◌then◌else◌}
use Rattle.std.specs.Option.{unwrap_or}
use Rattle.bdb_base.specs.declared.kinds.Catalog.{Catalog}
use Rattle.bdb_base.specs.declared.kinds.Cond.{Cond}
use Rattle.bdb_base.specs.declared.kinds.Item.{Item}
use Rattle.bdb_base.specs.declared.kinds.Item.TheVariants as item
use Rattle.bdb_base.specs.declared.kinds.Operand.{Operand}
use Rattle.bdb_base.specs.declared.kinds.Operand.TheVariants as operand
use Rattle.bdb_base.specs.declared.kinds.Query.{Query}
use Rattle.bdb_base.specs.declared.kinds.Ref.{Ref}
use Rattle.bdb_base.specs.declared.kinds.RelDef.{RelDef}
use Rattle.bdb_base.specs.declared.kinds.UserSlot.{UserSlot}
use Rattle.bdb_base.specs.declared.kinds.Who.{Who}
use Rattle.bdb_base.specs.declared.kinds.Who.TheVariants as user
use Rattle.bdb_syntax.specs.declared.command.RawCol.{RawCol}
use Rattle.bdb_syntax.specs.declared.command.RawCond.{RawCond}
use Rattle.bdb_syntax.specs.declared.command.RawItem.{RawItem}
use Rattle.bdb_syntax.specs.declared.command.RawQuery.{RawQuery}
use Rattle.bdb_syntax.specs.declared.command.RawSide.{RawSide}
use Rattle.bdb_syntax.specs.declared.command.RawSide.TheVariants.{Col, Lit}
use Rattle.bdb_syntax.specs.declared.command.RawWho.{RawWho}
use Rattle.bdb_syntax.specs.declared.command.RawWho.TheVariants as who
use Rattle.bdb_bind.specs.Lookup.{uid_at, relation_number, column_at}
use Rattle.bdb_bind.specs.Scope.{is_users, item_place, columns_named}

-- the place of an item that is there
abbrev pub place_named : List RawItem → Option (List ℕ) → ℕ
place_named items alias = unwrap_or (item_place items alias) 0

-- a column of a query that is there, by places
abbrev pub query_column_at : List RelDef → List RawItem → RawCol → Ref
query_column_at rels items c = record { item = place_named items c.alias; col = unwrap_or (column_at (columns_named rels items c.alias) c.col) 0 }

abbrev pub query_side : List RelDef → List RawItem → RawSide → Operand
query_side rels items (Col c) = operand.Col (query_column_at rels items c)
query_side rels items (Lit v) = operand.Lit v

abbrev pub query_cond : List RelDef → List RawItem → RawCond → Cond
query_cond rels items c = record { left = query_column_at rels items c.left; cmp = c.cmp; right = query_side rels items c.right }

-- a user of a path: a user's number, or the place of a `Users` item
abbrev pub query_who : List UserSlot → List RawItem → RawWho → Who
query_who users items (who.Name name) = user.User (uid_at users name)
query_who users items (who.Col c) = user.Of (place_named items c.alias)

abbrev pub query_item : Catalog → List RawItem → RawItem → Item
query_item catalog items i = if is_users i then item.Users i.alias
    else item.Rel i.alias (unwrap_or (relation_number catalog.rels i.rel) 0) i.sign (map (query_who catalog.users items) i.path)

-- a query, with its users, relations and columns by number
unfoldable pub bound_query : Catalog → RawQuery → Query
bound_query catalog q = record {
  take = map (query_column_at catalog.rels q.items) q.take;
  items = map (query_item catalog q.items) q.items;
  conds = map (query_cond catalog.rels q.items) q.conds;
}
