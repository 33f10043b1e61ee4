-- How a query is answered: the users are chosen first, then the tuples of plus items from the worlds of their paths, then
-- the one tuple of each minus item that its sources leave.
use Rattle.std.specs.Prelude.{List, [], Option, None, cond, map}
use Rattle.bdb_base.specs.declared.kinds.Cond.{Cond}
use Rattle.bdb_base.specs.declared.kinds.Held.{Held}
use Rattle.bdb_base.specs.declared.kinds.Item.{Item}
use Rattle.bdb_base.specs.declared.kinds.Query.{Query}
use Rattle.bdb_base.specs.declared.kinds.RelDef.{RelDef}
use Rattle.bdb_base.specs.declared.kinds.Value.{Value}
use Rattle.bdb_base.specs.declared.tuple.Tuple.{Tuple}
use Rattle.bdb_base.specs.Bases.{Contents, key_lengths}
use Rattle.bdb_base.specs.Queries.{option_list}
use Rattle.bdb_model.specs.Choosing.{chosen_rows}
use Rattle.bdb_model.specs.Pools.{item_world, user_pool, plus_pools, minus_pools}
use Rattle.bdb_queries.specs.Slots.{must_all_hold, known_row}

-- the row of slots in which all is chosen, where all comparisons hold
abbrev pub last_rows : Query → List (Option Tuple) → List (List Value)
last_rows q slots = cond (must_all_hold slots q.conds) (option_list (known_row slots q.take)) []

-- the rows that come of chosen users and tuples of plus items
abbrev pub rows_of_tuples : List RelDef → Query → List Cond → List (List Held) → List (Option Tuple) → List (List Value)
rows_of_tuples rels q sources worlds slots = chosen_rows q.conds (last_rows q) 0 (minus_pools rels sources slots 0 q.items worlds) slots

-- the rows that come of chosen users, with the worlds of the items' paths
abbrev pub rows_of_worlds : Contents → Query → List Cond → List (List Held) → List (Option Tuple) → List (List Value)
rows_of_worlds b q sources worlds slots = chosen_rows q.conds (rows_of_tuples b.catalog.rels q sources worlds) 0 (plus_pools q.items worlds) slots

-- the rows that come of chosen users
abbrev pub rows_of_users : Contents → Query → List Cond → List (Option Tuple) → List (List Value)
rows_of_users b q sources slots = rows_of_worlds b q sources (map (item_world (key_lengths b.catalog.rels) b.stmts slots) q.items) slots

-- nothing is chosen
abbrev pub open_slots : List Item → List (Option Tuple)
open_slots items = map (λ item. None) items

-- all rows
abbrev pub all_rows : Contents → Query → List Cond → List (List Value)
all_rows b q sources = chosen_rows q.conds (rows_of_users b q sources) 0 (map (user_pool b.catalog.users) q.items) (open_slots q.items)
