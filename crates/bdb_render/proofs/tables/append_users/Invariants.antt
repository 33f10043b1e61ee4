use Rattle.std.proofs.Common.{◌≡◌, ◌++◌, take}
use Rattle.std.specs.List.{flat_map}
use Rattle.bdb_base.specs.Queries.{live_numbers}
use Rattle.bdb_render.specs.Tables.{user_line}
use Rattle.bdb_render.proofs.tables.append_users.Given as goal

abbrev pub invariant-loop-at : goal.invariant-loop-at
invariant-loop-at l = l.out.items ≡ l.initial.out.items ++ flat_map (user_line l.catalog) (live_numbers 1 (take l.at l.catalog.users))
