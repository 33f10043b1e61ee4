use Rattle.std.proofs.Common.{◌≡◌, ◌++◌, take}
use Rattle.std.specs.List.{flat_map}
use Rattle.bdb_render.specs.Tables.{relation_line}
use Rattle.bdb_render.proofs.tables.append_catalog.Given as goal

abbrev pub invariant-loop-def : goal.invariant-loop-def
invariant-loop-def l = l.out.items ≡ l.initial.out.items ++ flat_map relation_line (take l.def-index l.def-items)
