use Rattle.std.proofs.Common.{◌≡◌, List, map, take}
use Rattle.std.specs.List.{flat_map}
use Rattle.bdb_base.specs.declared.kinds.Held.{Held}
use Rattle.bdb_shown.specs.Rows.{Spell, raw, told_line}
use Rattle.bdb_shown.proofs.lines.rows_reply.Given as goal

abbrev pub invariant-loop-row : goal.invariant-loop-row
invariant-loop-row l = (held : List Held) → Spell (map raw l.rows) held → l.out.items ≡ flat_map (told_line l.catalog l.own) (take l.row-index held)
