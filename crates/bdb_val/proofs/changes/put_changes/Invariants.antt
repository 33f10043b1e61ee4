use Rattle.std.proofs.Common.{◌≡◌, ◌++◌, take}
use Rattle.std.specs.List.{list_any, flat_map}
use Rattle.bdb_val.specs.GroupChanges.{own_change, new_change, is_explicit_plus}
use Rattle.bdb_val.proofs.changes.put_changes.Given as goal

abbrev pub invariant-loop-row : goal.invariant-loop-row
invariant-loop-row l = l.changes.items ≡ flat_map (own_change (list_any is_explicit_plus l.own) l.from) (take l.row-index l.own)

abbrev pub invariant-loop-row-2 : goal.invariant-loop-row-2
invariant-loop-row-2 l = l.changes.items
    ≡ flat_map (own_change (list_any is_explicit_plus l.own) l.from) l.own
    ++ flat_map (new_change (list_any is_explicit_plus l.own) l.own) (take l.row-index l.from)
