use Rattle.std.proofs.Common.{◌≡◌, map, take}
use Rattle.bdb_base.specs.Bases.{key_lengths}
use Rattle.bdb_model.specs.Pools.{item_world}
use Rattle.bdb_model.proofs.pools.worlds_of.Given as goal

abbrev pub invariant-loop-item : goal.invariant-loop-item
invariant-loop-item l = l.worlds.items ≡ map (item_world (key_lengths l.rels) l.stmts l.slots) (take l.item-index l.items)
