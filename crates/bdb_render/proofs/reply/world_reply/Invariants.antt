use Rattle.std.proofs.Common.{◌≡◌, take}
use Rattle.std.specs.List.{flat_map}
use Rattle.bdb_render.specs.Replies.{held_line}
use Rattle.bdb_render.proofs.reply.world_reply.Given as goal

abbrev pub invariant-loop-held : goal.invariant-loop-held
invariant-loop-held l = l.out.items ≡ flat_map (held_line l.catalog) (take l.held-index l.held-items)
