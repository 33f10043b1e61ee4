use Rattle.std.proofs.Common.{◌≡◌, take}
use Rattle.std.specs.List.{flat_map}
use Rattle.bdb_render.specs.Replies.{answer_line}
use Rattle.bdb_render.proofs.reply.rows_reply.Given as goal

abbrev pub invariant-loop-vals : goal.invariant-loop-vals
invariant-loop-vals l = l.out.items ≡ flat_map answer_line (take l.vals-index l.vals-items)
