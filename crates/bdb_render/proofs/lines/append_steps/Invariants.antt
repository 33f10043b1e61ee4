use Rattle.std.proofs.Common.{◌≡◌, ◌++◌, take}
use Rattle.std.specs.List.{flat_map}
use Rattle.bdb_render.specs.Replies.{step_text}
use Rattle.bdb_render.proofs.lines.append_steps.Given as goal

abbrev pub invariant-loop-uid : goal.invariant-loop-uid
invariant-loop-uid l = l.out.items ≡ l.initial.out.items ++ flat_map (step_text l.catalog) (take l.uid-index l.path)
