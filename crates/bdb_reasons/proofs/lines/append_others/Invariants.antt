use Rattle.std.proofs.Common.{◌≡◌, ◌++◌, map, take}
use Rattle.std.specs.List.{flat_map}
use Rattle.bdb_base.specs.Texts.{line}
use Rattle.bdb_reasons.specs.WhyReplies.{other_text}
use Rattle.bdb_reasons.proofs.lines.append_others.Given as goal

abbrev pub invariant-loop-other : goal.invariant-loop-other
invariant-loop-other l = l.out.items ≡ l.initial.out.items ++ flat_map line (map (other_text l.catalog l.path) (take l.other-index l.other-items))
