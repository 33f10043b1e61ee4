use Rattle.std.proofs.Common.{◌≡◌, ◌-◌, ◌++◌}
use Rattle.bdb_gen.specs.Scripts.{first_lines, lines}
use Rattle.bdb_gen.proofs.scripts.generate.Given as goal

abbrev pub invariant-loop-line : goal.invariant-loop-line
invariant-loop-line l = l.out.items ++ lines l.draws (l.size - l._line) ≡ first_lines ++ lines l.seed l.size
