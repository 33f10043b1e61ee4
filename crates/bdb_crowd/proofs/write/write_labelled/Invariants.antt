use Rattle.std.proofs.Common.{◌≤◌, length}
use Rattle.bdb_many.specs.Labels.{label}
use Rattle.bdb_crowd.proofs.WriteLemmas.{IsLeft}
use Rattle.bdb_crowd.proofs.write.write_labelled.Given as goal

abbrev pub invariant-loop-rest : goal.invariant-loop-rest
invariant-loop-rest g l = record {
  left : IsLeft (label l.session) l.fn.text l.rest (g.O.Sink.written l.fn.out) (g.O.Sink.written l.out);
  later : g.O.Sink.faults l.fn.out ≤ g.O.Sink.faults l.out;
}

abbrev pub decreases-loop-rest : goal.decreases-loop-rest
decreases-loop-rest g l = length l.rest
