use Rattle.std.proofs.Common.{arith, rules}
use Rattle.std.proofs.lemmas.List.{take_rest}
use Rattle.bdb_many.specs.Labels.{label}
use Rattle.bdb_crowd.proofs.WriteLemmas.{line_on, line_stops}
use Rattle.bdb_crowd.proofs.write.write_labelled.Goals as goal

pub returns-in-Err-clause-written : goal.returns-in-Err-clause-written
returns-in-Err-clause-written g c =
    line_stops (label c.args.session) c.args.text.now c.loop-rest.rest.now _ c.end_of_line-end.result (g.O.Sink.written c.args.out.now) (g.O.Sink.written c.loop-rest.out) (g.O.Sink.written c.write_line.new.out)
    c.loop-rest.invariant.left c.end_of_line-end.ensures.line (search rules) c.in-Err.ensures.written

pub loop-rest-preserved : goal.loop-rest-preserved
loop-rest-preserved g c = record {
  left = line_on (label c.args.session) c.args.text.now c.loop-rest.rest.now _ _ c.end_of_line-end.result (g.O.Sink.written c.args.out.now) (g.O.Sink.written c.loop-rest.out) (g.O.Sink.written c.write_line.new.out)
      c.loop-rest.invariant.left c.end_of_line-end.ensures.line (search rules) (take_rest c.loop-rest.rest.now c.end_of_line-end.result) c.in-Ok.ensures.written;
  later = omega (arith, c.write_line.ensures.cause.later, c.loop-rest.invariant.later);
}
