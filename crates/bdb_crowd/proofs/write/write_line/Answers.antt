use Rattle.bdb_many.specs.Labels.{label}
use Rattle.bdb_crowd.proofs.WriteLemmas.{wrote_part}
use Rattle.bdb_crowd.proofs.write.write_line.Goals as goal

pub returns-in-Err-write_all-clause-written : goal.returns-in-Err-write_all-clause-written
returns-in-Err-write_all-clause-written g c =
    wrote_part (g.O.Sink.written c.args.out.now) (g.O.Sink.written c.write_label.new.out) (g.O.Sink.written c.write_all.new.self) (label c.args.session) c.args.line.now
    c.in-Ok.ensures.written c.in-Err-write_all.ensures.bytes
