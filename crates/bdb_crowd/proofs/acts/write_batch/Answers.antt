use Rattle.std.proofs.Common.{ap}
use Rattle.std.proofs.KnownBytes.{Appends-trans}
use Rattle.bdb_many.specs.Labels.{labelled}
use Rattle.bdb_crowd.specs.Due.{end_line}
use Rattle.bdb_crowd.proofs.WriteLemmas.{part_as, wrote_less, wrote_part}
use Rattle.bdb_stream.proofs.HandledLemmas.{grows_as}
use Rattle.bdb_crowd.proofs.acts.write_batch.Goals as goal

pub returns-in-Err-clause-written : goal.returns-in-Err-clause-written
returns-in-Err-clause-written g c =
    let reply = c.args.reply.now in
    wrote_less (g.O.Sink.written c.args.out.now) (g.O.Sink.written c.write_labelled.new.out) (labelled c.args.number reply.text) (end_line c.args.number reply.refused reply.accepted c.args.count)
    (part_as (g.O.Sink.written c.args.out.now) (g.O.Sink.written c.write_labelled.new.out) (labelled c.args.number c.as_slice.result.now) (labelled c.args.number reply.text) (ap (labelled c.args.number) c.as_slice.ensures) c.in-Err.ensures.written)

pub returns-in-Ok-write_end-clause-written : goal.returns-in-Ok-write_end-clause-written
returns-in-Ok-write_end-clause-written g c =
    let reply = c.args.reply.now in
    Appends-trans (g.O.Sink.written c.args.out.now) (g.O.Sink.written c.write_labelled.new.out) (g.O.Sink.written c.write_end.new.out) (labelled c.args.number reply.text) (end_line c.args.number reply.refused reply.accepted c.args.count)
    (grows_as (g.O.Sink.written c.args.out.now) (g.O.Sink.written c.write_labelled.new.out) (labelled c.args.number c.as_slice.result.now) (labelled c.args.number reply.text) (ap (labelled c.args.number) c.as_slice.ensures) c.in-Ok.ensures.written)
    c.in-Ok-write_end.ensures.written

pub returns-in-Err-write_end-clause-written : goal.returns-in-Err-write_end-clause-written
returns-in-Err-write_end-clause-written g c =
    let reply = c.args.reply.now in
    wrote_part (g.O.Sink.written c.args.out.now) (g.O.Sink.written c.write_labelled.new.out) (g.O.Sink.written c.write_end.new.out) (labelled c.args.number reply.text) (end_line c.args.number reply.refused reply.accepted c.args.count)
    (grows_as (g.O.Sink.written c.args.out.now) (g.O.Sink.written c.write_labelled.new.out) (labelled c.args.number c.as_slice.result.now) (labelled c.args.number reply.text) (ap (labelled c.args.number) c.as_slice.ensures) c.in-Ok.ensures.written)
    c.in-Err-write_end.ensures.written
