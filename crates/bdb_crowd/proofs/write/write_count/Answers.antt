use Rattle.std.proofs.Common.{[], ◌∷◌, ◌++◌}
use Rattle.std.specs.Fmt.{decimal}
use Rattle.bdb_many.specs.Labels.{label}
use Rattle.bdb_crowd.proofs.WriteLemmas.{wrote_part}
use Rattle.bdb_crowd.proofs.write.write_count.Goals as goal

pub returns-in-Err-write_number-clause-written : goal.returns-in-Err-write_number-clause-written
returns-in-Err-write_number-clause-written g c =
    wrote_part (g.O.Sink.written c.args.out.now) (g.O.Sink.written c.write_line.new.out) (g.O.Sink.written c.write_number.new.out) (label c.args.session ++ c.args.told.now)
    (decimal c.args.number ++ 10 ∷ []) c.in-Ok.ensures.written c.in-Err-write_number.ensures.written
