use Rattle.std.proofs.Common.{sym}
use Rattle.bdb_base.specs.OrderLemmas.{tuple_exact}
use Rattle.bdb_base.proofs.SetLemmas.{member_belongs}
use Rattle.bdb_paths.proofs.PlaceLemmas.{place_found, place_missing}
use Rattle.bdb_stored.proofs.rows.place_of_tuple.Goals as goal

pub returns-in-Ok : goal.returns-in-Ok
returns-in-Ok c = sym (place_found tuple_exact c.args.tuples.now c.args.tuple.now c.in-Ok.at c.requires.sorted c.in-Ok.ensures)

pub returns-in-Err : goal.returns-in-Err
returns-in-Err c = sym (place_missing tuple_exact c.args.tuples.now c.args.tuple.now (member_belongs tuple_exact c.args.tuples.now c.args.tuple.now c.in-Err.field-0 c.in-Err.ensures))
