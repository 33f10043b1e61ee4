use Rattle.std.proofs.Common.{sym}
use Rattle.std.specs.List.{slice_get}
use Rattle.bdb_trans.proofs.TurnLemmas.{none_made}
use Rattle.bdb_trans.proofs.items.append_place.Goals as goal

pub returns-in_ok-append_due-in-None : goal.returns-in_ok-append_due-in-None
returns-in_ok-append_due-in-None c =
    none_made c.args.scope.now.rels.now c.args.scope.now.query.now c.args.set.now c.args.at (slice_get c.args.scope.now.query.now.items c.args.at) c.as_slice.result.now c.args.steps.now c.append_due.new.steps
    (sym c.in-None.ensures) c.as_slice.ensures c.in_ok-append_due-in-None.ensures
