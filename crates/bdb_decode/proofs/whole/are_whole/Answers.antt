use Rattle.bdb_entries.proofs.ReadLemmas.{past}
use Rattle.bdb_entries.proofs.TupleLemmas.{holding}
use Rattle.bdb_decode.proofs.WholeLemmas.{tells_whole}
use Rattle.bdb_decode.proofs.whole.are_whole.Goals as goal

pub returns-in-Ok : goal.returns-in-Ok
returns-in-Ok c =
    tells_whole c.args.catalog.now c.args.worlds.now c.args.tuples.now c.args.stmts.now c.in-Ok.named
    (holding _ _ c.in-Ok-true.field-0 c.in-Ok-true.field-0-test c.in-Ok-true.ensures) c.in-Ok.ensures

pub returns-in-Ok-false : goal.returns-in-Ok-false
returns-in-Ok-false c = λ w. past _ _ c.in-Ok-false.field-0 c.in-Ok-false.field-0-test c.in-Ok-false.ensures w.valid
