use Rattle.bdb_key.proofs.Readings.{rel_key, rel_no_length}
use Rattle.bdb_key.proofs.row_read.key_length_of.Goals as goal

pub returns-in_err-key : goal.returns-in_err-key
returns-in_err-key c =
    rw c.from_residual-in_err-key.ensures (rel_no_length c.args.bytes.now c.in_ok-rest.rest.now c.in_ok-rest.field-0-0.now c.in_ok-rest.ensures c.in_err-key.ensures)

pub returns : goal.returns
returns c =
    rel_key c.args.bytes.now c.in_ok-rest.rest.now c.in_ok-rest.field-0-0.now c.in_ok-rest.ensures c.in_ok-key.field-0-1.now c.in_ok-key.key c.in_ok-key.ensures
