use Rattle.bdb_key.proofs.Readings.{no_text}
use Rattle.bdb_key.proofs.read.plain_text_of.Goals as goal

pub returns-in_err-text : goal.returns-in_err-text
returns-in_err-text c =
    rw (c.from_residual-in_err-text.ensures, c.in_ok-after_mark.ensures)
    (no_text c.in_ok-after_mark.field-0.now c.in_ok-front.front.now c.in_ok-front.rest.now c.in_ok-front.ensures c.in_err-text.ensures)
