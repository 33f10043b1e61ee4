use Rattle.bdb_decode.proofs.SettlesLemmas.{found_here}
use Rattle.bdb_decode.proofs.settles.mark_from.Goals as goal

pub returns-then-row-tid : goal.returns-then-row-tid
returns-then-row-tid c =
    found_here c.args.rows.now c.loop-place.place c.args.tid c.index-rows-place.result c.loop-place-test.true c.index-rows-place.is c.requires c.if-row-tid.true
