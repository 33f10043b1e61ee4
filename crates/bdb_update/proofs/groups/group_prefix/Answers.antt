use Rattle.bdb_update.proofs.KeyLemmas.{key_short}
use Rattle.bdb_update.proofs.groups.group_prefix.Goals as goal

pub put_vals-requires : goal.put_vals-requires
put_vals-requires c = key_short c.args.n c.args.tuple.now c.key_of.result.now c.ranges.n.fits c.key_of.ensures
