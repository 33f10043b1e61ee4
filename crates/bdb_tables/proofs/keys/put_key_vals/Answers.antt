use Rattle.bdb_tables.proofs.PartLemmas.{written_key}
use Rattle.bdb_tables.proofs.keys.put_key_vals.Goals as goal

pub returns-in-Ok-clause-fits : goal.returns-in-Ok-clause-fits
returns-in-Ok-clause-fits c = written_key c.args.key.now c.requires c.in-Ok.ensures.whole
