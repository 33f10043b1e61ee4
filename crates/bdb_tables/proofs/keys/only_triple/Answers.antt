use Rattle.bdb_tables.proofs.PartLemmas.{triple_none_pair}
use Rattle.bdb_tables.proofs.keys.only_triple.Goals as goal

pub returns-in-None : goal.returns-in-None
returns-in-None c = triple_none_pair c.args.bytes.now c.in-None.ensures
