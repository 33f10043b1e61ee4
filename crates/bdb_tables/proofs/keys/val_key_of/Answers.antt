use Rattle.bdb_tables.proofs.PartLemmas.{val_none_pair, val_none_tuple}
use Rattle.bdb_tables.proofs.keys.val_key_of.Goals as goal

pub returns-in-None-clause-none : goal.returns-in-None-clause-none
returns-in-None-clause-none c _ = val_none_pair c.args.bytes.now c.in-None.ensures

pub returns-in-None-only_num-clause-none : goal.returns-in-None-only_num-clause-none
returns-in-None-only_num-clause-none c _ =
    val_none_tuple c.args.bytes.now c.in-Some.found.1.now c.in_ok-key.rest.now c.in-Some.found.0 c.in_ok-key.key c.in-Some.ensures c.in_ok-key.ensures.ok c.in-None-only_num.ensures
