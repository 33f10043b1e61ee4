use Rattle.std.proofs.Common.{◌++◌}
use Rattle.bdb_key.specs.Bytes.{num_bytes, vals_bytes}
use Rattle.bdb_tables.proofs.PartLemmas.{three_more}
use Rattle.bdb_tables.proofs.keys.push_val_key.Goals as goal

pub returns-clause-ok : goal.returns-clause-ok
returns-clause-ok c =
    three_more c.args.out.now.items c.put_pair.new.out.items c.put_key_vals.new.out.items c.put_num.new.out.items (num_bytes c.args.wid ++ num_bytes c.args.rel) (vals_bytes c.args.key.now)
    (num_bytes c.args.tid) c.in_ok-put_pair.ensures.ok c.in_ok-put_key_vals.ensures.ok c.in_ok-put_num.ensures.ok
