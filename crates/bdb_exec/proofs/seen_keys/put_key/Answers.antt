use Rattle.std.proofs.Common.{◌∙◌}
use Rattle.bdb_base.specs.Order.{row_cmp}
use Rattle.bdb_base.specs.OrderLemmas.{row_exact}
use Rattle.bdb_queries.proofs.InsertLemmas.{insert_is_put}
use Rattle.bdb_exec.proofs.seen_keys.put_key.Goals as goal

pub returns : goal.returns
returns c = c.in-Ok.ensures.keys ∙ insert_is_put row_cmp row_exact.total c.args.keys.now.keys c.args.key
