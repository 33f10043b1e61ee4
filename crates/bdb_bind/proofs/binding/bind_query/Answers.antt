use Rattle.bdb_bind.proofs.RefusalLemmas.{few_bound_items}
use Rattle.bdb_bind.proofs.binding.bind_query.Goals as goal

pub check_safe-requires-clause-items : goal.check_safe-requires-clause-items
check_safe-requires-clause-items c = few_bound_items c.args.catalog.now c.args.query.now c.in-Ok.bound c.in_ok-items.ensures.checks c.in-Ok.ensures
