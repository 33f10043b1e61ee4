use Rattle.bdb_catalog.proofs.UserLemmas.{gone_added}
use Rattle.bdb_catalog.proofs.users.add_gone_place.Goals as goal

pub returns-in-Ok-clause-added : goal.returns-in-Ok-clause-added
returns-in-Ok-clause-added g c =
    gone_added (g.K.Keeper.seen c.args.keeper.now).kept (g.K.Keeper.seen c.put.new.keeper).kept c.args.uid c.in-Ok.ensures.key_fits c.in-Ok.ensures.kept
