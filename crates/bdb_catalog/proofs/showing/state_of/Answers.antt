use Rattle.bdb_catalog.proofs.ShowingLemmas.{state_found}
use Rattle.bdb_catalog.proofs.showing.state_of.Goals as goal

pub returns-in-Ok-clause-found : goal.returns-in-Ok-clause-found
returns-in-Ok-clause-found g c =
    state_found (g.K.Keeper.seen c.args.keeper.now).kept c.args.path.now c.in-Ok.wid c.in-Ok.depth c.in-Ok.ensures.at
