use Rattle.std.proofs.Common.{Some, refl}
use Rattle.bdb_tables.specs.InUse.{depth_codec}
use Rattle.bdb_tables.specs.declared.tab.TabError.TheVariants.{Fault}
use Rattle.bdb_tables.proofs.Numbered.{at_old}
use Rattle.bdb_update.proofs.StandingLemmas.{read_refused}
use Rattle.bdb_why.proofs.LinkLemmas.{depth_found}
use Rattle.bdb_why.proofs.descent.depth_of.Goals as goal

pub returns-in-Ok-Some-clause-depth : goal.returns-in-Ok-Some-clause-depth
returns-in-Ok-Some-clause-depth g c =
    let kept = (g.K.Keeper.seen c.args.keeper.now).kept in
    depth_found kept c.args.wid c.in-Ok-Some.depth
    (at_old depth_codec kept kept c.args.wid c.in-Ok-Some.field-0 (Some c.in-Ok-Some.depth) refl c.in-Ok-Some.field-0-is c.in-Ok-Some.ensures.found)

pub returns-in-Err-clause-read : goal.returns-in-Err-clause-read
returns-in-Err-clause-read g c = read_refused (g.K.Keeper.seen c.args.keeper.now) (g.K.Keeper.seen c.get.new.keeper) c.in-Err.error Fault c.in-Err.ensures.read
