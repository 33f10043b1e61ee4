use Rattle.std.proofs.Common.{Some, None}
use Rattle.bdb_tables.specs.InUse.{depth_codec}
use Rattle.bdb_tables.proofs.Numbered.{at_old}
use Rattle.bdb_worlds.proofs.WalkLemmas.{depth_there, ends_at_it}
use Rattle.bdb_worlds.proofs.walk.deepest_state.Goals as goal

pub unreachable-requires : goal.unreachable-requires
unreachable-requires g c =
    let kept = (g.K.Keeper.seen c.args.keeper.now).kept in
    depth_there kept c.args.path.now c.in-Ok.wid c.in-Ok.ensures.found c.requires.states
    (at_old depth_codec kept (g.K.Keeper.seen c.resolve.new.keeper).kept c.in-Ok.wid c.in-Ok-None.field-0 None c.in-Ok.ensures.kept c.in-Ok-None.field-0-is c.in-Ok-None.ensures.found)

pub returns-in-Ok-Some-clause-at : goal.returns-in-Ok-Some-clause-at
returns-in-Ok-Some-clause-at g c =
    let kept = (g.K.Keeper.seen c.args.keeper.now).kept in
    ends_at_it kept c.args.path.now c.in-Ok.wid c.in-Ok.ensures.found c.in-Ok-Some.depth
    (at_old depth_codec kept (g.K.Keeper.seen c.resolve.new.keeper).kept c.in-Ok.wid c.in-Ok-Some.field-0 (Some c.in-Ok-Some.depth) c.in-Ok.ensures.kept c.in-Ok-Some.field-0-is c.in-Ok-Some.ensures.found)
