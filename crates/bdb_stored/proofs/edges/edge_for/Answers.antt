use Rattle.std.proofs.Common.{Some, None, refl}
use Rattle.bdb_tables.specs.InUse.{edge_codec}
use Rattle.bdb_tables.proofs.Numbered.{at_old}
use Rattle.bdb_tables.proofs.Held.{edges_fit}
use Rattle.bdb_stored.proofs.LinkLemmas.{told_edge, told_no_edge}
use Rattle.bdb_stored.proofs.edges.edge_for.Goals as goal

pub get-requires-clause-grammar : goal.get-requires-clause-grammar
get-requires-clause-grammar g c = edges_fit (g.K.Keeper.seen c.args.keeper.now).kept c.requires.grammar

pub returns-in-Ok-Some-clause-edge : goal.returns-in-Ok-Some-clause-edge
returns-in-Ok-Some-clause-edge g c =
    let t = (g.K.Keeper.seen c.args.keeper.now).kept in
    let x = c.args.world.now in
    told_edge t c.args.worlds.now x c.args.from c.args.uid c.in-Ok-Some.target c.place_of_number-to.result
    (at_old edge_codec t t (x.wid, c.args.uid) c.in-Ok-Some.field-0 (Some c.in-Ok-Some.target) refl c.in-Ok-Some.field-0-is c.in-Ok-Some.ensures.found) c.place_of_number-to.ensures.value

pub returns-in-Ok-None-clause-edge : goal.returns-in-Ok-None-clause-edge
returns-in-Ok-None-clause-edge g c =
    let t = (g.K.Keeper.seen c.args.keeper.now).kept in
    let x = c.args.world.now in
    told_no_edge t c.args.worlds.now x c.args.from c.args.uid (at_old edge_codec t t (x.wid, c.args.uid) c.in-Ok-None.field-0 None refl c.in-Ok-None.field-0-is c.in-Ok-None.ensures.found)
