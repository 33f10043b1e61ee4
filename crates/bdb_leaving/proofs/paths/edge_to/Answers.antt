use Rattle.std.proofs.Common.{subst, Some}
use Rattle.bdb_tables.specs.Codec.{HasFirst}
use Rattle.bdb_tables.specs.InUse.{led_codec}
use Rattle.bdb_worlds.proofs.ReadLemmas.{led_fit}
use Rattle.bdb_leaving.proofs.EdgeLemmas.{edge_there, first_leads, from_first}
use Rattle.bdb_leaving.proofs.paths.edge_to.Goals as goal

pub next_in-requires-clause-grammar : goal.next_in-requires-clause-grammar
next_in-requires-clause-grammar g c = led_fit _ c.requires.grammar

pub unreachable-requires : goal.unreachable-requires
unreachable-requires g c =
    let kept = (g.K.Keeper.seen c.args.keeper.now).kept in
    edge_there kept c.args.wid c.requires.led (subst (HasFirst led_codec kept (from_first c.args.wid)) c.in-Ok-None.field-0-is c.in-Ok-None.ensures.found)

pub returns-in-Ok-Some-clause-edge : goal.returns-in-Ok-Some-clause-edge
returns-in-Ok-Some-clause-edge g c =
    let kept = (g.K.Keeper.seen c.args.keeper.now).kept in
    let first : HasFirst led_codec kept (from_first c.args.wid) (Some c.in-Ok-Some.edge) =
    subst (HasFirst led_codec kept (from_first c.args.wid)) c.in-Ok-Some.field-0-is c.in-Ok-Some.ensures.found in
    first_leads kept c.args.wid c.requires.led c.in-Ok-Some.edge.0 c.in-Ok-Some.edge.1 first
