use Rattle.std.proofs.Common.{sym, subst, rules, Some, None}
use Rattle.bdb_key.specs.Grammar.{IsNum}
use Rattle.bdb_tables.specs.Codec.{HasFirst}
use Rattle.bdb_tables.specs.InUse.{edge_codec}
use Rattle.bdb_tables.proofs.Held.{edges_fit}
use Rattle.bdb_worlds.specs.Owns.{HasNextEdge}
use Rattle.bdb_worlds.proofs.OwnLemmas.{edge_from_low, edge_none, edge_some}
use Rattle.bdb_worlds.proofs.owning.next_edge.Goals as goal

pub next_in-requires-clause-grammar : goal.next_in-requires-clause-grammar
next_in-requires-clause-grammar g c = edges_fit _ c.requires.grammar

pub returns-in-Ok-Some-clause-edge : goal.returns-in-Ok-Some-clause-edge
returns-in-Ok-Some-clause-edge g c =
    let kept = (g.K.Keeper.seen c.args.keeper.now).kept in
    let size : IsNum c.args.wid = search rules in
    let first : HasFirst edge_codec kept (edge_from_low c.args.wid c.args.low) (Some c.in-Ok-Some.entry) =
    subst (HasFirst edge_codec kept (edge_from_low c.args.wid c.args.low)) c.in-Ok-Some.field-0-is c.in-Ok-Some.ensures.found in
    subst (HasNextEdge kept c.args.wid c.args.low) (sym c.edge_in.ensures) (edge_some kept c.args.wid c.args.low c.in-Ok-Some.entry.0 c.in-Ok-Some.entry.1 size first)

pub returns-in-Ok-None-clause-edge : goal.returns-in-Ok-None-clause-edge
returns-in-Ok-None-clause-edge g c =
    let kept = (g.K.Keeper.seen c.args.keeper.now).kept in
    let size : IsNum c.args.wid = search rules in
    let first : HasFirst edge_codec kept (edge_from_low c.args.wid c.args.low) None =
    subst (HasFirst edge_codec kept (edge_from_low c.args.wid c.args.low)) c.in-Ok-None.field-0-is c.in-Ok-None.ensures.found in
    edge_none kept c.args.wid c.args.low size first
