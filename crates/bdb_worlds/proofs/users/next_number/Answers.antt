use Rattle.std.proofs.Common.{subst, Some, None}
use Rattle.bdb_tables.specs.Codec.{HasFirst}
use Rattle.bdb_tables.specs.InUse.{depth_codec}
use Rattle.bdb_tables.proofs.Held.{depths_fit}
use Rattle.bdb_worlds.proofs.UserEdgeLemmas.{number_from_low, number_none, number_some}
use Rattle.bdb_worlds.proofs.users.next_number.Goals as goal

pub next-requires-clause-grammar : goal.next-requires-clause-grammar
next-requires-clause-grammar g c = depths_fit _ c.requires.grammar

pub returns-in-Ok-Some-clause-number : goal.returns-in-Ok-Some-clause-number
returns-in-Ok-Some-clause-number g c =
    let kept = (g.K.Keeper.seen c.args.keeper.now).kept in
    let first : HasFirst depth_codec kept (number_from_low c.args.low) (Some c.in-Ok-Some.entry) =
    subst (HasFirst depth_codec kept (number_from_low c.args.low)) c.in-Ok-Some.field-0-is c.in-Ok-Some.ensures.found in
    number_some kept c.args.low c.in-Ok-Some.entry.0 c.in-Ok-Some.entry.1 first

pub returns-in-Ok-None-clause-number : goal.returns-in-Ok-None-clause-number
returns-in-Ok-None-clause-number g c =
    let kept = (g.K.Keeper.seen c.args.keeper.now).kept in
    let first : HasFirst depth_codec kept (number_from_low c.args.low) None =
    subst (HasFirst depth_codec kept (number_from_low c.args.low)) c.in-Ok-None.field-0-is c.in-Ok-None.ensures.found in
    number_none kept c.args.low first
