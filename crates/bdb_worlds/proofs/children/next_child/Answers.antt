use Rattle.std.proofs.Common.{sym, subst, rules, Some, None}
use Rattle.bdb_key.specs.Grammar.{IsNum}
use Rattle.bdb_tables.specs.Codec.{HasFirst}
use Rattle.bdb_tables.specs.InUse.{linked_codec}
use Rattle.bdb_worlds.specs.Finds.{HasNextChild}
use Rattle.bdb_worlds.proofs.ReadLemmas.{from_low, linked_fit, child_none, child_some}
use Rattle.bdb_worlds.proofs.children.next_child.Goals as goal

pub next_in-requires-clause-grammar : goal.next_in-requires-clause-grammar
next_in-requires-clause-grammar g c = linked_fit _ c.requires.grammar

pub returns-in-Ok-Some-clause-child : goal.returns-in-Ok-Some-clause-child
returns-in-Ok-Some-clause-child g c =
    let kept = (g.K.Keeper.seen c.args.keeper.now).kept in
    let size : IsNum c.args.wid = search rules in
    let first : HasFirst linked_codec kept (from_low c.args.wid c.args.low) (Some c.in-Ok-Some.entry) =
    subst (HasFirst linked_codec kept (from_low c.args.wid c.args.low)) c.in-Ok-Some.field-0-is c.in-Ok-Some.ensures.found in
    subst (HasNextChild kept c.args.wid c.args.low) (sym c.child_of.ensures) (child_some kept c.args.wid c.args.low c.in-Ok-Some.entry.0 c.in-Ok-Some.entry.1 size first)

pub returns-in-Ok-None-clause-child : goal.returns-in-Ok-None-clause-child
returns-in-Ok-None-clause-child g c =
    let kept = (g.K.Keeper.seen c.args.keeper.now).kept in
    let size : IsNum c.args.wid = search rules in
    let first : HasFirst linked_codec kept (from_low c.args.wid c.args.low) None =
    subst (HasFirst linked_codec kept (from_low c.args.wid c.args.low)) c.in-Ok-None.field-0-is c.in-Ok-None.ensures.found in
    child_none kept c.args.wid c.args.low size first
