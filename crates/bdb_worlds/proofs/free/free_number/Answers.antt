use Rattle.std.proofs.Common.{subst, rules, None}
use Rattle.bdb_key.specs.Grammar.{IsNum}
use Rattle.bdb_tables.specs.Codec.{HasFirst}
use Rattle.bdb_tables.specs.InUse.{depth_codec}
use Rattle.bdb_tables.proofs.Held.{depths_fit}
use Rattle.bdb_worlds.proofs.FreeLemmas.{count_is_free, gap_is_free}
use Rattle.bdb_worlds.proofs.UserEdgeLemmas.{number_from_low}
use Rattle.bdb_worlds.proofs.free.free_number.Goals as goal

pub next-requires-clause-grammar : goal.next-requires-clause-grammar
next-requires-clause-grammar g c = depths_fit _ c.requires.grammar

pub returns-in-Ok-None-clause-number : goal.returns-in-Ok-None-clause-number
returns-in-Ok-None-clause-number g c =
    let kept = (g.K.Keeper.seen c.args.keeper.now).kept in
    let size : IsNum c.args.worlds = search rules in
    let first : HasFirst depth_codec kept (number_from_low c.args.worlds) None =
    subst (HasFirst depth_codec kept (number_from_low c.args.worlds)) c.in-Ok-None.field-0-is c.in-Ok-None.ensures.found in
    count_is_free kept c.args.worlds c.args.low size first

pub returns-in-Ok-clause-number : goal.returns-in-Ok-clause-number
returns-in-Ok-clause-number g c =
    gap_is_free (g.K.Keeper.seen c.args.keeper.now).kept (g.K.Keeper.seen c.next.new.keeper).kept c.args.worlds c.args.low c.in-Ok.number c.in-Ok-Some.ensures.read.kept c.in-Ok.ensures.gap
