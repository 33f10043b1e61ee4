use Rattle.std.proofs.Common.{None, subst, rules}
use Rattle.bdb_key.specs.Grammar.{IsNum}
use Rattle.bdb_tables.specs.Codec.{HasFirst}
use Rattle.bdb_tables.specs.InUse.{tuple_codec}
use Rattle.bdb_worlds.proofs.UserEdgeLemmas.{number_from_low}
use Rattle.bdb_update.proofs.LeastNumbers.{count_is_least, gap_is_least}
use Rattle.bdb_update.proofs.joining.free_tuple.Goals as goal

pub next-requires-clause-grammar : goal.next-requires-clause-grammar
next-requires-clause-grammar g c = λ k r found. c.requires.grammar 4 k r found

pub returns-in-Ok-None-clause-least : goal.returns-in-Ok-None-clause-least
returns-in-Ok-None-clause-least g c =
    let kept = (g.K.Keeper.seen c.args.keeper.now).kept in
    let size : IsNum c.args.tuples = search rules in
    let first : HasFirst tuple_codec kept (number_from_low c.args.tuples) None =
    subst (HasFirst tuple_codec kept (number_from_low c.args.tuples)) c.in-Ok-None.field-0-is c.in-Ok-None.ensures.found in
    count_is_least kept c.args.tuples size c.requires.counted first

pub returns-in-Ok-clause-least : goal.returns-in-Ok-clause-least
returns-in-Ok-clause-least g c =
    gap_is_least (g.K.Keeper.seen c.args.keeper.now).kept (g.K.Keeper.seen c.next.new.keeper).kept c.in-Ok.tid c.in-Ok-Some.ensures.read.kept c.in-Ok.ensures.gap
