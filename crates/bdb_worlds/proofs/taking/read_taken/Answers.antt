use Rattle.std.proofs.Common.{◌∙◌, refl, Some}
use Rattle.bdb_tables.specs.InUse.{edge_codec}
use Rattle.bdb_tables.proofs.Numbered.{at_old}
use Rattle.bdb_tables.proofs.Held.{edges_fit}
use Rattle.bdb_worlds.proofs.TakenLemmas.{taken_is}
use Rattle.bdb_worlds.proofs.taking.read_taken.Goals as goal

pub get-requires-clause-grammar : goal.get-requires-clause-grammar
get-requires-clause-grammar g c = edges_fit _ c.requires.grammar

pub returns-clause-taken : goal.returns-clause-taken
returns-clause-taken g c =
    let t = (g.K.Keeper.seen c.args.keeper.now).kept in
    taken_is t (g.K.Keeper.seen c.get.new.keeper).kept (g.K.Keeper.seen c.movers.new.keeper).kept c.args.start c.args.uid c.in-Ok-Some.from _ _ _
    c.in-Ok-Some.ensures.read.kept (c.in-Ok.ensures.kept ∙ c.in-Ok-Some.ensures.read.kept)
    (at_old edge_codec t t _ c.in-Ok-Some.field-0 (Some c.in-Ok-Some.from) refl c.in-Ok-Some.field-0-is c.in-Ok-Some.ensures.found)
    c.in-Ok.ensures.found c.in-Ok-edges_but.ensures.edges
