use Rattle.std.proofs.Common.{sym, subst}
use Rattle.bdb_tables.specs.Grammar.{InGrammar}
use Rattle.bdb_graph.proofs.LinkLemmas.{links_known, no_links}
use Rattle.bdb_graph.proofs.links.are_links_held.Goals as goal

pub returns-in-Ok-false-clause-held : goal.returns-in-Ok-false-clause-held
returns-in-Ok-false-clause-held g c =
    no_links (g.K.Keeper.seen c.args.keeper.now).kept c.args.worlds.now c.args.paths.now c.requires.worlds c.in-Ok-false.field-0 c.in-Ok-false.field-0-test c.in-Ok-false.ensures.links

pub returns-in-Ok-clause-held : goal.returns-in-Ok-clause-held
returns-in-Ok-clause-held g c =
    links_known (g.K.Keeper.seen c.args.keeper.now).kept c.args.worlds.now c.args.paths.now c.requires.worlds (g.K.Keeper.seen c.each_has_link.new.keeper).kept c.in-Ok-true.field-0 c.in-Ok.are
    c.in-Ok-true.ensures.reading.kept (λ k r found. c.requires.grammar 7 k r found) c.in-Ok-true.field-0-test c.in-Ok-true.ensures.links c.in-Ok.ensures.keys

pub are_links_of_worlds-requires-clause-grammar : goal.are_links_of_worlds-requires-clause-grammar
are_links_of_worlds-requires-clause-grammar g c = subst InGrammar (sym c.in-Ok-true.ensures.reading.kept) c.requires.grammar
