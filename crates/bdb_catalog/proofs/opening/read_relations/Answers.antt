use Rattle.bdb_catalog.proofs.OpeningLemmas.{some_grammar}
use Rattle.bdb_catalog.proofs.opening.read_relations.Goals as goal

pub stored_relations-requires : goal.stored_relations-requires
stored_relations-requires g c = record { grammar = some_grammar (g.K.Keeper.seen c.args.keeper.now).kept c.requires.base }

pub returns-in-Ok-clause-relations : goal.returns-in-Ok-clause-relations
returns-in-Ok-clause-relations g c = λ b h. c.in-Ok.ensures.relations b.catalog.rels h.stored.stored.rels
