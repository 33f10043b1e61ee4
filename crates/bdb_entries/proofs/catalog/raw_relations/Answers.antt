use Rattle.std.proofs.Common.{None}
use Rattle.bdb_tables.specs.declared.tab.TabError.TheVariants.{Fault}
use Rattle.bdb_tables.proofs.Loops.{read_answers}
use Rattle.bdb_entries.proofs.NumberedLemmas.{tells_relations}
use Rattle.bdb_entries.proofs.ReadLemmas.{some_told}
use Rattle.bdb_entries.proofs.catalog.raw_relations.Goals as goal

pub returns-in-Ok-clause-relations : goal.returns-in-Ok-clause-relations
returns-in-Ok-clause-relations g c =
    tells_relations (g.K.Keeper.seen c.args.keeper.now).kept c.in-Ok-Some.rows.items c.in-Ok.rels
    (some_told _ _ c.in-Ok-Some.field-0 c.in-Ok-Some.rows c.in-Ok-Some.field-0-is c.in-Ok-Some.ensures.rows) c.in-Ok.ensures

pub returns-in-Ok-None-clause-read : goal.returns-in-Ok-None-clause-read
returns-in-Ok-None-clause-read g c = read_answers _ _ c.in-Ok-None.field-0 None Fault c.in-Ok-None.ensures.read
