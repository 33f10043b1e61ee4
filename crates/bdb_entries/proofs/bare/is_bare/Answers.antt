use Rattle.bdb_entries.proofs.ReadLemmas.{some_row}
use Rattle.bdb_entries.proofs.bare.is_bare.Goals as goal

pub returns-in-Ok-true-clause-bare : goal.returns-in-Ok-true-clause-bare
returns-in-Ok-true-clause-bare g c =
    some_row (g.K.Keeper.seen c.args.keeper.now).kept c.args.tab _ c.next.new.key.items c.next.new.row.items c.in-Ok-true.field-0 c.in-Ok-true.field-0-test c.in-Ok-true.ensures.found
