use Rattle.std.proofs.Common.{length, sym, ◌∙◌}
use Rattle.bdb_tables.specs.Spans.{Spells}
use Rattle.bdb_tables.proofs.RangeLemmas.{read_fits, spelled_under, as_long, reads_at_most, reads_each}
use Rattle.bdb_tables.proofs.spans.rows_under.Goals as goal

pub entries_from-requires : goal.entries_from-requires
entries_from-requires g c =
    read_fits g.T.Tab.codec (g.K.Keeper.seen c.args.keeper.now).kept c.NUMBER.result c.args.prefix.now c.under.new.span (c.NUMBER.ensures ∙ sym g.met.T.Tab.number_ok.2) c.requires.grammar c.in-Ok.ensures.rows

pub returns-in-Ok-entries_from-clause-rows : goal.returns-in-Ok-entries_from-clause-rows
returns-in-Ok-entries_from-clause-rows g c =
    spelled_under g.T.Tab.codec (g.K.Keeper.seen c.args.keeper.now).kept c.NUMBER.result c.args.prefix.now c.under.new.span c.in-Ok-entries_from.rows.items (c.NUMBER.ensures ∙ sym g.met.T.Tab.number_ok.2) c.in-Ok.ensures.rows
    c.in-Ok-entries_from.ensures

pub returns-in-Ok-entries_from-clause-reads : goal.returns-in-Ok-entries_from-clause-reads
returns-in-Ok-entries_from-clause-reads g c =
    reads_at_most (g.K.Keeper.seen c.args.keeper.now).reads (g.K.Keeper.seen c.under.new.self).reads (length c.under.new.span) (length c.in-Ok-entries_from.rows.items) c.in-Ok.ensures.reads
    (as_long (Spells g.T.Tab.codec) c.under.new.span c.in-Ok-entries_from.rows.items c.in-Ok-entries_from.ensures)

pub returns-in-Ok-entries_from-clause-each_read : goal.returns-in-Ok-entries_from-clause-each_read
returns-in-Ok-entries_from-clause-each_read g c =
    reads_each (g.K.Keeper.seen c.args.keeper.now).reads (g.K.Keeper.seen c.under.new.self).reads (length c.under.new.span) (length c.in-Ok-entries_from.rows.items) c.in-Ok.ensures.reads
    (as_long (Spells g.T.Tab.codec) c.under.new.span c.in-Ok-entries_from.rows.items c.in-Ok-entries_from.ensures)
