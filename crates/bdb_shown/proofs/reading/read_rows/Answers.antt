use Rattle.std.proofs.Common.{length, sym, subst}
use Rattle.std.specs.List.{AllZip}
use Rattle.bdb_keep.specs.Spans.{AreRowsUnder}
use Rattle.bdb_shown.specs.Rows.{HasTupleFor, StandWithTuples}
use Rattle.bdb_shown.proofs.ReadLemmas.{read_then_ok, reads_of_both, rows_stand}
use Rattle.bdb_tables.proofs.RangeLemmas.{as_long}
use Rattle.bdb_keep.specs.declared.keeper.KeepError.TheVariants.{Fault as keep_fault}
use Rattle.bdb_tables.specs.declared.tab.TabError.TheVariants.{Fault}
use Rattle.bdb_shown.proofs.reading.read_rows.Goals as goal

pub fill_rows-requires : goal.fill_rows-requires
fill_rows-requires g c =
    let t = (g.K.Keeper.seen c.args.keeper.now).kept in
    record {
      stand = subst (λ u. StandWithTuples u c.under.new.span) (sym c.in-Ok.ensures.read.kept)
          (rows_stand t c.to_be_bytes-prefix.result c.under.new.span c.requires.grammar c.in-Ok.ensures.rows c.requires.tuples);
    }

pub returns-in-Ok-fill_rows-clause-rows : goal.returns-in-Ok-fill_rows-clause-rows
returns-in-Ok-fill_rows-clause-rows g c =
    let t = (g.K.Keeper.seen c.args.keeper.now).kept in
    record {
      stored = c.under.new.span;
      under = subst (λ p. AreRowsUnder t 11 p c.under.new.span) c.to_be_bytes-prefix.ensures c.in-Ok.ensures.rows;
      tuples = subst (λ u. AllZip (HasTupleFor u) c.under.new.span c.fill_rows.new.rows) c.in-Ok.ensures.read.kept c.in-Ok-fill_rows.ensures.rows;
    }

pub returns-in-Ok-fill_rows-clause-reads : goal.returns-in-Ok-fill_rows-clause-reads
returns-in-Ok-fill_rows-clause-reads g c =
    reads_of_both (g.K.Keeper.seen c.args.keeper.now).reads (g.K.Keeper.seen c.under.new.self).reads (g.K.Keeper.seen c.fill_rows.new.keeper).reads (length c.under.new.span) (length c.fill_rows.new.rows)
    c.in-Ok.ensures.reads c.in-Ok-fill_rows.ensures.reads
    (as_long (HasTupleFor (g.K.Keeper.seen c.under.new.self).kept) c.under.new.span c.fill_rows.new.rows c.in-Ok-fill_rows.ensures.rows)

pub returns-in-Ok-fill_rows-clause-read : goal.returns-in-Ok-fill_rows-clause-read
returns-in-Ok-fill_rows-clause-read g c =
    let r = c.in-Ok-fill_rows.ensures in
    read_then_ok (g.K.Keeper.seen c.args.keeper.now) (g.K.Keeper.seen c.under.new.self) (g.K.Keeper.seen c.fill_rows.new.keeper) tt tt tt keep_fault Fault c.in-Ok.ensures.read r.kept r.writes r.counts r.steps
