use Rattle.std.proofs.Common.{◌∙◌, length, refl, ap, subst}
use Rattle.bdb_keep.specs.Spans.{AreRowsUnder, without_rows}
use Rattle.bdb_key.specs.Bytes.{num_bytes}
use Rattle.bdb_tables.specs.Copies.{removed}
use Rattle.bdb_tables.specs.InUse.{val_codec}
use Rattle.bdb_tables.proofs.CopyLemmas.{all_removed, are_changed, changed_grammar, reads_then, without_keys, writes_then}
use Rattle.bdb_tables.proofs.RangeLemmas.{read_fits}
use Rattle.bdb_tables.proofs.copies.clear_rows.Goals as goal

pub returns-in-Ok-remove_all-clause-cleared : goal.returns-in-Ok-remove_all-clause-cleared
returns-in-Ok-remove_all-clause-cleared g c =
    let old = (g.K.Keeper.seen c.args.keeper.now).kept in
    let new = (g.K.Keeper.seen c.remove_all.new.self).kept in
    let span = c.under.new.span in
    let rows = subst (λ p. AreRowsUnder old 11 p span) c.to_be_bytes-prefix.ensures c.in-Ok.ensures.rows in
    let fits = read_fits val_codec old 11 (num_bytes c.args.wid) span refl (λ k r found. c.requires.grammar 11 k r found) rows in
    are_changed removed old new (num_bytes c.args.wid) span (without_keys span) c.len.result rows (all_removed span fits)
    (c.in-Ok-remove_all.ensures.kept ∙ ap (λ t. without_rows 11 t span) c.in-Ok.ensures.read.kept) c.len.ensures

pub returns-in-Ok-remove_all-clause-reads : goal.returns-in-Ok-remove_all-clause-reads
returns-in-Ok-remove_all-clause-reads g c =
    reads_then (g.K.Keeper.seen c.args.keeper.now).reads (g.K.Keeper.seen c.under.new.self).reads (g.K.Keeper.seen c.remove_all.new.self).reads (length c.under.new.span) c.len.result
    c.in-Ok.ensures.reads c.in-Ok-remove_all.ensures.write.reads c.len.ensures

pub returns-in-Ok-remove_all-clause-writes : goal.returns-in-Ok-remove_all-clause-writes
returns-in-Ok-remove_all-clause-writes g c =
    writes_then (g.K.Keeper.seen c.args.keeper.now).writes (g.K.Keeper.seen c.under.new.self).writes (g.K.Keeper.seen c.remove_all.new.self).writes (length c.under.new.span) c.len.result
    c.in-Ok.ensures.read.writes c.in-Ok-remove_all.ensures.writes c.len.ensures

pub returns-in-Ok-remove_all-clause-grammar : goal.returns-in-Ok-remove_all-clause-grammar
returns-in-Ok-remove_all-clause-grammar g c =
    changed_grammar removed (g.K.Keeper.seen c.args.keeper.now).kept (g.K.Keeper.seen c.remove_all.new.self).kept (num_bytes c.args.wid) c.len.result
    (returns-in-Ok-remove_all-clause-cleared g c) c.requires.grammar
