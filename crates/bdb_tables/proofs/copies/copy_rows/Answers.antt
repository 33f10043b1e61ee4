use Rattle.std.proofs.Common.{◌∙◌, length, refl, ap, subst}
use Rattle.bdb_keep.specs.Spans.{AreRowsUnder, with_rows}
use Rattle.bdb_key.specs.Bytes.{num_bytes}
use Rattle.bdb_tables.specs.Copies.{IsCopyOf, copied}
use Rattle.bdb_tables.specs.InUse.{val_codec}
use Rattle.bdb_tables.proofs.CopyLemmas.{all_copied, are_changed, changed_grammar, reads_then, with_copies, writes_then}
use Rattle.bdb_tables.proofs.RangeLemmas.{as_long, read_fits}
use Rattle.bdb_tables.proofs.copies.copy_rows.Goals as goal

pub make_copies-requires : goal.make_copies-requires
make_copies-requires g c =
    read_fits val_codec (g.K.Keeper.seen c.args.keeper.now).kept 11 c.to_be_bytes-prefix.result c.under.new.span refl (λ k r found. c.requires.grammar 11 k r found) c.in-Ok.ensures.rows

pub returns-in-Ok-put_all-clause-copied : goal.returns-in-Ok-put_all-clause-copied
returns-in-Ok-put_all-clause-copied g c =
    let old = (g.K.Keeper.seen c.args.keeper.now).kept in
    let new = (g.K.Keeper.seen c.put_all.new.self).kept in
    let span = c.under.new.span in
    let copies = c.make_copies.new.span in
    let rows = subst (λ p. AreRowsUnder old 11 p span) c.to_be_bytes-prefix.ensures c.in-Ok.ensures.rows in
    are_changed (copied c.args.to) old new (num_bytes c.args.from) span (with_copies copies) c.len.result rows (all_copied c.args.to span copies c.make_copies.ensures)
    (c.in-Ok-put_all.ensures.kept ∙ ap (λ t. with_rows 11 t copies) c.in-Ok.ensures.read.kept)
    (c.len.ensures ∙ as_long (IsCopyOf c.args.to) span copies c.make_copies.ensures)

pub returns-in-Ok-put_all-clause-reads : goal.returns-in-Ok-put_all-clause-reads
returns-in-Ok-put_all-clause-reads g c =
    reads_then (g.K.Keeper.seen c.args.keeper.now).reads (g.K.Keeper.seen c.under.new.self).reads (g.K.Keeper.seen c.put_all.new.self).reads (length c.under.new.span) c.len.result
    c.in-Ok.ensures.reads c.in-Ok-put_all.ensures.write.reads
    (c.len.ensures ∙ as_long (IsCopyOf c.args.to) c.under.new.span c.make_copies.new.span c.make_copies.ensures)

pub returns-in-Ok-put_all-clause-writes : goal.returns-in-Ok-put_all-clause-writes
returns-in-Ok-put_all-clause-writes g c =
    writes_then (g.K.Keeper.seen c.args.keeper.now).writes (g.K.Keeper.seen c.under.new.self).writes (g.K.Keeper.seen c.put_all.new.self).writes (length c.make_copies.new.span) c.len.result
    c.in-Ok.ensures.read.writes c.in-Ok-put_all.ensures.writes c.len.ensures

pub returns-in-Ok-put_all-clause-grammar : goal.returns-in-Ok-put_all-clause-grammar
returns-in-Ok-put_all-clause-grammar g c =
    changed_grammar (copied c.args.to) (g.K.Keeper.seen c.args.keeper.now).kept (g.K.Keeper.seen c.put_all.new.self).kept (num_bytes c.args.from) c.len.result
    (returns-in-Ok-put_all-clause-copied g c) c.requires.grammar
