use Rattle.std.proofs.Common.{◌∙◌, ℕ, List, map, sym, subst}
use Rattle.bdb_keep.specs.Tables.{Tables}
use Rattle.bdb_tables.specs.Codec.{TableFits}
use Rattle.bdb_tables.specs.InUse.{val_codec}
use Rattle.bdb_tables.specs.Spans.{AreUnder}
use Rattle.bdb_tables.specs.GroupMarks.{group_bytes, in_group}
use Rattle.bdb_val.proofs.reading.group_marks.Goals as goal

pub returns-in-Ok-marks_under-clause-rows : goal.returns-in-Ok-marks_under-clause-rows
returns-in-Ok-marks_under-clause-rows g c =
    let wid = c.args.wid in
    let rel = c.args.rel in
    let v = c.args.key.now in
    let rows = map (in_group wid rel v) c.marks_under.new.rows.items in
    let same = c.deref.ensures.value ∙ c.in-Ok.ensures.bytes in
    subst (λ (t : Tables). AreUnder val_codec t (group_bytes wid rel v) rows) c.in-Ok.ensures.read.kept
    (subst (λ (xs : List ℕ). AreUnder val_codec (g.K.Keeper.seen c.begin_group.new.keeper).kept xs rows) same
    (c.in-Ok-marks_under.ensures.rows wid rel v (record { world = c.ranges.wid.fits; rel = c.ranges.rel.fits; key = c.in-Ok.ensures.fits; bytes = same })))

pub marks_under-requires : goal.marks_under-requires
marks_under-requires g c = record { grammar = subst (TableFits val_codec) (sym c.in-Ok.ensures.read.kept) (λ k r found. c.requires.grammar 11 k r found) }
