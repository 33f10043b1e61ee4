use Rattle.std.proofs.Common.{◌≡◌, ◌∙◌, ℕ, List, get_or, None, subst}
use Rattle.std.proofs.lemmas.List.{get_or_default}
use Rattle.bdb_tables.specs.GroupMarks.{marks_codec}
use Rattle.bdb_tables.specs.Writes.{IsChange, with_change}
use Rattle.bdb_tables.specs.declared.tab.TabError.TheVariants.{Fault}
use Rattle.bdb_tables.proofs.Loops.{writing_ok, writing_err, writing_more, rises_more, all_take_more, changes_left}
use Rattle.bdb_tables.proofs.marks.change_marks.Goals as goal

pub returns-in-Err-clause-write : goal.returns-in-Err-clause-write
returns-in-Err-clause-write g c =
    writing_err (g.K.Keeper.seen c.args.keeper.now) (g.K.Keeper.seen c.loop-change.keeper) (g.K.Keeper.seen c.change_mark.new.keeper) c.in-Err.error Fault c.loop-change.invariant c.in-Err.ensures.write

pub loop-change-preserved : goal.loop-change-preserved
loop-change-preserved g c =
    let codec = marks_codec c.args.prefix.now.items in
    let i = c.loop-change.change-index in
    let xs = c.args.changes.now in
    let x = get_or xs i (0, None) in
    let lt = c.loop-change-test.true in
    let is : x ≡ get_or xs i x = get_or_default xs i (0, None) x lt in
    let old = g.K.Keeper.seen c.args.keeper.now in
    let now = g.K.Keeper.seen c.loop-change.keeper in
    let new = g.K.Keeper.seen c.change_mark.new.keeper in
    let h = c.loop-change.invariant in
    let same = h.written.prefix in
    let kept = subst (λ (p : List ℕ). new.kept ≡ with_change (marks_codec p) now.kept x) same c.in-Ok.ensures.kept in
    let fits = subst (λ (p : List ℕ). IsChange (marks_codec p) x) same c.in-Ok.ensures.fits in
    writing_more old now new tt Fault h c.in-Ok.ensures.write (record {
      left = changes_left codec now.kept new.kept xs i x lt is kept ∙ h.written.left;
      fits = all_take_more (IsChange codec) xs i x lt is h.written.fits fits;
      prefix = c.in-Ok.ensures.prefix ∙ same;
      grammar = λ k. c.in-Ok.ensures.grammar (h.written.grammar k);
      writes = rises_more i old.writes now.writes new.writes c.in-Ok.ensures.write.counts.writes h.written.writes c.in-Ok.ensures.writes;
    })

pub returns-clause-write : goal.returns-clause-write
returns-clause-write g c = writing_ok (g.K.Keeper.seen c.args.keeper.now) (g.K.Keeper.seen c.loop-change.keeper) tt Fault c.loop-change.invariant
