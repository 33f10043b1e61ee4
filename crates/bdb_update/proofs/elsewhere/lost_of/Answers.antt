use Rattle.std.proofs.Common.{◌+◌, subst, drop}
use Rattle.std.proofs.lemmas.List.{drop_all}
use Rattle.bdb_tables.specs.declared.tab.TabError.TheVariants.{Fault}
use Rattle.bdb_update.proofs.ElsewhereLemmas.{LostSoFar, lost_more, lost_all}
use Rattle.bdb_update.proofs.QuietLemmas.{looking_more}
use Rattle.bdb_update.proofs.StepLemmas.{from_place}
use Rattle.bdb_update.proofs.elsewhere.lost_of.Goals as goal

pub loop-stmt-preserved : goal.loop-stmt-preserved
loop-stmt-preserved g c =
    let old = g.K.Keeper.seen c.args.keeper.now in
    let mid = g.K.Keeper.seen c.loop-stmt.keeper in
    let gone = c.args.gone.now in
    let i = c.loop-stmt.stmt-index in
    let x = c.stmt-item.result in
    let h = c.loop-stmt.invariant in
    looking_more old mid (g.K.Keeper.seen c.is_lost.new.keeper) c.in-Ok.missing Fault h c.in-Ok.ensures.read
    (lost_more old.kept mid.kept c.args.reached.now gone i x (drop (i + 1) gone) c.loop-stmt.lost c.keep_if.new.kept c.in-Ok.missing h.quiet.kept
    (from_place gone i x c.loop-stmt-test.true c.stmt-item.is) h.read c.in-Ok.ensures.lost c.in-Ok-keep_if.ensures)

pub returns-clause-lost : goal.returns-clause-lost
returns-clause-lost g c =
    let t = (g.K.Keeper.seen c.args.keeper.now).kept in
    let gone = c.args.gone.now in
    lost_all t c.args.reached.now gone c.loop-stmt.lost
    (subst (λ xs. LostSoFar t c.args.reached.now gone xs c.loop-stmt.lost) (drop_all c.loop-stmt.stmt-index gone c.loop-stmt-test.false) c.loop-stmt.invariant.read)
