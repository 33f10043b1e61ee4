use Rattle.std.proofs.Common.{◌+◌, subst, drop}
use Rattle.std.proofs.lemmas.List.{drop_all}
use Rattle.bdb_tables.specs.declared.tab.TabError.TheVariants.{Fault}
use Rattle.bdb_update.proofs.ElsewhereLemmas.{FreshSoFar, fresh_more, fresh_all}
use Rattle.bdb_update.proofs.QuietLemmas.{looking_more}
use Rattle.bdb_update.proofs.StepLemmas.{at_place}
use Rattle.bdb_update.proofs.elsewhere.fresh_of.Goals as goal

pub loop-stmt-preserved : goal.loop-stmt-preserved
loop-stmt-preserved g c =
    let old = g.K.Keeper.seen c.args.keeper.now in
    let mid = g.K.Keeper.seen c.loop-stmt.keeper in
    let come = c.args.come.now in
    let i = c.loop-stmt.stmt-index in
    let x = c.stmt-item.result in
    let h = c.loop-stmt.invariant in
    looking_more old mid (g.K.Keeper.seen c.is_fresh.new.keeper) c.in-Ok.missing Fault h c.in-Ok.ensures.read
    (fresh_more old.kept mid.kept come x (drop (i + 1) come) c.loop-stmt.fresh c.keep_if.new.kept c.in-Ok.missing h.quiet.kept
    (at_place (λ xs. FreshSoFar old.kept come xs c.loop-stmt.fresh) come i x c.loop-stmt-test.true c.stmt-item.is h.read)
    c.in-Ok.ensures.fresh c.in-Ok-keep_if.ensures)

pub returns-clause-fresh : goal.returns-clause-fresh
returns-clause-fresh g c =
    let t = (g.K.Keeper.seen c.args.keeper.now).kept in
    let come = c.args.come.now in
    fresh_all t come c.loop-stmt.fresh
    (subst (λ xs. FreshSoFar t come xs c.loop-stmt.fresh) (drop_all c.loop-stmt.stmt-index come c.loop-stmt-test.false) c.loop-stmt.invariant.read)
