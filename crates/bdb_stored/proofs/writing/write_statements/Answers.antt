use Rattle.std.proofs.Common.{◌∙◌, ◌<◌, List, ap, get_or, length, subst}
use Rattle.bdb_base.specs.declared.kinds.Stmt.{Stmt}
use Rattle.bdb_tables.proofs.Loops.{goes_then, counts_then}
use Rattle.bdb_stored.specs.Writing.{with_front}
use Rattle.bdb_stored.proofs.FrontLemmas.{has_followed, may_follow}
use Rattle.bdb_stored.proofs.writing.write_statements.Goals as goal

pub add_next-requires-clause-base : goal.add_next-requires-clause-base
add_next-requires-clause-base g c =
    let k = c.loop-stmt.stmt-index in
    let x = c.stmt-item.result in
    let same = c.stmts-stmt-items.ensures.value in
    record {
      base = with_front c.args.base.now k;
      may = may_follow c.args.base.now c.stmts-stmt-items.ensures.valid k x (subst (λ (xs : List Stmt). k < length xs) same c.loop-stmt-test.true) (c.stmt-item.is ∙ ap (λ (xs : List Stmt). get_or xs k x) same)
          (g.K.Keeper.seen c.loop-stmt.keeper).kept c.loop-stmt.counts c.loop-stmt.invariant.stored;
    }

pub loop-stmt-preserved : goal.loop-stmt-preserved
loop-stmt-preserved g c =
    let k = c.loop-stmt.stmt-index in
    let x = c.stmt-item.result in
    let same = c.stmts-stmt-items.ensures.value in
    record {
      stored = has_followed c.args.base.now c.stmts-stmt-items.ensures.valid k x (subst (λ (xs : List Stmt). k < length xs) same c.loop-stmt-test.true) (c.stmt-item.is ∙ ap (λ (xs : List Stmt). get_or xs k x) same)
          (g.K.Keeper.seen c.loop-stmt.keeper).kept (g.K.Keeper.seen c.add_next.new.keeper).kept c.loop-stmt.counts c.add_next.new.counts c.loop-stmt.invariant.stored c.in-Ok.ensures.added;
      counts = counts_then _ _ _ c.loop-stmt.invariant.counts c.in-Ok.ensures.counts;
      goes_on = goes_then _ _ _ c.loop-stmt.invariant.goes_on c.in-Ok.ensures.steps.ok;
    }
