use Rattle.std.proofs.Common.{◌∙◌, ◌+◌, ◌<◌, ap, length, drop, arith}
use Rattle.bdb_base.specs.declared.kinds.Stmt.{Stmt}
use Rattle.bdb_base.specs.Bases.{Contents, with_statement}
use Rattle.bdb_base.specs.Changes.{with_statements}
use Rattle.bdb_base.specs.Order.{statement_cmp}
use Rattle.bdb_base.specs.OrderLemmas.{statement_exact}
use Rattle.bdb_base.specs.SortedSet.{ascending}
use Rattle.bdb_base.proofs.SetLemmas.{put_keeps_order}
use Rattle.bdb_undo.proofs.StatementLemmas.{between_is_valid, with_one}
use Rattle.bdb_undo.proofs.steps.put_each.Goals as goal

pub put-requires : goal.put-requires
put-requires c =
    let within : c.loop-stmt.stmt-index < length c.args.stmts.now = omega arith in
    between_is_valid c.args.base.now.catalog c.loop-stmt.base.catalog c.args.stmts.now c.loop-stmt.stmt-index c.stmt-item.result c.in_ok-try_clone.field-0 c.loop-stmt.base.stmts
    (with_statements c.args.base.now.stmts c.args.stmts.now) within c.stmt-item.is c.in_ok-try_clone.ensures c.loop-stmt.invariant.catalog
    c.loop-stmt.invariant.sorted c.loop-stmt.invariant.rest c.requires.valid

pub loop-stmt-preserved : goal.loop-stmt-preserved
loop-stmt-preserved c =
    let within : c.loop-stmt.stmt-index < length c.args.stmts.now = omega arith in
    let rest = drop (c.loop-stmt.stmt-index + 1) c.args.stmts.now in
    record {
      catalog = ap (λ (b : Contents). b.catalog) c.in_ok-put.ensures.ok ∙ c.loop-stmt.invariant.catalog;
      sorted = ap (λ (b : Contents). ascending statement_cmp b.stmts) c.in_ok-put.ensures.ok
          ∙ put_keeps_order statement_exact c.loop-stmt.base.stmts c.in_ok-try_clone.field-0 c.loop-stmt.invariant.sorted;
      rest = ap (λ (b : Contents). with_statements b.stmts rest) c.in_ok-put.ensures.ok
          ∙ ap (λ (x : Stmt). with_statements (with_statement c.loop-stmt.base.stmts x) rest) c.in_ok-try_clone.ensures
          ∙ with_one c.args.stmts.now c.loop-stmt.stmt-index c.stmt-item.result c.loop-stmt.base.stmts (with_statements c.args.base.now.stmts c.args.stmts.now) within c.stmt-item.is c.loop-stmt.invariant.rest;
    }
