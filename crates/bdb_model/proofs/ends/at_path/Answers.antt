use Rattle.std.proofs.Common.{◌∙◌, ◌-◌, List, length, take, drop, ap, sym}
use Rattle.std.proofs.lemmas.List.{take_all, take_rest}
use Rattle.std.specs.List.{list_all}
use Rattle.bdb_base.specs.declared.kinds.Stmt.{Stmt}
use Rattle.bdb_base.specs.Same.{same_path}
use Rattle.bdb_model.proofs.EndLemmas.{run_is_whole, run_is_part}
use Rattle.bdb_model.proofs.ends.at_path.Goals as goal

pub returns-then-not-is_at : goal.returns-then-not-is_at
returns-then-not-is_at c =
    let at = c.first_at-first.result in
    let rest : List Stmt = take (length c.args.stmts.now - at) (drop at c.args.stmts.now) in
    run_is_part c.args.stmts.now rest c.args.path.now at c.loop-count.count c.index-rest-count.result (take_rest c.args.stmts.now at) c.requires c.first_at-first.ensures
    c.loop-count.invariant c.loop-count-test.true c.index-rest-count.is (sym c.is_at.ensures ∙ c.if-not-is_at.true)

pub returns : goal.returns
returns c =
    let at = c.first_at-first.result in
    let rest : List Stmt = take (length c.args.stmts.now - at) (drop at c.args.stmts.now) in
    run_is_whole c.args.stmts.now rest c.args.path.now at (take_rest c.args.stmts.now at) c.first_at-first.ensures
    (ap (list_all (λ x. same_path x.path c.args.path.now)) (sym (take_all c.loop-count.count rest c.loop-count-test.false)) ∙ c.loop-count.invariant)
