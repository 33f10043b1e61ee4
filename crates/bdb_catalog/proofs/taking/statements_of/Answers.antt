use Rattle.std.proofs.Common.{◌≡◌, ◌∙◌, true, ap, sym}
use Rattle.bdb_base.specs.Conditions.{meets}
use Rattle.bdb_base.specs.Order.{statement_cmp}
use Rattle.bdb_base.specs.SortedSet.{ascending, put_in}
use Rattle.bdb_base.specs.declared.kinds.Stmt.{Stmt}
use Rattle.bdb_base.specs.SameLemmas.{statement_of}
use Rattle.bdb_catalog.specs.Taking.{statements_of}
use Rattle.bdb_catalog.proofs.TakingLemmas.{statements_more, statements_ascend}
use Rattle.bdb_catalog.proofs.taking.statements_of.Goals as goal

pub put-requires : goal.put-requires
put-requires c = ap (ascending statement_cmp) c.loop-tuple.invariant ∙ statements_ascend c.args.path.now c.args.sign c.args.conds.now c.loop-tuple.yielded

pub loop-tuple-preserved : goal.loop-tuple-preserved
loop-tuple-preserved c =
    let u = c.in-Some.tuple in
    let stmt : Stmt = statement_of c.in_ok-path.path c.args.sign u in
    let own : meets c.args.conds.now u ≡ true = sym c.meets.ensures ∙ c.if-not-meets.false in
    c.in_ok-put.ensures.ok ∙ ap (λ xs. put_in statement_cmp xs stmt) c.loop-tuple.invariant
    ∙ ap (λ p. put_in statement_cmp (statements_of c.args.path.now c.args.sign c.args.conds.now c.loop-tuple.yielded) (statement_of p c.args.sign u)) c.in_ok-path.ensures
    ∙ sym (statements_more c.args.path.now c.args.sign c.args.conds.now c.loop-tuple.yielded u own)
