use Rattle.std.proofs.Common.{◌≡◌, ◌+◌, subst, arith}
use Rattle.bdb_stored.specs.Writing.{AreCleared}
use Rattle.bdb_stored.proofs.ClearLemmas.{all_cleared}
use Rattle.bdb_stored.proofs.clearing.clear_tables.Goals as goal

pub returns-clause-cleared : goal.returns-clause-cleared
returns-clause-cleared g c =
    let t = (g.K.Keeper.seen c.args.keeper.now).kept in
    let u = (g.K.Keeper.seen c.loop-before.keeper).kept in
    let whole : c.loop-before.before + 1 ≡ 16 = omega (arith, c.loop-before-test.false, c.loop-before.auto.before-end) in
    all_cleared t u (c.loop-before.invariant.tables (omega (arith, whole))) (subst (λ n. AreCleared n t u) whole c.loop-before.invariant.cleared)
