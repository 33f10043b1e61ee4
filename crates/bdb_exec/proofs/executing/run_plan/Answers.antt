use Rattle.std.proofs.Common.{arith}
use Rattle.bdb_plan.specs.Running.{start_of}
use Rattle.bdb_exec.specs.Seen.{sight_of}
use Rattle.bdb_exec.proofs.KeyLemmas.{fewer_looks}
use Rattle.bdb_exec.proofs.executing.run_plan.Goals as goal

pub returns-in-Ok-Some-clause-reads : goal.returns-in-Ok-Some-clause-reads
returns-in-Ok-Some-clause-reads g c =
    let fewer = fewer_looks (sight_of (g.K.Keeper.seen c.args.keeper.now).kept) c.args.plan.now.steps (start_of c.args.plan.now.items) in
    omega (arith, fewer, c.in-Ok-Some.ensures.reads)

pub returns-in-Ok-None-clause-reads_many : goal.returns-in-Ok-None-clause-reads_many
returns-in-Ok-None-clause-reads_many g c = λ many.
    let fewer = fewer_looks (sight_of (g.K.Keeper.seen c.args.keeper.now).kept) c.args.plan.now.steps (start_of c.args.plan.now.items) in
    omega (arith, fewer, c.in-Ok-None.ensures.reads)
