use Rattle.std.proofs.Common.{arith}
use Rattle.bdb_lex.proofs.CutLemmas.{kept_long, kept_fits, kept_over}
use Rattle.bdb_lex.proofs.growing.Growing.extend.Goals as goal

pub returns-then-self-clause-grown : goal.returns-then-self-clause-grown
returns-then-self-clause-grown c = kept_long _ _ _ c.args.run.now c.if-self.true c.self.view_is

pub returns-then-run-len-clause-grown : goal.returns-then-run-len-clause-grown
returns-then-run-len-clause-grown c =
    kept_over _ _ c.self.inside.bytes.items c.args.run.now c.if-self.false c.self.view_is c.self.invariant.0 (omega arith)

pub returns-clause-grown : goal.returns-clause-grown
returns-clause-grown c =
    kept_fits _ _ c.self.inside.bytes.items _ c.args.run.now c.if-self.false c.self.view_is c.in_ok-extend_from_slice.ensures.items (omega arith)
