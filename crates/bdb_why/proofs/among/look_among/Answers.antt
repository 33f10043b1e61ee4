use Rattle.std.proofs.Common.{◌∙◌, sym}
use Rattle.bdb_why.specs.Certificates.{ruled_of}
use Rattle.bdb_why.proofs.LookLemmas.{rival_held, rival_kept, rival_passed}
use Rattle.bdb_why.proofs.among.look_among.Goals as goal

pub returns-then-is_held : goal.returns-then-is_held
returns-then-is_held c =
    rival_held (ruled_of (λ _. c.args.n) c.args.stmts.now c.args.path.now) c.args.tuples.now c.loop-tuple.tuple-index c.tuple-item.result c.in_ok-ruled.ruled
    c.loop-tuple-test.true c.tuple-item.is c.in_ok-ruled.ensures c.loop-tuple.invariant.first (sym c.is_held.ensures ∙ c.if-is_held.true)

pub loop-tuple-preserved : goal.loop-tuple-preserved
loop-tuple-preserved c =
    let f = ruled_of (λ _. c.args.n) c.args.stmts.now c.args.path.now in
    record {
      all = rival_kept f c.args.tuples.now c.loop-tuple.tuple-index c.tuple-item.result c.in_ok-ruled.ruled c.loop-tuple-test.true c.tuple-item.is c.in_ok-ruled.ensures
          c.loop-tuple.invariant.first c.loop-tuple.others c.push.new.self c.loop-tuple.invariant.all c.in_ok-push.ensures.ok;
      first = rival_passed f c.args.tuples.now c.loop-tuple.tuple-index c.tuple-item.result c.in_ok-ruled.ruled c.loop-tuple-test.true c.tuple-item.is c.in_ok-ruled.ensures
          c.loop-tuple.invariant.first (sym c.is_held.ensures ∙ c.if-is_held.false);
    }
