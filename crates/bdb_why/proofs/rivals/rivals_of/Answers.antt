use Rattle.std.proofs.Common.{◌≤◌, length, arith}
use Rattle.bdb_why.specs.Certificates.{is_rival_near}
use Rattle.bdb_why.proofs.LookLemmas.{put_end, put_keeps, put_step}
use Rattle.bdb_why.proofs.rivals.rivals_of.Goals as goal

pub loop-x-preserved : goal.loop-x-preserved
loop-x-preserved c =
    let q = is_rival_near (λ _. c.args.n) c.args.path.now c.args.t.now in
    record {
      sorted = put_keeps q c.loop-x.tuples c.x-item.result c.put_rival.new.tuples c.in_ok-put_rival.ensures c.loop-x.invariant.sorted;
      rest = put_step q c.args.stmts.now c.loop-x.x-index c.x-item.result c.loop-x.tuples c.put_rival.new.tuples _ c.loop-x-test.true c.x-item.is c.in_ok-put_rival.ensures c.loop-x.invariant.rest;
    }

pub returns : goal.returns
returns c =
    let past : length c.args.stmts.now ≤ c.loop-x.x-index = omega arith in
    put_end (is_rival_near (λ _. c.args.n) c.args.path.now c.args.t.now) c.args.stmts.now c.loop-x.x-index c.loop-x.tuples past c.loop-x.invariant.rest
