use Rattle.bdb_graph.proofs.FindingLemmas.{paths_all, paths_more}
use Rattle.bdb_graph.proofs.finding.paths_of.Goals as goal

pub loop-world-preserved : goal.loop-world-preserved
loop-world-preserved c =
    paths_more c.args.worlds.now c.loop-world.world-index c.world-item.result c.loop-world.paths c.put_copy.new.list c.loop-world-test.true c.world-item.is c.in_ok-_added.ensures.ok c.loop-world.invariant

pub returns : goal.returns
returns c = paths_all c.args.worlds.now c.loop-world.world-index c.loop-world.paths c.loop-world-test.false c.loop-world.invariant
