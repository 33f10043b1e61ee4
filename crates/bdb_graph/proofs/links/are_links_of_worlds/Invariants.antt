use Rattle.bdb_tables.specs.InUse.{link_codec}
use Rattle.bdb_tables.proofs.Loops.{IsReading}
use Rattle.bdb_graph.specs.States.{is_world}
use Rattle.bdb_graph.proofs.PassLemmas.{PassedKeys}
use Rattle.bdb_graph.proofs.links.are_links_of_worlds.Given as goal

abbrev pub invariant-loop : goal.invariant-loop
invariant-loop g l = IsReading (g.K.Keeper.seen l.fn.keeper) (g.K.Keeper.seen l.keeper) (PassedKeys link_codec (is_world l.worlds) (g.K.Keeper.seen l.fn.keeper).kept l.low.items)
