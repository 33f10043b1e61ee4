use Rattle.std.proofs.Common.{map, sym}
use Rattle.bdb_base.proofs.SetLemmas.{member_stands}
use Rattle.bdb_graph.specs.States.{number_of_world}
use Rattle.bdb_graph.proofs.NumberLemmas.{nat_exact}
use Rattle.bdb_graph.proofs.finding.is_world.Goals as goal

pub returns-in-Some : goal.returns-in-Some
returns-in-Some c = sym (member_stands nat_exact (map number_of_world c.args.worlds.now) c.args.wid c.in-Some.field-0 c.in-Some.ensures)
