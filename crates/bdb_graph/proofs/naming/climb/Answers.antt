use Rattle.std.proofs.Common.{◌≡◌, ◌∷◌, [], rules}
use Rattle.bdb_graph.specs.Naming.{climb}
use Rattle.bdb_graph.proofs.NamingLemmas.{climb_on}
use Rattle.bdb_graph.proofs.naming.climb.Goals as goal

pub loop-left-preserved : goal.loop-left-preserved
loop-left-preserved c =
    let x = c.in-Some.up in
    let put : c.insert.new.self.items ≡ x.uid ∷ c.loop-left.users.items = search rules in
    climb_on c.args.ups.now c.loop-left.left c.loop-left.at c.loop-left.users.items c.insert.new.self.items x (climb c.args.ups.now c.args.depth c.args.wid []) c.loop-left-test.true c.in-Some.ensures put c.loop-left.invariant
