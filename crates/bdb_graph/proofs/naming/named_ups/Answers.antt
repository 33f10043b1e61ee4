use Rattle.std.proofs.Common.{◌≡◌, ◌++◌, ◌∷◌, [], rules}
use Rattle.bdb_entries.proofs.ReadLemmas.{some_told}
use Rattle.bdb_graph.proofs.NamingLemmas.{named_more}
use Rattle.bdb_graph.proofs.naming.named_ups.Goals as goal

pub loop-up-preserved : goal.loop-up-preserved
loop-up-preserved c =
    let w = c.in-Ok-Some in
    let pushed : c.push.new.self.items ≡ c.loop-up.worlds.items ++ w.world ∷ [] = search rules in
    named_more c.args.ups.now c.args.ups.now c.loop-up.up-index _ c.copy_of-up.result c.loop-up.worlds.items c.push.new.self.items w.world c.loop-up-test.true c.copy_of-up.ensures c.loop-up.invariant
    (some_told _ _ w.field-0 w.world w.field-0-is w.ensures) pushed
