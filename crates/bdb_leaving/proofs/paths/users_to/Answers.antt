use Rattle.std.proofs.Common.{◌≡◌, ◌+◌, ◌≤◌, ◌-◌, ◌∷◌, length, ap, sym, subst, arith, rules}
use Rattle.bdb_tables.proofs.Loops.{reading_more}
use Rattle.bdb_tables.specs.declared.tab.TabError.TheVariants.{Fault}
use Rattle.bdb_leaving.specs.Paths.{IsLed, IsLedBy}
use Rattle.bdb_leaving.proofs.EdgeLemmas.{EndsIn, ends_led, ends_more}
use Rattle.bdb_leaving.proofs.paths.users_to.Goals as goal

pub edge_to-requires-clause-led : goal.edge_to-requires-clause-led
edge_to-requires-clause-led g c =
    let kept = (g.K.Keeper.seen c.args.keeper.now).kept in
    let l = c.loop-left in
    subst (λ t. IsLed t l.at) (sym l.invariant.kept) (ends_led kept c.requires.base c.args.row.now.0 l.users.items l.at l.left l.invariant.read.ends c.loop-left-test.true)

pub loop-left-preserved : goal.loop-left-preserved
loop-left-preserved g c =
    let old = g.K.Keeper.seen c.args.keeper.now in
    let now = g.K.Keeper.seen c.loop-left.keeper in
    let new = g.K.Keeper.seen c.edge_to.new.keeper in
    let l = c.loop-left in
    let h = l.invariant in
    let edge = c.in-Ok.edge in
    let put : c.insert.new.self.items ≡ edge.1 ∷ l.users.items = search rules in
    let many = ap length put in
    let reads : new.reads ≤ old.reads + length c.insert.new.self.items = omega (arith, c.in-Ok.ensures.reads, h.read.reads, many) in
    let led = subst (λ t. IsLedBy t l.at edge.0 edge.1) h.kept c.in-Ok.ensures.edge in
    reading_more old now new edge Fault h c.in-Ok.ensures.read (record {
      ends = subst (λ us. EndsIn old.kept c.args.row.now.0 us edge.0 (l.left - 1)) (sym put)
          (ends_more old.kept c.requires.base c.args.row.now.0 l.users.items l.at l.left h.read.ends edge.0 edge.1 c.loop-left-test.true led);
      reads = reads;
    })
