use Rattle.std.proofs.Common.{◌≡◌, ◌<◌, length, take, drop, sym, subst, arith, rules}
use Rattle.bdb_memory.specs.Blocks.{joined, AreSorted}
use Rattle.bdb_memory.specs.Shelves.{IsCutInTwo}
use Rattle.bdb_memory.proofs.ShelvesLemmas.{sorted-take, sorted-drop, cut-in-two}
use Rattle.bdb_memory.proofs.shelf.Shelf.cut.Goals as goal

pub invariant_of-result : goal.invariant_of-result
invariant_of-result c =
    let e : c.in_ok-blocks.blocks.items ≡ drop c.args.index c.self.inside.blocks.items = search rules in
    subst AreSorted (sym e) (sorted-drop c.args.index c.self.inside.blocks.items c.self.invariant)

pub invariant_of-self-2 : goal.invariant_of-self-2
invariant_of-self-2 c =
    let e : c.split_off.new.self.items ≡ take c.args.index c.self.inside.blocks.items = search rules in
    subst AreSorted (sym e) (sorted-take c.args.index c.self.inside.blocks.items c.self.invariant)

pub returns-clause-parts : goal.returns-clause-parts
returns-clause-parts c =
    let bs = c.self.inside.blocks.items in
    let e : c.in_ok-blocks.blocks.items ≡ drop c.args.index bs = search rules in
    let f : c.split_off.new.self.items ≡ take c.args.index bs = search rules in
    let h : 0 < c.args.index = omega arith in
    let k : c.args.index < length bs = search rules in
    subst (λ es. IsCutInTwo es (joined c.split_off.new.self.items) (joined c.in_ok-blocks.blocks.items)) c.self.view_is
    (subst (λ x. IsCutInTwo (joined bs) (joined x) (joined c.in_ok-blocks.blocks.items)) (sym f)
    (subst (λ x. IsCutInTwo (joined bs) (joined (take c.args.index bs)) (joined x)) (sym e) (cut-in-two c.args.index bs c.self.invariant.full h k)))
