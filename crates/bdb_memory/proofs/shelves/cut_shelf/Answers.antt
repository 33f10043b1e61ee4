use Rattle.std.proofs.Common.{refl, arith, subst}
use Rattle.std.specs.Prelude.{IfSome}
use Rattle.bdb_memory.specs.Shelves.{IsCutInTwo}
use Rattle.bdb_memory.proofs.ShelvesLemmas.{IsSame, shelf-parted}
use Rattle.bdb_memory.proofs.shelves.cut_shelf.Goals as goal
use Rattle.bdb_memory.proofs.shelves.cut_shelf.Goals.{In-Ok}

parted : (c : In-Ok) → IsSame c.args.shelves.now.items c.insert.new.self.items
parted c =
    shelf-parted c.args.shelves.now.items c.reserve.new.self.items _ c.insert.new.self.items c.args.at _ c.index_mut.result.now c.cut.new.self c.in-Some.back c.in-Ok.ensures.items (omega arith) refl c.in_ok-reserve.ensures.items c.index_mut.ensures.value
    (subst (λ o. IfSome o (λ b. IsCutInTwo c.index_mut.result.now c.cut.new.self b)) c.in-Some.is c.in_ok-back.ensures.parts) c.requires.sorted c.requires.shelf

pub returns-in-Ok-clause-sorted : goal.returns-in-Ok-clause-sorted
returns-in-Ok-clause-sorted c = (parted c).sorted

pub returns-in-Ok-clause-same : goal.returns-in-Ok-clause-same
returns-in-Ok-clause-same c = (parted c).same
