use Rattle.std.proofs.Common.{◌≡◌, [], Some, rules}
use Rattle.bdb_memory.specs.Blocks.{joined}
use Rattle.bdb_memory.proofs.ShelvesLemmas.{first-shelf}
use Rattle.bdb_memory.proofs.shelves.insert.Goals as goal

pub returns-in_ok-push-in-None-clause-sorted : goal.returns-in_ok-push-in-None-clause-sorted
returns-in_ok-push-in-None-clause-sorted c =
    let none : joined c.args.shelves.now.items ≡ [] = search rules in
    (first-shelf c.args.shelves.now.items c.push.new.self.items _ c.args.probe.now (Some c.args.row.now) c.requires none c.in_ok-shelf-in-None.ensures c.in_ok-push-in-None.ensures.items).0

pub returns-in_ok-push-in-None-clause-set : goal.returns-in_ok-push-in-None-clause-set
returns-in_ok-push-in-None-clause-set c =
    let none : joined c.args.shelves.now.items ≡ [] = search rules in
    (first-shelf c.args.shelves.now.items c.push.new.self.items _ c.args.probe.now (Some c.args.row.now) c.requires none c.in_ok-shelf-in-None.ensures c.in_ok-push-in-None.ensures.items).1
