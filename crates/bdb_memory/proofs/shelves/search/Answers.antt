use Rattle.std.proofs.Common.{◌<◌, length, rules, of_calls, arith}
use Rattle.std.proofs.lemmas.Fn.{always_returns_same}
use Rattle.bdb_memory.specs.Blocks.{starts_within}
use Rattle.bdb_memory.proofs.BlocksLemmas.{starts-parted}
use Rattle.bdb_memory.proofs.ShelvesLemmas.{shelf-searched, joined-none}
use Rattle.bdb_memory.proofs.shelves.search.Goals as goal

pub returns-then-at-shelves-clause-none : goal.returns-then-at-shelves-clause-none
returns-then-at-shelves-clause-none c = joined-none c.args.shelves.now (omega arith)

pub returns-clause-shelf : goal.returns-clause-shelf
returns-clause-shelf c =
    let q = c.args.probe.now in
    let bs = c.args.shelves.now in
    let h : c.saturating_sub-at.result < length c.args.shelves.now = omega arith in
    let point = c.partition_point-above.ensures.partitioned (starts_within q) (always_returns_same _ _ _ (λ a r f k. search (rules, of_calls))) (starts-parted q bs c.requires.ascends c.requires.full) in
    shelf-searched q bs c.partition_point-above.result c.saturating_sub-at.result point c.saturating_sub-at.ensures h
