use Rattle.std.proofs.Common.{[], take, arith}
use Rattle.std.proofs.lemmas.List.{length-take-le}
use Rattle.bdb_base.proofs.ListLemmas.{length-filter_le}
use Rattle.bdb_val.specs.GroupChanges.{mark_under, comes_at, goes_at}
use Rattle.bdb_val.proofs.settle.told_of_new.Goals as goal

pub with_change-settled-requires : goal.with_change-settled-requires
with_change-settled-requires c =
    let i = c.loop-change.change-index in
    let xs = c.args.changes.now in
    let h = c.loop-change.invariant in
    let seen = length-take-le i xs c.loop-change.auto.change-index-end in
    let put = length-filter_le (comes_at (mark_under [])) (take i xs) in
    let taken = length-filter_le (goes_at (mark_under [])) (take i xs) in
    record { put = omega (arith, h.put, put, seen, c.loop-change-test.true); taken = omega (arith, h.taken, taken, seen, c.loop-change-test.true) }
