use Rattle.std.proofs.Common.{◌≡◌, ◌<◌, [], suc, length, slice_index_or, true, false, Some, ◌∙◌, subst, rules}
use Rattle.bdb_memory.specs.Blocks.{starts_within}
use Rattle.bdb_memory.proofs.BesideLemmas.{shelf-put, shelf-same}
use Rattle.bdb_memory.proofs.runs.add_on.Goals as goal

pub returns-in-Some : goal.returns-in-Some
returns-in-Some c =
    let bs = c.args.shelves.now.items in
    let i = c.args.cursor.0 in
    let within : i < length bs = search rules in
    let q = c.args.probe.now in
    let last = c.is_last_for-is_last.result in
    let ends : last ≡ true → suc i < length bs → starts_within q (slice_index_or bs (suc i) []) ≡ false = subst (λ ys. last ≡ true → suc i < length ys → starts_within q (slice_index_or ys (suc i) []) ≡ false) c.deref.ensures.value c.is_last_for-is_last.ensures in
    let put = shelf-put bs c.index_mut.result.now c.add_beside.new.self q i last (Some c.args.row.now) c.requires within c.index_mut.ensures.value c.in-Some.ensures.belongs ends c.in-Some.ensures.set in
    record { sorted = put.0; absent = put.1.0 ∙ c.in-Some.ensures.absent; set = put.1.1; same = tt }

pub returns-in-None : goal.returns-in-None
returns-in-None c =
    let bs = c.args.shelves.now.items in
    let i = c.args.cursor.0 in
    let within : i < length bs = search rules in
    let same = shelf-same bs c.index_mut.result.now c.add_beside.new.self i c.requires within c.index_mut.ensures.value c.in-None.ensures.same in
    record { sorted = same.0; absent = tt; set = tt; same = same.1 }
