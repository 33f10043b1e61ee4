use Rattle.std.proofs.Common.{List, ℕ, Option, ap}
use Rattle.bdb_memory.specs.Tails.{head_in, rest_in, row_in}
use Rattle.bdb_memory.proofs.HeadsLemmas.{heads_alike, parts_of_entry, entry_made}
use Rattle.bdb_memory.proofs.entry.Entry.swap.Goals as goal

pub invariant_of-self : goal.invariant_of-self
invariant_of-self c =
    let old = c.self.inside in
    let h = head_in old.first old.second old.tail in
    let tail = c.swap_row.new.tail in
    let kept = c.swap_row.ensures in
    parts_of_entry (head_in old.first old.second tail) h (rest_in old.tail) (rest_in tail) (heads_alike tail h kept.tab kept.count kept.third kept.fourth) kept.rest c.self.invariant

pub returns-clause-entry : goal.returns-clause-entry
returns-clause-entry c =
    let old = c.self.inside in
    let h = head_in old.first old.second old.tail in
    let tail = c.swap_row.new.tail in
    let kept = c.swap_row.ensures in
    entry_made (head_in old.first old.second tail) h (rest_in old.tail) (rest_in tail) c.args.self.now.0 (row_in tail) c.args.row (heads_alike tail h kept.tab kept.count kept.third kept.fourth) kept.rest
    (ap (λ (e : List ℕ × Option (List ℕ)). e.0) c.self.view_is) kept.row
