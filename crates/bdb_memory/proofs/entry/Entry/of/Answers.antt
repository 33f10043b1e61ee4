use Rattle.std.proofs.Common.{Some}
use Rattle.bdb_memory.specs.Tails.{head_in, rest_in, row_in}
use Rattle.bdb_memory.proofs.HeadsLemmas.{heads_alike, parts_of_entry, entry_made}
use Rattle.bdb_memory.proofs.entry.Entry.of.Goals as goal

pub invariant_of-result : goal.invariant_of-result
invariant_of-result c =
    let h = c.parts.result.0 in
    let tail = c.in_ok-tail.tail in
    let made = c.in_ok-tail.ensures in
    parts_of_entry (head_in h.first h.second tail) h c.parts.result.1.now (rest_in tail) (heads_alike tail h made.tab made.count made.third made.fourth) made.rest c.parts.ensures.head

pub returns : goal.returns
returns c =
    let h = c.parts.result.0 in
    let tail = c.in_ok-tail.tail in
    let made = c.in_ok-tail.ensures in
    entry_made (head_in h.first h.second tail) h c.parts.result.1.now (rest_in tail) c.args.probe.now (row_in tail) (Some c.args.row.now) (heads_alike tail h made.tab made.count made.third made.fourth) made.rest c.parts.ensures.place made.row
