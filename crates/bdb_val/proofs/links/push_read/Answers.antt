use Rattle.std.proofs.Common.{◌≡◌, ◌+◌, ◌<◌, ◌≤◌, ◌++◌, [], ◌∷◌, length, refl, arith, rules}
use Rattle.bdb_tables.specs.InUse.{linked_codec}
use Rattle.bdb_tables.proofs.Held.{key_of_entry}
use Rattle.bdb_tables.proofs.RangeLemmas.{entries_at}
use Rattle.bdb_val.proofs.LinkLemmas.{read_none, read_more, read_all}
use Rattle.bdb_val.proofs.links.push_read.Goals as goal

pub loop-index-init : goal.loop-index-init
loop-index-init c = read_none c.args.span.now c.args.list.now.items

pub link_from-requires : goal.link_from-requires
link_from-requires c =
    let lt : c.loop-index.index < length c.args.span.now = omega (arith, c.len-index-end.ensures, c.loop-index-test.true) in
    key_of_entry linked_codec c.entry.result.0.now c.entry.result.1.now (entries_at linked_codec c.args.span.now c.loop-index.index c.entry.result.0.now c.entry.result.1.now c.requires lt c.entry.ensures)

pub loop-index-preserved : goal.loop-index-preserved
loop-index-preserved c =
    let lt : c.loop-index.index < length c.args.span.now = omega (arith, c.len-index-end.ensures, c.loop-index-test.true) in
    let link = c.in_ok-link.link in
    let pushed : c.push.new.self.items ≡ c.loop-index.list.items ++ (link.1, link.0) ∷ [] = search rules in
    read_more c.args.span.now c.loop-index.index (c.loop-index.index + 1) c.entry.result.0.now c.entry.result.1.now link c.args.list.now.items c.loop-index.list.items c.push.new.self.items lt c.entry.ensures
    (entries_at linked_codec c.args.span.now c.loop-index.index c.entry.result.0.now c.entry.result.1.now c.requires lt c.entry.ensures) c.in_ok-link.ensures c.loop-index.invariant pushed refl

pub returns : goal.returns
returns c =
    let end : length c.args.span.now ≤ c.loop-index.index = omega (arith, c.len-index-end.ensures, c.loop-index-test.false) in
    read_all c.args.span.now c.loop-index.index c.args.list.now.items c.loop-index.list.items end c.loop-index.invariant
