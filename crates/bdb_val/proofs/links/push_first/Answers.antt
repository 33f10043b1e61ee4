use Rattle.std.proofs.Common.{◌∙◌, sym}
use Rattle.bdb_val.proofs.FoundLinks.{comes_more, comes_none, comes_end}
use Rattle.bdb_val.proofs.links.push_first.Goals as goal

pub loop-link-preserved : goal.loop-link-preserved
loop-link-preserved c =
    c.loop-link.invariant ∙ comes_more c.args.wid c.args.links.now c.loop-link.link-index ((0, 0), tt) c.loop-link.list.items c.push_if.new.list.items c.loop-link-test.true c.in_ok-push_if.ensures

pub returns-then-link-wid : goal.returns-then-link-wid
returns-then-link-wid c =
    sym (c.loop-link.invariant ∙ comes_none c.args.wid c.args.links.now c.loop-link.link-index ((0, 0), tt) c.loop-link.list.items c.loop-link-test.true c.requires c.if-link-wid.true)

pub returns : goal.returns
returns c = sym (c.loop-link.invariant ∙ comes_end c.args.wid c.args.links.now c.loop-link.link-index c.loop-link.list.items c.loop-link-test.false)
