use Rattle.std.proofs.Common.{◌∙◌, ◌++◌, List, map, sym, ap}
use Rattle.std.proofs.lemmas.List.{append-nil}
use Rattle.bdb_val.specs.Visits.{turned_round}
use Rattle.bdb_val.proofs.FoundLinks.{Link, found_links, links_in_order}
use Rattle.bdb_val.proofs.walk.push_linked.Goals as goal

pub leads_none-requires : goal.leads_none-requires
leads_none-requires g c = links_in_order (g.K.Keeper.seen c.args.keeper.now).kept c.args.links.now.list.items (c.requires.links c.if-not-links.false)

pub returns-then-leads_none-clause-pushed : goal.returns-then-leads_none-clause-pushed
returns-then-leads_none-clause-pushed g c =
    let links = c.args.links.now in
    let list = c.args.list.now.items in
    found_links (g.K.Keeper.seen c.args.keeper.now).kept c.args.wid links.list.items links.are_all list list c.ranges.wid.fits c.requires.links c.if-not-links.false
    (sym (ap (λ (ys : List Link). list ++ map turned_round ys) (c.leads_none.ensures c.if-leads_none.true) ∙ append-nil list))

pub push_found-requires : goal.push_found-requires
push_found-requires g c = links_in_order (g.K.Keeper.seen c.args.keeper.now).kept c.args.links.now.list.items (c.requires.links c.if-not-links.false)

pub returns-in-Ok-push_found-clause-pushed : goal.returns-in-Ok-push_found-clause-pushed
returns-in-Ok-push_found-clause-pushed g c =
    let links = c.args.links.now in
    found_links (g.K.Keeper.seen c.args.keeper.now).kept c.args.wid links.list.items links.are_all c.args.list.now.items c.push_found.new.list.items c.ranges.wid.fits c.requires.links c.if-not-links.false
    c.in-Ok-push_found.ensures
