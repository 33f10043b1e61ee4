use Rattle.std.proofs.Common.{◌<◌, ◌-◌, get_or, arith, rules}
use Rattle.bdb_val.specs.Visits.{led_to}
use Rattle.bdb_val.proofs.FoundLinks.{behind_skipped}
use Rattle.bdb_val.proofs.links.is_behind.Goals as goal

pub returns : goal.returns
returns c lower =
    let links = c.args.links.now in
    let some : 0 < c.args.near = omega arith in
    let less : led_to (get_or links (c.args.near - 1) ((0, 0), tt)) < c.args.wid = search (rules, lower) in
    behind_skipped c.args.wid links c.args.near ((0, 0), tt) c.requires.sorted some c.requires.within less
