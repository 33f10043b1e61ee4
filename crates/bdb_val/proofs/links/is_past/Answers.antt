use Rattle.std.proofs.Common.{◌<◌, length, get_or, arith, rules}
use Rattle.bdb_val.specs.Visits.{led_to}
use Rattle.bdb_val.proofs.FoundLinks.{none_at}
use Rattle.bdb_val.proofs.links.is_past.Goals as goal

pub returns : goal.returns
returns c above =
    let links = c.args.links.now in
    let some : 0 < length links = omega arith in
    let more : c.args.wid < led_to (get_or links 0 ((0, 0), tt)) = search (rules, above) in
    none_at c.args.wid links ((0, 0), tt) some c.requires more
