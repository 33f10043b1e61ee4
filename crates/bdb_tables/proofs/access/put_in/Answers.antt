use Rattle.std.proofs.Common.{◌≡◌, rules}
use Rattle.std.specs.FinMap as map
use Rattle.bdb_tables.specs.Codec.{place}
use Rattle.bdb_tables.proofs.Held.{put_kept}
use Rattle.bdb_tables.proofs.access.put_in.Goals as goal

pub returns-in-Ok-clause-grammar : goal.returns-in-Ok-clause-grammar
returns-in-Ok-clause-grammar g c =
    let codec = g.T.Tab.codec in
    let old = (g.K.Keeper.seen c.args.keeper.now).kept in
    let new = (g.K.Keeper.seen c.put.new.self).kept in
    let key : codec.IsKey c.args.key.now = search rules in
    let row : codec.IsRow c.args.row.now = search rules in
    let kept : new ≡ map.insert old (place codec c.args.key.now) (codec.row_bytes c.args.row.now) = search rules in
    put_kept codec g.met.T.Tab.entry_back old new c.args.key.now c.args.row.now key row kept
