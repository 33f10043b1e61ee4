use Rattle.std.proofs.Common.{sym}
use Rattle.bdb_base.proofs.SetLemmas.{member_belongs}
use Rattle.bdb_paths.proofs.PlaceLemmas.{place_found, place_missing}
use Rattle.bdb_canon.proofs.places.place_in.Goals as goal

pub returns-in-Ok : goal.returns-in-Ok
returns-in-Ok g c = sym (place_found g.met.X.Ordered.exact c.args.xs.now c.args.x.now c.in-Ok.at c.requires c.in-Ok.ensures)

pub returns-in-Err : goal.returns-in-Err
returns-in-Err g c = sym (place_missing g.met.X.Ordered.exact c.args.xs.now c.args.x.now (member_belongs g.met.X.Ordered.exact c.args.xs.now c.args.x.now c.in-Err.field-0 c.in-Err.ensures))
