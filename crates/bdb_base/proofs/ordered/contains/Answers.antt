use Rattle.std.proofs.Common.{sym}
use Rattle.bdb_base.proofs.SetLemmas.{member_stands, member_belongs}
use Rattle.bdb_base.proofs.ordered.contains.Goals as goal

pub returns-in-Ok : goal.returns-in-Ok
returns-in-Ok g c = sym (member_stands g.met.X.Ordered.exact c.args.xs.now c.args.x.now c.in-Ok.field-0 c.in-Ok.ensures)

pub returns-in-Err : goal.returns-in-Err
returns-in-Err g c = sym (member_belongs g.met.X.Ordered.exact c.args.xs.now c.args.x.now c.in-Err.field-0 c.in-Err.ensures)
