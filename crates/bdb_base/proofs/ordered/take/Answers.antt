use Rattle.std.proofs.Common.{◌∙◌, sym}
use Rattle.bdb_base.proofs.SetLemmas.{taken_stands, member_stands, taken_belongs, member_belongs}
use Rattle.bdb_base.proofs.ordered.take.Goals as goal

pub returns-in-Ok-clause-stood : goal.returns-in-Ok-clause-stood
returns-in-Ok-clause-stood g c =
    let at = rw c.as_slice.ensures at c.in-Ok.ensures in
    sym (member_stands g.met.X.Ordered.exact c.args.list.now c.args.x.now c.in-Ok.at at)

pub returns-in-Ok-clause-taken : goal.returns-in-Ok-clause-taken
returns-in-Ok-clause-taken g c =
    let at = rw c.as_slice.ensures at c.in-Ok.ensures in
    c.remove-item.ensures.rest ∙ sym (taken_stands g.met.X.Ordered.exact c.args.list.now c.args.x.now c.in-Ok.at c.requires at)

pub returns-in-Err-clause-stood : goal.returns-in-Err-clause-stood
returns-in-Err-clause-stood g c =
    let at = rw c.as_slice.ensures at c.in-Err.ensures in
    sym (member_belongs g.met.X.Ordered.exact c.args.list.now c.args.x.now c.in-Err.field-0 at)

pub returns-in-Err-clause-taken : goal.returns-in-Err-clause-taken
returns-in-Err-clause-taken g c =
    let at = rw c.as_slice.ensures at c.in-Err.ensures in
    sym (taken_belongs g.met.X.Ordered.exact c.args.list.now c.args.x.now c.in-Err.field-0 at)
