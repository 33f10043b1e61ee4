use Rattle.std.proofs.Common.{◌∙◌, sym, ap, not, insert}
use Rattle.bdb_base.proofs.SetLemmas.{put_stands, member_stands, put_belongs, member_belongs}
use Rattle.bdb_base.proofs.ordered.put_copy.Goals as goal

pub returns-in-Ok-clause-added : goal.returns-in-Ok-clause-added
returns-in-Ok-clause-added g c =
    let at = rw c.as_slice.ensures at c.in-Ok.ensures in
    sym (ap not (member_stands g.met.X.Ordered.exact c.args.list.now c.args.x.now c.in-Ok.field-0 at))

pub returns-in-Ok-clause-ok : goal.returns-in-Ok-clause-ok
returns-in-Ok-clause-ok g c =
    let at = rw c.as_slice.ensures at c.in-Ok.ensures in
    sym (put_stands g.met.X.Ordered.exact c.args.list.now c.args.x.now c.in-Ok.field-0 c.requires at)

pub returns-in_ok-insert-in-Err-clause-added : goal.returns-in_ok-insert-in-Err-clause-added
returns-in_ok-insert-in-Err-clause-added g c =
    let at = rw c.as_slice.ensures at c.in-Err.ensures in
    sym (ap not (member_belongs g.met.X.Ordered.exact c.args.list.now c.args.x.now c.in-Err.at at))

pub returns-in_ok-insert-in-Err-clause-ok : goal.returns-in_ok-insert-in-Err-clause-ok
returns-in_ok-insert-in-Err-clause-ok g c =
    let at = rw c.as_slice.ensures at c.in-Err.ensures in
    c.in_ok-insert-in-Err.ensures.ok
    ∙ ap (insert c.args.list.now c.in-Err.at) c.in_ok-copy-in-Err.ensures ∙ sym (put_belongs g.met.X.Ordered.exact c.args.list.now c.args.x.now c.in-Err.at at)
