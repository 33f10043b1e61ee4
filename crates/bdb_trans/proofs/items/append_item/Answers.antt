use Rattle.std.proofs.Common.{Some}
use Rattle.bdb_trans.proofs.TurnLemmas.{item_made}
use Rattle.bdb_trans.proofs.items.append_item.Goals as goal

pub returns : goal.returns
returns c = item_made c.args.scope.now.rels.now c.args.scope.now.query.now c.args.set.now c.args.at (Some c.args.item.now) c.as_slice.result.now c.args.steps.now c.append_setting.new.steps c.append_due.new.steps c.append_denying.new.steps
    c.as_slice.ensures c.in_ok-append_setting.ensures c.in_ok-append_due.ensures c.in_ok-append_denying.ensures
