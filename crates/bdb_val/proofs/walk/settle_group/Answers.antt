use Rattle.std.proofs.Common.{sym, subst}
use Rattle.bdb_keep.specs.Tables.{Tables}
use Rattle.bdb_val.specs.Groups.{IsUnsettled}
use Rattle.bdb_val.specs.Reads.{is_of_group}
use Rattle.bdb_val.proofs.WalkingLemmas.{told_back}
use Rattle.bdb_val.proofs.walk.settle_group.Goals as goal

pub returns-in-Ok-settle_from-clause-settled : goal.returns-in-Ok-settle_from-clause-settled
returns-in-Ok-settle_from-clause-settled g c keys stmts ns tuple f u =
    let back = sym c.in-Ok.ensures.read.kept in
    c.in-Ok-settle_from.ensures.settled keys stmts ns tuple f (subst (λ (t : Tables). IsUnsettled keys stmts ns tuple f t c.args.wid (is_of_group keys c.args.rel c.args.key.now)) back u)

pub returns-in-Ok-settle_from-clause-tells : goal.returns-in-Ok-settle_from-clause-tells
returns-in-Ok-settle_from-clause-tells g c keys stmts ns tuple f u =
    let read = c.in-Ok.ensures.read in
    let settled = c.in-Ok-settle_from.settled in
    told_back (g.K.Keeper.seen c.args.keeper.now) (g.K.Keeper.seen c.read_links.new.keeper) (g.K.Keeper.seen c.settle_from.new.keeper) settled.put settled.taken read.kept read.writes
    (c.in-Ok-settle_from.ensures.tells keys stmts ns tuple f (subst (λ (t : Tables). IsUnsettled keys stmts ns tuple f t c.args.wid (is_of_group keys c.args.rel c.args.key.now)) (sym read.kept) u))
