use Rattle.std.proofs.Common.{◌∙◌, Option, ℕ, sym, subst}
use Rattle.bdb_tables.specs.Codec.{HasAt}
use Rattle.bdb_tables.specs.InUse.{tuple_ix_codec}
use Rattle.bdb_tables.specs.declared.tab.TabError.TheVariants.{Fault}
use Rattle.bdb_keep.specs.Marked.{IsMarkedCount}
use Rattle.bdb_keep.specs.Tables.{Tables}
use Rattle.bdb_keep.specs.declared.keeper.KeyEnd.TheVariants.{Last}
use Rattle.bdb_update.proofs.CallLemmas.{read_then, read_then_err}
use Rattle.bdb_update.proofs.ElsewhereLemmas.{lost_held, lost_none, lost_some}
use Rattle.bdb_update.proofs.elsewhere.is_lost.Goals as goal

pub returns-then-holds_tuple-clause-lost : goal.returns-then-holds_tuple-clause-lost
returns-then-holds_tuple-clause-lost g c =
    lost_held (g.K.Keeper.seen c.args.keeper.now).kept c.args.tuple.now c.args.reached.now (sym c.holds_tuple.ensures ∙ c.if-holds_tuple.true)

pub returns-in-Ok-None-clause-lost : goal.returns-in-Ok-None-clause-lost
returns-in-Ok-None-clause-lost g c =
    let t = (g.K.Keeper.seen c.args.keeper.now).kept in
    let u = c.args.tuple.now in
    lost_none t u c.in-Ok-None.ensures.fits c.args.reached.now (subst (λ (o : Option ℕ). HasAt tuple_ix_codec t u o) c.in-Ok-None.field-0-is c.in-Ok-None.ensures.found)

pub returns-in-Ok-clause-lost : goal.returns-in-Ok-clause-lost
returns-in-Ok-clause-lost g c =
    let t = (g.K.Keeper.seen c.args.keeper.now).kept in
    let u = c.args.tuple.now in
    let tid = c.in-Ok-Some.tid in
    let n = c.in-Ok.count in
    lost_some t u c.in-Ok-Some.ensures.fits tid n c.args.reached.now (subst (λ (o : Option ℕ). HasAt tuple_ix_codec t u o) c.in-Ok-Some.field-0-is c.in-Ok-Some.ensures.found)
    (subst (λ (v : Tables). IsMarkedCount v 11 Last tid n) c.in-Ok-Some.ensures.read.kept c.in-Ok.ensures.counted) (sym c.holds_tuple.ensures ∙ c.if-holds_tuple.false)

pub returns-in-Ok-clause-read : goal.returns-in-Ok-clause-read
returns-in-Ok-clause-read g c =
    read_then (g.K.Keeper.seen c.args.keeper.now) (g.K.Keeper.seen c.number_of.new.keeper) (g.K.Keeper.seen c.count_told.new.keeper) _ c.in-Ok.count _ Fault c.in-Ok-Some.ensures.read c.in-Ok.ensures.read

pub returns-in-Err-count_told-clause-read : goal.returns-in-Err-count_told-clause-read
returns-in-Err-count_told-clause-read g c =
    read_then_err (g.K.Keeper.seen c.args.keeper.now) (g.K.Keeper.seen c.number_of.new.keeper) (g.K.Keeper.seen c.count_told.new.keeper) _ c.in-Err-count_told.error Fault c.in-Ok-Some.ensures.read c.in-Err-count_told.ensures.read
