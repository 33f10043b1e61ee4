use Rattle.std.proofs.Common.{Bool, subst}
use Rattle.bdb_tables.specs.declared.tab.TabError.TheVariants.{Fault, Memory}
use Rattle.bdb_update.specs.Examining.{StandsThere}
use Rattle.bdb_update.proofs.CallLemmas.{gone_itself}
use Rattle.bdb_val.proofs.Calls.{changing_err_read, changing_ok, changing_undone, gone_read}
use Rattle.bdb_session.proofs.NotingLemmas.{pushed_none, pushed_one}
use Rattle.bdb_session.proofs.changes.push_new.Goals as goal

pub returns-in-Ok-true-clause-pushed : goal.returns-in-Ok-true-clause-pushed
returns-in-Ok-true-clause-pushed g c =
    let t = (g.K.Keeper.seen c.args.keeper.now).kept in
    pushed_none t c.args.counts.now c.args.stmt.now c.args.list.now
    (subst (λ (b : Bool). StandsThere t c.args.counts.now c.args.stmt.now b) c.in-Ok-true.field-0-test c.in-Ok-true.ensures.stands)

pub returns-in-Ok-true-clause-changing : goal.returns-in-Ok-true-clause-changing
returns-in-Ok-true-clause-changing g c =
    let old = g.K.Keeper.seen c.args.keeper.now in
    let new = g.K.Keeper.seen c.stands.new.keeper in
    changing_ok old new tt Fault (gone_read old new c.in-Ok-true.field-0 Fault c.in-Ok-true.ensures.read)

pub returns-in-Ok-clause-pushed : goal.returns-in-Ok-clause-pushed
returns-in-Ok-clause-pushed g c =
    let t = (g.K.Keeper.seen c.args.keeper.now).kept in
    pushed_one t c.args.counts.now c.args.stmt.now c.args.list.now c.push_copy.new.list c.in-Ok.ensures
    (subst (λ (b : Bool). StandsThere t c.args.counts.now c.args.stmt.now b) c.in-Ok-false.field-0-test c.in-Ok-false.ensures.stands)

pub returns-in-Ok-clause-changing : goal.returns-in-Ok-clause-changing
returns-in-Ok-clause-changing g c =
    let old = g.K.Keeper.seen c.args.keeper.now in
    let new = g.K.Keeper.seen c.stands.new.keeper in
    changing_ok old new tt Fault (gone_read old new c.in-Ok-false.field-0 Fault c.in-Ok-false.ensures.read)

pub returns-in-Err-push_copy-clause-changing : goal.returns-in-Err-push_copy-clause-changing
returns-in-Err-push_copy-clause-changing g c =
    let old = g.K.Keeper.seen c.args.keeper.now in
    let read = g.K.Keeper.seen c.stands.new.keeper in
    changing_undone {U = Unit {0}} old read (g.K.Keeper.seen c.undo.new.self) Memory Fault (gone_read old read c.in-Ok-false.field-0 Fault c.in-Ok-false.ensures.read)
    c.undo.ensures.undone (λ e. absurd cc)

pub returns-in-Err-clause-changing : goal.returns-in-Err-clause-changing
returns-in-Err-clause-changing g c =
    let old = g.K.Keeper.seen c.args.keeper.now in
    changing_err_read {T = Bool} {U = Unit {0}} old old (g.K.Keeper.seen c.stands.new.keeper) c.in-Err.error Fault (gone_itself old) c.in-Err.ensures.read
