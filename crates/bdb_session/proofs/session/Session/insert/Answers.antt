use Rattle.std.proofs.Common.{◌+◌, length, Ok, refl, subst}
use Rattle.bdb_update.specs.Calls.{Adds}
use Rattle.bdb_update.specs.declared.answer.Added.{Added}
use Rattle.bdb_session.proofs.InsertLemmas.{insert_changes_already, insert_changes_err, insert_changes_new, insert_tells_already, insert_tells_err, insert_tells_memory, insert_tells_new}
use Rattle.bdb_session.proofs.WriteLemmas.{said_writes, accepted_unrefused, insert_err_writes, new_unstood, already_unwritten, err_unwritten}
use Rattle.bdb_session.proofs.session.Session.insert.Goals as goal

pub returns-in-Ok-clause-told : goal.returns-in-Ok-clause-told
returns-in-Ok-clause-told g c =
    let old = g.K.Keeper.seen c.args.keeper.now in
    let mid = g.K.Keeper.seen c.add_statement.new.keeper in
    insert_tells_new c.args.self.now c.args.stmt c.args.counts.now c.add_statement.new.counts old mid c.requires.fits (g.K.Keeper.seen c.tell_count.new.keeper) c.tell_count.result
    c.requires.agrees c.in-Ok-New.ensures.counts
    (subst (λ (r : Added). Adds old mid c.args.counts.now c.add_statement.new.counts c.args.stmt (Ok r)) c.in-Ok-New.field-0-is c.in-Ok-New.ensures.added) c.tell_count.ensures

pub returns-in-Ok-Already-clause-told : goal.returns-in-Ok-Already-clause-told
returns-in-Ok-Already-clause-told g c =
    let old = g.K.Keeper.seen c.args.keeper.now in
    let mid = g.K.Keeper.seen c.add_statement.new.keeper in
    insert_tells_already c.args.self.now c.args.stmt c.args.counts.now c.add_statement.new.counts old mid c.requires.fits (g.K.Keeper.seen c.tell_count-in-Ok-Already.new.keeper)
    c.tell_count-in-Ok-Already.result c.requires.agrees c.in-Ok-Already.ensures.counts
    (subst (λ (r : Added). Adds old mid c.args.counts.now c.add_statement.new.counts c.args.stmt (Ok r)) c.in-Ok-Already.field-0-is c.in-Ok-Already.ensures.added)
    c.tell_count-in-Ok-Already.ensures

pub returns-in-Err-clause-told : goal.returns-in-Err-clause-told
returns-in-Err-clause-told g c =
    insert_tells_err c.args.self.now c.args.stmt c.args.counts.now c.add_statement.new.counts (g.K.Keeper.seen c.args.keeper.now) (g.K.Keeper.seen c.add_statement.new.keeper) c.requires.fits
    (g.K.Keeper.seen c.refuse_change.new.keeper) c.refuse_change.result c.in-Err.error c.requires.agrees c.in-Err.ensures.counts c.in-Err.ensures.added c.refuse_change.ensures

pub returns-in-Ok-clause-writes : goal.returns-in-Ok-clause-writes
returns-in-Ok-clause-writes g c =
    said_writes (length c.args.stmt.path + 2) 8 c.args.self.now.catalog _ (g.K.Keeper.seen c.args.keeper.now) (g.K.Keeper.seen c.add_statement.new.keeper) (g.K.Keeper.seen c.tell_count.new.keeper)
    c.tell_count.result c.in-Ok-New.ensures.writes (c.tell_count.ensures c.requires.agrees.state)

pub returns-in-Ok-clause-refused : goal.returns-in-Ok-clause-refused
returns-in-Ok-clause-refused g c =
    accepted_unrefused c.args.self.now.catalog _ (g.K.Keeper.seen c.args.keeper.now) (g.K.Keeper.seen c.add_statement.new.keeper) (g.K.Keeper.seen c.tell_count.new.keeper)
    c.tell_count.result refl (c.tell_count.ensures c.requires.agrees.state)

pub returns-in-Ok-Already-clause-writes : goal.returns-in-Ok-Already-clause-writes
returns-in-Ok-Already-clause-writes g c =
    said_writes (length c.args.stmt.path + 2) 8 c.args.self.now.catalog _ (g.K.Keeper.seen c.args.keeper.now) (g.K.Keeper.seen c.add_statement.new.keeper) (g.K.Keeper.seen c.tell_count-in-Ok-Already.new.keeper)
    c.tell_count-in-Ok-Already.result c.in-Ok-Already.ensures.writes (c.tell_count-in-Ok-Already.ensures c.requires.agrees.state)

pub returns-in-Ok-Already-clause-refused : goal.returns-in-Ok-Already-clause-refused
returns-in-Ok-Already-clause-refused g c =
    accepted_unrefused c.args.self.now.catalog _ (g.K.Keeper.seen c.args.keeper.now) (g.K.Keeper.seen c.add_statement.new.keeper) (g.K.Keeper.seen c.tell_count-in-Ok-Already.new.keeper)
    c.tell_count-in-Ok-Already.result refl (c.tell_count-in-Ok-Already.ensures c.requires.agrees.state)

pub returns-in-Err-clause-writes : goal.returns-in-Err-clause-writes
returns-in-Err-clause-writes g c =
    (insert_err_writes c.args.self.now c.args.stmt c.args.counts.now c.add_statement.new.counts (g.K.Keeper.seen c.args.keeper.now) (g.K.Keeper.seen c.add_statement.new.keeper)
    (g.K.Keeper.seen c.refuse_change.new.keeper) c.refuse_change.result c.requires.fits c.requires.agrees c.in-Err.error c.in-Err.ensures.added c.refuse_change.ensures).0

pub returns-in-Err-clause-refused : goal.returns-in-Err-clause-refused
returns-in-Err-clause-refused g c =
    (insert_err_writes c.args.self.now c.args.stmt c.args.counts.now c.add_statement.new.counts (g.K.Keeper.seen c.args.keeper.now) (g.K.Keeper.seen c.add_statement.new.keeper)
    (g.K.Keeper.seen c.refuse_change.new.keeper) c.refuse_change.result c.requires.fits c.requires.agrees c.in-Err.error c.in-Err.ensures.added c.refuse_change.ensures).1

pub returns-in-Ok-clause-already : goal.returns-in-Ok-clause-already
returns-in-Ok-clause-already g c =
    let old = g.K.Keeper.seen c.args.keeper.now in
    let mid = g.K.Keeper.seen c.add_statement.new.keeper in
    new_unstood c.args.self.now c.args.stmt c.args.counts.now c.add_statement.new.counts old mid (g.K.Keeper.seen c.tell_count.new.keeper) c.tell_count.result c.requires.fits
    (subst (λ (r : Added). Adds old mid c.args.counts.now c.add_statement.new.counts c.args.stmt (Ok r)) c.in-Ok-New.field-0-is c.in-Ok-New.ensures.added)

pub returns-in-Ok-Already-clause-already : goal.returns-in-Ok-Already-clause-already
returns-in-Ok-Already-clause-already g c =
    let old = g.K.Keeper.seen c.args.keeper.now in
    let mid = g.K.Keeper.seen c.add_statement.new.keeper in
    already_unwritten c.args.self.now c.args.stmt c.args.counts.now c.add_statement.new.counts old mid (g.K.Keeper.seen c.tell_count-in-Ok-Already.new.keeper)
    c.tell_count-in-Ok-Already.result c.requires.fits _
    (subst (λ (r : Added). Adds old mid c.args.counts.now c.add_statement.new.counts c.args.stmt (Ok r)) c.in-Ok-Already.field-0-is c.in-Ok-Already.ensures.added)
    (c.tell_count-in-Ok-Already.ensures c.requires.agrees.state)

pub returns-in-Err-clause-already : goal.returns-in-Err-clause-already
returns-in-Err-clause-already g c =
    err_unwritten c.args.self.now c.args.stmt c.args.counts.now c.add_statement.new.counts (g.K.Keeper.seen c.args.keeper.now) (g.K.Keeper.seen c.add_statement.new.keeper)
    (g.K.Keeper.seen c.refuse_change.new.keeper) c.refuse_change.result c.requires.fits c.in-Err.error c.in-Err.ensures.added c.refuse_change.ensures

pub returns-in-Err-statement_added-clause-told : goal.returns-in-Err-statement_added-clause-told
returns-in-Err-statement_added-clause-told g c =
    let old = g.K.Keeper.seen c.args.keeper.now in
    let mid = g.K.Keeper.seen c.add_statement.new.keeper in
    insert_tells_memory c.args.self.now c.args.stmt c.args.counts.now c.add_statement.new.counts old mid c.requires.fits (g.K.Keeper.seen c.undo.new.self) c.requires.agrees
    c.in-Ok-New.ensures.counts
    (subst (λ (r : Added). Adds old mid c.args.counts.now c.add_statement.new.counts c.args.stmt (Ok r)) c.in-Ok-New.field-0-is c.in-Ok-New.ensures.added) c.undo.ensures.undone

pub returns-in-Ok-clause-change : goal.returns-in-Ok-clause-change
returns-in-Ok-clause-change g c =
    let old = g.K.Keeper.seen c.args.keeper.now in
    let mid = g.K.Keeper.seen c.add_statement.new.keeper in
    insert_changes_new c.args.self.now c.args.stmt c.args.counts.now c.add_statement.new.counts old mid c.requires.fits c.tell_count.result c.in-Ok.made c.in-Ok.ensures
    (subst (λ (r : Added). Adds old mid c.args.counts.now c.add_statement.new.counts c.args.stmt (Ok r)) c.in-Ok-New.field-0-is c.in-Ok-New.ensures.added)

pub returns-in-Ok-Already-clause-change : goal.returns-in-Ok-Already-clause-change
returns-in-Ok-Already-clause-change g c =
    let old = g.K.Keeper.seen c.args.keeper.now in
    let mid = g.K.Keeper.seen c.add_statement.new.keeper in
    insert_changes_already c.args.self.now c.args.stmt c.args.counts.now c.add_statement.new.counts old mid c.requires.fits c.tell_count-in-Ok-Already.result c.args.change.now
    c.requires.nothing
    (subst (λ (r : Added). Adds old mid c.args.counts.now c.add_statement.new.counts c.args.stmt (Ok r)) c.in-Ok-Already.field-0-is c.in-Ok-Already.ensures.added)

pub returns-in-Err-clause-change : goal.returns-in-Err-clause-change
returns-in-Err-clause-change g c =
    insert_changes_err c.args.self.now c.args.stmt c.args.counts.now c.add_statement.new.counts (g.K.Keeper.seen c.args.keeper.now) (g.K.Keeper.seen c.add_statement.new.keeper)
    c.requires.fits (g.K.Keeper.seen c.refuse_change.new.keeper) c.refuse_change.result c.args.change.now c.in-Err.error c.requires.nothing c.in-Err.ensures.added c.refuse_change.ensures
