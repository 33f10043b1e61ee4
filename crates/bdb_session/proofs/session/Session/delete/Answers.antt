use Rattle.std.proofs.Common.{◌∙◌, List, ap, length, refl, sym}
use Rattle.bdb_base.specs.declared.kinds.Stmt.{Stmt}
use Rattle.bdb_base.specs.Limits.{deepest_statement}
use Rattle.bdb_val.proofs.Calls.{gone_changing}
use Rattle.bdb_update.proofs.CallLemmas.{gone_itself}
use Rattle.bdb_session.specs.Noting.{made_of}
use Rattle.bdb_session.specs.Within.{sized}
use Rattle.bdb_session.proofs.DeleteLemmas.{HasSelected, delete_changes, delete_path_fits, delete_tells, gone_change, has_selected, some_may_go}
use Rattle.bdb_session.proofs.StepLemmas.{delete_writes, said_accepted}
use Rattle.bdb_session.proofs.TellLemmas.{fitting_users, some_has_users}
use Rattle.bdb_session.proofs.WithinLemmas.{call_stops, tables_stop}
use Rattle.bdb_session.proofs.session.Session.delete.Given.{Over}
use Rattle.bdb_session.proofs.session.Session.delete.Goals as goal
use Rattle.bdb_session.proofs.session.Session.delete.Goals.{After-as_slice}

pub selected-requires : goal.selected-requires
selected-requires g c =
    let k = c.args.self.now in
    let x = c.args.selection.now in
    let fits = delete_path_fits k.catalog x.path x.sign x.rel x.conds c.requires.fits in
    record {
      base = some_has_users (g.K.Keeper.seen c.args.keeper.now).kept (sized k c.args.counts.now) x.path c.requires.agrees (fitting_users k.catalog.users deepest_statement x.path fits);
    }

-- the statements that go have been read
read : (g : Over) (c : After-as_slice g)
    → HasSelected c.args.self.now c.args.counts.now c.args.selection.now (g.K.Keeper.seen c.args.keeper.now) (g.K.Keeper.seen c.selected.new.keeper) c.as_slice.result.now
read g c =
    let x = c.args.selection.now in
    let h = c.in-Ok.ensures in
    has_selected c.as_slice.result.now c.in-Ok.stmts c.as_slice.ensures (delete_path_fits c.args.self.now.catalog x.path x.sign x.rel x.conds c.requires.fits)
    c.requires.agrees h.taken h.kept h.writes h.changing

pub returns-in-Err-clause-told : goal.returns-in-Err-clause-told
returns-in-Err-clause-told g c =
    let old = g.K.Keeper.seen c.args.keeper.now in
    call_stops {T = List Stmt} _ _ _ old old (g.K.Keeper.seen c.selected.new.keeper) c.in-Err.stop (gone_itself old) c.in-Err.ensures.changing

pub returns-in-Err-drop_statements-clause-told : goal.returns-in-Err-drop_statements-clause-told
returns-in-Err-drop_statements-clause-told g c =
    tables_stop {T = Unit {0}} _ _ _ (g.K.Keeper.seen c.args.keeper.now) (g.K.Keeper.seen c.selected.new.keeper) (g.K.Keeper.seen c.drop_statements.new.keeper)
    c.in-Err-drop_statements.error c.stop_from.result c.stop_from.ensures (read g (goal.at.returns-in-Err-drop_statements-clause-told g c).After-as_slice).went
    c.in-Err-drop_statements.ensures.changing

pub drop_statements-requires-clause-base : goal.drop_statements-requires-clause-base
drop_statements-requires-clause-base g c = some_may_go (read g (goal.at.drop_statements-requires-clause-base g c).After-as_slice)

pub returns-in-Ok-drop_statements-clause-told : goal.returns-in-Ok-drop_statements-clause-told
returns-in-Ok-drop_statements-clause-told g c =
    let d = c.in-Ok-drop_statements.ensures in
    let mid = g.K.Keeper.seen c.drop_statements.new.keeper in
    delete_tells (read g (goal.at.returns-in-Ok-drop_statements-clause-told g c).After-as_slice) mid c.drop_statements.new.counts d.gone (g.K.Keeper.seen c.tell_count.new.keeper)
    c.len-count.result c.tell_count.result (gone_changing (g.K.Keeper.seen c.selected.new.keeper) mid tt _ d.changing)
    (c.len-count.ensures ∙ ap (λ (l : List Stmt). length l) (sym c.as_slice.ensures)) c.tell_count.ensures

pub returns-in-Ok-drop_statements-clause-writes : goal.returns-in-Ok-drop_statements-clause-writes
returns-in-Ok-drop_statements-clause-writes g c =
    delete_writes (read g (goal.at.returns-in-Ok-drop_statements-clause-writes g c).After-as_slice) (g.K.Keeper.seen c.drop_statements.new.keeper) (g.K.Keeper.seen c.tell_count.new.keeper)
    c.args.self.now.catalog _ c.tell_count.result refl c.in-Ok-drop_statements.ensures.writes c.in-Ok-drop_statements.ensures.steps (c.tell_count.ensures c.requires.agrees.state)

pub returns-in-Ok-drop_statements-clause-accepted : goal.returns-in-Ok-drop_statements-clause-accepted
returns-in-Ok-drop_statements-clause-accepted g c =
    said_accepted c.args.self.now.catalog _ (g.K.Keeper.seen c.drop_statements.new.keeper) (g.K.Keeper.seen c.tell_count.new.keeper) c.tell_count.result refl
    (c.tell_count.ensures c.requires.agrees.state)

pub returns-in-Ok-drop_statements-clause-change : goal.returns-in-Ok-drop_statements-clause-change
returns-in-Ok-drop_statements-clause-change g c =
    delete_changes (read g (goal.at.returns-in-Ok-drop_statements-clause-change g c).After-as_slice) (g.K.Keeper.seen c.drop_statements.new.keeper) c.drop_statements.new.counts
    c.in-Ok-drop_statements.ensures.gone c.tell_count.result c.statements_taken.result
    (c.statements_taken.ensures ∙ ap (λ (l : List Stmt). made_of (gone_change l)) (sym c.as_slice.ensures))
