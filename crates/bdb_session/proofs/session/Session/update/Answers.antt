use Rattle.std.proofs.Common.{◌≡◌, ◌∙◌, ℕ, List, Option, Result, Ok, Err, ap, length, map, refl, subst, sym}
use Rattle.bdb_base.specs.Changes.{changed_statement}
use Rattle.bdb_base.specs.Limits.{deepest_statement}
use Rattle.bdb_base.specs.declared.kinds.SetCol.{SetCol}
use Rattle.bdb_base.specs.declared.kinds.Stmt.{Stmt}
use Rattle.bdb_keep.specs.Tables.{Tables}
use Rattle.bdb_undo.specs.declared.change.Change.{Change}
use Rattle.bdb_update.specs.Calls.{Changes, SomeMayChange}
use Rattle.bdb_update.specs.Steps.{ChangesThrough}
use Rattle.bdb_update.specs.declared.answer.UpdateError.{UpdateError}
use Rattle.bdb_update.proofs.CallLemmas.{gone_itself}
use Rattle.bdb_val.proofs.Calls.{gone_changing}
use Rattle.bdb_session.specs.Noting.{Replaces}
use Rattle.bdb_session.specs.Within.{sized}
use Rattle.bdb_session.proofs.DeleteLemmas.{has_selected}
use Rattle.bdb_session.proofs.StepLemmas.{update_err_writes, update_writes}
use Rattle.bdb_session.proofs.TellLemmas.{fitting_users, some_has_users}
use Rattle.bdb_session.proofs.UpdateLemmas.{IsUpdate, read_on, some_may_change, some_may_meet_each, update_changes_done, update_changes_err, update_path_fits, update_tells_done, update_tells_err}
use Rattle.bdb_session.proofs.WithinLemmas.{call_stops, memory_tells, tables_stop}
use Rattle.bdb_session.proofs.session.Session.update.Given.{Over}
use Rattle.bdb_session.proofs.session.Session.update.Goals as goal
use Rattle.bdb_session.proofs.session.Session.update.Goals.{After-as_slice-come, After-change_statements, In-Ok-replacement}

pub selected-requires : goal.selected-requires
selected-requires g c =
    let k = c.args.self.now in
    let x = c.args.selection.now in
    let fits = update_path_fits k.catalog x.path x.sign x.rel c.args.sets.now x.conds c.requires.fits in
    record {
      base = some_has_users (g.K.Keeper.seen c.args.keeper.now).kept (sized k c.args.counts.now) x.path c.requires.agrees (fitting_users k.catalog.users deepest_statement x.path fits);
    }

-- the statements that come are those that go with columns of their tuples set
come-is : (g : Over) (c : After-as_slice-come g) → c.as_slice-come.result.now ≡ map (changed_statement c.args.sets.now) c.as_slice-gone.result.now
come-is g c =
    c.as_slice-come.ensures ∙ c.in-Ok-changed_statements.ensures ∙ ap (λ (l : List SetCol). map (changed_statement l) c.as_slice.result.now) c.as_slice-2.ensures
    ∙ ap (λ (l : List Stmt). map (changed_statement c.args.sets.now) l) (c.as_slice.ensures ∙ sym c.as_slice-gone.ensures)

-- what the update needs has been read
read : (g : Over) (c : After-as_slice-come g)
    → IsUpdate c.args.self.now c.args.counts.now c.args.selection.now c.args.sets.now (g.K.Keeper.seen c.args.keeper.now) (g.K.Keeper.seen c.selected.new.keeper)
    c.as_slice-gone.result.now c.as_slice-come.result.now
read g c =
    let x = c.args.selection.now in
    let h = c.in-Ok.ensures in
    record {
      fits = c.requires.fits;
      selected = has_selected c.as_slice-gone.result.now c.in-Ok.gone c.as_slice-gone.ensures
          (update_path_fits c.args.self.now.catalog x.path x.sign x.rel c.args.sets.now x.conds c.requires.fits) c.requires.agrees h.taken h.kept h.writes h.changing;
      changed = come-is g c;
    }

-- and still is, where it is known what is replaced
update : (g : Over) (c : In-Ok-replacement g)
    → IsUpdate c.args.self.now c.args.counts.now c.args.selection.now c.args.sets.now (g.K.Keeper.seen c.args.keeper.now) (g.K.Keeper.seen c.replacement.new.keeper)
    c.as_slice-gone.result.now c.as_slice-come.result.now
update g c =
    let r = c.in-Ok-replacement.ensures in
    read_on (read g (goal.at.In-Ok-replacement g c).After-as_slice-come) (g.K.Keeper.seen c.replacement.new.keeper) r.kept r.writes (gone_changing _ _ _ _ r.changing)

-- what comes of the change by its answer, said of a path
abbrev Comes : (g : Over) (c : After-change_statements g) → Result (Unit {0}) UpdateError → List ℕ → Type 0
Comes g c result path =
    Changes (g.K.Keeper.seen c.replacement.new.keeper) (g.K.Keeper.seen c.change_statements.new.keeper) c.args.counts.now c.change_statements.new.counts path
    c.as_slice-gone.result.now c.as_slice-come.result.now result

-- it is said of the path that the command is about
comes : (g : Over) (c : After-change_statements g) (result : Result (Unit {0}) UpdateError) → Comes g c result c.as_slice-path.result.now → Comes g c result c.args.selection.now.path
comes g c result = subst (Comes g c result) c.as_slice-path.ensures.users

pub returns-in-Err-clause-told : goal.returns-in-Err-clause-told
returns-in-Err-clause-told g c =
    let old = g.K.Keeper.seen c.args.keeper.now in
    call_stops {T = List Stmt} _ _ _ old old (g.K.Keeper.seen c.selected.new.keeper) c.in-Err.stop (gone_itself old) c.in-Err.ensures.changing

pub returns-in-Err-changed_statements-clause-told : goal.returns-in-Err-changed_statements-clause-told
returns-in-Err-changed_statements-clause-told g c =
    memory_tells _ _ _ (g.K.Keeper.seen c.args.keeper.now) (g.K.Keeper.seen c.selected.new.keeper) (g.K.Keeper.seen c.undo.new.self) (gone_changing _ _ _ _ c.in-Ok.ensures.changing)
    c.undo.ensures.undone

pub returns-in-Err-replacement-clause-told : goal.returns-in-Err-replacement-clause-told
returns-in-Err-replacement-clause-told g c =
    tables_stop {T = Option Change} _ _ _ (g.K.Keeper.seen c.args.keeper.now) (g.K.Keeper.seen c.selected.new.keeper) (g.K.Keeper.seen c.replacement.new.keeper)
    c.in-Err-replacement.error c.stop_from.result c.stop_from.ensures (gone_changing _ _ _ _ c.in-Ok.ensures.changing) c.in-Err-replacement.ensures.changing

pub replacement-requires-clause-base : goal.replacement-requires-clause-base
replacement-requires-clause-base g c = some_may_meet_each (read g (goal.at.replacement-requires-clause-base g c).After-as_slice-come)

pub change_statements-requires-clause-base : goal.change_statements-requires-clause-base
change_statements-requires-clause-base g c =
    subst (λ (w : List ℕ). SomeMayChange (g.K.Keeper.seen c.replacement.new.keeper).kept c.args.counts.now w c.as_slice-gone.result.now c.as_slice-come.result.now)
    (sym c.as_slice-path.ensures.users) (some_may_change (update g (goal.at.change_statements-requires-clause-base g c).In-Ok-replacement))

pub returns-in-Ok-change_statements-clause-told : goal.returns-in-Ok-change_statements-clause-told
returns-in-Ok-change_statements-clause-told g c =
    let at = goal.at.returns-in-Ok-change_statements-clause-told g c in
    let changed = comes g at.After-change_statements (Ok tt) c.in-Ok-change_statements.ensures.changed in
    update_tells_done (update g at.In-Ok-replacement) _ _ _ _ c.in-Ok-change_statements.ensures.counts (length c.as_slice-gone.result.now) refl changed c.tell_count.ensures

pub returns-clause-told : goal.returns-clause-told
returns-clause-told g c =
    let at = goal.at.returns-clause-told g c in
    let error = c.in-Err-change_statements.error in
    let unchanged = comes g at.After-change_statements (Err error) c.in-Err-change_statements.ensures.changed in
    update_tells_err (update g at.In-Ok-replacement) _ _ _ _ c.in-Err-change_statements.ensures.counts error unchanged c.refuse_change.ensures

pub returns-in-Ok-change_statements-clause-writes : goal.returns-in-Ok-change_statements-clause-writes
returns-in-Ok-change_statements-clause-writes g c =
    let mid = g.K.Keeper.seen c.replacement.new.keeper in
    let fin = g.K.Keeper.seen c.change_statements.new.keeper in
    let through = subst (λ (w : List ℕ). ChangesThrough c.args.counts.now w c.as_slice-gone.result.now c.as_slice-come.result.now mid fin) c.as_slice-path.ensures.users
    c.in-Ok-change_statements.ensures.writes in
    update_writes (update g (goal.at.returns-in-Ok-change_statements-clause-writes g c).In-Ok-replacement) fin (g.K.Keeper.seen c.tell_count.new.keeper) c.tell_count.result
    _ refl through (c.tell_count.ensures c.requires.agrees.state)

pub returns-clause-writes : goal.returns-clause-writes
returns-clause-writes g c =
    let at = goal.at.returns-clause-writes g c in
    let error = c.in-Err-change_statements.error in
    let unchanged = comes g at.After-change_statements (Err error) c.in-Err-change_statements.ensures.changed in
    update_err_writes (update g at.In-Ok-replacement) (g.K.Keeper.seen c.change_statements.new.keeper) (g.K.Keeper.seen c.refuse_change.new.keeper) c.refuse_change.result
    c.change_statements.new.counts error unchanged c.refuse_change.ensures

pub returns-in-Ok-change_statements-clause-change : goal.returns-in-Ok-change_statements-clause-change
returns-in-Ok-change_statements-clause-change g c =
    let at = goal.at.returns-in-Ok-change_statements-clause-change g c in
    let r = c.in-Ok-replacement.ensures in
    let is = c.in-Ok-replacement.replaced in
    let replaced = subst (λ (t : Tables). Replaces t c.args.counts.now c.as_slice-gone.result.now c.as_slice-come.result.now is) (sym r.kept) r.change in
    update_changes_done (update g at.In-Ok-replacement) (g.K.Keeper.seen c.change_statements.new.keeper) (g.K.Keeper.seen c.tell_count.new.keeper) c.change_statements.new.counts
    c.tell_count.result c.in-Ok-change_statements.ensures.counts is replaced (comes g at.After-change_statements (Ok tt) c.in-Ok-change_statements.ensures.changed)

pub returns-clause-change : goal.returns-clause-change
returns-clause-change g c =
    let at = goal.at.returns-clause-change g c in
    let e = c.in-Err-change_statements in
    update_changes_err (update g at.In-Ok-replacement) (g.K.Keeper.seen c.change_statements.new.keeper) (g.K.Keeper.seen c.refuse_change.new.keeper) c.change_statements.new.counts
    c.refuse_change.result e.ensures.counts c.args.change.now c.requires.nothing e.error (comes g at.After-change_statements (Err e.error) e.ensures.changed) c.refuse_change.ensures
