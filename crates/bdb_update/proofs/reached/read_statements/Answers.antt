use Rattle.std.proofs.Common.{sym, subst}
use Rattle.bdb_tables.specs.declared.tab.TabError.TheVariants.{Fault}
use Rattle.bdb_worlds.specs.Holding.{HoldSome}
use Rattle.bdb_worlds.specs.Reach.{ReachesState}
use Rattle.bdb_update.proofs.CallLemmas.{IsQuiet, quiet_read, quiet_then, read_ok}
use Rattle.bdb_update.proofs.QuietLemmas.{read_undone}
use Rattle.bdb_update.proofs.StandLemmas.{hold_some, stand_at}
use Rattle.bdb_update.proofs.reached.read_statements.Goals as goal

pub longest_state-requires-clause-states : goal.longest_state-requires-clause-states
longest_state-requires-clause-states g c =
    let t = (g.K.Keeper.seen c.args.keeper.now).kept in
    subst (HoldSome t) (sym c.as_slice.ensures.users) (hold_some t c.args.path.now c.requires.base)

pub returns-in-Ok-stated_at-clause-found : goal.returns-in-Ok-stated_at-clause-found
returns-in-Ok-stated_at-clause-found g c =
    let t = (g.K.Keeper.seen c.args.keeper.now).kept in
    let w = c.args.path.now in
    stand_at t (g.K.Keeper.seen c.longest_state.new.keeper).kept w c.in-Ok.found.0 c.in-Ok.found.1 c.in-Ok-read_world.rows.items c.in-Ok-stated_at.stmts c.in-Ok.ensures.kept
    (subst (λ v. ReachesState t v c.in-Ok.found.0 c.in-Ok.found.1) c.as_slice.ensures.users c.in-Ok.ensures.found) c.in-Ok-read_world.ensures.rows
    c.in-Ok-stated_at.ensures.stated

pub returns-in-Ok-stated_at-clause-read : goal.returns-in-Ok-stated_at-clause-read
returns-in-Ok-stated_at-clause-read g c =
    let old = g.K.Keeper.seen c.args.keeper.now in
    let a = g.K.Keeper.seen c.longest_state.new.keeper in
    let b = g.K.Keeper.seen c.read_world.new.keeper in
    let first : IsQuiet old a = record { goes = c.in-Ok.ensures.steps.ok; kept = c.in-Ok.ensures.kept; writes = c.in-Ok.ensures.writes; counts = c.in-Ok.ensures.counts } in
    read_ok old b _ Fault c.requires.running (quiet_then old a b first (quiet_read a b c.in-Ok-read_world.rows Fault c.in-Ok-read_world.ensures.read))

pub returns-in-Err-stated_at-clause-read : goal.returns-in-Err-stated_at-clause-read
returns-in-Err-stated_at-clause-read g c =
    let old = g.K.Keeper.seen c.args.keeper.now in
    let a = g.K.Keeper.seen c.longest_state.new.keeper in
    let b = g.K.Keeper.seen c.read_world.new.keeper in
    let first : IsQuiet old a = record { goes = c.in-Ok.ensures.steps.ok; kept = c.in-Ok.ensures.kept; writes = c.in-Ok.ensures.writes; counts = c.in-Ok.ensures.counts } in
    read_undone old b (g.K.Keeper.seen c.undo.new.self) c.requires.running (quiet_then old a b first (quiet_read a b c.in-Ok-read_world.rows Fault c.in-Ok-read_world.ensures.read)) c.undo.ensures.undone
