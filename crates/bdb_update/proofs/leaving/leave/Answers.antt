use Rattle.std.proofs.Common.{◌∙◌, ℕ, ◌+◌, nat_eq, Some, refl, ap}
use Rattle.bdb_val.specs.Steps.{counted}
use Rattle.bdb_update.specs.ChangeLaws.{is_of_worlds}
use Rattle.bdb_update.specs.Joining.{is_of_tuples}
use Rattle.bdb_update.proofs.ChangeBounds.{as_tables, leave_within}
use Rattle.bdb_update.proofs.InsertLemmas.{number_still}
use Rattle.bdb_update.proofs.LeaveLemmas.{some_parted, some_fewer, leaves, counts_left}
use Rattle.bdb_update.proofs.StayLemmas.{leave_keeps}
use Rattle.bdb_update.proofs.leaving.leave.Goals as goal

pub drop_worlds-requires-clause-base : goal.drop_worlds-requires-clause-base
drop_worlds-requires-clause-base g c =
    some_parted (g.K.Keeper.seen c.args.keeper.now).kept (g.K.Keeper.seen c.part_statement.new.keeper).kept c.args.stmt.now c.requires.base c.in-Ok.ensures.parted

pub drop_number-requires-clause-base : goal.drop_number-requires-clause-base
drop_number-requires-clause-base g c =
    let t = (g.K.Keeper.seen c.args.keeper.now).kept in
    let u = (g.K.Keeper.seen c.part_statement.new.keeper).kept in
    some_fewer u (g.K.Keeper.seen c.drop_worlds.new.keeper).kept c.args.stmt.now (some_parted t u c.args.stmt.now c.requires.base c.in-Ok.ensures.parted) c.in-Ok-drop_worlds.ensures.worlds

pub drop_number-requires-clause-number : goal.drop_number-requires-clause-number
drop_number-requires-clause-number g c =
    let t = (g.K.Keeper.seen c.args.keeper.now).kept in
    let u = (g.K.Keeper.seen c.part_statement.new.keeper).kept in
    let v = (g.K.Keeper.seen c.drop_worlds.new.keeper).kept in
    number_still is_of_worlds u v c.args.stmt.now.tuple (Some c.args.tid) c.in-Ok-drop_worlds.ensures.others refl
    (number_still (λ n. nat_eq n 11) t u c.args.stmt.now.tuple (Some c.args.tid) (as_tables (λ n. nat_eq n 11) t u c.in-Ok.ensures.others) refl c.requires.number)

pub returns-in-Ok-drop_number-clause-left : goal.returns-in-Ok-drop_number-clause-left
returns-in-Ok-drop_number-clause-left g c =
    leaves (g.K.Keeper.seen c.args.keeper.now).kept (g.K.Keeper.seen c.part_statement.new.keeper).kept (g.K.Keeper.seen c.drop_worlds.new.keeper).kept (g.K.Keeper.seen c.drop_number.new.keeper).kept
    c.args.stmt.now c.in-Ok.ensures.parted c.in-Ok-drop_worlds.ensures.worlds c.in-Ok-drop_number.ensures.number

pub returns-in-Ok-drop_number-clause-counted : goal.returns-in-Ok-drop_number-clause-counted
returns-in-Ok-drop_number-clause-counted g c =
    counts_left (g.K.Keeper.seen c.args.keeper.now).kept (g.K.Keeper.seen c.part_statement.new.keeper).kept (g.K.Keeper.seen c.drop_worlds.new.keeper).kept (g.K.Keeper.seen c.drop_number.new.keeper).kept
    c.args.stmt.now _ c.in-Ok.settled.taken c.in-Ok-drop_worlds.found.1
    (c.both-in-Ok-drop_number.ensures ∙ ap (λ (n : ℕ). counted (n + c.in-Ok-drop_worlds.found.1)) c.both.ensures) c.in-Ok.ensures.parted c.in-Ok.ensures.rows c.in-Ok-drop_worlds.ensures.worlds c.in-Ok-drop_worlds.ensures.counted
    c.in-Ok-drop_worlds.ensures.rows c.in-Ok-drop_number.ensures.number c.in-Ok-drop_number.ensures.tells
    (as_tables is_of_tuples (g.K.Keeper.seen c.drop_worlds.new.keeper).kept (g.K.Keeper.seen c.drop_number.new.keeper).kept c.in-Ok-drop_number.ensures.others)

pub returns-in-Ok-drop_number-clause-writes : goal.returns-in-Ok-drop_number-clause-writes
returns-in-Ok-drop_number-clause-writes g c =
    leave_within (g.K.Keeper.seen c.args.keeper.now) (g.K.Keeper.seen c.part_statement.new.keeper) (g.K.Keeper.seen c.drop_worlds.new.keeper) (g.K.Keeper.seen c.drop_number.new.keeper)
    c.args.stmt.now c.in-Ok-drop_worlds.found.1 c.requires.base c.in-Ok.ensures.parted c.in-Ok.ensures.writes c.in-Ok.ensures.others
    c.in-Ok-drop_worlds.ensures.worlds c.in-Ok-drop_worlds.ensures.rows c.in-Ok-drop_worlds.ensures.names c.in-Ok-drop_worlds.ensures.others c.in-Ok-drop_worlds.ensures.writes
    c.in-Ok-drop_number.ensures.writes c.in-Ok-drop_number.ensures.others
    c.in-Ok-drop_worlds.ensures.changing.counts.writes c.in-Ok-drop_number.ensures.changing.counts.writes

pub returns-in-Ok-drop_number-clause-keeps : goal.returns-in-Ok-drop_number-clause-keeps
returns-in-Ok-drop_number-clause-keeps g c =
    let t = (g.K.Keeper.seen c.args.keeper.now).kept in
    let u = (g.K.Keeper.seen c.part_statement.new.keeper).kept in
    let v = (g.K.Keeper.seen c.drop_worlds.new.keeper).kept in
    let w = (g.K.Keeper.seen c.drop_number.new.keeper).kept in
    leave_keeps t u v w (as_tables (λ n. nat_eq n 11) t u c.in-Ok.ensures.others) c.in-Ok-drop_worlds.ensures.names c.in-Ok-drop_worlds.ensures.others c.in-Ok-drop_number.ensures.stood
    (as_tables is_of_tuples v w c.in-Ok-drop_number.ensures.others)

pub part_statement-requires-clause-length : goal.part_statement-requires-clause-length
part_statement-requires-clause-length g c = c.requires.length
