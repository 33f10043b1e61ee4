use Rattle.std.proofs.Common.{◌+◌, length, subst}
use Rattle.bdb_tables.specs.declared.tab.TabError.TheVariants.{Fault}
use Rattle.bdb_val.proofs.Calls.{changing_err}
use Rattle.bdb_tables.proofs.Loops.{goes_then}
use Rattle.bdb_keep.specs.Tables.{Tables}
use Rattle.bdb_update.specs.Examining.{Examines}
use Rattle.bdb_update.specs.Keeping.{KeepsNumbers, TakesLeastNames}
use Rattle.bdb_update.specs.Numbering.{TakesLeast}
use Rattle.bdb_update.proofs.CallLemmas.{quiet_read, quiet_gone}
use Rattle.bdb_update.proofs.LeastNumbers.{takes_nothing}
use Rattle.bdb_update.proofs.SpendLemmas.{none_within, quiet_within}
use Rattle.bdb_update.proofs.StayLemmas.{keeps_same, no_names}
use Rattle.bdb_update.proofs.TryLemmas.{moved_fits, try_stands, try_clashes, try_fills, try_stops, try_joins, may_join_now, ready_now, tuples_now}
use Rattle.bdb_update.proofs.trying.try_add.Goals as goal

pub returns-in-Ok-Stands-clause-tried : goal.returns-in-Ok-Stands-clause-tried
returns-in-Ok-Stands-clause-tried g c =
    let old = g.K.Keeper.seen c.args.keeper.now in
    let mid = g.K.Keeper.seen c.examine.new.keeper in
    try_stands old mid c.args.counts.now c.args.stmt.now (quiet_read old mid c.in-Ok-Stands.field-0 Fault c.in-Ok-Stands.ensures.read)
    (subst (Examines old.kept c.args.counts.now c.args.stmt.now) c.in-Ok-Stands.field-0-is c.in-Ok-Stands.ensures.examined)

pub returns-in-Ok-Clashes-clause-tried : goal.returns-in-Ok-Clashes-clause-tried
returns-in-Ok-Clashes-clause-tried g c =
    let old = g.K.Keeper.seen c.args.keeper.now in
    let mid = g.K.Keeper.seen c.examine.new.keeper in
    try_clashes old mid c.args.counts.now c.args.stmt.now c.in-Ok-Clashes.least (quiet_read old mid c.in-Ok-Clashes.field-0 Fault c.in-Ok-Clashes.ensures.read)
    (subst (Examines old.kept c.args.counts.now c.args.stmt.now) c.in-Ok-Clashes.field-0-is c.in-Ok-Clashes.ensures.examined)

pub returns-in-Ok-Fills-clause-tried : goal.returns-in-Ok-Fills-clause-tried
returns-in-Ok-Fills-clause-tried g c =
    let old = g.K.Keeper.seen c.args.keeper.now in
    let mid = g.K.Keeper.seen c.examine.new.keeper in
    try_fills old mid c.args.counts.now c.args.stmt.now c.in-Ok-Fills.what (quiet_read old mid c.in-Ok-Fills.field-0 Fault c.in-Ok-Fills.ensures.read)
    (subst (Examines old.kept c.args.counts.now c.args.stmt.now) c.in-Ok-Fills.field-0-is c.in-Ok-Fills.ensures.examined)

pub returns-in-Err-clause-tried : goal.returns-in-Err-clause-tried
returns-in-Err-clause-tried g c =
    let old = g.K.Keeper.seen c.args.keeper.now in
    let mid = g.K.Keeper.seen c.examine.new.keeper in
    try_stops old mid c.args.counts.now c.args.stmt.now c.in-Err.error c.stopped_by.result c.stopped_by.ensures
    (record { counts = c.in-Err.ensures.read.counts; steps = c.in-Err.ensures.read.steps })

pub insert-requires-clause-base : goal.insert-requires-clause-base
insert-requires-clause-base g c =
    let old = g.K.Keeper.seen c.args.keeper.now in
    let mid = g.K.Keeper.seen c.examine.new.keeper in
    may_join_now old mid c.args.counts.now c.args.stmt.now c.in-Ok-Fits.ready (subst (Examines old.kept c.args.counts.now c.args.stmt.now) c.in-Ok-Fits.field-0-is c.in-Ok-Fits.ensures.examined)
    (quiet_read old mid c.in-Ok-Fits.field-0 Fault c.in-Ok-Fits.ensures.read) c.requires.base

pub insert-requires-clause-world : goal.insert-requires-clause-world
insert-requires-clause-world g c =
    let old = g.K.Keeper.seen c.args.keeper.now in
    let mid = g.K.Keeper.seen c.examine.new.keeper in
    (ready_now old mid c.args.counts.now c.args.stmt.now c.in-Ok-Fits.ready (subst (Examines old.kept c.args.counts.now c.args.stmt.now) c.in-Ok-Fits.field-0-is c.in-Ok-Fits.ensures.examined)
    (quiet_read old mid c.in-Ok-Fits.field-0 Fault c.in-Ok-Fits.ensures.read) c.requires.base).world

pub insert-requires-clause-fits : goal.insert-requires-clause-fits
insert-requires-clause-fits g c =
    let old = g.K.Keeper.seen c.args.keeper.now in
    let mid = g.K.Keeper.seen c.examine.new.keeper in
    (ready_now old mid c.args.counts.now c.args.stmt.now c.in-Ok-Fits.ready (subst (Examines old.kept c.args.counts.now c.args.stmt.now) c.in-Ok-Fits.field-0-is c.in-Ok-Fits.ensures.examined)
    (quiet_read old mid c.in-Ok-Fits.field-0 Fault c.in-Ok-Fits.ensures.read) c.requires.base).fits

pub insert-requires-clause-number : goal.insert-requires-clause-number
insert-requires-clause-number g c =
    let old = g.K.Keeper.seen c.args.keeper.now in
    let mid = g.K.Keeper.seen c.examine.new.keeper in
    (ready_now old mid c.args.counts.now c.args.stmt.now c.in-Ok-Fits.ready (subst (Examines old.kept c.args.counts.now c.args.stmt.now) c.in-Ok-Fits.field-0-is c.in-Ok-Fits.ensures.examined)
    (quiet_read old mid c.in-Ok-Fits.field-0 Fault c.in-Ok-Fits.ensures.read) c.requires.base).number

pub insert-requires-clause-length : goal.insert-requires-clause-length
insert-requires-clause-length g c =
    let old = g.K.Keeper.seen c.args.keeper.now in
    let mid = g.K.Keeper.seen c.examine.new.keeper in
    (ready_now old mid c.args.counts.now c.args.stmt.now c.in-Ok-Fits.ready (subst (Examines old.kept c.args.counts.now c.args.stmt.now) c.in-Ok-Fits.field-0-is c.in-Ok-Fits.ensures.examined)
    (quiet_read old mid c.in-Ok-Fits.field-0 Fault c.in-Ok-Fits.ensures.read) c.requires.base).key_length

pub counts_after-requires-clause-came : goal.counts_after-requires-clause-came
counts_after-requires-clause-came g c =
    let old = g.K.Keeper.seen c.args.keeper.now in
    let mid = g.K.Keeper.seen c.examine.new.keeper in
    (moved_fits old mid c.args.counts.now c.args.stmt.now c.in-Ok-Fits.ready c.in-Ok.moved.came c.in-Ok.moved.went
    (subst (Examines old.kept c.args.counts.now c.args.stmt.now) c.in-Ok-Fits.field-0-is c.in-Ok-Fits.ensures.examined) (quiet_read old mid c.in-Ok-Fits.field-0 Fault c.in-Ok-Fits.ensures.read)
    c.in-Ok.ensures.counted c.requires.base).0

pub counts_after-requires-clause-went : goal.counts_after-requires-clause-went
counts_after-requires-clause-went g c =
    let old = g.K.Keeper.seen c.args.keeper.now in
    let mid = g.K.Keeper.seen c.examine.new.keeper in
    (moved_fits old mid c.args.counts.now c.args.stmt.now c.in-Ok-Fits.ready c.in-Ok.moved.came c.in-Ok.moved.went
    (subst (Examines old.kept c.args.counts.now c.args.stmt.now) c.in-Ok-Fits.field-0-is c.in-Ok-Fits.ensures.examined) (quiet_read old mid c.in-Ok-Fits.field-0 Fault c.in-Ok-Fits.ensures.read)
    c.in-Ok.ensures.counted c.requires.base).1

pub returns-in-Ok-clause-tried : goal.returns-in-Ok-clause-tried
returns-in-Ok-clause-tried g c =
    let old = g.K.Keeper.seen c.args.keeper.now in
    let mid = g.K.Keeper.seen c.examine.new.keeper in
    let new = g.K.Keeper.seen c.insert.new.keeper in
    let quiet = quiet_read old mid c.in-Ok-Fits.field-0 Fault c.in-Ok-Fits.ensures.read in
    try_joins old mid new c.args.counts.now c.args.stmt.now c.in-Ok-Fits.ready c.counts_after.result c.in-Ok.moved.came c.in-Ok.moved.went
    (subst (Examines old.kept c.args.counts.now c.args.stmt.now) c.in-Ok-Fits.field-0-is c.in-Ok-Fits.ensures.examined) c.counts_after.ensures.sizes c.counts_after.ensures.rows quiet c.in-Ok.ensures.joined
    c.in-Ok.ensures.counted (goes_then old mid new quiet.goes c.in-Ok.ensures.changing.steps.ok)

pub returns-in-Err-insert-clause-tried : goal.returns-in-Err-insert-clause-tried
returns-in-Err-insert-clause-tried g c =
    let old = g.K.Keeper.seen c.args.keeper.now in
    let mid = g.K.Keeper.seen c.examine.new.keeper in
    let new = g.K.Keeper.seen c.insert.new.keeper in
    try_stops {T = Unit {0}} old new c.args.counts.now c.args.stmt.now c.in-Err-insert.error c.stopped_by-in-Err-insert.result c.stopped_by-in-Err-insert.ensures
    (changing_err old mid new c.in-Err-insert.error Fault (quiet_gone old mid (quiet_read old mid c.in-Ok-Fits.field-0 Fault c.in-Ok-Fits.ensures.read)) c.in-Err-insert.ensures.changing)

pub returns-in-Ok-Stands-clause-writes : goal.returns-in-Ok-Stands-clause-writes
returns-in-Ok-Stands-clause-writes g c =
    none_within (length c.args.stmt.now.path + 2) 8 (g.K.Keeper.seen c.args.keeper.now) (g.K.Keeper.seen c.examine.new.keeper) c.in-Ok-Stands.ensures.read.writes

pub returns-in-Ok-clause-writes : goal.returns-in-Ok-clause-writes
returns-in-Ok-clause-writes g c =
    let old = g.K.Keeper.seen c.args.keeper.now in
    let mid = g.K.Keeper.seen c.examine.new.keeper in
    quiet_within (length c.args.stmt.now.path + 2) 8 old mid (g.K.Keeper.seen c.insert.new.keeper) (quiet_read old mid c.in-Ok-Fits.field-0 Fault c.in-Ok-Fits.ensures.read) c.in-Ok.ensures.writes

pub insert-requires-clause-counted : goal.insert-requires-clause-counted
insert-requires-clause-counted g c =
    let old = g.K.Keeper.seen c.args.keeper.now in
    let mid = g.K.Keeper.seen c.examine.new.keeper in
    tuples_now old mid c.args.counts.now c.args.stmt.now (quiet_read old mid c.in-Ok-Fits.field-0 Fault c.in-Ok-Fits.ensures.read) c.requires.base

pub returns-in-Ok-Stands-clause-number : goal.returns-in-Ok-Stands-clause-number
returns-in-Ok-Stands-clause-number g c =
    takes_nothing (g.K.Keeper.seen c.args.keeper.now).kept (g.K.Keeper.seen c.examine.new.keeper).kept c.args.stmt.now.tuple c.in-Ok-Stands.ensures.read.kept

pub returns-in-Ok-clause-number : goal.returns-in-Ok-clause-number
returns-in-Ok-clause-number g c =
    subst (λ (t : Tables). TakesLeast t (g.K.Keeper.seen c.insert.new.keeper).kept c.args.stmt.now.tuple) c.in-Ok-Fits.ensures.read.kept c.in-Ok.ensures.number

pub returns-in-Ok-Stands-clause-keeps : goal.returns-in-Ok-Stands-clause-keeps
returns-in-Ok-Stands-clause-keeps g c =
    keeps_same (g.K.Keeper.seen c.args.keeper.now).kept (g.K.Keeper.seen c.examine.new.keeper).kept c.in-Ok-Stands.ensures.read.kept

pub returns-in-Ok-clause-keeps : goal.returns-in-Ok-clause-keeps
returns-in-Ok-clause-keeps g c =
    subst (λ (t : Tables). KeepsNumbers t (g.K.Keeper.seen c.insert.new.keeper).kept) c.in-Ok-Fits.ensures.read.kept c.in-Ok.ensures.keeps

pub returns-in-Ok-Stands-clause-least : goal.returns-in-Ok-Stands-clause-least
returns-in-Ok-Stands-clause-least g c =
    no_names (g.K.Keeper.seen c.args.keeper.now).kept (g.K.Keeper.seen c.examine.new.keeper).kept c.args.stmt.now.path c.in-Ok-Stands.ensures.read.kept

pub returns-in-Ok-clause-least : goal.returns-in-Ok-clause-least
returns-in-Ok-clause-least g c =
    subst (λ (t : Tables). TakesLeastNames t (g.K.Keeper.seen c.insert.new.keeper).kept c.args.stmt.now.path) c.in-Ok-Fits.ensures.read.kept c.in-Ok.ensures.least
