use Rattle.std.proofs.Common.{◌+◌, length, subst, sym}
use Rattle.bdb_keep.specs.Tables.{Tables}
use Rattle.bdb_update.specs.Keeping.{KeepsNumbers}
use Rattle.bdb_tables.specs.Lengths.{IsKeyLength}
use Rattle.bdb_tables.specs.declared.tab.TabError.TheVariants.{Fault}
use Rattle.bdb_tables.proofs.Loops.{goes_then}
use Rattle.bdb_update.proofs.CallLemmas.{quiet_read}
use Rattle.bdb_update.proofs.ExamineLemmas.{may_look}
use Rattle.bdb_update.proofs.LeaveLemmas.{some_may_part, world_now, drop_absent, drop_stops, drop_leaves, may_lose_now}
use Rattle.bdb_update.proofs.SpendLemmas.{none_within, quiet_within}
use Rattle.bdb_update.proofs.StayLemmas.{keeps_same}
use Rattle.bdb_update.proofs.leaving.try_drop.Goals as goal

pub look-requires-clause-grammar : goal.look-requires-clause-grammar
look-requires-clause-grammar g c = (may_look (g.K.Keeper.seen c.args.keeper.now).kept c.args.counts.now c.args.stmt.now c.requires.base).grammar

pub look-requires-clause-tuples : goal.look-requires-clause-tuples
look-requires-clause-tuples g c = (may_look (g.K.Keeper.seen c.args.keeper.now).kept c.args.counts.now c.args.stmt.now c.requires.base).tuples

pub look-requires-clause-states : goal.look-requires-clause-states
look-requires-clause-states g c = (may_look (g.K.Keeper.seen c.args.keeper.now).kept c.args.counts.now c.args.stmt.now c.requires.base).states

pub look-requires-clause-apart : goal.look-requires-clause-apart
look-requires-clause-apart g c = (may_look (g.K.Keeper.seen c.args.keeper.now).kept c.args.counts.now c.args.stmt.now c.requires.base).apart

pub look-requires-clause-tuple : goal.look-requires-clause-tuple
look-requires-clause-tuple g c = (may_look (g.K.Keeper.seen c.args.keeper.now).kept c.args.counts.now c.args.stmt.now c.requires.base).tuple

pub returns-in-Err-clause-tried : goal.returns-in-Err-clause-tried
returns-in-Err-clause-tried g c =
    let old = g.K.Keeper.seen c.args.keeper.now in
    drop_stops old (g.K.Keeper.seen c.look.new.keeper) c.args.counts.now c.args.stmt.now c.in-Err.error (record { counts = c.in-Err.ensures.read.counts; steps = c.in-Err.ensures.read.steps })

pub returns-in-None-clause-tried : goal.returns-in-None-clause-tried
returns-in-None-clause-tried g c =
    let old = g.K.Keeper.seen c.args.keeper.now in
    let mid = g.K.Keeper.seen c.look.new.keeper in
    drop_absent old mid c.args.counts.now c.args.stmt.now c.in-Ok.finding (quiet_read old mid c.in-Ok.finding Fault c.in-Ok.ensures.read) c.in-Ok.ensures.finding (sym c.in-None.ensures)

pub leave-requires-clause-base : goal.leave-requires-clause-base
leave-requires-clause-base g c =
    let old = g.K.Keeper.seen c.args.keeper.now in
    let mid = g.K.Keeper.seen c.look.new.keeper in
    some_may_part old mid c.args.counts.now c.args.stmt.now c.in-Ok.finding c.in-Ok.ensures.finding (quiet_read old mid c.in-Ok.finding Fault c.in-Ok.ensures.read) c.in-Some.tid (sym c.in-Some.ensures) c.requires.base

pub leave-requires-clause-world : goal.leave-requires-clause-world
leave-requires-clause-world g c =
    let old = g.K.Keeper.seen c.args.keeper.now in
    let mid = g.K.Keeper.seen c.look.new.keeper in
    world_now old mid c.args.counts.now c.args.stmt.now c.in-Ok.finding c.in-Ok.ensures.finding (quiet_read old mid c.in-Ok.finding Fault c.in-Ok.ensures.read) c.in-Some.tid (sym c.in-Some.ensures) c.requires.base

pub counts_less-requires : goal.counts_less-requires
counts_less-requires g c =
    let old = g.K.Keeper.seen c.args.keeper.now in
    let mid = g.K.Keeper.seen c.look.new.keeper in
    may_lose_now old mid (g.K.Keeper.seen c.leave.new.keeper) c.args.counts.now c.args.stmt.now c.in-Ok.finding c.in-Ok.ensures.finding (quiet_read old mid c.in-Ok.finding Fault c.in-Ok.ensures.read)
    c.in-Some.tid (sym c.in-Some.ensures) c.in-Ok-leave.gone c.in-Ok-leave.ensures.counted c.requires.base

pub returns-in-Ok-leave-clause-tried : goal.returns-in-Ok-leave-clause-tried
returns-in-Ok-leave-clause-tried g c =
    let old = g.K.Keeper.seen c.args.keeper.now in
    let mid = g.K.Keeper.seen c.look.new.keeper in
    let new = g.K.Keeper.seen c.leave.new.keeper in
    let quiet = quiet_read old mid c.in-Ok.finding Fault c.in-Ok.ensures.read in
    drop_leaves old mid new c.args.counts.now c.args.stmt.now c.in-Ok.finding c.in-Ok.ensures.finding quiet
    c.in-Some.tid (sym c.in-Some.ensures) c.in-Ok-leave.gone c.in-Ok-leave.ensures.counted c.counts_less.result c.counts_less.ensures c.in-Ok-leave.ensures.left
    (goes_then old mid new quiet.goes c.in-Ok-leave.ensures.changing.steps.ok)

pub returns-in-None-clause-writes : goal.returns-in-None-clause-writes
returns-in-None-clause-writes g c =
    none_within (length c.args.stmt.now.path + 2) 8 (g.K.Keeper.seen c.args.keeper.now) (g.K.Keeper.seen c.look.new.keeper) c.in-Ok.ensures.read.writes

pub returns-in-Ok-leave-clause-writes : goal.returns-in-Ok-leave-clause-writes
returns-in-Ok-leave-clause-writes g c =
    let old = g.K.Keeper.seen c.args.keeper.now in
    let mid = g.K.Keeper.seen c.look.new.keeper in
    quiet_within (length c.args.stmt.now.path + 2) 8 old mid (g.K.Keeper.seen c.leave.new.keeper) (quiet_read old mid c.in-Ok.finding Fault c.in-Ok.ensures.read) c.in-Ok-leave.ensures.writes

pub returns-in-None-clause-keeps : goal.returns-in-None-clause-keeps
returns-in-None-clause-keeps g c =
    keeps_same (g.K.Keeper.seen c.look.new.keeper).kept (g.K.Keeper.seen c.args.keeper.now).kept (sym c.in-Ok.ensures.read.kept)

pub returns-in-Ok-leave-clause-keeps : goal.returns-in-Ok-leave-clause-keeps
returns-in-Ok-leave-clause-keeps g c =
    subst (KeepsNumbers (g.K.Keeper.seen c.leave.new.keeper).kept) c.in-Ok.ensures.read.kept c.in-Ok-leave.ensures.keeps

pub leave-requires-clause-length : goal.leave-requires-clause-length
leave-requires-clause-length g c =
    subst (λ (t : Tables). IsKeyLength t c.args.stmt.now.tuple.rel c.in-Ok.finding.key_len) (sym c.in-Ok.ensures.read.kept) c.in-Ok.ensures.finding.key_length
