use Rattle.std.proofs.Common.{refl}
use Rattle.bdb_tables.specs.declared.tab.TabError.TheVariants.{Fault}
use Rattle.bdb_update.specs.ChangeLaws.{is_of_worlds}
use Rattle.bdb_val.proofs.Calls.{gone_then, gone_changing, changing_ok, changing_err}
use Rattle.bdb_update.specs.Joining.{is_of_tuples}
use Rattle.bdb_update.proofs.CallLemmas.{gone_itself}
use Rattle.bdb_update.proofs.ChangeBounds.{as_tables, join_within}
use Rattle.bdb_update.proofs.InsertLemmas.{counts_join, number_still, some_worlds, some_number, here_now, joins}
use Rattle.bdb_update.proofs.KeyLemmas.{length_still}
use Rattle.bdb_update.proofs.LeastNumbers.{some_still, takes_between}
use Rattle.bdb_update.proofs.StayLemmas.{insert_keeps, insert_least}
use Rattle.bdb_update.proofs.TallyLemmas.{rows_alone}
use Rattle.bdb_update.proofs.inserting.insert.Goals as goal

pub returns-in-Err-clause-changing : goal.returns-in-Err-clause-changing
returns-in-Err-clause-changing g c =
    let old = g.K.Keeper.seen c.args.keeper.now in
    changing_err old old (g.K.Keeper.seen c.add_worlds.new.keeper) c.in-Err.error Fault (gone_itself old) c.in-Err.ensures.changing

pub number_tuple-requires-clause-base : goal.number_tuple-requires-clause-base
number_tuple-requires-clause-base g c =
    some_worlds (g.K.Keeper.seen c.args.keeper.now).kept (g.K.Keeper.seen c.add_worlds.new.keeper).kept c.args.stmt.now c.args.worlds c.in-Ok.found.0 c.requires.base c.in-Ok.ensures.arrived

pub number_tuple-requires-clause-found : goal.number_tuple-requires-clause-found
number_tuple-requires-clause-found g c =
    number_still is_of_worlds (g.K.Keeper.seen c.args.keeper.now).kept (g.K.Keeper.seen c.add_worlds.new.keeper).kept c.args.stmt.now.tuple c.args.ready.now.tid c.in-Ok.ensures.others refl c.requires.number

pub returns-in-Err-number_tuple-clause-changing : goal.returns-in-Err-number_tuple-clause-changing
returns-in-Err-number_tuple-clause-changing g c =
    let old = g.K.Keeper.seen c.args.keeper.now in
    let a = g.K.Keeper.seen c.add_worlds.new.keeper in
    changing_err old a (g.K.Keeper.seen c.number_tuple.new.keeper) c.in-Err-number_tuple.error Fault (gone_changing old a c.in-Ok.found Fault c.in-Ok.ensures.changing) c.in-Err-number_tuple.ensures.changing

pub settle_statement-requires-clause-base : goal.settle_statement-requires-clause-base
settle_statement-requires-clause-base g c =
    let t = (g.K.Keeper.seen c.args.keeper.now).kept in
    let u = (g.K.Keeper.seen c.add_worlds.new.keeper).kept in
    some_number u (g.K.Keeper.seen c.number_tuple.new.keeper).kept c.args.stmt.now (some_worlds t u c.args.stmt.now c.args.worlds c.in-Ok.found.0 c.requires.base c.in-Ok.ensures.arrived)
    c.in-Ok-number_tuple.ensures.numbered

pub settle_statement-requires-clause-world : goal.settle_statement-requires-clause-world
settle_statement-requires-clause-world g c =
    here_now (g.K.Keeper.seen c.args.keeper.now).kept (g.K.Keeper.seen c.add_worlds.new.keeper).kept (g.K.Keeper.seen c.number_tuple.new.keeper).kept c.args.stmt.now c.args.worlds c.in-Ok.found.0
    c.requires.base c.in-Ok.ensures.arrived
    (as_tables is_of_tuples (g.K.Keeper.seen c.add_worlds.new.keeper).kept (g.K.Keeper.seen c.number_tuple.new.keeper).kept c.in-Ok-number_tuple.ensures.others)

pub returns-in-Ok-settle_statement-clause-joined : goal.returns-in-Ok-settle_statement-clause-joined
returns-in-Ok-settle_statement-clause-joined g c =
    joins (g.K.Keeper.seen c.args.keeper.now).kept (g.K.Keeper.seen c.add_worlds.new.keeper).kept (g.K.Keeper.seen c.number_tuple.new.keeper).kept (g.K.Keeper.seen c.settle_statement.new.keeper).kept
    c.args.stmt.now c.in-Ok.found.0 c.in-Ok.ensures.arrived c.in-Ok-number_tuple.ensures.numbered c.in-Ok-settle_statement.ensures.settled

pub returns-in-Ok-settle_statement-clause-changing : goal.returns-in-Ok-settle_statement-clause-changing
returns-in-Ok-settle_statement-clause-changing g c =
    let old = g.K.Keeper.seen c.args.keeper.now in
    let a = g.K.Keeper.seen c.add_worlds.new.keeper in
    let b = g.K.Keeper.seen c.number_tuple.new.keeper in
    let new = g.K.Keeper.seen c.settle_statement.new.keeper in
    changing_ok old new _ Fault (gone_then old b new (gone_then old a b (gone_changing old a c.in-Ok.found Fault c.in-Ok.ensures.changing) (gone_changing a b c.in-Ok-number_tuple.tid Fault c.in-Ok-number_tuple.ensures.changing))
    (gone_changing b new c.in-Ok-settle_statement.settled Fault c.in-Ok-settle_statement.ensures.changing))

pub returns-in-Err-settle_statement-clause-changing : goal.returns-in-Err-settle_statement-clause-changing
returns-in-Err-settle_statement-clause-changing g c =
    let old = g.K.Keeper.seen c.args.keeper.now in
    let a = g.K.Keeper.seen c.add_worlds.new.keeper in
    let b = g.K.Keeper.seen c.number_tuple.new.keeper in
    changing_err old b (g.K.Keeper.seen c.settle_statement.new.keeper) c.in-Err-settle_statement.error Fault
    (gone_then old a b (gone_changing old a c.in-Ok.found Fault c.in-Ok.ensures.changing) (gone_changing a b c.in-Ok-number_tuple.tid Fault c.in-Ok-number_tuple.ensures.changing)) c.in-Err-settle_statement.ensures.changing

pub returns-in-Ok-settle_statement-clause-counted : goal.returns-in-Ok-settle_statement-clause-counted
returns-in-Ok-settle_statement-clause-counted g c =
    counts_join (g.K.Keeper.seen c.args.keeper.now).kept (g.K.Keeper.seen c.add_worlds.new.keeper).kept (g.K.Keeper.seen c.number_tuple.new.keeper).kept (g.K.Keeper.seen c.settle_statement.new.keeper).kept
    c.args.stmt.now c.in-Ok.found.0 c.in-Ok.found.1 c.in-Ok-settle_statement.settled.put c.in-Ok-settle_statement.settled.taken c.both.result
    c.in-Ok.ensures.arrived c.in-Ok-number_tuple.ensures.numbered c.in-Ok-settle_statement.ensures.settled c.in-Ok.ensures.counted c.in-Ok-settle_statement.ensures.counted
    (as_tables is_of_tuples (g.K.Keeper.seen c.add_worlds.new.keeper).kept (g.K.Keeper.seen c.number_tuple.new.keeper).kept c.in-Ok-number_tuple.ensures.others) c.both.ensures

pub returns-in-Ok-settle_statement-clause-writes : goal.returns-in-Ok-settle_statement-clause-writes
returns-in-Ok-settle_statement-clause-writes g c =
    join_within (g.K.Keeper.seen c.args.keeper.now) (g.K.Keeper.seen c.add_worlds.new.keeper) (g.K.Keeper.seen c.number_tuple.new.keeper) (g.K.Keeper.seen c.settle_statement.new.keeper)
    c.args.stmt.now c.args.worlds c.in-Ok.found.0 c.in-Ok.found.1 c.requires.base c.in-Ok.ensures.arrived c.in-Ok.ensures.counted c.in-Ok.ensures.names c.in-Ok.ensures.others c.in-Ok.ensures.writes
    c.in-Ok-number_tuple.ensures.numbered c.in-Ok-number_tuple.ensures.keeps c.in-Ok-number_tuple.ensures.writes c.in-Ok-number_tuple.ensures.others
    c.in-Ok-settle_statement.ensures.settled c.in-Ok-settle_statement.ensures.writes c.in-Ok-settle_statement.ensures.others
    c.in-Ok-number_tuple.ensures.changing.counts.writes c.in-Ok-settle_statement.ensures.changing.counts.writes

pub number_tuple-requires-clause-counted : goal.number_tuple-requires-clause-counted
number_tuple-requires-clause-counted g c =
    some_still is_of_worlds (g.K.Keeper.seen c.args.keeper.now).kept (g.K.Keeper.seen c.add_worlds.new.keeper).kept c.args.tuples refl refl c.in-Ok.ensures.others c.requires.counted

pub returns-in-Ok-settle_statement-clause-number : goal.returns-in-Ok-settle_statement-clause-number
returns-in-Ok-settle_statement-clause-number g c =
    let v = (g.K.Keeper.seen c.number_tuple.new.keeper).kept in
    let w = (g.K.Keeper.seen c.settle_statement.new.keeper).kept in
    takes_between is_of_worlds rows_alone (g.K.Keeper.seen c.args.keeper.now).kept (g.K.Keeper.seen c.add_worlds.new.keeper).kept v w c.args.stmt.now.tuple refl refl refl
    c.in-Ok.ensures.others (as_tables rows_alone v w c.in-Ok-settle_statement.ensures.others) c.in-Ok-number_tuple.ensures.least

pub returns-in-Ok-settle_statement-clause-keeps : goal.returns-in-Ok-settle_statement-clause-keeps
returns-in-Ok-settle_statement-clause-keeps g c =
    let u = (g.K.Keeper.seen c.add_worlds.new.keeper).kept in
    let v = (g.K.Keeper.seen c.number_tuple.new.keeper).kept in
    let w = (g.K.Keeper.seen c.settle_statement.new.keeper).kept in
    insert_keeps (g.K.Keeper.seen c.args.keeper.now).kept u v w c.in-Ok.ensures.names c.in-Ok.ensures.others c.in-Ok-number_tuple.ensures.keeps
    (as_tables is_of_tuples u v c.in-Ok-number_tuple.ensures.others) (as_tables rows_alone v w c.in-Ok-settle_statement.ensures.others)

pub returns-in-Ok-settle_statement-clause-least : goal.returns-in-Ok-settle_statement-clause-least
returns-in-Ok-settle_statement-clause-least g c =
    let u = (g.K.Keeper.seen c.add_worlds.new.keeper).kept in
    let v = (g.K.Keeper.seen c.number_tuple.new.keeper).kept in
    let w = (g.K.Keeper.seen c.settle_statement.new.keeper).kept in
    insert_least (g.K.Keeper.seen c.args.keeper.now).kept u v w c.args.stmt.now.path c.in-Ok.ensures.least
    (as_tables is_of_tuples u v c.in-Ok-number_tuple.ensures.others) (as_tables rows_alone v w c.in-Ok-settle_statement.ensures.others)

pub settle_statement-requires-clause-length : goal.settle_statement-requires-clause-length
settle_statement-requires-clause-length g c =
    let t = (g.K.Keeper.seen c.args.keeper.now).kept in
    let u = (g.K.Keeper.seen c.add_worlds.new.keeper).kept in
    let v = (g.K.Keeper.seen c.number_tuple.new.keeper).kept in
    let rel = c.args.stmt.now.tuple.rel in
    let n = c.args.ready.now.key_len in
    length_still is_of_tuples u v rel n (as_tables is_of_tuples u v c.in-Ok-number_tuple.ensures.others) refl (length_still is_of_worlds t u rel n c.in-Ok.ensures.others refl c.requires.length)
