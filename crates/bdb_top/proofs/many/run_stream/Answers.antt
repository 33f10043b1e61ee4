use Rattle.std.proofs.Common.{Err, ap, inl, inr, refl}
use Rattle.bdb_crowd.specs.Asked.{start_at}
use Rattle.bdb_crowd.specs.Carried.{by_crowd, crowd_in_order}
use Rattle.bdb_session.specs.Outcome.{start_from}
use Rattle.bdb_top.proofs.EmptyLemmas.{agreed_stand}
use Rattle.bdb_top.proofs.RanLemmas.{but_for_large, each_closed, each_refused, each_run, low_is_ok, many_if, not_seven, of_large, run_status, stands_after_all, untouched_there}
use Rattle.bdb_top.proofs.many.run_stream.Goals as goal

pub returns-in-Err-Damaged-clause-ran : goal.returns-in-Err-Damaged-clause-ran
returns-in-Err-Damaged-clause-ran g c = each_refused _ _ _ (c.in-Err-Damaged.ensures.damaged (ap Err c.in-Err-Damaged.field-0-is)).none

pub returns-in-Err-Damaged-clause-refused : goal.returns-in-Err-Damaged-clause-refused
returns-in-Err-Damaged-clause-refused g c = λ _. (c.in-Err-Damaged.ensures.damaged (ap Err c.in-Err-Damaged.field-0-is)).none

pub returns-in-Err-Format-clause-ran : goal.returns-in-Err-Format-clause-ran
returns-in-Err-Format-clause-ran g c = each_refused _ _ _ (c.in-Err-Format.ensures.format _ (ap Err c.in-Err-Format.field-0-is)).none

pub returns-in-Err-Format-clause-refused : goal.returns-in-Err-Format-clause-refused
returns-in-Err-Format-clause-refused g c = λ _. (c.in-Err-Format.ensures.format _ (ap Err c.in-Err-Format.field-0-is)).none

pub returns-in-Err-Fault-clause-ran : goal.returns-in-Err-Fault-clause-ran
returns-in-Err-Fault-clause-ran g c =
    (each_closed by_crowd crowd_in_order (λ p. p.state.base) (λ t k p h. h.base) (λ b. start_at (start_from b)) (λ b. refl))
    _ _ _ _ _ c.open.ensures.still c.in-Err-Fault.ensures.err (inl refl)

pub returns-in-Err-Memory-clause-ran : goal.returns-in-Err-Memory-clause-ran
returns-in-Err-Memory-clause-ran g c =
    (each_closed by_crowd crowd_in_order (λ p. p.state.base) (λ t k p h. h.base) (λ b. start_at (start_from b)) (λ b. refl))
    _ _ _ _ _ c.open.ensures.still c.in-Err-Memory.ensures.err (inr refl)

pub returns-clause-ran : goal.returns-clause-ran
returns-clause-ran g c =
    (each_run by_crowd crowd_in_order (λ p. p.state.base) (λ t k p h. h.base) (λ b. start_at (start_from b)) (λ b. refl))
    _ _ c.carry_out_stream.new.crowd.session _ (g.K.Keeper.seen c.open.new.keeper) _ _ _ c.carry_out_stream.result _ c.status_of.ensures c.in-Ok.ensures.commits c.carry_out_stream.ensures.still
    (λ b stands. c.carry_out_stream.ensures.streams (start_at (start_from b))
    (c.new-crowd.ensures.starts (g.K.Keeper.seen c.open.new.keeper).kept (start_from b) (c.in-Ok.ensures.opened b stands).agrees))

pub returns-clause-refused : goal.returns-clause-refused
returns-clause-refused g c = λ e. absurd (not_seven _ c.carry_out_stream.result c.status_of.ensures e)

pub returns-clause-silent_source : goal.returns-clause-silent_source
returns-clause-silent_source g c = stands_after_all c.in-Ok.ensures.stand

pub returns-clause-silent_sink : goal.returns-clause-silent_sink
returns-clause-silent_sink g c = stands_after_all c.in-Ok.ensures.stand

pub returns-clause-silent_keeper : goal.returns-clause-silent_keeper
returns-clause-silent_keeper g c = stands_after_all c.in-Ok.ensures.stand

pub returns-clause-statuses : goal.returns-clause-statuses
returns-clause-statuses g c = (run_status _ c.carry_out_stream.result c.status_of.ensures).0

pub returns-clause-worded : goal.returns-clause-worded
returns-clause-worded g c = (run_status _ c.carry_out_stream.result c.status_of.ensures).1

pub returns-clause-ended : goal.returns-clause-ended
returns-clause-ended g c = λ low. low_is_ok _ c.carry_out_stream.result c.status_of.ensures low c.carry_out_stream.ensures.end

pub returns-clause-short : goal.returns-clause-short
returns-clause-short g c = λ low. low_is_ok _ c.carry_out_stream.result c.status_of.ensures low c.carry_out_stream.ensures.short

pub returns-clause-many : goal.returns-clause-many
returns-clause-many g c = many_if _ c.carry_out_stream.result _ c.status_of.ensures c.carry_out_stream.ensures.many

pub returns-clause-within : goal.returns-clause-within
returns-clause-within g c = but_for_large _ c.carry_out_stream.result c.status_of.ensures c.carry_out_stream.ensures.within

pub returns-clause-one_more : goal.returns-clause-one_more
returns-clause-one_more g c = of_large _ c.carry_out_stream.result c.status_of.ensures c.carry_out_stream.ensures.one_more

pub returns-in-Err-Damaged-clause-silent_keeper : goal.returns-in-Err-Damaged-clause-silent_keeper
returns-in-Err-Damaged-clause-silent_keeper g c = untouched_there c.in-Err-Damaged.ensures.err c.open.ensures.refused

pub returns-in-Err-Format-clause-silent_keeper : goal.returns-in-Err-Format-clause-silent_keeper
returns-in-Err-Format-clause-silent_keeper g c = untouched_there c.in-Err-Format.ensures.err c.open.ensures.refused

pub returns-in-Err-Fault-clause-silent_keeper : goal.returns-in-Err-Fault-clause-silent_keeper
returns-in-Err-Fault-clause-silent_keeper g c = untouched_there c.in-Err-Fault.ensures.err c.open.ensures.refused

pub returns-in-Err-Memory-clause-silent_keeper : goal.returns-in-Err-Memory-clause-silent_keeper
returns-in-Err-Memory-clause-silent_keeper g c = untouched_there c.in-Err-Memory.ensures.err c.open.ensures.refused

pub returns-clause-none : goal.returns-clause-none
returns-clause-none g c = stands_after_all c.in-Ok.ensures.stand

pub returns-clause-base : goal.returns-clause-base
returns-clause-base g c = λ _. agreed_stand _ _ c.carry_out_stream.ensures.agrees
