use Rattle.std.proofs.Common.{◌≡◌, ◌+◌, rules, arith, refl, ap, subst, take, length, [], ◌++◌, Err}
use Rattle.std.proofs.lemmas.List.{length-append}
use Rattle.bdb_base.specs.Causes.{Rises}
use Rattle.bdb_stream.proofs.ReadsLemmas.{consumes_zero, many_by, short_by, read_fails, read_over, reads_all, reads_on, rest_stops, block_stops, reads_none}
use Rattle.bdb_stream.proofs.stream.carry_out.Goals as goal

pub returns-in-Err-clause-streams : goal.returns-in-Err-clause-streams
returns-in-Err-clause-streams g c = λ p a.
    let r = c.loop-count.invariant.reads in
    (read_fails g.H.Handler.handling g.met.H.Handler.in_order) p _ _ _ r.0 c.loop-count.cutter _ _ _ _ _ c.loop-count.fine (r.2 p a) c.in-Err.ensures.bytes

pub returns-in-Ok-answer_rest-clause-streams : goal.returns-in-Ok-answer_rest-clause-streams
returns-in-Ok-answer_rest-clause-streams g c = λ p a.
    let r = c.loop-count.invariant.reads in
    (reads_all g.H.Handler.handling g.met.H.Handler.in_order) p _ _ _ r.0 c.loop-count.cutter c.finish.result c.loop-count.handler c.answer_rest.new.self _ (g.K.Keeper.seen c.loop-count.keeper) _ _ (g.O.Sink.written c.loop-count.out) _ c.loop-count.fine c.in-Ok-answer_rest.more (r.2 p a)
    (consumes_zero _ _ c.in-Ok.count c.read.new.buf (omega (arith, c.if-count-eq0.true)) c.in-Ok.ensures.bytes.0) (search rules) c.finish.ensures c.in-Ok-answer_rest.ensures.ends

pub returns-in-Err-answer_rest-clause-streams : goal.returns-in-Err-answer_rest-clause-streams
returns-in-Err-answer_rest-clause-streams g c = λ p a.
    let r = c.loop-count.invariant.reads in
    (rest_stops g.H.Handler.handling g.met.H.Handler.in_order) p _ _ _ r.0 c.loop-count.cutter c.finish.result c.loop-count.handler c.answer_rest.new.self _ (g.K.Keeper.seen c.loop-count.keeper) _ _ (g.O.Sink.written c.loop-count.out) _ c.loop-count.fine c.in-Err-answer_rest.stop (r.2 p a)
    (consumes_zero _ _ c.in-Ok.count c.read.new.buf (omega (arith, c.if-count-eq0.true)) c.in-Ok.ensures.bytes.0) (search rules) c.finish.ensures
    (λ e. c.in-Err-answer_rest.ensures.source (ap Err e)) (λ e. c.in-Err-answer_rest.ensures.large (ap Err e)) c.in-Err-answer_rest.ensures.ends

pub returns-then-room-eq0-clause-streams : goal.returns-then-room-eq0-clause-streams
returns-then-room-eq0-clause-streams g c = λ p a.
    let r = c.loop-count.invariant.reads in
    (read_over g.H.Handler.handling g.met.H.Handler.in_order) p _ _ _ r.0 (take c.in-Ok.count c.read.new.buf) c.loop-count.cutter _ _ _ _ _ c.loop-count.fine (r.2 p a) c.in-Ok.ensures.bytes.0
    (omega (arith, r.1, c.if-room-eq0.true, c.loop-count.invariant.small)) (search rules)

pub loop-count-preserved : goal.loop-count-preserved
loop-count-preserved g c =
    let r = c.loop-count.invariant.reads in
    let part = take c.in-Ok.count c.read.new.buf in
    record {
      reads = (
        r.0 ++ part,
        omega (arith, r.1, length-append r.0 part, c.in-Ok.ensures.bound.1),
        λ p a. (reads_on g.H.Handler.handling g.met.H.Handler.in_order) p _ _ _ r.0 part c.loop-count.cutter c.answer_block.new.cutter c.loop-count.handler _ _ (g.K.Keeper.seen c.loop-count.keeper) _ _ (g.O.Sink.written c.loop-count.out) _ c.loop-count.fine c.in-Ok-answer_block.more (r.2 p a)
            c.in-Ok.ensures.bytes.0 c.in-Ok-answer_block.ensures.cutter c.in-Ok-answer_block.ensures.ends,
      );
      ready = search rules;
      small = search rules;
      given = search rules;
      source = search rules;
      count = search rules;
      still = search rules;
      at = search rules;
      keeper = search rules;
      sink = search rules;
    }

pub returns-in-Err-answer_block-clause-streams : goal.returns-in-Err-answer_block-clause-streams
returns-in-Err-answer_block-clause-streams g c = λ p a.
    let r = c.loop-count.invariant.reads in
    (block_stops g.H.Handler.handling g.met.H.Handler.in_order) p _ _ _ r.0 (take c.in-Ok.count c.read.new.buf) c.loop-count.cutter c.loop-count.handler c.answer_block.new.handler _ (g.K.Keeper.seen c.loop-count.keeper) _ _ (g.O.Sink.written c.loop-count.out) _ c.loop-count.fine c.in-Err-answer_block.stop (r.2 p a)
    c.in-Ok.ensures.bytes.0 (search rules)
    (λ e. c.in-Err-answer_block.ensures.source (ap Err e)) (λ e. c.in-Err-answer_block.ensures.large (ap Err e)) c.in-Err-answer_block.ensures.ends

pub loop-count-init : goal.loop-count-init
loop-count-init g c = record {
  reads = ([], refl, λ p a. (reads_none g.H.Handler.handling g.met.H.Handler.in_order) p _ c.new-cutter.result c.args.handler.now _ _ c.new-cutter.ensures a);
  ready = ap (λ x. x.is_spent) c.new-cutter.ensures;
  small = search rules;
  given = search rules;
  source = search rules;
  count = search rules;
  still = c.requires.still;
  at = c.requires.at;
  keeper = search rules;
  sink = search rules;
}

pub returns-in-Ok-answer_rest-clause-short : goal.returns-in-Ok-answer_rest-clause-short
returns-in-Ok-answer_rest-clause-short g c =
    let r = c.loop-count.invariant.reads in
    let agreed = c.requires.at in
    short_by _ _ _ r.0 (r.2 agreed.point agreed.at).taken (consumes_zero _ _ c.in-Ok.count c.read.new.buf (omega (arith, c.if-count-eq0.true)) c.in-Ok.ensures.bytes.0) (search rules)
    (omega (arith, r.1, c.loop-count.invariant.small))

pub returns-then-room-eq0-clause-many : goal.returns-then-room-eq0-clause-many
returns-then-room-eq0-clause-many g c = λ _.
    let r = c.loop-count.invariant.reads in
    let agreed = c.requires.at in
    many_by _ _ _ r.0 (take c.in-Ok.count c.read.new.buf) (r.2 agreed.point agreed.at).taken c.in-Ok.ensures.bytes.0 (omega (arith, r.1, c.if-room-eq0.true, c.loop-count.invariant.small))
    (omega (arith, c.if-count-eq0.false, c.in-Ok.ensures.bound.1))

pub returns-then-room-eq0-clause-one_more : goal.returns-then-room-eq0-clause-one_more
returns-then-room-eq0-clause-one_more g c = λ _.
    let given : Rises (c.loop-count.taken + c.in-Ok.count) (g.S.Source.given c.args.script.now) (g.S.Source.given c.read.new.self) = search rules in
    let size : length c.read.new.buf ≡ c.size_of_read.result = search rules in
    subst (λ n. Rises n (g.S.Source.given c.args.script.now) (g.S.Source.given c.read.new.self))
    (omega (arith, c.loop-count.invariant.small, c.if-room-eq0.true, c.if-count-eq0.false, c.in-Ok.ensures.bound.0, size, c.size_of_read.ensures.one c.if-room-eq0.true)) given

pub returns-in-Err-answer_block-clause-one_more : goal.returns-in-Err-answer_block-clause-one_more
returns-in-Err-answer_block-clause-one_more g c = λ e. absurd (c.in-Err-answer_block.ensures.large e)

pub returns-in-Err-answer_block-clause-within : goal.returns-in-Err-answer_block-clause-within
returns-in-Err-answer_block-clause-within g c = λ _.
    let size : length c.read.new.buf ≡ c.size_of_read.result = search rules in
    let fits = c.size_of_read.ensures.fits (omega (arith, c.if-room-eq0.false)) in
    (c.loop-count.taken + c.in-Ok.count, omega (arith, c.loop-count.invariant.small, c.in-Ok.ensures.bound.0, size, fits), search rules)
