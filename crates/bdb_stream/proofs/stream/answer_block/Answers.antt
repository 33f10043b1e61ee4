use Rattle.std.proofs.Common.{◌≡◌, ◌&&◌, [], arith, refl, rules}
use Rattle.bdb_lex.specs.Cut.{EndsFirst, pieces_from, ready, start}
use Rattle.std.proofs.KnownBytes.{Appends-nil}
use Rattle.bdb_stream.proofs.BlockLemmas.{HasAnswered, answers_one, asked_in, come_all, next_is}
use Rattle.bdb_stream.proofs.HandledLemmas.{comes_none, comes_stops}
use Rattle.bdb_stream.proofs.stream.answer_block.Given.{Over}
use Rattle.bdb_stream.proofs.stream.answer_block.Goals as goal
use Rattle.bdb_stream.proofs.stream.answer_block.Goals.{In-Ok, In-Ok-Some}

-- the piece that was cut is the first of the rest
ends : (g : Over) (c : In-Ok-Some g) → EndsFirst c.loop-piece.cutter.state c.loop-piece.rest.now c.in-Ok-Some.piece c.in-Ok-Some.others.now
ends g c = search rules

-- once it is answered, one piece more is
answered : (g : Over) (c : In-Ok g)
    → HasAnswered g.H.Handler.handling c.args.cutter.now.state c.args.block.now c.args.handler.now c.answer_piece.new.self (g.K.Keeper.seen c.args.keeper.now)
    (g.K.Keeper.seen c.answer_piece.new.keeper) (g.O.Sink.written c.args.out.now) (g.O.Sink.written c.answer_piece.new.out) (g.O.Sink.faults c.args.out.now)
    (g.O.Sink.faults c.answer_piece.new.out) (c.loop-piece.fine && c.in-Ok.more) c.next_piece.new.self c.in-Ok-Some.others.now
answered g c =
    let begins : c.next_piece.new.self ≡ ready start = search rules in
    let told = c.answer_piece.ensures in
    (answers_one g.H.Handler.handling g.met.H.Handler.in_order) c.in-Ok.more c.loop-piece.invariant (ends g (goal.at.In-Ok g c).In-Ok-Some) begins c.in-Ok.ensures.answered
    c.in-Ok.ensures.at told.still told.never_fall told.later

pub returns-in-Err-answer_piece-clause-ends : goal.returns-in-Err-answer_piece-clause-ends
returns-in-Err-answer_piece-clause-ends g c = λ p a.
    let left = c.loop-piece.invariant.come in
    let found = c.in-Ok-Some in
    let all = asked_in g.H.Handler.handling c.args.cutter.now.state c.args.block.now in
    (comes_stops g.H.Handler.handling g.met.H.Handler.in_order) p all left.0 (g.H.Handler.handling.asked_by found.piece) (asked_in g.H.Handler.handling start found.others.now) c.loop-piece.handler c.answer_piece.new.self _ _ _ _ _ _ c.loop-piece.fine c.in-Err-answer_piece.stop
    ((next_is g.H.Handler.handling g.met.H.Handler.in_order) all left.0 c.loop-piece.cutter.state c.loop-piece.rest.now found.others.now found.piece left.1
    (ends g (goal.at.returns-in-Err-answer_piece-clause-ends g c).In-Ok-Some)) (left.2 p a) c.in-Err-answer_piece.ensures.answered

pub loop-piece-preserved-in-Ok : goal.loop-piece-preserved-in-Ok
loop-piece-preserved-in-Ok g c = answered g (goal.at.loop-piece-preserved-in-Ok g c).In-Ok

pub loop-piece-preserved-in-Ok-2 : goal.loop-piece-preserved-in-Ok-2
loop-piece-preserved-in-Ok-2 g c = answered g (goal.at.loop-piece-preserved-in-Ok-2 g c).In-Ok

pub loop-piece-preserved : goal.loop-piece-preserved
loop-piece-preserved g c = answered g (goal.at.loop-piece-preserved g c).In-Ok

pub loop-piece-init : goal.loop-piece-init
loop-piece-init g c = record {
  come = ([], refl, λ p a. (comes_none g.H.Handler.handling g.met.H.Handler.in_order) p c.args.handler.now (g.K.Keeper.seen c.args.keeper.now) (g.O.Sink.written c.args.out.now) (g.O.Sink.written c.args.out.now) a (Appends-nil (g.O.Sink.written c.args.out.now)));
  state = refl;
  ready = c.requires.ready;
  still = c.requires.still;
  at = c.requires.at;
  keeper = record { faults = omega arith; reads = omega arith; writes = omega arith; commits = omega arith };
  sink = omega arith;
}

pub returns-in-Ok-None-clause-ends : goal.returns-in-Ok-None-clause-ends
returns-in-Ok-None-clause-ends g c =
    let here = c.loop-piece in
    let none : pieces_from here.cutter.state here.rest.now ≡ [] = search rules in
    (come_all g.H.Handler.handling g.met.H.Handler.in_order) _ c.args.handler.now here.cutter.state here.rest.now here.handler _ _ _ _ here.fine here.invariant.come none
