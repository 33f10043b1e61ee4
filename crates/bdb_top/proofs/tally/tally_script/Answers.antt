use Rattle.std.proofs.Common.{◌≡◌, [], ap, sym, subst, rules}
use Rattle.bdb_lex.specs.Cut.{CutterState, EndsFirst, pieces_from, ready, start, state_after}
use Rattle.bdb_session.specs.Runs.{events_of, rest_events}
use Rattle.bdb_top.specs.Generated.{no_replies}
use Rattle.bdb_top.proofs.TallyLemmas.{HasTallied, Tallies, agrees_at_end, events_left, rest_left, tallies_none, tallies_piece, tally_ends}
use Rattle.bdb_top.proofs.tally.tally_script.Given.{Over}
use Rattle.bdb_top.proofs.tally.tally_script.Goals as goal
use Rattle.bdb_top.proofs.tally.tally_script.Goals.{In-Ok, In-Ok-tally_rest}

pub loop-piece-init : goal.loop-piece-init
loop-piece-init g c =
    let t = (g.K.Keeper.seen c.args.keeper.now).kept in
    let events = events_of c.args.script.now in
    record {
      come = λ s a. subst (λ (x : CutterState). Tallies s events (events_left x.state c.args.script.now) t c.args.session.now no_replies) (sym c.new-cutter.ensures) (tallies_none s events t c.args.session.now a);
      ready = ap (λ x. x.is_spent) c.new-cutter.ensures;
      still = c.requires.still;
      agrees = c.requires.agrees;
      faults = search rules;
    }

-- once the piece that was cut is answered, one piece more is
tallied : (g : Over) (c : In-Ok g)
    → HasTallied c.args.script.now c.args.session.now c.tally_piece.new.session (g.K.Keeper.seen c.args.keeper.now) (g.K.Keeper.seen c.tally_piece.new.keeper) c.in-Ok.next
    c.next_piece.new.self c.in-Ok-Some.others.now
tallied g c =
    let ends : EndsFirst c.loop-piece.cutter.state c.loop-piece.rest.now c.in-Ok-Some.piece c.in-Ok-Some.others.now = search rules in
    let begins : c.next_piece.new.self ≡ ready start = search rules in
    let told = c.tally_piece.ensures in
    tallies_piece c.loop-piece.invariant ends begins c.in-Ok.ensures.tally c.in-Ok.ensures.state told.still told.agrees told.cause.later

pub loop-piece-preserved-in-Ok : goal.loop-piece-preserved-in-Ok
loop-piece-preserved-in-Ok g c = tallied g (goal.at.loop-piece-preserved-in-Ok g c).In-Ok

pub loop-piece-preserved-in-Ok-2 : goal.loop-piece-preserved-in-Ok-2
loop-piece-preserved-in-Ok-2 g c = tallied g (goal.at.loop-piece-preserved-in-Ok-2 g c).In-Ok

pub loop-piece-preserved : goal.loop-piece-preserved
loop-piece-preserved g c = tallied g (goal.at.loop-piece-preserved g c).In-Ok

-- what is left behind the last piece is what the rest asks for
left : (g : Over) (c : In-Ok-tally_rest g) → events_left c.loop-piece.cutter.state c.loop-piece.rest.now ≡ rest_events c.finish.result
left g c =
    let state = c.loop-piece.cutter.state in
    let bytes = c.loop-piece.rest.now in
    let none : pieces_from state bytes ≡ [] = search rules in
    let is : c.next_piece.new.self ≡ ready (state_after state bytes) = search rules in
    rest_left state bytes c.next_piece.new.self c.finish.result none is c.finish.ensures

pub returns-in-Ok-tally_rest-clause-tally : goal.returns-in-Ok-tally_rest-clause-tally
returns-in-Ok-tally_rest-clause-tally g c = λ s a.
    let here = c.loop-piece in
    tally_ends s (events_of c.args.script.now) (events_left here.cutter.state here.rest.now) (g.K.Keeper.seen here.keeper).kept here.session here.tally c.in-Ok-tally_rest.whole
    c.finish.result (left g (goal.at.returns-in-Ok-tally_rest-clause-tally g c).In-Ok-tally_rest) (here.invariant.come s a) c.in-Ok-tally_rest.ensures.tally

pub returns-in-Ok-tally_rest-clause-state : goal.returns-in-Ok-tally_rest-clause-state
returns-in-Ok-tally_rest-clause-state g c = λ s a.
    let here = c.loop-piece in
    agrees_at_end s (events_of c.args.script.now) (events_left here.cutter.state here.rest.now) (g.K.Keeper.seen here.keeper).kept (g.K.Keeper.seen c.tally_rest.new.keeper).kept
    here.session c.tally_rest.new.session here.tally c.finish.result (left g (goal.at.returns-in-Ok-tally_rest-clause-state g c).In-Ok-tally_rest) (here.invariant.come s a)
    c.in-Ok-tally_rest.ensures.state
