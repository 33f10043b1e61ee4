use Rattle.std.proofs.Common.{◌≡◌, ◌+◌, ◌-◌, ◌<◌, get_or, sym, ap, subst, refl, rules, arith, length, true, false}
use Rattle.std.specs.Option.{is_some}
use Rattle.std.specs.FinMap as map
use Rattle.bdb_tables.specs.Codec.{place}
use Rattle.bdb_tables.specs.InUse.{link_codec}
use Rattle.bdb_tables.proofs.Loops.{goes_then, counts_then}
use Rattle.bdb_worlds.proofs.LeaveLemmas.{dropped_outside}
use Rattle.bdb_worlds.proofs.OutsideLemmas.{same_itself, outside_then}
use Rattle.bdb_worlds.proofs.ShrinkLemmas.{shrinking_begins, shrinking_stops, shrinking_more, link_is_there, needed_then, dropped_then, drops_ends}
use Rattle.bdb_worlds.proofs.SpentLemmas.{Spending, spending_begins, spending_more, spending_ends, within_after}
use Rattle.bdb_worlds.proofs.dropping.drop_dead.Goals as goal

pub loop-back-init : goal.loop-back-init
loop-back-init g c =
    let t = (g.K.Keeper.seen c.args.keeper.now).kept in
    let all : length c.args.numbers.now - 0 ≡ length c.args.numbers.now = omega arith in
    record {
      at = shrinking_begins t c.args.path.now c.args.numbers.now _ _ c.new-gone.ensures.items all c.requires.along;
      spent = spending_begins t c.args.path.now c.new-gone.result.items _ _ c.new-gone.ensures.items;
      others = same_itself t;
      grammar = c.requires.grammar;
      counts = search rules;
      goes_on = search rules;
    }

pub returns-in-Ok-true-clause-dropped : goal.returns-in-Ok-true-clause-dropped
returns-in-Ok-true-clause-dropped g c =
    let t = (g.K.Keeper.seen c.args.keeper.now).kept in
    let u = (g.K.Keeper.seen c.loop-back.keeper).kept in
    let inside : c.loop-back.back < length c.args.numbers.now = search rules in
    let some : 0 < length c.args.numbers.now - c.loop-back.back = omega arith in
    let needed = needed_then u u _ _ c.in-Ok-true.field-0 true refl c.in-Ok-true.field-0-test c.in-Ok-true.ensures.needed in
    let here : length c.args.numbers.now - c.loop-back.back ≡ length c.args.numbers.now - c.loop-back.back - 1 + 1 = omega arith in
    drops_ends t u (g.K.Keeper.seen c.is_needed.new.keeper).kept c.args.path.now c.loop-back.gone.items c.in-Ok-true.ensures.kept
    (shrinking_stops t u c.args.path.now c.args.numbers.now c.loop-back.gone.items _ some c.loop-back.invariant.others c.loop-back.invariant.at _ _ _ here refl refl needed)

pub drop_state-requires-clause-link : goal.drop_state-requires-clause-link
drop_state-requires-clause-link g c =
    let t = (g.K.Keeper.seen c.args.keeper.now).kept in
    let u = (g.K.Keeper.seen c.loop-back.keeper).kept in
    let wid = get_or c.args.numbers.now (length c.args.numbers.now - c.loop-back.back - 1) 0 in
    let inside : c.loop-back.back < length c.args.numbers.now = search rules in
    let some : 0 < length c.args.numbers.now - c.loop-back.back = omega arith in
    let here : length c.args.numbers.now - c.loop-back.back ≡ length c.args.numbers.now - c.loop-back.back - 1 + 1 = omega arith in
    let there = link_is_there t u c.args.path.now c.args.numbers.now c.loop-back.gone.items _ some c.loop-back.invariant.others c.loop-back.invariant.at c.requires.states wid _ here refl in
    subst (λ x. is_some (map.get x (place link_codec wid)) ≡ true) (sym c.in-Ok-false.ensures.kept) there

pub returns-in-Ok-true-clause-writes : goal.returns-in-Ok-true-clause-writes
returns-in-Ok-true-clause-writes g c =
    let old = g.K.Keeper.seen c.args.keeper.now in
    let now = g.K.Keeper.seen c.loop-back.keeper in
    within_after _ old now (g.K.Keeper.seen c.is_needed.new.keeper) c.in-Ok-true.ensures.kept c.in-Ok-true.ensures.writes
    (spending_ends old now c.args.path.now c.args.numbers.now c.loop-back.gone.items _ c.requires.states c.loop-back.invariant.at c.loop-back.invariant.spent)

pub returns-clause-writes : goal.returns-clause-writes
returns-clause-writes g c =
    spending_ends (g.K.Keeper.seen c.args.keeper.now) (g.K.Keeper.seen c.loop-back.keeper) c.args.path.now c.args.numbers.now c.loop-back.gone.items _
    c.requires.states c.loop-back.invariant.at c.loop-back.invariant.spent

pub loop-back-preserved : goal.loop-back-preserved
loop-back-preserved g c =
    let t = (g.K.Keeper.seen c.args.keeper.now).kept in
    let u = (g.K.Keeper.seen c.loop-back.keeper).kept in
    let v = (g.K.Keeper.seen c.drop_state.new.keeper).kept in
    let inside : c.loop-back.back < length c.args.numbers.now = search rules in
    let some : 0 < length c.args.numbers.now - c.loop-back.back = omega arith in
    let needless = needed_then u u _ _ c.in-Ok-false.field-0 false refl c.in-Ok-false.field-0-test c.in-Ok-false.ensures.needed in
    let dropped = dropped_then u (g.K.Keeper.seen c.is_needed.new.keeper).kept v _ _ _ c.in-Ok-false.ensures.kept c.in-Ok.ensures.dropped in
    let here : length c.args.numbers.now - c.loop-back.back ≡ length c.args.numbers.now - (c.loop-back.back + 1) + 1 = omega arith in
    let place : length c.args.numbers.now - c.loop-back.back - 1 ≡ length c.args.numbers.now - (c.loop-back.back + 1) = omega arith in
    record {
      at = shrinking_more t u c.args.path.now c.args.numbers.now c.loop-back.gone.items _ some c.loop-back.invariant.others c.loop-back.invariant.at _ _ _ here (ap (λ k. get_or c.args.numbers.now k 0) place) refl needless v _ _ dropped _ c.in-Ok-push.ensures.items;
      spent = spending_more t u c.args.path.now c.args.numbers.now c.loop-back.gone.items _ some c.loop-back.invariant.others c.loop-back.invariant.at _ _ _ here (ap (λ k. get_or c.args.numbers.now k 0) place) refl needless v _ _ dropped _ c.in-Ok-push.ensures.items
          _ (subst (λ w. Spending t c.args.path.now c.loop-back.gone.items (length c.args.numbers.now - c.loop-back.back) (g.K.Keeper.seen c.args.keeper.now).writes w) (sym c.in-Ok-false.ensures.writes) c.loop-back.invariant.spent);
      others = outside_then t u v c.loop-back.invariant.others (dropped_outside u v _ _ _ dropped);
      grammar = c.in-Ok.ensures.grammar;
      counts = counts_then _ _ _ c.loop-back.invariant.counts (counts_then _ _ _ c.in-Ok-false.ensures.counts c.in-Ok.ensures.counts);
      goes_on = goes_then _ _ _ (goes_then _ _ _ c.loop-back.invariant.goes_on c.in-Ok-false.ensures.steps.ok) c.in-Ok.ensures.steps.ok;
    }
