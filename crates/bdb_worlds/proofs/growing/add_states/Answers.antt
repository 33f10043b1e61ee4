use Rattle.std.proofs.Common.{◌≡◌, ◌∙◌, ◌+◌, ◌<◌, get_or, sym, ap, subst, refl, rules, arith, length, true}
use Rattle.std.specs.Option.{is_some}
use Rattle.std.specs.FinMap as map
use Rattle.bdb_tables.specs.Codec.{place}
use Rattle.bdb_tables.specs.InUse.{edge_codec}
use Rattle.bdb_tables.specs.declared.tab.TabError.TheVariants.{Fault, Memory}
use Rattle.bdb_tables.proofs.Loops.{goes_then, counts_then}
use Rattle.bdb_names.proofs.Ends.{length_more}
use Rattle.bdb_worlds.proofs.GrowLemmas.{growing_begins, growing_at, growing_more, growing_ends, added_at, has_edge, is_room}
use Rattle.bdb_worlds.proofs.MadeLemmas.{Making, making_begins, making_more, making_ends}
use Rattle.bdb_worlds.proofs.OutsideLemmas.{SameElsewhere, same_itself, outside_then, added_outside}
use Rattle.bdb_worlds.proofs.StepsLemmas.{steps_undone}
use Rattle.bdb_worlds.proofs.growing.add_states.Goals as goal

pub longest_state-requires-clause-states : goal.longest_state-requires-clause-states
longest_state-requires-clause-states g c = record { worlds = c.requires.room.worlds_held; states = c.requires.room.may.states; own = c.requires.room.may.own }

pub loop-k-init : goal.loop-k-init
loop-k-init g c =
    let t = (g.K.Keeper.seen c.args.keeper.now).kept in
    let u = (g.K.Keeper.seen c.longest_state.new.keeper).kept in
    let none : length c.new-numbers.result.items ≡ 0 = ap length c.new-numbers.ensures.items in
    record {
      at = growing_at t t u c.args.path.now c.args.worlds c.in-Ok.found.0 _ c.in-Ok.found.1 0 c.in-Ok.ensures.kept
          (growing_begins t c.args.path.now c.args.worlds c.in-Ok.found.0 c.in-Ok.found.1 _ c.new-numbers.ensures.items c.in-Ok.ensures.found);
      made = making_begins t c.args.path.now c.args.worlds c.in-Ok.found.0 _ _ _ c.new-numbers.ensures.items c.in-Ok.ensures.writes;
      others = subst (SameElsewhere t) (sym c.in-Ok.ensures.kept) (same_itself t);
      grammar = search rules;
      done = omega arith;
      count = omega arith;
      counts = search rules;
      goes_on = search rules;
    }

pub add_next-requires-clause-edge : goal.add_next-requires-clause-edge
add_next-requires-clause-edge g c =
    let t = (g.K.Keeper.seen c.args.keeper.now).kept in
    let u = (g.K.Keeper.seen c.loop-k.keeper).kept in
    let inside : c.loop-k.k < length c.args.path.now = search rules in
    let there = has_edge t u c.args.path.now c.args.worlds c.in-Ok.found.0 _ c.loop-k.at c.loop-k.low c.loop-k.k c.loop-k.invariant.done c.requires.apart inside c.loop-k.invariant.at c.requires.room.worlds_held c.requires.room.may in
    subst (λ x. is_some (map.get x (place edge_codec (c.loop-k.at, get_or c.args.path.now c.loop-k.k 0))) ≡ true) (sym c.in-Ok-free_number.ensures.kept) there

pub overflow_add-count : goal.overflow_add-count
overflow_add-count g c =
    let t = (g.K.Keeper.seen c.args.keeper.now).kept in
    let u = (g.K.Keeper.seen c.loop-k.keeper).kept in
    let inside : c.loop-k.k < length c.args.path.now = search rules in
    let room = is_room t u c.args.path.now c.args.worlds c.in-Ok.found.0 _ c.loop-k.at c.loop-k.low c.loop-k.k c.loop-k.invariant.done c.requires.apart inside c.loop-k.invariant.at c.requires.room.worlds_held c.requires.room.may in
    let count = c.loop-k.invariant.count in
    omega arith

pub loop-k-preserved : goal.loop-k-preserved
loop-k-preserved g c =
    let t = (g.K.Keeper.seen c.args.keeper.now).kept in
    let u = (g.K.Keeper.seen c.loop-k.keeper).kept in
    let v = (g.K.Keeper.seen c.add_next.new.keeper).kept in
    let inside : c.loop-k.k < length c.args.path.now = search rules in
    let added = added_at u (g.K.Keeper.seen c.free_number.new.keeper).kept v c.loop-k.at _ _ _ _ _ c.in-Ok-free_number.ensures.kept c.in-Ok-add_next.ensures.added in
    let longer = ap length c.in-Ok-push.ensures.items ∙ length_more c.loop-k.numbers.items c.in-Ok-free_number.number in
    let done = c.loop-k.invariant.done in
    let count = c.loop-k.invariant.count in
    record {
      at = growing_more t u c.args.path.now c.args.worlds c.in-Ok.found.0 _ c.loop-k.at c.loop-k.low c.loop-k.k done c.requires.apart inside c.loop-k.invariant.at
          c.loop-k.count _ c.in-Ok-free_number.number _ _ v count refl c.in-Ok-free_number.ensures.number added _ c.in-Ok-push.ensures.items;
      made = making_more t u c.args.path.now c.args.worlds c.in-Ok.found.0 _ c.loop-k.at c.loop-k.low c.loop-k.k done c.requires.apart inside c.loop-k.invariant.at
          c.loop-k.count _ c.in-Ok-free_number.number _ _ v count refl c.in-Ok-free_number.ensures.number added _ c.in-Ok-push.ensures.items
          _ (subst (λ w. Making t c.args.path.now c.args.worlds c.in-Ok.found.0 c.loop-k.numbers.items (g.K.Keeper.seen c.args.keeper.now).writes w) (sym c.in-Ok-free_number.ensures.writes) c.loop-k.invariant.made);
      others = outside_then t u v c.loop-k.invariant.others (added_outside u v c.loop-k.at _ _ _ _ _ added);
      grammar = c.in-Ok-add_next.ensures.grammar;
      done = omega arith;
      count = omega arith;
      counts = counts_then _ _ _ c.loop-k.invariant.counts (counts_then _ _ _ c.in-Ok-free_number.ensures.counts c.in-Ok-add_next.ensures.counts);
      goes_on = goes_then _ _ _ (goes_then _ _ _ c.loop-k.invariant.goes_on c.in-Ok-free_number.ensures.steps.ok) c.in-Ok-add_next.ensures.steps.ok;
    }

pub returns-clause-added : goal.returns-clause-added
returns-clause-added g c =
    let t = (g.K.Keeper.seen c.args.keeper.now).kept in
    let u = (g.K.Keeper.seen c.loop-k.keeper).kept in
    let done = c.loop-k.invariant.done in
    let whole : c.in-Ok.found.0 + length c.loop-k.numbers.items ≡ length c.args.path.now = search rules in
    growing_ends t u c.args.path.now c.args.worlds c.in-Ok.found.0 _ c.loop-k.at c.loop-k.low whole c.loop-k.invariant.at

pub returns-clause-writes : goal.returns-clause-writes
returns-clause-writes g c =
    let done = c.loop-k.invariant.done in
    let whole : c.in-Ok.found.0 + length c.loop-k.numbers.items ≡ length c.args.path.now = search rules in
    making_ends (g.K.Keeper.seen c.args.keeper.now) (g.K.Keeper.seen c.loop-k.keeper) c.args.path.now c.args.worlds c.in-Ok.found.0 c.loop-k.numbers.items c.loop-k.at c.loop-k.low
    c.requires.room whole c.loop-k.invariant.at c.loop-k.invariant.made

pub returns-in-Err-push-clause-steps : goal.returns-in-Err-push-clause-steps
returns-in-Err-push-clause-steps g c =
    let goes = goes_then _ _ _ (goes_then _ _ _ c.loop-k.invariant.goes_on c.in-Ok-free_number.ensures.steps.ok) c.in-Ok-add_next.ensures.steps.ok in
    steps_undone _ _ _ Memory Fault (λ e. cc) goes c.undo.ensures.undone
