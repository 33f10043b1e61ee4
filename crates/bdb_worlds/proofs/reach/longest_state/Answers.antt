use Rattle.std.proofs.Common.{◌≡◌, ◌∙◌, ◌+◌, sym, subst, rules, Some, None}
use Rattle.bdb_tables.specs.Grammar.{InGrammar}
use Rattle.bdb_tables.specs.InUse.{edge_codec, depth_codec}
use Rattle.bdb_tables.proofs.Numbered.{at_old}
use Rattle.bdb_tables.proofs.Loops.{goes_then, counts_then}
use Rattle.bdb_tables.proofs.Held.{depths_fit}
use Rattle.bdb_worlds.proofs.ReachLemmas.{reached_more, reach_ends, edge_is_there, depth_is_there}
use Rattle.bdb_worlds.proofs.StepsLemmas.{steps_err, steps_ok}
use Rattle.bdb_worlds.proofs.reach.longest_state.Goals as goal

pub unreachable-requires : goal.unreachable-requires
unreachable-requires g c =
    let kept = (g.K.Keeper.seen c.args.keeper.now).kept in
    edge_is_there kept c.args.path.now c.loop-len.len c.loop-len.wid c.requires.apart c.loop-len-test.true c.loop-len.invariant.at c.requires.states
    (at_old edge_codec kept (g.K.Keeper.seen c.loop-len.keeper).kept _ c.in-Ok-None.field-0 None c.loop-len.invariant.kept c.in-Ok-None.field-0-is c.in-Ok-None.ensures.found)

pub get_in-requires-in-loop-len-clause-grammar : goal.get_in-requires-in-loop-len-clause-grammar
get_in-requires-in-loop-len-clause-grammar g c = depths_fit _ (subst InGrammar (sym (c.in-Ok-Some.ensures.read.kept ∙ c.loop-len.invariant.kept)) c.requires.grammar)

pub unreachable-requires-in-Ok-None-get_in : goal.unreachable-requires-in-Ok-None-get_in
unreachable-requires-in-Ok-None-get_in g c =
    let kept = (g.K.Keeper.seen c.args.keeper.now).kept in
    depth_is_there kept c.args.path.now c.loop-len.len c.loop-len.wid c.requires.apart c.loop-len-test.true c.loop-len.invariant.at c.requires.states c.in-Ok-Some.target
    (at_old edge_codec kept (g.K.Keeper.seen c.loop-len.keeper).kept _ c.in-Ok-Some.field-0 (Some c.in-Ok-Some.target) c.loop-len.invariant.kept c.in-Ok-Some.field-0-is c.in-Ok-Some.ensures.found)
    (at_old depth_codec kept (g.K.Keeper.seen c.get_in.new.keeper).kept _ c.in-Ok-None-get_in.field-0 None (c.in-Ok-Some.ensures.read.kept ∙ c.loop-len.invariant.kept) c.in-Ok-None-get_in.field-0-is c.in-Ok-None-get_in.ensures.found)

pub returns-in-Err-get_in-clause-steps : goal.returns-in-Err-get_in-clause-steps
returns-in-Err-get_in-clause-steps g c =
    steps_err _ _ _ _ _ (goes_then _ _ _ c.loop-len.invariant.goes_on c.in-Ok-Some.ensures.read.steps.ok) c.in-Err-get_in.ensures.read.steps

pub returns-then-depth-len-clause-found : goal.returns-then-depth-len-clause-found
returns-then-depth-len-clause-found g c =
    let kept = (g.K.Keeper.seen c.args.keeper.now).kept in
    let other : (c.in-Ok-Some-get_in.depth ≡ c.loop-len.len + 1 → ⊥) = search rules in
    reach_ends kept c.args.path.now c.loop-len.len c.loop-len.wid c.requires.apart c.loop-len-test.true c.loop-len.invariant.at c.in-Ok-Some.target c.in-Ok-Some-get_in.depth
    (at_old edge_codec kept (g.K.Keeper.seen c.loop-len.keeper).kept _ c.in-Ok-Some.field-0 (Some c.in-Ok-Some.target) c.loop-len.invariant.kept c.in-Ok-Some.field-0-is c.in-Ok-Some.ensures.found)
    (at_old depth_codec kept (g.K.Keeper.seen c.get_in.new.keeper).kept _ c.in-Ok-Some-get_in.field-0 (Some c.in-Ok-Some-get_in.depth) (c.in-Ok-Some.ensures.read.kept ∙ c.loop-len.invariant.kept) c.in-Ok-Some-get_in.field-0-is c.in-Ok-Some-get_in.ensures.found)
    other

pub returns-then-depth-len-clause-steps : goal.returns-then-depth-len-clause-steps
returns-then-depth-len-clause-steps g c =
    steps_ok _ _ _ _ (goes_then _ _ _ (goes_then _ _ _ c.loop-len.invariant.goes_on c.in-Ok-Some.ensures.read.steps.ok) c.in-Ok-Some-get_in.ensures.read.steps.ok)

pub loop-len-preserved : goal.loop-len-preserved
loop-len-preserved g c =
    let kept = (g.K.Keeper.seen c.args.keeper.now).kept in
    let same : c.in-Ok-Some-get_in.depth ≡ c.loop-len.len + 1 = search rules in
    record {
      at = reached_more kept c.args.path.now c.loop-len.len c.loop-len.wid c.requires.apart c.loop-len-test.true c.loop-len.invariant.at c.in-Ok-Some.target
          (at_old edge_codec kept (g.K.Keeper.seen c.loop-len.keeper).kept _ c.in-Ok-Some.field-0 (Some c.in-Ok-Some.target) c.loop-len.invariant.kept c.in-Ok-Some.field-0-is c.in-Ok-Some.ensures.found)
          c.in-Ok-Some-get_in.depth
          (at_old depth_codec kept (g.K.Keeper.seen c.get_in.new.keeper).kept _ c.in-Ok-Some-get_in.field-0 (Some c.in-Ok-Some-get_in.depth) (c.in-Ok-Some.ensures.read.kept ∙ c.loop-len.invariant.kept) c.in-Ok-Some-get_in.field-0-is c.in-Ok-Some-get_in.ensures.found)
          same;
      kept = c.in-Ok-Some-get_in.ensures.read.kept ∙ c.in-Ok-Some.ensures.read.kept ∙ c.loop-len.invariant.kept;
      writes = c.in-Ok-Some-get_in.ensures.read.writes ∙ c.in-Ok-Some.ensures.read.writes ∙ c.loop-len.invariant.writes;
      counts = counts_then _ _ _ c.loop-len.invariant.counts (counts_then _ _ _ c.in-Ok-Some.ensures.read.counts c.in-Ok-Some-get_in.ensures.read.counts);
      goes_on = goes_then _ _ _ (goes_then _ _ _ c.loop-len.invariant.goes_on c.in-Ok-Some.ensures.read.steps.ok) c.in-Ok-Some-get_in.ensures.read.steps.ok;
    }
