use Rattle.std.proofs.Common.{◌∙◌, ap, slice_get, sym}
use Rattle.std.proofs.lemmas.Bool.{false≢true}
use Rattle.bdb_base.specs.Order.{path_cmp}
use Rattle.bdb_base.specs.SortedSet.{is_member}
use Rattle.bdb_paths.proofs.PlaceLemmas.{found_by_search, found_here, none_left, not_there, one_less, target_stands}
use Rattle.bdb_paths.proofs.suffixes.deepest_suffix.Goals as goal

pub returns-in-Some-clause-place : goal.returns-in-Some-clause-place
returns-in-Some-clause-place c = found_here c.args.states.now c.args.path.now c.loop-rest.rest.now c.in-Some.at c.loop-rest.invariant
    (sym c.in-Some.is ∙ found_by_search c.args.states.now c.as_slice.result.now c.loop-rest.rest.now c.place_among.result c.as_slice.ensures c.place_among.ensures)

pub returns-in-Some-clause-suffix : goal.returns-in-Some-clause-suffix
returns-in-Some-clause-suffix c = ap (slice_get c.args.states.now) (returns-in-Some-clause-place c) ∙ target_stands c.args.states.now c.args.path.now c.requires

pub loop-rest-preserved : goal.loop-rest-preserved
loop-rest-preserved c =
    one_less (is_member path_cmp c.args.states.now) c.args.path.now c.loop-rest.rest.now c.in-len1-up.len_at_least
    (not_there c.args.states.now c.loop-rest.rest.now (sym c.in_default-place_among.is
    ∙ found_by_search c.args.states.now c.as_slice.result.now c.loop-rest.rest.now c.place_among.result c.as_slice.ensures c.place_among.ensures))
    c.loop-rest.invariant

pub unreachable-requires : goal.unreachable-requires
unreachable-requires c = false≢true (sym (not_there c.args.states.now c.loop-rest.rest.now (sym c.in-None.is
    ∙ found_by_search c.args.states.now c.as_slice-2.result.now c.loop-rest.rest.now c.place_among-2.result c.as_slice-2.ensures c.place_among-2.ensures))
    ∙ ap (is_member path_cmp c.args.states.now) (none_left c.loop-rest.rest.now c.in_default.len_below) ∙ c.requires)

pub returns-clause-place : goal.returns-clause-place
returns-clause-place c = found_here c.args.states.now c.args.path.now c.loop-rest.rest.now c.in-Some-place_among.at c.loop-rest.invariant
    (sym c.in-Some-place_among.is ∙ found_by_search c.args.states.now c.as_slice-2.result.now c.loop-rest.rest.now c.place_among-2.result c.as_slice-2.ensures c.place_among-2.ensures)

pub returns-clause-suffix : goal.returns-clause-suffix
returns-clause-suffix c = ap (slice_get c.args.states.now) (returns-clause-place c) ∙ target_stands c.args.states.now c.args.path.now c.requires
