use Rattle.std.proofs.Common.{◌∙◌, ap, sym, Some}
use Rattle.bdb_base.specs.Order.{path_cmp}
use Rattle.bdb_base.specs.OrderLemmas.{path_exact}
use Rattle.bdb_base.specs.SortedSet.{is_member}
use Rattle.bdb_base.specs.States.{deepest_suffix}
use Rattle.bdb_base.proofs.SetLemmas.{member_stands, member_belongs}
use Rattle.bdb_paths.proofs.PlaceLemmas.{none_left, one_less, target_found}
use Rattle.bdb_paths.proofs.SuffixLemmas.{deepest_of_member, root_comes_first}
use Rattle.bdb_paths.proofs.suffixes.deepest_suffix_in_set.Goals as goal

pub returns-in-Ok-clause-suffix : goal.returns-in-Ok-clause-suffix
returns-in-Ok-clause-suffix c =
    let P = is_member path_cmp c.args.states.now in
    c.in-Ok.ensures
    ∙ ap Some (sym (c.loop-rest.invariant ∙ deepest_of_member P c.loop-rest.rest.now (member_stands path_exact c.args.states.now c.loop-rest.rest.now c.in-Ok.at c.in-Ok.ensures)))

pub returns-in-Ok-clause-place : goal.returns-in-Ok-clause-place
returns-in-Ok-clause-place c = target_found c.args.states.now c.args.path.now c.in-Ok.at c.requires.sorted (returns-in-Ok-clause-suffix c)

pub loop-rest-preserved : goal.loop-rest-preserved
loop-rest-preserved c =
    one_less (is_member path_cmp c.args.states.now) c.args.path.now c.loop-rest.rest.now c.in-len1-up.len_at_least
    (member_belongs path_exact c.args.states.now c.loop-rest.rest.now c.in_default-place_of_users.field-0 c.in_default-place_of_users.ensures) c.loop-rest.invariant

pub returns-clause-suffix : goal.returns-clause-suffix
returns-clause-suffix c =
    let P = is_member path_cmp c.args.states.now in
    root_comes_first c.args.states.now c.requires.sorted c.requires.root
    ∙ ap Some (sym (c.loop-rest.invariant ∙ ap (deepest_suffix P) (none_left c.loop-rest.rest.now c.in_default.len_below)))

pub returns-clause-place : goal.returns-clause-place
returns-clause-place c = target_found c.args.states.now c.args.path.now 0 c.requires.sorted (returns-clause-suffix c)
