use Rattle.std.proofs.Common.{◌≡◌, length}
use Rattle.bdb_base.specs.Order.{path_cmp}
use Rattle.bdb_base.specs.SortedSet.{is_member}
use Rattle.bdb_base.specs.States.{deepest_suffix}
use Rattle.bdb_paths.proofs.suffixes.deepest_suffix_in_set.Given as goal

abbrev pub invariant-loop-rest : goal.invariant-loop-rest
invariant-loop-rest l = deepest_suffix (is_member path_cmp l.states) l.path ≡ deepest_suffix (is_member path_cmp l.states) l.rest

abbrev pub decreases-loop-rest : goal.decreases-loop-rest
decreases-loop-rest l = length l.rest
