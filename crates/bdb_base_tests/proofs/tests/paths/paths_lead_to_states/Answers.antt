use Rattle.std.proofs.Common.{◌∙◌, ap, []}
use Rattle.bdb_base.specs.Order.{path_cmp}
use Rattle.bdb_base.specs.SortedSet.{is_member}
use Rattle.bdb_paths.proofs.StateLemmas.{list_has_states}
use Rattle.bdb_base_tests.proofs.tests.paths.paths_lead_to_states.Goals as goal

pub deepest_suffix-at-requires : goal.deepest_suffix-at-requires
deepest_suffix-at-requires g c = ap (λ xs. is_member path_cmp xs []) c.in_ok-states.ensures ∙ list_has_states c.as_slice.result.now []
