use Rattle.std.proofs.Common.{◌∙◌, ap, sym}
use Rattle.bdb_base.specs.Order.{path_cmp}
use Rattle.bdb_base.specs.OrderLemmas.{path_exact}
use Rattle.bdb_paths.specs.Places.{place_in}
use Rattle.bdb_paths.proofs.PlaceLemmas.{place_of_item}
use Rattle.bdb_canon.proofs.rows.rows_of.Goals as goal

pub push_rows-requires-clause-place : goal.push_rows-requires-clause-place
push_rows-requires-clause-place c =
    sym (ap (place_in path_cmp c.args.states.now) c.as_slice.ensures.users
    ∙ place_of_item path_exact c.args.states.now c.loop-at.at c.index-states-at.result c.requires.states.sorted c.loop-at-test.true c.index-states-at.is)
