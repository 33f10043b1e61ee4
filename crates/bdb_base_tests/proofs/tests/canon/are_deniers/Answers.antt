use Rattle.bdb_canon.proofs.Samples.{deniers_are_safe}
use Rattle.bdb_base_tests.proofs.tests.canon.are_deniers.Goals as goal

pub names_told-requires-clause-safe : goal.names_told-requires-clause-safe
names_told-requires-clause-safe c = deniers_are_safe c.args.base.now.catalog c.in_ok-query.query c.requires.catalog c.in_ok-query.ensures
