use Rattle.std.proofs.Common.{ap}
use Rattle.bdb_base.specs.declared.kinds.Catalog.{Catalog}
use Rattle.bdb_base.specs.Bases.{is_user}
use Rattle.bdb_base_tests.proofs.tests.canon.left_by_bob.Goals as goal

pub drop_user-count-requires : goal.drop_user-count-requires
drop_user-count-requires c = ap (λ (k : Catalog). is_user k.users 2) c.in_ok-base.ensures
