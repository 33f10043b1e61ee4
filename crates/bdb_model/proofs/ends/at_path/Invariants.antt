use Rattle.std.proofs.Common.{◌≡◌, true, take}
use Rattle.std.specs.List.{list_all}
use Rattle.bdb_base.specs.Same.{same_path}
use Rattle.bdb_model.proofs.ends.at_path.Given as goal

abbrev pub invariant-loop-count : goal.invariant-loop-count
invariant-loop-count l = list_all (λ x. same_path x.path l.path) (take l.count l.rest) ≡ true
