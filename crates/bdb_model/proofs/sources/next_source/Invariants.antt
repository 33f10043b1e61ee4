use Rattle.std.proofs.Common.{◌≡◌, drop}
use Rattle.bdb_model.specs.Sources.{next_source}
use Rattle.bdb_model.proofs.sources.next_source.Given as goal

abbrev pub invariant-loop-cond : goal.invariant-loop-cond
invariant-loop-cond l = next_source l.items l.sources l.conds ≡ next_source l.items l.sources (drop l.cond-index l.conds)
