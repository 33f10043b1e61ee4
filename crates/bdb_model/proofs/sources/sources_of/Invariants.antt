use Rattle.std.proofs.Common.{◌≡◌, List, Option, true, length}
use Rattle.std.specs.List.{list_all}
use Rattle.bdb_base.specs.declared.tuple.Tuple.{Tuple}
use Rattle.bdb_queries.specs.Slots.{must_all_hold}
use Rattle.bdb_model.specs.Sources.{is_source, missing}
use Rattle.bdb_model.proofs.sources.sources_of.Given as goal

-- the sources so far are literals and given columns, and hold where the comparisons do
abbrev pub invariant-loop-sources : goal.invariant-loop-sources
invariant-loop-sources l = record {
  simple : list_all (is_source l.q.items) l.sources ≡ true;
  follow : (slots : List (Option Tuple)) → must_all_hold slots l.q.conds ≡ true → must_all_hold slots l.sources ≡ true;
}

-- the columns that the comparisons name and that have no source
abbrev pub decreases-loop-sources : goal.decreases-loop-sources
decreases-loop-sources l = length (missing l.q.items l.sources l.q.conds)
