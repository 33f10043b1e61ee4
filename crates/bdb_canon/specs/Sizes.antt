-- The sizes of a base.
use Rattle.std.specs.Prelude.{length, sum_by}
use Rattle.bdb_base.specs.Bases.{Contents, key_lengths, tuple_count, world_count}
use Rattle.bdb_base.specs.States.{states_of}
use Rattle.bdb_canon.specs.declared.sizes.Counts.{Counts}
use Rattle.bdb_canon.specs.Canonical.{row_count}

-- the worlds, the different tuples, the statements, and the signed tuples of all states' worlds
abbrev pub counts_of : Contents → Counts
counts_of b = record {
  worlds = world_count b.stmts;
  tuples = tuple_count b.stmts;
  stmts = length b.stmts;
  rows = sum_by (row_count (key_lengths b.catalog.rels) b.stmts) (states_of b.stmts);
}
