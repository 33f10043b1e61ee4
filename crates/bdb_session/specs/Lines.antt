-- How many lines tell the structure of a base, by its sizes alone.
use Rattle.std.specs.Prelude.{ℕ, ◌+◌, ◌-◌, ◌*◌}
use Rattle.bdb_canon.specs.declared.sizes.Counts.{Counts}

-- how many edges so many worlds have over so many users: one for each user, but none for the last user of a world's path
abbrev pub edges_by : ℕ → ℕ → ℕ
edges_by users worlds = users + (worlds - 1) * (users - 1)

-- how many lines tell the structure of a base of these sizes: one for each user, relation, tuple, world, edge and row
abbrev pub lines_by : ℕ → ℕ → Counts → ℕ
lines_by users rels counts = users + rels + counts.tuples + counts.worlds + edges_by users counts.worlds + counts.rows
