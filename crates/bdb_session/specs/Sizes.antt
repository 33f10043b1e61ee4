-- Which limit of a base is passed, and when there is too much to tell.
use Rattle.std.specs.Prelude.{ℕ, nat_lt, length, Option, None, Some, if◌then◌else◌}
use Rattle.bdb_base.specs.declared.kinds.What.{What}
use Rattle.bdb_base.specs.declared.kinds.What.TheVariants.{Users, Relations}
use Rattle.bdb_base.specs.Bases.{Contents}
use Rattle.bdb_base.specs.Limits.{most_users, most_relations, most_lines}
use Rattle.bdb_canon.specs.Sizes.{counts_of}
use Rattle.bdb_canon.specs.declared.sizes.Counts.{Counts}
use Rattle.bdb_render.specs.declared.refusal.Refusal.{Refusal}
use Rattle.bdb_render.specs.declared.refusal.Refusal.TheVariants as refusal
use Rattle.bdb_update.specs.Calls.{size_passed}

-- the first limit that is passed by so many users and relations, and then by the worlds, tuples and statements of these sizes
abbrev pub limit_passed : ℕ → ℕ → Counts → Option What
limit_passed users rels counts =
    if nat_lt most_users users then Some Users
    else (if nat_lt most_relations rels then Some Relations
    else size_passed counts)

-- the first limit that a base passes
abbrev pub passed_limit : Contents → Option What
passed_limit b = limit_passed (length b.catalog.users) (length b.catalog.rels) (counts_of b)

-- there are more lines than may be told
abbrev pub too_many : ℕ → Option Refusal
too_many lines = if nat_lt most_lines lines then Some refusal.Many else None
