use Rattle.std.proofs.Common.{◌-◌, Bool, List, ℕ}
use Rattle.bdb_catalog.specs.Taking.{values_asked, values_from}
use Rattle.bdb_tables.specs.Prefixes.{HasPutValues}
use Rattle.bdb_catalog.proofs.asking.put_asked.Given as goal

-- what comes of the columns that are left comes of all
abbrev pub invariant-loop-col : goal.invariant-loop-col
invariant-loop-col l = (all : Bool) (new : List ℕ) → HasPutValues all l.prefix.items new (values_from l.conds (l.n - l.col) l.col) → HasPutValues all l.fn.prefix.items new (values_asked l.conds l.n)
