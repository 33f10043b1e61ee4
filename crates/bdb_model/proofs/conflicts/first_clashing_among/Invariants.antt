use Rattle.std.proofs.Common.{drop}
use Rattle.std.specs.Option.{option_copied}
use Rattle.bdb_base.specs.Bases.{key_lengths}
use Rattle.bdb_model.proofs.ClashLemmas.{HasFirst}
use Rattle.bdb_model.proofs.conflicts.first_clashing_among.Given as goal

-- the last plus statement and those to come have the first clashing statement of the whole
abbrev pub invariant-loop-x : goal.invariant-loop-x
invariant-loop-x l = HasFirst (key_lengths l.rels) l.path l.stmts (option_copied l.last) (drop l.x-index l.stmts)
