use Rattle.std.proofs.Common.{◌≤◌, length}
use Rattle.bdb_base.specs.Bases.{key_lengths}
use Rattle.bdb_base.specs.Limits.{most_statements}
use Rattle.bdb_tables.proofs.Loops.{IsReading}
use Rattle.bdb_decode.proofs.RowLemmas.{SaidBelow}
use Rattle.bdb_decode.proofs.rows.said_statements.Given as goal

abbrev pub invariant-loop : goal.invariant-loop
invariant-loop g l =
    let old = g.K.Keeper.seen l.fn.keeper in
    IsReading old (g.K.Keeper.seen l.keeper) (SaidBelow (key_lengths l.catalog.rels) l.worlds l.tuples old.kept l.low.items l.stmts.items × (length l.stmts.items ≤ most_statements))
