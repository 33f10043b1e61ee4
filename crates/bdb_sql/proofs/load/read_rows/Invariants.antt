use Rattle.std.proofs.Common.{◌≡◌, List, []}
use Rattle.sqlite_value.specs.Order.{Row}
use Rattle.sqlite.specs.State.{HasCleanDisk, IsUnchanged, Survives}
use Rattle.sqlite.specs.Held.{state}
use Rattle.sqlite.specs.Given.{HasGiven}
use Rattle.bdb_keep.specs.Tables.{LieInTables}
use Rattle.bdb_sql.specs.Rows.{AreAllRows}
use Rattle.bdb_sql.proofs.TextLemmas.{select_text}
use Rattle.bdb_sql.proofs.RowLemmas.{IsUpTo}
use Rattle.bdb_sql.proofs.load.read_rows.Given as goal

abbrev pub invariant-rows : goal.invariant-rows
invariant-rows g l =
    let old = state g.S.Store l.fn.conn in
    let now = state g.S.Store l.rows.conn.now in
    (l.rows.conn.ghost_name ≡ l.initial.rows.conn.ghost_name) × Survives old now (λ _. ⊥)
    × (HasCleanDisk now → (given : List Row) × HasGiven g.S.Store select_text [] l.rows.conn.now given × AreAllRows given l.store.kept × IsUnchanged old now)
    × (l.store.kept ≡ l.store.last) × LieInTables l.store.kept × IsUpTo l.place.items l.store.kept
