use Rattle.std.proofs.Common.{◌≡◌, take, IsTrue}
use Rattle.sqlite.specs.State.{HasCleanDisk, Survives}
use Rattle.sqlite.specs.Held.{state}
use Rattle.bdb_sql.specs.Tied.{HoldsTable}
use Rattle.bdb_sql.specs.Written.{SetsPlaces}
use Rattle.bdb_sql.proofs.AgainLemmas.{AreAmong}
use Rattle.bdb_sql.proofs.write.write_each.Given as goal

abbrev pub invariant-changes : goal.invariant-changes
invariant-changes g l =
    let old = state g.S.Store l.fn.transaction.conn.now in
    let now = state g.S.Store l.transaction.conn.now in
    (l.transaction.conn.ghost_name ≡ l.initial.transaction.conn.ghost_name) × Survives old now (λ _. ⊥)
    × AreAmong (take l.at l.store.changes) l.done.keys
    × (HasCleanDisk now → IsTrue old.in_transaction → HoldsTable old → SetsPlaces (take l.at l.store.changes) l.store.kept old now)
