use Rattle.std.proofs.Common.{◌≡◌, rules, arith, true, ◌∙◌}
use Rattle.std.specs.BTreeSet.{contains}
use Rattle.sqlite.specs.Held.{state}
use Rattle.sqlite.proofs.StateLemmas.{survives_then}
use Rattle.bdb_sql.proofs.AgainLemmas.{place_cmp, keep_done, was_written}
use Rattle.bdb_sql.proofs.BatchLemmas.{next_set, sets_again}
use Rattle.bdb_sql.proofs.write.write_each.Goals as goal

pub changes-preserved-then-not-branch : goal.changes-preserved-then-not-branch
changes-preserved-then-not-branch g c =
    let inv = c.changes.invariant in
    let place = c.changed_place-place.ensures.place in
    let there : contains place_cmp c.changes.done c.changed_place-place.result ≡ true = search rules in (
      inv.0,
      inv.1,
      rw c.in_ok-insert.ensures.keys (keep_done c.args.store.now.changes c.changes.at c.changes.done.keys c.changed_place-place.result c.args.store.now.kept place inv.2),
      λ clean inside table. sets_again c.args.store.now.changes c.changes.at c.args.store.now.kept _ place _ _ (was_written _ c.changes.done c.changed_place-place.result there inv.2) (inv.3 clean inside table),
    )

pub changes-preserved : goal.changes-preserved
changes-preserved g c =
    let inv = c.changes.invariant in
    let old = state g.S.Store c.args.transaction.now.conn.now in
    let mid = state g.S.Store c.changes.transaction.conn.now in
    let new = state g.S.Store c.write_row.new.transaction.conn.now in
    let place = c.changed_place-place.ensures.place in (
      c.write_row.ensures.same_reference ∙ inv.0,
      survives_then old mid new _ _ (λ _. ⊥) (λ _ db none. none) (λ _ db none. none) inv.1 c.write_row.ensures.survives,
      rw c.in_ok-insert.ensures.keys (keep_done c.args.store.now.changes c.changes.at c.changes.done.keys c.changed_place-place.result c.args.store.now.kept place inv.2),
      λ clean inside table.
          let was = inv.3 (omega (arith, c.write_row.ensures.survives.clean)) inside table in
          next_set c.args.store.now.changes c.changes.at c.args.store.now.kept _ place _ old mid new (rw place at c.changed_row.ensures) was (c.in_ok-write_row.ensures.set clean was.mode was.table),
    )
