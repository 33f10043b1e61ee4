use Rattle.std.proofs.Common.{◌≡◌, refl, sym, ap, ◌∙◌, subst, rules, arith, [], ◌∷◌, ◌++◌}
use Rattle.std.specs.FinMap as fin
use Rattle.sqlite_schema.specs.declared.schema.Schema.{Schema}
use Rattle.sqlite.specs.Effect.{Database}
use Rattle.sqlite.specs.Listing.{understood}
use Rattle.sqlite.specs.State.{HasCleanDisk, Survives, CommitsShowing}
use Rattle.sqlite.specs.Given.{IsPlain}
use Rattle.sqlite.specs.Held.{state}
use Rattle.sqlite.proofs.StateLemmas.{survives_then}
use Rattle.sqlite.proofs.Callers.{begun_plain, unchanged_then}
use Rattle.bdb_memory.specs.StoreContents.{StoreContents}
use Rattle.bdb_keep.specs.Tables.{LieInTables}
use Rattle.bdb_sql.specs.Rows.{AreAllRows}
use Rattle.bdb_keep.proofs.TableLemmas.{none_lie}
use Rattle.bdb_sql.proofs.LoadLemmas.{AreShown, shows_all}
use Rattle.bdb_sql.proofs.RowLemmas.{IsUpTo, up_to_empty, rows_empty, up_to_next, one_more, shown_rows}
use Rattle.bdb_sql.proofs.TextLemmas.{select_text, select_plain, commits_nothing}
use Rattle.bdb_sql.proofs.load.read_rows.Goals as goal

pub returns-in_err-rows-clause-survives : goal.returns-in_err-rows-clause-survives
returns-in_err-rows-clause-survives g c =
    let old = state g.S.Store c.args.conn.now in
    let new = state g.S.Store c.query.follows.lender-at-none in
    let held = c.query.follows.holds-at-none in
    let kept : Survives old new (CommitsShowing select_text [] old) = search rules in
    commits_nothing old new c.requires kept

pub rows-init : goal.rows-init
rows-init g c =
    let made = c.in_ok-rows.ensures in
    let plain : IsPlain (understood c.args.conn.now.schema select_text) = subst (λ (s : Schema). IsPlain (understood s select_text)) (sym c.requires) select_plain in
    let kept : c.new-store.result.kept ≡ fin.empty = ap (λ (h : StoreContents). h.kept) c.new-store.ensures in (
      refl,
      commits_nothing _ _ c.requires made.survives,
      λ clean. let begun = begun_plain g.S.Store select_text [] c.args.conn.now _ plain (made.begun clean) in ([], begun.0, subst (AreAllRows []) (sym kept) rows_empty, begun.1),
      kept ∙ sym (ap (λ (h : StoreContents). h.last) c.new-store.ensures),
      subst LieInTables (sym kept) none_lie,
      subst (IsUpTo c.new-place.result.items) (sym kept) (up_to_empty c.new-place.result.items),
    )

pub rows-preserved : goal.rows-preserved
rows-preserved g c =
    let moved = c.next.follows.holds-at-none in
    let old = state g.S.Store c.args.conn.now in
    let mid = state g.S.Store c.rows.rows.conn.now in
    let now = state g.S.Store c.next.follows.lender-at-none.conn.now in
    let inv = c.rows.invariant in
    let adds = c.in_ok-add_row.ensures.added in (
      moved.same_reference ∙ inv.0,
      survives_then old mid now _ _ (λ _. ⊥) (λ _ db none. none) (λ _ db none. none) inv.1 moved.survives,
      λ clean.
          let was = inv.2 (omega (arith, moved.survives.clean)) in
          let gone = (rw (c.in_ok-row.was, c.in-Some.is) at (moved.ok clean)) select_text [] was.0 was.1 in (
            was.0 ++ c.in-Some.row.now ∷ [],
            gone,
            one_more c.in-Some.row.now c.rows.place.items c.add_row.new.place.items c.rows.store.kept c.add_row.new.store.kept adds inv.5 was.0 was.2,
            unchanged_then old mid now was.3 (rw c.in_ok-row.was at (moved.same clean)),
          ),
      c.in_ok-add_row.ensures.committed,
      c.in_ok-add_row.ensures.fits,
      up_to_next c.in-Some.row.now c.rows.place.items c.add_row.new.place.items c.rows.store.kept c.add_row.new.store.kept adds inv.5,
    )

pub returns-in_default-clause-rows : goal.returns-in_default-clause-rows
returns-in_default-clause-rows g c clean =
    let moved = c.next.follows.holds-at-none in
    let mid = state g.S.Store c.rows.rows.conn.now in
    let now = state g.S.Store c.next.follows.lender-at-none.conn.now in
    let late : HasCleanDisk now = search rules in
    let was = c.rows.invariant.2 (omega (arith, moved.survives.clean)) in
    let shown = (rw (c.in_ok-row.was, c.in_default.is) at (moved.ok late)) select_text [] was.0 was.1 in
    let same = was.3.0.now_is in
    let all = shows_all mid now was.0 (ap (λ (d : Database). d.schema) same ∙ c.requires) shown in
    shown_rows _ was.0 c.rows.store.kept (subst (λ (d : Database). AreShown (d.trees 0) was.0) same all) was.2
