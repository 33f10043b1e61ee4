use Rattle.std.proofs.Common.{◌<◌, ◌≡◌, ◌∙◌, sym, ap, subst, length, rules, Some, ◌∷◌}
use Rattle.std.specs.Prelude.{slice_get}
use Rattle.bdb_keep.specs.Tables.{IsPlace}
use Rattle.bdb_memory.proofs.WrittenLemmas.{length-places_of, slice_get-places_of, IsPlace-at}
use Rattle.bdb_memory.proofs.store.Store.changed_place.Goals as goal

pub returns-clause-place : goal.returns-clause-place
returns-clause-place c =
    let h : c.args.at < length c.self.inside.changes.items = subst (λ n. c.args.at < n) (sym (ap (λ h. length h.changes) c.self.view_is) ∙ length-places_of c.self.inside.changes.items) c.requires in
    subst (λ l. slice_get l c.args.at ≡ Some (c.parts.result.0 ∷ c.parts.result.1.now)) (ap (λ h. h.changes) c.self.view_is)
    (slice_get-places_of c.self.inside.changes.items c.args.at c.index.result.now h c.index.ensures ∙ ap Some c.parts.ensures)

pub returns-clause-table : goal.returns-clause-table
returns-clause-table c =
    let h : c.args.at < length c.self.inside.changes.items = subst (λ n. c.args.at < n) (sym (ap (λ h. length h.changes) c.self.view_is) ∙ length-places_of c.self.inside.changes.items) c.requires in
    subst IsPlace c.parts.ensures (IsPlace-at c.self.inside.changes.items c.self.inside.rows c.args.at c.index.result.now c.self.invariant h c.index.ensures)

pub index-requires : goal.index-requires
index-requires c =
    let h : c.args.at < length c.self.inside.changes.items = subst (λ n. c.args.at < n) (sym (ap (λ h. length h.changes) c.self.view_is) ∙ length-places_of c.self.inside.changes.items) c.requires in
    search rules
