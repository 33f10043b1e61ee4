use Rattle.std.proofs.Common.{◌<◌, ◌≡◌, ◌∙◌, sym, ap, subst, length, rules, Some}
use Rattle.std.specs.Prelude.{slice_get, IfSome}
use Rattle.std.specs.Option.{option_map}
use Rattle.std.specs.FinMap as map
use Rattle.bdb_memory.specs.Entries.{rows_of}
use Rattle.bdb_memory.proofs.WrittenLemmas.{length-places_of, slice_get-places_of}
use Rattle.bdb_memory.proofs.store.Store.changed_row.Goals as goal

pub returns : goal.returns
returns c =
    let h : c.args.at < length c.self.inside.changes.items = subst (λ n. c.args.at < n) (sym (ap (λ h. length h.changes) c.self.view_is) ∙ length-places_of c.self.inside.changes.items) c.requires in
    let s : slice_get c.args.self.now.changes c.args.at ≡ Some c.index.result.now.place =
    sym (ap (λ h. slice_get h.changes c.args.at) c.self.view_is) ∙ slice_get-places_of c.self.inside.changes.items c.args.at c.index.result.now h c.index.ensures in
    subst (λ o. IfSome o (λ place. option_map (λ row. row.now) c.row_at.result ≡ map.get c.args.self.now.kept place)) (sym s)
    (c.row_at.ensures ∙ ap (map.get (rows_of c.self.inside.rows)) c.probe-probe.ensures ∙ ap (λ h. map.get h.kept c.index.result.now.place) c.self.view_is)

pub index-requires : goal.index-requires
index-requires c =
    let h : c.args.at < length c.self.inside.changes.items = subst (λ n. c.args.at < n) (sym (ap (λ h. length h.changes) c.self.view_is) ∙ length-places_of c.self.inside.changes.items) c.requires in
    search rules
