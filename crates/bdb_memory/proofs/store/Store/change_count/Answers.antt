use Rattle.std.proofs.Common.{◌≡◌, ◌∙◌, sym, ap, subst, length, rules}
use Rattle.bdb_memory.specs.StoreContents.{written}
use Rattle.bdb_memory.specs.Entries.{rows_of}
use Rattle.bdb_memory.proofs.WrittenLemmas.{written-undone, length-places_of}
use Rattle.bdb_memory.proofs.store.Store.change_count.Goals as goal

pub returns-clause-count : goal.returns-clause-count
returns-clause-count c =
    let e : c.len.result ≡ length c.self.inside.changes.items = search rules in
    e ∙ sym (length-places_of c.self.inside.changes.items) ∙ ap (λ h. length h.changes) c.self.view_is

pub returns-clause-written : goal.returns-clause-written
returns-clause-written c = subst (λ h. written h.changes h.kept h.last ≡ h.kept) c.self.view_is (written-undone c.self.inside.changes.items (rows_of c.self.inside.rows))
