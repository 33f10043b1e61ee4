use Rattle.std.proofs.Common.{◌∙◌, sym, ap}
use Rattle.std.specs.Ordering.{ordering_then}
use Rattle.bdb_keep.specs.Tables.{bytes_cmp}
use Rattle.bdb_memory.specs.Heads.{heads_cmp}
use Rattle.bdb_memory.specs.Tails.{rest_in, head_in}
use Rattle.bdb_memory.proofs.HeadsLemmas.{entries_compared, decided}
use Rattle.bdb_memory.proofs.entry.Entry.compare.Goals as goal

pub returns-in-Equal : goal.returns-in-Equal
returns-in-Equal c =
    let h = head_in c.self.inside.first c.self.inside.second c.self.inside.tail in
    let r = rest_in c.self.inside.tail in
    entries_compared h c.parts.result.0 r c.parts.result.1.now _ c.args.self.now c.args.probe.now _ c.self.view_is c.self.invariant c.parts.ensures.place c.parts.ensures.head
    (c.compare_rest.ensures ∙ ap (λ x. ordering_then x (bytes_cmp r c.parts.result.1.now)) (sym (sym c.compare_heads.ensures ∙ c.in-Equal.is)))

pub returns-in_default : goal.returns-in_default
returns-in_default c =
    let h = head_in c.self.inside.first c.self.inside.second c.self.inside.tail in
    let r = rest_in c.self.inside.tail in
    entries_compared h c.parts.result.0 r c.parts.result.1.now _ c.args.self.now c.args.probe.now _ c.self.view_is c.self.invariant c.parts.ensures.place c.parts.ensures.head
    (decided (heads_cmp h c.parts.result.0) c.compare_heads.result _ (sym c.compare_heads.ensures) c.in_default.not-Equal)
