use Rattle.std.proofs.Common.{◌∙◌, Less, Equal, Greater, sym, ap}
use Rattle.std.specs.Ordering.{is_lt, ordering_then}
use Rattle.bdb_keep.specs.Tables.{bytes_cmp}
use Rattle.bdb_memory.specs.Tails.{rest_in, head_in}
use Rattle.bdb_memory.proofs.HeadsLemmas.{entries_compared}
use Rattle.bdb_memory.proofs.entry.Entry.is_below.Goals as goal

pub returns-in-Less : goal.returns-in-Less
returns-in-Less c =
    let h = head_in c.self.inside.first c.self.inside.second c.self.inside.tail in
    let r = rest_in c.self.inside.tail in
    let behind = bytes_cmp r c.parts.result.1.now in
    ap is_lt (entries_compared h c.parts.result.0 r c.parts.result.1.now _ c.args.self.now c.args.probe.now (ordering_then Less behind) c.self.view_is c.self.invariant c.parts.ensures.place c.parts.ensures.head
    (ap (λ x. ordering_then x behind) (sym (sym c.compare_heads.ensures ∙ c.in-Less.is))))

pub returns-in-Equal : goal.returns-in-Equal
returns-in-Equal c =
    let h = head_in c.self.inside.first c.self.inside.second c.self.inside.tail in
    let r = rest_in c.self.inside.tail in
    let behind = bytes_cmp r c.parts.result.1.now in
    c.rest_is_below.ensures ∙ ap is_lt (entries_compared h c.parts.result.0 r c.parts.result.1.now _ c.args.self.now c.args.probe.now (ordering_then Equal behind) c.self.view_is c.self.invariant c.parts.ensures.place c.parts.ensures.head
    (ap (λ x. ordering_then x behind) (sym (sym c.compare_heads.ensures ∙ c.in-Equal.is))))

pub returns-in-Greater : goal.returns-in-Greater
returns-in-Greater c =
    let h = head_in c.self.inside.first c.self.inside.second c.self.inside.tail in
    let r = rest_in c.self.inside.tail in
    let behind = bytes_cmp r c.parts.result.1.now in
    ap is_lt (entries_compared h c.parts.result.0 r c.parts.result.1.now _ c.args.self.now c.args.probe.now (ordering_then Greater behind) c.self.view_is c.self.invariant c.parts.ensures.place c.parts.ensures.head
    (ap (λ x. ordering_then x behind) (sym (sym c.compare_heads.ensures ∙ c.in-Greater.is))))
