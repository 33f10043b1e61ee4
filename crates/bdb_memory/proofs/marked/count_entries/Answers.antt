use Rattle.std.proofs.Common.{ℕ, ◌+◌, cond, take, List, Option, sym, ap, ◌∙◌}
use Rattle.bdb_memory.specs.Tallies.{counts_at, count_among}
use Rattle.bdb_memory.proofs.TallyLemmas.{count-more}
use Rattle.bdb_memory.proofs.marked.count_entries.Goals as goal

pub loop-entry-preserved : goal.loop-entry-preserved
loop-entry-preserved c =
    let before : ℕ = count_among c.args.tab c.args.end c.args.number (take c.loop-entry.entry-index c.args.entries.now) in
    let one = c.one_if.ensures ∙ ap (λ b. cond b 1 0) (c.counts_at.ensures ∙ ap (λ (e : List ℕ × Option (List ℕ)). counts_at c.args.tab c.args.end c.args.number e.0 e.1) c.entry-item.is) in
    c.in_ok-count.ensures ∙ ap (λ x. x + c.one_if.result) c.loop-entry.invariant ∙ ap (λ x. before + x) one
    ∙ sym (count-more c.args.tab c.args.end c.args.number c.args.entries.now c.loop-entry.entry-index c.entry-item.result c.loop-entry-test.true)
