-- The summary of events by what was counted.
use Rattle.std.proofs.Common.{◌≡◌, ◌∙◌, ℕ, List, ap}
use Rattle.bdb_canon.specs.declared.sizes.Counts.{Counts}
use Rattle.bdb_canon.specs.Sizes.{counts_of}
use Rattle.bdb_session.specs.declared.event.ScriptEvent.{ScriptEvent}
use Rattle.bdb_undo.specs.Timelines.{started}
use Rattle.bdb_base.specs.Bases.{empty_contents}
use Rattle.bdb_top.specs.declared.tally.ReplyCounts.{ReplyCounts}
use Rattle.bdb_top.specs.Generated.{base_after, no_replies, summary_of, summary_text, tally_from}

-- the tally, and the sizes of the base at the end, make the summary
pub summary_is : (events : List ScriptEvent) (t : ReplyCounts) (counts : Counts) (worlds rows : ℕ)
    → t ≡ tally_from no_replies (started empty_contents) events → counts ≡ counts_of (base_after events)
    → worlds ≡ counts.worlds → rows ≡ counts.rows → summary_text t worlds rows ≡ summary_of events
summary_is events t counts worlds rows tally sizes w r =
    ap (λ (x : ReplyCounts). summary_text x worlds rows) tally
    ∙ ap (λ n. summary_text (tally_from no_replies (started empty_contents) events) n rows) (w ∙ ap (λ (c : Counts). c.worlds) sizes)
    ∙ ap (λ n. summary_text (tally_from no_replies (started empty_contents) events) (counts_of (base_after events)).worlds n) (r ∙ ap (λ (c : Counts). c.rows) sizes)
