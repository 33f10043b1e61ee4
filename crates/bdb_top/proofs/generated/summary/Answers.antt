use Rattle.std.proofs.Common.{◌≡◌, ◌∙◌, ℕ, List, IfOk, ap, subst}
use Rattle.bdb_session.specs.Runs.{events_of}
use Rattle.bdb_top.specs.Generated.{summary_of}
use Rattle.bdb_top.proofs.generated.summary.Goals as goal

pub returns : goal.returns
returns c =
    subst (λ (l : List ℕ). IfOk c.summary_of.result (λ text. text.items ≡ l)) (ap (λ (x : List ℕ). summary_of (events_of x)) (c.as_slice.ensures.value ∙ c.in_ok-script.ensures)) c.summary_of.ensures
