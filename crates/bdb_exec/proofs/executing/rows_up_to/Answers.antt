use Rattle.std.proofs.Common.{◌≡◌, ◌∙◌, ap, [], rules}
use Rattle.bdb_plan.specs.Running.{rows_from, start_of}
use Rattle.bdb_queries.specs.Collected.{Collected, with_rows}
use Rattle.bdb_queries.specs.Limits.{up_to}
use Rattle.bdb_queries.proofs.CollectedLemmas.{with_rows_most}
use Rattle.bdb_exec.specs.Seen.{sight_of}
use Rattle.bdb_exec.proofs.RunLemmas.{rows_collected}
use Rattle.bdb_exec.proofs.executing.rows_up_to.Goals as goal

pub returns-in-Ok-into_rows-clause-rows : goal.returns-in-Ok-into_rows-clause-rows
returns-in-Ok-into_rows-clause-rows g c =
    let plan = c.args.plan.now in
    let most = c.args.most in
    let start : Collected = record { rows = []; most = most } in
    let rows = rows_from (sight_of (g.K.Keeper.seen c.args.keeper.now).kept) plan.take plan.steps (start_of plan.items) in
    let end : c.run.new.found ≡ with_rows start rows = search rules in
    c.in-Ok-into_rows.ensures ∙ ap (λ f. up_to f.most f.rows) end ∙ ap (λ m. up_to m (with_rows start rows).rows) (with_rows_most start rows) ∙ rows_collected most rows

pub run-requires-clause-memo : goal.run-requires-clause-memo
run-requires-clause-memo g c = c.new-memo.ensures (g.K.Keeper.seen c.args.keeper.now).kept
