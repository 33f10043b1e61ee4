use Rattle.std.proofs.Common.{◌≡◌, ◌∙◌, ap, rules, [], map}
use Rattle.bdb_base.specs.Bases.{Contents}
use Rattle.bdb_model.specs.Answering.{all_rows, rows_of_users, open_slots}
use Rattle.bdb_model.specs.Choosing.{chosen_rows}
use Rattle.bdb_queries.specs.Collected.{Collected, with_rows}
use Rattle.bdb_queries.specs.Limits.{up_to}
use Rattle.bdb_model.specs.Pools.{user_pool}
use Rattle.bdb_model.proofs.AnswerLemmas.{all_rows_of, collected_answers}
use Rattle.bdb_queries.proofs.CollectedLemmas.{with_rows_most}
use Rattle.bdb_model.proofs.queries.rows_up_to.Goals as goal

pub returns : goal.returns
returns c fits safe =
    let b : Contents = c.args.base.now in
    let q = c.args.q.now in
    let sources = c.in_ok-sources.sources in
    let start : Collected = record { rows = []; most = c.args.most } in
    let pools = c.as_slice-4.ensures.value ∙ c.in_ok-pools.ensures ∙ ap (λ x. map (user_pool x) c.as_slice-items.result.now) (c.as_slice.ensures ∙ ap (λ k. k.users) c.catalog.ensures.value) ∙ ap (map (user_pool b.catalog.users)) c.as_slice-items.ensures in
    let slots = c.as_slice-5.ensures.value ∙ c.in_ok-slots.ensures ∙ ap open_slots c.as_slice-items.ensures in
    let rows = all_rows_of b q sources c.as_slice-3.result.now c.as_slice-2.result.now c.as_slice-4.result.now c.as_slice-5.result.now c.as_slice-3.ensures c.as_slice-2.ensures pools slots in
    let end : c.choose.new.found ≡ with_rows start (all_rows b q sources) =
    c.in_ok-choose.ensures ∙ ap (λ f. with_rows f (chosen_rows c.as_slice-3.result.now (rows_of_users b q c.as_slice-2.result.now) 0 c.as_slice-4.result.now c.as_slice-5.result.now)) c.new-found.ensures
    ∙ ap (with_rows start) rows in
    let given : c.in_ok-rows.rows ≡ up_to c.choose.new.found.most c.choose.new.found.rows = search rules in
    given ∙ ap (λ f. up_to f.most f.rows) end ∙ ap (λ m. up_to m (with_rows start (all_rows b q sources)).rows) (with_rows_most start (all_rows b q sources))
    ∙ collected_answers b q sources c.args.most c.catalog.ensures.valid fits safe c.in_ok-sources.ensures
