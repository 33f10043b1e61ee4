use Rattle.std.proofs.Common.{ℕ, sym, subst}
use Rattle.std.specs.Prelude.{IfSome}
use Rattle.bdb_exec.specs.Indexes.{GroupsBy, index_cmp, place_pool}
use Rattle.bdb_exec.proofs.IndexLemmas.{index_tied}
use Rattle.bdb_exec.proofs.MemoLemmas.{after_insert}
use Rattle.bdb_exec.proofs.index.by_columns.Goals as goal

pub returns-in-Some-clause-pool : goal.returns-in-Some-clause-pool
returns-in-Some-clause-pool c t e r =
    let index = c.in-Some.index.now in
    let grouped : GroupsBy index.cols (place_pool t c.args.place) index.groups =
    subst (λ o. IfSome o (λ index. GroupsBy index.cols (place_pool t c.args.place) index.groups)) (sym c.in-Some.ensures.value) (r (c.args.place, c.columns_asked-columns.result)) in
    c.among.ensures (subst (λ pool. GroupsBy index.cols pool index.groups) (sym e) grouped)

pub returns-clause-indexes : goal.returns-clause-indexes
returns-clause-indexes c t e r =
    let index = c.in_ok-index.index in
    let at : (ℕ × ℕ) × ℕ = (c.args.place, c.columns_asked-columns.result) in
    after_insert index_cmp c.args.indexes.now c.insert.new.self at index (λ at index. GroupsBy index.cols (place_pool t at.0) index.groups) (index_tied at)
    (subst (λ pool. GroupsBy index.cols pool index.groups) e c.in_ok-index.ensures) c.in_ok-insert.ensures.updates r
