use Rattle.std.proofs.Common.{◌≡◌, ◌∙◌, ◌<◌, Some, ap, filter, length, rules, subst}
use Rattle.std.specs.Prelude.{IfOk}
use Rattle.bdb_exec.specs.Indexes.{has_key, values_of}
use Rattle.bdb_exec.specs.Keys.{passes, value_behind}
use Rattle.bdb_exec.proofs.IndexLemmas.{index_passes}
use Rattle.bdb_exec.proofs.index.among.Goals as goal

pub returns-in-Some : goal.returns-in-Some
returns-in-Some c h =
    let slots = c.args.slots.now in
    let item = c.args.item in
    let behind = c.args.behind.now in
    let key = c.in-Some.key in
    let cols = c.args.index.now.cols in
    let all = c.args.all.now in
    let there : item < length slots = search rules in
    let asked : values_of (value_behind slots item behind) cols ≡ Some key = search rules in
    let group : c.group.result.now ≡ filter (has_key cols key) all = c.group.ensures ∙ h key in
    subst (λ ts. IfOk c.passing-in-Some.result (λ pool. pool ≡ ts)) (ap (filter (passes slots item behind)) group ∙ index_passes slots item behind cols key all there asked) c.passing-in-Some.ensures
