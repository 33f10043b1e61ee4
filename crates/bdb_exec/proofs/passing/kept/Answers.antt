use Rattle.std.proofs.Common.{◌∙◌, ap, filter, rules}
use Rattle.std.proofs.lemmas.Fn.{filter_same}
use Rattle.bdb_exec.specs.Keys.{passes}
use Rattle.bdb_exec.proofs.passing.kept.Goals as goal

pub returns : goal.returns
returns c =
    c.from_vec.ensures
    ∙ filter_same _ _ _ (λ x b f' k. search rules) _ _ c.retain.ensures.filtered
    ∙ ap (filter (passes c.args.slots.now c.args.item c.args.behind.now)) c.into_vec-pool.ensures
