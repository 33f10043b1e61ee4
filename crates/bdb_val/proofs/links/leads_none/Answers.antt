use Rattle.std.proofs.Common.{◌∙◌, filter, sym, ap}
use Rattle.std.proofs.lemmas.List.{take_rest}
use Rattle.bdb_val.specs.Visits.{leads_to}
use Rattle.bdb_val.proofs.links.leads_none.Goals as goal

pub returns : goal.returns
returns c past =
    let list = c.as_slice-links.result.now in
    ap (filter (leads_to c.args.wid)) (sym c.as_slice-links.ensures.value) ∙ c.is_behind.ensures c.if-not-is_behind.false
    ∙ ap (filter (leads_to c.args.wid)) (sym (take_rest list c.start_near-near.result)) ∙ c.is_past.ensures past
