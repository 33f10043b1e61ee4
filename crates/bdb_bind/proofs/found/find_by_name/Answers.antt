use Rattle.std.proofs.Common.{◌∙◌, sym, ap, refl, arith}
use Rattle.std.proofs.lemmas.Option.{slice_get_read}
use Rattle.bdb_base.specs.declared.kinds.RelDef.{RelDef}
use Rattle.bdb_bind.proofs.PlaceLemmas.{columns_at_place}
use Rattle.bdb_bind.proofs.found.find_by_name.Goals as goal

pub returns-then-is_relation_at-clause-cols : goal.returns-then-is_relation_at-clause-cols
returns-then-is_relation_at-clause-cols c =
    let rels = c.args.rels.now in
    let at = c.in-Some.at in
    let def = c.index-rels-at.result in
    c.as_slice.ensures ∙ ap (λ (d : RelDef). d.cols) (sym c.index-rels-at.is)
    ∙ sym (columns_at_place rels at c.args.name.now def c.requires.differ (sym c.is_relation_at.ensures.here ∙ c.if-is_relation_at.true)
    (slice_get_read rels _ at def refl (omega arith) c.index-rels-at.is))
