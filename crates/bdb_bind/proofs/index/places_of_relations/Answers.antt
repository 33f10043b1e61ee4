use Rattle.std.proofs.Common.{◌∙◌, ℕ, List, sym, ap, arith}
use Rattle.bdb_bind.specs.Indexes.{or_place}
use Rattle.bdb_bind.proofs.IndexLemmas.{relations_more}
use Rattle.bdb_bind.proofs.index.places_of_relations.Goals as goal

pub loop-at-preserved : goal.loop-at-preserved
loop-at-preserved c = λ (q : List ℕ).
    let rel = c.index-rels-at.result in
    c.in_ok-add_place.ensures.ok q ∙ ap (λ o. or_place o rel.name c.loop-at.at q) (c.loop-at.invariant q)
    ∙ sym (relations_more c.args.rels.now c.loop-at.at rel q (omega arith) c.index-rels-at.is)
