use Rattle.std.proofs.Common.{◌∙◌, ap}
use Rattle.bdb_base.specs.Bases.{key_lengths}
use Rattle.bdb_base.specs.WorldRows.{world_of}
use Rattle.bdb_model.proofs.BaseLemmas.{valid_world_once, valid_world_agrees}
use Rattle.bdb_model.proofs.bases.world_rows.Goals as goal

pub returns-clause-once : goal.returns-clause-once
returns-clause-once c =
    let here = ap (λ xs. world_of (key_lengths c.as_slice-rels.result.now) xs c.args.path.now) c.stmts.ensures.value in
    let same = ap (λ rels. world_of (key_lengths rels) c.args.base.now.stmts c.args.path.now) (c.as_slice-rels.ensures ∙ ap (λ k. k.rels) c.catalog.ensures.value) in
    valid_world_once c.args.base.now.catalog c.args.base.now.stmts c.args.path.now c.in_ok-world.world.held c.stmts.ensures.valid (c.in_ok-world.ensures ∙ here ∙ same)

pub returns-clause-compatible : goal.returns-clause-compatible
returns-clause-compatible c =
    let here = ap (λ xs. world_of (key_lengths c.as_slice-rels.result.now) xs c.args.path.now) c.stmts.ensures.value in
    let same = ap (λ rels. world_of (key_lengths rels) c.args.base.now.stmts c.args.path.now) (c.as_slice-rels.ensures ∙ ap (λ k. k.rels) c.catalog.ensures.value) in
    valid_world_agrees c.args.base.now.catalog c.args.base.now.stmts c.args.path.now c.in_ok-world.world.held c.stmts.ensures.valid (c.in_ok-world.ensures ∙ here ∙ same)
