use Rattle.std.proofs.Common.{◌∙◌, ap}
use Rattle.bdb_base.specs.Bases.{key_lengths}
use Rattle.bdb_base.specs.Order.{statement_cmp}
use Rattle.bdb_base.specs.SortedSet.{ascending}
use Rattle.bdb_base.specs.WorldRows.{world_of}
use Rattle.bdb_model.proofs.EndLemmas.{ends_ascend, worlds_depend_on_ends}
use Rattle.bdb_model.proofs.rows.world_among.Goals as goal

pub world_from-requires : goal.world_from-requires
world_from-requires c = ap (ascending statement_cmp) (c.as_slice.ensures ∙ c.in_ok-near.ensures) ∙ ends_ascend c.args.path.now c.args.stmts.now c.requires

pub returns : goal.returns
returns c = c.in_ok-world.ensures ∙ ap (λ xs. world_of (key_lengths c.args.rels.now) xs c.args.path.now) (c.as_slice.ensures ∙ c.in_ok-near.ensures)
    ∙ worlds_depend_on_ends (key_lengths c.args.rels.now) c.args.stmts.now c.args.path.now
