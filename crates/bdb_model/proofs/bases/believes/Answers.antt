use Rattle.std.proofs.Common.{◌∙◌}
use Rattle.bdb_base.specs.Bases.{key_lengths}
use Rattle.bdb_model.proofs.LengthLemmas.{believes_of}
use Rattle.bdb_model.proofs.bases.believes.Goals as goal

pub returns : goal.returns
returns c =
    c.believes_among.ensures
    ∙ believes_of (key_lengths c.args.base.now.catalog.rels) c.key_length_in.result c.stmts.result.now c.args.base.now.stmts c.args.path.now c.args.t.now c.args.s c.key_length_in.ensures c.stmts.ensures.value
