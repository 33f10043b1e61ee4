use Rattle.std.proofs.Common.{◌∙◌}
use Rattle.bdb_base.specs.Bases.{key_lengths}
use Rattle.bdb_base.proofs.ClashLemmas.{clash_of}
use Rattle.bdb_update.proofs.keys.clash_in.Goals as goal

pub returns : goal.returns
returns c = c.clash.ensures ∙ clash_of (key_lengths c.args.rels.now) c.length_in.result c.args.a.now c.args.s c.args.b.now c.args.t c.length_in.ensures
