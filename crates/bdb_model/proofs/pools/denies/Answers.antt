use Rattle.std.proofs.Common.{◌∙◌}
use Rattle.bdb_base.specs.Bases.{key_lengths}
use Rattle.bdb_model.proofs.LengthLemmas.{denies_of}
use Rattle.bdb_model.proofs.pools.denies.Goals as goal

pub returns : goal.returns
returns c = c.denies_by.ensures ∙ denies_of (key_lengths c.args.rels.now) c.key_length_of.result c.args.world.now c.args.tuple.now c.key_length_of.ensures
