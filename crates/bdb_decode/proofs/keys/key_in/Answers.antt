use Rattle.std.proofs.Common.{◌∙◌}
use Rattle.bdb_base.specs.Bases.{key_lengths}
use Rattle.bdb_update.proofs.KeyLemmas.{key_by_length}
use Rattle.bdb_decode.proofs.keys.key_in.Goals as goal

pub returns : goal.returns
returns c = c.key_of.ensures ∙ key_by_length (key_lengths c.args.catalog.now.rels) c.key_length_in.result c.args.tuple.now c.key_length_in.ensures
