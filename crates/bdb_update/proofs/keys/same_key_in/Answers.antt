use Rattle.std.proofs.Common.{◌∙◌}
use Rattle.bdb_base.specs.Bases.{key_lengths}
use Rattle.bdb_update.proofs.KeyLemmas.{same_key_of}
use Rattle.bdb_update.proofs.keys.same_key_in.Goals as goal

pub returns : goal.returns
returns c = c.same_key.ensures ∙ same_key_of (key_lengths c.args.rels.now) c.length_in.result c.args.a.now c.args.b.now c.length_in.ensures
