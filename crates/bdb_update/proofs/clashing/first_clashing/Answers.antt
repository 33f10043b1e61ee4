use Rattle.std.proofs.Common.{◌∙◌}
use Rattle.bdb_base.specs.Bases.{key_lengths}
use Rattle.bdb_update.proofs.ClashingLemmas.{first_is_ahead}
use Rattle.bdb_update.proofs.clashing.first_clashing.Goals as goal

pub returns : goal.returns
returns c = c.first_ahead.ensures ∙ first_is_ahead (key_lengths c.args.rels.now) c.args.stmts.now c.args.path.now c.requires
