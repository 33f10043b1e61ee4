use Rattle.std.proofs.Common.{◌∙◌, ap, rules}
use Rattle.std.specs.Prelude.{is_some}
use Rattle.std.proofs.lemmas.Fn.{filter_same}
use Rattle.bdb_memory.specs.Blocks.{without_empty}
use Rattle.bdb_memory.proofs.block.Block.drop_empty.Goals as goal

pub returns : goal.returns
returns c = filter_same _ (λ e. is_some e.1) _ (λ x b f' t. search rules) c.self.inside.entries.items c.retain.new.self.items c.retain.ensures.filtered ∙ ap without_empty c.self.view_is
