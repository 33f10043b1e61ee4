use Rattle.std.proofs.Common.{ap, ◌∙◌}
use Rattle.bdb_memory.specs.Blocks.{joined, without_empty}
use Rattle.bdb_memory.proofs.BlocksLemmas.{sorted-without, joined-without}
use Rattle.bdb_memory.proofs.shelf.Shelf.drop_empty.Goals as goal

pub invariant_of-self : goal.invariant_of-self
invariant_of-self c =
    sorted-without c.self.inside.blocks.items c.drop_empty_blocks.new.blocks.items c.self.invariant (c.drop_empty_blocks.ensures.same ∙ ap joined c.drop_empty_places.ensures) c.drop_empty_blocks.ensures.full

pub returns : goal.returns
returns c = c.drop_empty_blocks.ensures.same ∙ ap joined c.drop_empty_places.ensures ∙ joined-without c.self.inside.blocks.items ∙ ap without_empty c.self.view_is
