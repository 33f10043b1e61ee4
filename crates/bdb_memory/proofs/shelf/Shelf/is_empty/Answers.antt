use Rattle.std.proofs.Common.{◌∙◌, ap, rules}
use Rattle.std.specs.Prelude.{not}
use Rattle.bdb_memory.specs.Blocks.{has_any}
use Rattle.bdb_memory.proofs.ShelvesLemmas.{empty-joined}
use Rattle.bdb_memory.proofs.shelf.Shelf.is_empty.Goals as goal

pub returns : goal.returns
returns c = empty-joined c.self.inside.blocks.items _ c.is_empty.result c.self.invariant.full (search rules) c.is_empty.ensures ∙ ap (λ es. not (has_any es)) c.self.view_is
