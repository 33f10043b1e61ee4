use Rattle.std.proofs.Common.{◌∙◌, ◌∷◌, [], take, ap, sym}
use Rattle.bdb_memory.specs.Heads.{key_of}
use Rattle.bdb_memory.specs.Places.{place_in}
use Rattle.bdb_memory.proofs.HeadsLemmas.{head_itself, key_back}
use Rattle.bdb_memory.proofs.place.Place.probe.Goals as goal

pub from_parts-requires : goal.from_parts-requires
from_parts-requires c = head_itself (take c.in-Near.count c.in-Near.bytes) [] c.of_padded.result c.of_padded.ensures.head

pub returns-in-Near : goal.returns-in-Near
returns-in-Near c =
    c.from_parts.ensures
    ∙ ap (λ t. t ∷ key_of c.of_padded.result []) c.of_padded.ensures.tab
    ∙ ap (λ k. c.in-Near.tab ∷ k) (key_back (take c.in-Near.count c.in-Near.bytes) [] c.of_padded.result c.of_padded.ensures.head)
    ∙ ap place_in (sym c.in-Near.is)
    ∙ c.self.view_is
