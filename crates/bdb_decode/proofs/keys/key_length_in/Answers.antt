use Rattle.std.proofs.Common.{◌∙◌, List, ap}
use Rattle.bdb_base.specs.Bases.{key_lengths}
use Rattle.bdb_base.specs.declared.kinds.RelDef.{RelDef}
use Rattle.bdb_base.specs.declared.tuple.Tuple.{Tuple}
use Rattle.bdb_decode.proofs.keys.key_length_in.Goals as goal

pub returns : goal.returns
returns c =
    c.key_length.ensures ∙ ap (λ (t : Tuple). key_lengths c.as_slice.result.now t.rel) c.tuple.view_is
    ∙ ap (λ (rels : List RelDef). key_lengths rels c.args.tuple.now.rel) c.as_slice.ensures
