use Rattle.std.proofs.Common.{◌∙◌, List, ap}
use Rattle.bdb_base.specs.Bases.{key_lengths}
use Rattle.bdb_base.specs.Clash.{key_of}
use Rattle.bdb_base.specs.Same.{same_values}
use Rattle.bdb_base.specs.declared.kinds.Value.{Value}
use Rattle.bdb_decode.proofs.rows.has_key.Goals as goal

pub returns : goal.returns
returns c =
    c.same_values.ensures ∙ ap (λ (vs : List Value). same_values vs c.as_slice.result.now) c.key_in.ensures
    ∙ ap (λ (vs : List Value). same_values (key_of (key_lengths c.args.catalog.now.rels) c.args.tuple.now) vs) c.as_slice.ensures
