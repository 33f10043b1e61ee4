use Rattle.std.proofs.Common.{◌∙◌}
use Rattle.bdb_base.specs.Bases.{key_lengths}
use Rattle.bdb_decode.proofs.SettlesLemmas.{barred_of}
use Rattle.bdb_decode.proofs.settles.is_barred.Goals as goal

pub returns : goal.returns
returns c =
    let row = c.args.row.now in
    c.is_barred_by.ensures ∙ barred_of (key_lengths c.args.catalog.now.rels) c.key_length_in.result c.args.rows.now row.tuple row.mark.0 c.key_length_in.ensures
