use Rattle.std.proofs.Common.{◌<◌, ◌^◌, rules}
use Rattle.bdb_base.specs.Bases.{key_lengths}
use Rattle.bdb_decode.proofs.RowsLemmas.{keyed_apart, keyed_tuples}
use Rattle.bdb_decode.proofs.held_rows.read_rows.Goals as goal

pub read_world-requires-clause-tuples : goal.read_world-requires-clause-tuples
read_world-requires-clause-tuples g c = keyed_tuples (key_lengths c.args.catalog.now.rels) (g.K.Keeper.seen c.args.keeper.now).kept c.requires.keyed

pub returns-in-Ok-clause-apart : goal.returns-in-Ok-clause-apart
returns-in-Ok-clause-apart g c =
    let size : c.args.wid < 2 ^ 32 = search rules in
    keyed_apart (key_lengths c.args.catalog.now.rels) (g.K.Keeper.seen c.args.keeper.now).kept c.requires.grammar c.requires.keyed c.args.wid size c.in-Ok.rows.items c.in-Ok.ensures.rows
