use Rattle.bdb_base.specs.Bases.{key_lengths}
use Rattle.bdb_decode.proofs.RowsLemmas.{rows_told}
use Rattle.bdb_decode.proofs.held_rows.are_rows_held.Goals as goal

pub returns-in-Ok-clause-held : goal.returns-in-Ok-clause-held
returns-in-Ok-clause-held g c =
    rows_told (key_lengths c.args.catalog.now.rels) (g.K.Keeper.seen c.args.keeper.now).kept c.args.worlds.now c.in-Ok.settled (λ k r found. c.requires.grammar 11 k r found) c.requires.keyed c.in-Ok.ensures.settled
