use Rattle.std.proofs.Common.{◌∙◌, sym, ap, subst}
use Rattle.std.specs.FinMap as tables
use Rattle.bdb_base.specs.Bases.{empty_contents}
use Rattle.bdb_tables.specs.Codec.{place}
use Rattle.bdb_tables.specs.InUse.{depth_codec}
use Rattle.bdb_tables.specs.Stored.{Stores}
use Rattle.bdb_update.proofs.EmptyLemmas.{two_rows_store_empty}
use Rattle.bdb_catalog.proofs.creating.write_empty.Goals as goal

pub returns-in-Ok-put-clause-stored : goal.returns-in-Ok-put-clause-stored
returns-in-Ok-put-clause-stored g c =
    subst (λ t. Stores t empty_contents)
    (sym (c.in-Ok-put.ensures.kept ∙ ap (λ t. tables.insert t (place depth_codec 0) (depth_codec.row_bytes 0)) c.in-Ok.ensures.kept))
    (two_rows_store_empty (g.K.Keeper.seen c.args.keeper.now).kept c.requires.empty)
