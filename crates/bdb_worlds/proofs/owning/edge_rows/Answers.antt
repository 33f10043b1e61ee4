use Rattle.std.proofs.Common.{◌≡◌, rules, subst, List, ℕ}
use Rattle.bdb_key.specs.Bytes.{num_bytes}
use Rattle.bdb_tables.specs.InUse.{edge_codec}
use Rattle.bdb_tables.specs.Spans.{AreUnder}
use Rattle.bdb_tables.proofs.Held.{edges_fit}
use Rattle.bdb_worlds.proofs.owning.edge_rows.Goals as goal

pub rows_under-requires : goal.rows_under-requires
rows_under-requires g c = record { grammar = edges_fit _ c.requires.grammar }

pub returns-in-Ok-clause-rows : goal.returns-in-Ok-clause-rows
returns-in-Ok-clause-rows g c =
    let is : c.deref.result.now ≡ num_bytes c.args.wid = search rules in
    subst (λ (b : List ℕ). AreUnder edge_codec (g.K.Keeper.seen c.args.keeper.now).kept b c.in-Ok.rows.items) is c.in-Ok.ensures.rows
