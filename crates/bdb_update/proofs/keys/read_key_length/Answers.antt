use Rattle.std.proofs.Common.{ap, subst}
use Rattle.bdb_base.specs.declared.tuple.Tuple.{Tuple}
use Rattle.bdb_tables.specs.Lengths.{IsKeyLength}
use Rattle.bdb_update.proofs.keys.read_key_length.Goals as goal

pub returns-in-Ok-clause-length : goal.returns-in-Ok-clause-length
returns-in-Ok-clause-length g c =
    subst (λ r. IsKeyLength (g.K.Keeper.seen c.args.keeper.now).kept r c.in-Ok.n) (ap (λ (x : Tuple). x.rel) c.tuple.view_is) c.in-Ok.ensures.length
