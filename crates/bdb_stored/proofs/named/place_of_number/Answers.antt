use Rattle.std.proofs.Common.{nat_eq}
use Rattle.bdb_names.specs.declared.named.NamedWorld.{NamedWorld}
use Rattle.bdb_stored.proofs.PlaceLemmas.{not_found}
use Rattle.bdb_stored.proofs.named.place_of_number.Goals as goal

pub returns-in-None-clause-value : goal.returns-in-None-clause-value
returns-in-None-clause-value c = not_found (λ (x : NamedWorld). nat_eq x.wid c.args.wid) c.args.worlds.now c.in-None.ensures
