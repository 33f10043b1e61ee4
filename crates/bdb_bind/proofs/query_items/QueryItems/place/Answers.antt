use Rattle.std.proofs.Common.{rules}
use Rattle.bdb_bind.proofs.AliasLemmas.{place_within}
use Rattle.bdb_bind.proofs.query_items.QueryItems.place.Goals as goal

pub returns-in-Some-clause-within : goal.returns-in-Some-clause-within
returns-in-Some-clause-within c = place_within c.args.self.now c.in-Some.alias _ (search rules)
