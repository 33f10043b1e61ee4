use Rattle.bdb_tables.proofs.Held.{links_fit}
use Rattle.bdb_stored.proofs.LinkLemmas.{told_link}
use Rattle.bdb_stored.proofs.links.with_link.Goals as goal

pub get-requires-clause-grammar : goal.get-requires-clause-grammar
get-requires-clause-grammar g c = links_fit (g.K.Keeper.seen c.args.keeper.now).kept c.requires.grammar

pub returns-in-Ok-try_clone-clause-link : goal.returns-in-Ok-try_clone-clause-link
returns-in-Ok-try_clone-clause-link g c =
    told_link (g.K.Keeper.seen c.args.keeper.now).kept c.args.worlds.now c.args.world.now c.in-Ok.link c.place_of_link-suffix.result c.in-Ok-try_clone.path c.in-Ok.ensures.found c.place_of_link-suffix.ensures c.in-Ok-try_clone.ensures
