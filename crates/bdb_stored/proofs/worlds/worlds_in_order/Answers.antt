use Rattle.std.proofs.Common.{◌≡◌, length, subst, sym, rules, ◌∙◌, ◌*◌, ap}
use Rattle.bdb_base.specs.States.{states_of}
use Rattle.bdb_catalog.specs.Opening.{IsPartOf}
use Rattle.bdb_stored.specs.Worlds.{TellsStates}
use Rattle.bdb_stored.proofs.CountingLemmas.{states_counted}
use Rattle.bdb_stored.proofs.PlaceLemmas.{states_as_many}
use Rattle.bdb_stored.proofs.ReadLemmas.{depths_and_turns}
use Rattle.bdb_stored.proofs.worlds.worlds_in_order.Goals as goal

pub grow-requires-clause-count : goal.grow-requires-clause-count
grow-requires-clause-count g c =
    let t = (g.K.Keeper.seen c.args.keeper.now).kept in
    let n : c.len.result ≡ length c.in-Ok.depths.items = search rules in
    subst (λ u. IsPartOf (λ b. length (states_of b.stmts)) u c.len.result) (sym c.in-Ok.ensures.read.kept)
    (subst (IsPartOf (λ b. length (states_of b.stmts)) t) (sym n) (states_counted t c.in-Ok.depths.items c.in-Ok.ensures.rows))

pub returns-in-Ok-grow-clause-worlds : goal.returns-in-Ok-grow-clause-worlds
returns-in-Ok-grow-clause-worlds g c = subst (λ u. TellsStates u c.in-Ok-grow.worlds.items) c.in-Ok.ensures.read.kept c.in-Ok-grow.ensures.worlds

pub returns-in-Ok-grow-clause-reads : goal.returns-in-Ok-grow-clause-reads
returns-in-Ok-grow-clause-reads g c =
    let t = (g.K.Keeper.seen c.args.keeper.now).kept in
    let n : c.len.result ≡ length c.in-Ok.depths.items = search rules in
    let told = subst (λ u. TellsStates u c.in-Ok-grow.worlds.items) c.in-Ok.ensures.read.kept c.in-Ok-grow.ensures.worlds in
    let many : length c.in-Ok-grow.worlds.items ≡ c.len.result = states_as_many t c.in-Ok-grow.worlds.items c.requires.base told ∙ sym (states_counted t c.in-Ok.depths.items c.in-Ok.ensures.rows c.requires.base.base c.requires.base.stores) ∙ sym n in
    let all = ap (λ k. k * (2 * length c.args.users.now)) many in
    depths_and_turns _ _ _ (length c.in-Ok.depths.items) c.len.result (length c.in-Ok-grow.worlds.items) _ _ c.in-Ok.ensures.reads c.in-Ok-grow.ensures.reads n many all
