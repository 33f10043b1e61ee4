use Rattle.std.proofs.Common.{◌≡◌, ◌∙◌, true, false, refl, sym, subst, rules}
use Rattle.bdb_base.specs.Bases.{is_user}
use Rattle.bdb_tables.specs.Grammar.{InGrammar}
use Rattle.bdb_graph.specs.States.{have_own_paths}
use Rattle.bdb_graph.proofs.StatesLemmas.{held_known, no_such_links, not_own, not_turned}
use Rattle.bdb_graph.proofs.states.are_held.Goals as goal

pub are_links_held-requires-clause-grammar : goal.are_links_held-requires-clause-grammar
are_links_held-requires-clause-grammar g c = subst InGrammar (sym c.in-Ok-true.ensures.reading.kept) c.requires.grammar

pub are_edges_held-requires-clause-grammar : goal.are_edges_held-requires-clause-grammar
are_edges_held-requires-clause-grammar g c = subst InGrammar (sym (c.in-Ok-true-are_links_held.ensures.reading.kept ∙ c.in-Ok-true.ensures.reading.kept)) c.requires.grammar

pub returns-then-not-have_own_paths-clause-held : goal.returns-then-not-have_own_paths-clause-held
returns-then-not-have_own_paths-clause-held g c =
    let users = c.args.users.now in
    let ws = c.args.worlds.now in
    let bad : have_own_paths (is_user users) ws ≡ false = search rules in
    not_own (g.K.Keeper.seen c.args.keeper.now).kept users ws c.requires.worlds (have_own_paths (is_user users) ws) refl bad

pub returns-in-Ok-false-clause-held : goal.returns-in-Ok-false-clause-held
returns-in-Ok-false-clause-held g c =
    not_turned (g.K.Keeper.seen c.args.keeper.now).kept c.args.users.now c.args.worlds.now c.requires.worlds c.in-Ok-false.field-0 c.in-Ok-false.field-0-test c.in-Ok-false.ensures.turned

pub returns-in-Ok-false-are_links_held-clause-held : goal.returns-in-Ok-false-are_links_held-clause-held
returns-in-Ok-false-are_links_held-clause-held g c =
    let w = c.in-Ok-false-are_links_held in
    no_such_links (g.K.Keeper.seen c.args.keeper.now).kept c.args.users.now c.args.worlds.now c.requires.worlds (g.K.Keeper.seen c.are_turned_round.new.keeper).kept w.field-0 c.in-Ok-true.ensures.reading.kept w.field-0-test w.ensures.held

pub returns-in-Ok-clause-held : goal.returns-in-Ok-clause-held
returns-in-Ok-clause-held g c =
    let users = c.args.users.now in
    let ws = c.args.worlds.now in
    let own : have_own_paths (is_user users) ws ≡ true = search rules in
    let turn = c.in-Ok-true in
    let link = c.in-Ok-true-are_links_held in
    held_known (g.K.Keeper.seen c.args.keeper.now).kept users ws c.requires.worlds (g.K.Keeper.seen c.are_turned_round.new.keeper).kept (g.K.Keeper.seen c.are_links_held.new.keeper).kept
    (have_own_paths (is_user users) ws) turn.field-0 link.field-0 c.in-Ok.held c.requires.users turn.ensures.reading.kept (link.ensures.reading.kept ∙ turn.ensures.reading.kept) refl own turn.field-0-test link.field-0-test
    turn.ensures.turned link.ensures.held c.in-Ok.ensures.held
