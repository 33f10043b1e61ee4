use Rattle.std.proofs.Common.{sym, subst}
use Rattle.bdb_tables.specs.Grammar.{InGrammar}
use Rattle.bdb_tables.specs.InUse.{link_codec}
use Rattle.bdb_tables.specs.InUseLaws.{numbers_are_one}
use Rattle.bdb_tables.specs.declared.tab.TabError.TheVariants.{Fault}
use Rattle.bdb_tables.proofs.Loops.{reading_more}
use Rattle.bdb_graph.specs.States.{is_world}
use Rattle.bdb_graph.proofs.PassLemmas.{keys_all, keys_more, not_all_keys}
use Rattle.bdb_graph.proofs.links.are_links_of_worlds.Goals as goal

pub next_link-requires-clause-grammar : goal.next_link-requires-clause-grammar
next_link-requires-clause-grammar g c = subst InGrammar (sym c.loop.invariant.kept) c.requires.grammar

pub returns-in-Ok-Some-false-clause-keys : goal.returns-in-Ok-Some-false-clause-keys
returns-in-Ok-Some-false-clause-keys g c =
    let w = c.in-Ok-Some-false in
    not_all_keys link_codec (is_world c.args.worlds.now) (g.K.Keeper.seen c.args.keeper.now).kept (g.K.Keeper.seen c.loop.keeper).kept c.loop.low.items c.next_link.new.low.items w.field-0 w.field-0-0
    c.loop.invariant.kept w.field-0-is w.field-0-0-test w.ensures.found

pub returns-in-Ok-None-clause-keys : goal.returns-in-Ok-None-clause-keys
returns-in-Ok-None-clause-keys g c =
    keys_all link_codec (is_world c.args.worlds.now) numbers_are_one (g.K.Keeper.seen c.args.keeper.now).kept (g.K.Keeper.seen c.loop.keeper).kept c.loop.low.items c.next_link.new.low.items c.in-Ok-None.field-0
    c.loop.invariant.kept c.in-Ok-None.field-0-is c.loop.invariant.read c.in-Ok-None.ensures.found

pub loop-preserved : goal.loop-preserved
loop-preserved g c =
    let old = g.K.Keeper.seen c.args.keeper.now in
    let now = g.K.Keeper.seen c.loop.keeper in
    let new = g.K.Keeper.seen c.next_link.new.keeper in
    let w = c.in-Ok-Some-true in
    reading_more old now new w.field-0 Fault c.loop.invariant w.ensures.read
    (keys_more link_codec (is_world c.args.worlds.now) old.kept now.kept c.loop.low.items c.next_link.new.low.items w.field-0 w.field-0-0 c.loop.invariant.kept w.field-0-is w.field-0-0-test c.loop.invariant.read w.ensures.found)
