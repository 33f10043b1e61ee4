use Rattle.std.proofs.Common.{◌≡◌, ◌++◌, [], ◌∷◌, sym, subst, rules}
use Rattle.bdb_tables.specs.Grammar.{InGrammar}
use Rattle.bdb_tables.specs.declared.tab.TabError.TheVariants.{Fault}
use Rattle.bdb_tables.proofs.Loops.{reading_more}
use Rattle.bdb_decode.specs.Parts.{IsLink}
use Rattle.bdb_decode.proofs.PartLemmas.{links_more}
use Rattle.bdb_decode.proofs.linking.links_of.Goals as goal

pub link_of-requires : goal.link_of-requires
link_of-requires g c = record { grammar = subst InGrammar (sym c.loop-world.invariant.kept) c.requires.grammar }

pub loop-world-preserved : goal.loop-world-preserved
loop-world-preserved g c =
    let old = g.K.Keeper.seen c.args.keeper.now in
    let now = g.K.Keeper.seen c.loop-world.keeper in
    let new = g.K.Keeper.seen c.link_of.new.keeper in
    let row = c.world-item.result in
    let link = c.in-Ok.link in
    let h = c.loop-world.invariant in
    let pushed : c.push.new.self.items ≡ c.loop-world.links.items ++ link ∷ [] = search rules in
    reading_more old now new link Fault h c.in-Ok.ensures.read
    (links_more old.kept c.args.worlds.now c.loop-world.world-index row row c.loop-world.links.items c.push.new.self.items link c.loop-world-test.true c.world-item.is h.read
    (subst (λ t. IsLink t row link) h.kept c.in-Ok.ensures.link) pushed)
