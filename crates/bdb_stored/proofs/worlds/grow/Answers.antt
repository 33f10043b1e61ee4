use Rattle.std.proofs.Common.{◌≡◌, get_or, length, subst, sym, rules, arith, ◌*◌}
use Rattle.bdb_tables.specs.Grammar.{InGrammar}
use Rattle.bdb_tables.specs.declared.tab.TabError.TheVariants.{Fault}
use Rattle.bdb_tables.proofs.Loops.{only_reads_more}
use Rattle.bdb_catalog.proofs.OpeningLemmas.{some_grammar}
use Rattle.bdb_stored.specs.Worlds.{TellsChildren}
use Rattle.bdb_stored.proofs.GrowLemmas.{grown_all, grown_next, grown_there}
use Rattle.bdb_stored.proofs.ReadLemmas.{as_many_all, as_many_more}
use Rattle.bdb_stored.proofs.worlds.grow.Goals as goal

pub index-requires : goal.index-requires
index-requires g c =
    let same : c.loop-at.worlds.len ≡ length c.loop-at.worlds.items = search rules in
    let less = grown_there (g.K.Keeper.seen c.args.keeper.now).kept c.args.count c.requires.count c.loop-at.at c.loop-at.worlds.items c.requires.base c.loop-at.invariant.read.told c.loop-at-test.true in
    omega (arith, less, same)

pub children_of-requires : goal.children_of-requires
children_of-requires g c = record { grammar = subst InGrammar (sym c.loop-at.invariant.kept) (some_grammar (g.K.Keeper.seen c.args.keeper.now).kept c.requires.base) }

pub loop-at-preserved : goal.loop-at-preserved
loop-at-preserved g c =
    let old = g.K.Keeper.seen c.args.keeper.now in
    let now = g.K.Keeper.seen c.loop-at.keeper in
    let new = g.K.Keeper.seen c.children_of.new.keeper in
    let h = c.loop-at.invariant in
    let x = c.index.result.now in
    let there : x ≡ get_or c.loop-at.worlds.items c.loop-at.at x = search rules in
    only_reads_more old now new c.in-Ok-children_of.children Fault h c.in-Ok-children_of.ensures.reading (record {
      told = grown_next old.kept c.args.count c.requires.count c.loop-at.at x c.args.users.now c.loop-at.worlds.items c.in-Ok-children_of.children.items c.append.new.self.items c.loop-at-test.true h.read.told there c.requires.users
          (subst (λ t. TellsChildren t x c.args.users.now c.in-Ok-children_of.children.items) h.kept c.in-Ok-children_of.ensures.children) c.in-Ok-append.ensures.items;
      reads = as_many_more old.reads now.reads new.reads c.loop-at.at (2 * length c.args.users.now) h.read.reads c.in-Ok-children_of.ensures.reads;
    })

pub returns-clause-worlds : goal.returns-clause-worlds
returns-clause-worlds g c =
    grown_all (g.K.Keeper.seen c.args.keeper.now).kept c.args.count c.requires.count c.loop-at.at c.loop-at.worlds.items c.loop-at-test.false c.loop-at.invariant.read.told

pub returns-clause-reads : goal.returns-clause-reads
returns-clause-reads g c =
    as_many_all (g.K.Keeper.seen c.args.keeper.now).reads (g.K.Keeper.seen c.loop-at.keeper).reads c.loop-at.at c.args.count (2 * length c.args.users.now) (omega (arith, c.loop-at.auto.at-end)) c.loop-at.invariant.read.reads
