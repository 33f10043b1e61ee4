use Rattle.std.proofs.Common.{subst}
use Rattle.bdb_tables.specs.declared.tab.TabError.TheVariants.{Fault}
use Rattle.bdb_tables.proofs.Loops.{only_reads_more}
use Rattle.bdb_leaving.specs.Naming.{AppendsNaming}
use Rattle.bdb_leaving.proofs.ReadsLemmas.{reads_more}
use Rattle.bdb_leaving.proofs.WorldLemmas.{naming_all, naming_more}
use Rattle.bdb_leaving.proofs.naming.read_naming.Goals as goal

pub loop-world-preserved : goal.loop-world-preserved
loop-world-preserved g c =
    let old = g.K.Keeper.seen c.args.keeper.now in
    let now = g.K.Keeper.seen c.loop-world.keeper in
    let new = g.K.Keeper.seen c.push_naming.new.keeper in
    let h = c.loop-world.invariant in
    let x = c.world-item.result in
    only_reads_more old now new _ Fault h c.in-Ok.ensures.reading (record {
      said = naming_more old.kept c.args.uid c.args.worlds.now c.requires.worlds c.loop-world.world-index x x c.loop-world.stmts c.push_naming.new.stmts c.loop-world-test.true c.world-item.is h.read.said
          (subst (λ t. AppendsNaming t c.args.uid x c.loop-world.stmts c.push_naming.new.stmts) h.kept c.in-Ok.ensures.appended);
      reads = reads_more c.args.uid old now new c.args.worlds.now c.requires.worlds c.loop-world.world-index x x c.loop-world-test.true c.world-item.is h.kept h.read.reads c.in-Ok.ensures.reads;
    })

pub returns-clause-naming : goal.returns-clause-naming
returns-clause-naming g c =
    naming_all (g.K.Keeper.seen c.args.keeper.now).kept c.args.uid c.args.worlds.now c.requires.worlds c.loop-world.world-index c.loop-world.stmts c.loop-world-test.false c.loop-world.invariant.read.said
