use Rattle.std.proofs.Common.{◌≡◌, ◌∙◌, ◌+◌, ◌<◌, ◌≤◌, [], ◌∷◌, ◌++◌, Some, length, refl, ap, subst, arith, rules}
use Rattle.std.specs.FinMap as tables
use Rattle.std.proofs.lemmas.List.{length_push}
use Rattle.bdb_shown.specs.Rows.{HasTupleFor, StandsWithTuple}
use Rattle.bdb_shown.proofs.ReadLemmas.{each_at, has_four, there_still, with_tuple}
use Rattle.bdb_tables.specs.declared.tab.TabError.TheVariants.{Fault}
use Rattle.bdb_tables.proofs.Loops.{reading_more}
use Rattle.bdb_tables.proofs.RangeLemmas.{zip_all, zip_more, zip_none}
use Rattle.bdb_shown.proofs.reading.fill_rows.Goals as goal

pub loop-index-init : goal.loop-index-init
loop-index-init g c = record {
  goes = record { faults = omega arith; running = refl; last = refl; commits = refl };
  kept = refl;
  writes = refl;
  counts = record { faults = omega arith; reads = omega arith; writes = omega arith; commits = omega arith };
  read = record {
    told = zip_none (HasTupleFor (g.K.Keeper.seen c.args.keeper.now).kept) c.args.stored.now c.clear.new.self c.clear.ensures;
    reads = omega arith;
  };
}

pub last_four-requires : goal.last_four-requires
last_four-requires g c =
    let t = (g.K.Keeper.seen c.args.keeper.now).kept in
    let lt : c.loop-index.index < length c.args.stored.now = omega (arith, c.len-index-end.ensures, c.loop-index-test.true) in
    let s = each_at (StandsWithTuple t) c.args.stored.now c.loop-index.index c.entry.result.0.now c.entry.result.1.now c.requires.stand lt c.entry.ensures in
    has_four c.entry.result.0.now s.key s.reads

pub read_tuple-requires : goal.read_tuple-requires
read_tuple-requires g c =
    let t = (g.K.Keeper.seen c.args.keeper.now).kept in
    let lt : c.loop-index.index < length c.args.stored.now = omega (arith, c.len-index-end.ensures, c.loop-index-test.true) in
    let s = each_at (StandsWithTuple t) c.args.stored.now c.loop-index.index c.entry.result.0.now c.entry.result.1.now c.requires.stand lt c.entry.ensures in
    record { there = there_still t (g.K.Keeper.seen c.loop-index.keeper).kept c.entry.result.0.now c.last_four.result.now s.key c.loop-index.invariant.kept s.reads c.last_four.ensures s.there }

pub loop-index-preserved : goal.loop-index-preserved
loop-index-preserved g c =
    let old = g.K.Keeper.seen c.args.keeper.now in
    let now = g.K.Keeper.seen c.loop-index.keeper in
    let new = g.K.Keeper.seen c.read_tuple.new.keeper in
    let h = c.loop-index.invariant in
    let stored = c.args.stored.now in
    let key = c.entry.result.0.now in
    let mark = c.entry.result.1.now in
    let tuple = c.read_tuple.new.tuple.items in
    let lt : c.loop-index.index < length stored = omega (arith, c.len-index-end.ensures, c.loop-index-test.true) in
    let s = each_at (StandsWithTuple old.kept) stored c.loop-index.index key mark c.requires.stand lt c.entry.ensures in
    let found : tables.get old.kept (4 ∷ c.last_four.result.now) ≡ Some tuple = subst (λ u. tables.get u (4 ∷ c.last_four.result.now) ≡ Some tuple) h.kept c.in-Ok.ensures.tuple in
    let pushed : c.push.new.self ≡ c.loop-index.rows ++ (tuple, mark) ∷ [] = search rules in
    let longer : length c.push.new.self ≡ length c.loop-index.rows + 1 = ap length pushed ∙ length_push c.loop-index.rows (tuple, mark) in
    let reads : new.reads ≤ old.reads + length c.push.new.self = omega (arith, c.in-Ok.ensures.reads, h.read.reads, longer) in
    reading_more old now new tt Fault h c.in-Ok.ensures.read (record {
      told = zip_more (HasTupleFor old.kept) stored c.loop-index.rows c.push.new.self c.loop-index.index (c.loop-index.index + 1) (key, mark) (tuple, mark) lt
          c.entry.ensures h.read.told (with_tuple old.kept key mark c.last_four.result.now tuple s c.last_four.ensures found) pushed refl;
      reads = reads;
    })

pub returns-clause-rows : goal.returns-clause-rows
returns-clause-rows g c =
    let stored = c.args.stored.now in
    let end : length stored ≤ c.loop-index.index = omega (arith, c.len-index-end.ensures, c.loop-index-test.false) in
    zip_all (HasTupleFor (g.K.Keeper.seen c.args.keeper.now).kept) stored c.loop-index.rows c.loop-index.index end c.loop-index.invariant.read.told
