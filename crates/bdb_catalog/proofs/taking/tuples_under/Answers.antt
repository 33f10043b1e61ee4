use Rattle.std.proofs.Common.{◌≡◌, ◌∙◌, ◌+◌, ◌≤◌, ◌++◌, ◌∷◌, [], true, length, take, filter, is_some, sym, ap, subst, arith, rules}
use Rattle.std.specs.FinMap as tables
use Rattle.std.proofs.lemmas.List.{length_push, take_all}
use Rattle.bdb_tables.specs.Codec.{HasRow, place}
use Rattle.bdb_tables.specs.InUse.{tuple_codec, val_codec}
use Rattle.bdb_tables.specs.Spans.{AreUnder}
use Rattle.bdb_tables.specs.declared.tab.TabError.TheVariants.{Fault}
use Rattle.bdb_tables.proofs.Loops.{reading_more, all_at_index}
use Rattle.bdb_catalog.specs.Taking.{is_said, AreTuplesOf}
use Rattle.bdb_catalog.proofs.RowLemmas.{IsThere, rows_are_there, told_more}
use Rattle.bdb_catalog.proofs.taking.tuples_under.Goals as goal

pub rows_under-requires : goal.rows_under-requires
rows_under-requires g c = record { grammar = λ k r found. c.requires.grammar 11 k r found }

pub read_tuple-requires-clause-there : goal.read_tuple-requires-clause-there
read_tuple-requires-clause-there g c =
    let t = (g.K.Keeper.seen c.args.keeper.now).kept in
    let es = c.deref-row-items.result.now in
    let e = c.row-item.result in
    let under = subst (λ xs. AreUnder val_codec t c.args.prefix.now xs) (sym c.deref-row-items.ensures.value) c.in-Ok.ensures.rows in
    let stands = all_at_index (IsThere t) es c.loop-row.row-index e c.loop-row-test.true c.row-item.is (rows_are_there t c.args.prefix.now es under) in
    ap (λ u. is_some (tables.get u (place tuple_codec e.0.3))) c.loop-row.invariant.kept ∙ c.requires.tuples e.0 stands.0 (ap is_some stands.1)

pub returns-clause-tuples : goal.returns-clause-tuples
returns-clause-tuples g c =
    let t = (g.K.Keeper.seen c.args.keeper.now).kept in
    let es = c.deref-row-items.result.now in record {
      rows = es;
      under = subst (λ xs. AreUnder val_codec t c.args.prefix.now xs) (sym c.deref-row-items.ensures.value) c.in-Ok.ensures.rows;
      told = subst (λ xs. AreTuplesOf t (filter (is_said c.args.sign) xs) c.loop-row.tuples.items) (take_all c.loop-row.row-index es c.loop-row-test.false) c.loop-row.invariant.read.told;
      reads = c.loop-row.invariant.read.reads;
    }

pub loop-row-preserved : goal.loop-row-preserved
loop-row-preserved g c =
    let old = g.K.Keeper.seen c.args.keeper.now in
    let now = g.K.Keeper.seen c.loop-row.keeper in
    let new = g.K.Keeper.seen c.read_tuple.new.keeper in
    let es = c.deref-row-items.result.now in
    let e = c.row-item.result in
    let i = c.loop-row.row-index in
    let h = c.loop-row.invariant in
    let u = c.in-Ok-read_tuple.tuple in
    let pushed : c.push.new.self.items ≡ c.loop-row.tuples.items ++ u ∷ [] = search rules in
    let row : HasRow tuple_codec old.kept e.0.3 u = subst (λ t. HasRow tuple_codec t e.0.3 u) h.kept c.in-Ok-read_tuple.ensures.tuple in
    let said : is_said c.args.sign e ≡ true = sym c.is_said.ensures ∙ c.if-not-is_said.false in
    let many : length c.push.new.self.items ≡ length c.loop-row.tuples.items + 1 = ap length pushed ∙ length_push c.loop-row.tuples.items u in
    let reads : new.reads ≤ old.reads + (length es + length c.push.new.self.items + 1) = omega (arith, c.in-Ok-read_tuple.ensures.reads, h.read.reads, many) in
    reading_more old now new u Fault h c.in-Ok-read_tuple.ensures.read (record {
      told = subst (AreTuplesOf old.kept (filter (is_said c.args.sign) (take (i + 1) es))) (sym pushed)
          (told_more old.kept c.args.sign es i e c.loop-row.tuples.items c.loop-row-test.true c.row-item.is h.read.told u said row);
      reads = reads;
    })
