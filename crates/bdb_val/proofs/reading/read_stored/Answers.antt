use Rattle.std.proofs.Common.{◌≡◌, ◌∙◌, ℕ, ◌+◌, ◌≤◌, ◌++◌, ◌∷◌, [], true, false, length, take, get_or, is_some, sym, ap, subst, arith, rules, refl}
use Rattle.std.specs.FinMap as tables
use Rattle.std.proofs.lemmas.List.{length_push, take_all}
use Rattle.bdb_base.specs.declared.kinds.Sign.TheVariants.{Plus}
use Rattle.bdb_tables.specs.Codec.{HasRow, place}
use Rattle.bdb_tables.specs.InUse.{tuple_codec}
use Rattle.bdb_tables.specs.Marks.{Mark}
use Rattle.bdb_tables.specs.declared.tab.TabError.TheVariants.{Fault}
use Rattle.bdb_tables.proofs.Loops.{reading_more, all_at_index}
use Rattle.bdb_val.specs.declared.stored.StoredRow.{StoredRow}
use Rattle.bdb_val.proofs.NumberedLemmas.{Entry, one_place}
use Rattle.bdb_val.proofs.ToldLemmas.{AreToldAt, entries_stand, numbers_stand, told_at_more, told_entries}
use Rattle.bdb_val.proofs.reading.read_stored.Goals as goal

pub numbered_under-requires : goal.numbered_under-requires
numbered_under-requires g c = record { grammar = λ k r found. c.requires.grammar 11 k r found }

pub read_tuple-requires-clause-there : goal.read_tuple-requires-clause-there
read_tuple-requires-clause-there g c =
    let t = (g.K.Keeper.seen c.args.keeper.now).kept in
    let ns = c.deref-entry-items.result.now in
    let i = c.loop-entry.entry-index in
    let n : Entry = get_or ns i (0, (Plus, false)) in
    let read = c.in-Ok.ensures.rows in
    let stand = numbers_stand t ns read.entries c.requires.tuples (entries_stand t c.args.prefix.now read.entries read.under) (c.deref-entry-items.ensures.value ∙ read.are) in
    ap (λ u. is_some (tables.get u (place tuple_codec n.0))) c.loop-entry.invariant.kept
    ∙ all_at_index (λ (m : ℕ × Mark). is_some (tables.get t (place tuple_codec m.0)) ≡ true) ns i n c.loop-entry-test.true (one_place ns i (0, (Plus, false)) n c.loop-entry-test.true) stand

pub loop-entry-preserved : goal.loop-entry-preserved
loop-entry-preserved g c =
    let old = g.K.Keeper.seen c.args.keeper.now in
    let now = g.K.Keeper.seen c.loop-entry.keeper in
    let new = g.K.Keeper.seen c.read_tuple.new.keeper in
    let ns = c.deref-entry-items.result.now in
    let i = c.loop-entry.entry-index in
    let n : Entry = get_or ns i (0, (Plus, false)) in
    let h = c.loop-entry.invariant in
    let x : StoredRow = record { tid = n.0; tuple = c.in-Ok-read_tuple.tuple; mark = n.1 } in
    let pushed : c.push.new.self.items ≡ c.loop-entry.rows.items ++ x ∷ [] = search rules in
    let row : HasRow tuple_codec old.kept x.tid x.tuple = subst (λ t. HasRow tuple_codec t x.tid x.tuple) h.kept c.in-Ok-read_tuple.ensures.tuple in
    let reads : new.reads ≤ old.reads + (length ns + 1) + (i + 1) = omega (arith, c.in-Ok-read_tuple.ensures.reads, h.read.reads) in
    reading_more old now new c.in-Ok-read_tuple.tuple Fault h c.in-Ok-read_tuple.ensures.read (record {
      told = subst (AreToldAt old.kept (take (i + 1) ns)) (sym pushed)
          (told_at_more old.kept ns i n x c.loop-entry.rows.items c.loop-entry-test.true (one_place ns i (0, (Plus, false)) n c.loop-entry-test.true) h.read.told (record { tid = refl; mark = refl; tuple = row }));
      many = ap length pushed ∙ length_push c.loop-entry.rows.items x ∙ ap (λ k. k + 1) h.read.many;
      reads = reads;
    })

pub returns-clause-rows : goal.returns-clause-rows
returns-clause-rows g c =
    let t = (g.K.Keeper.seen c.args.keeper.now).kept in
    let ns = c.deref-entry-items.result.now in
    let read = c.in-Ok.ensures.rows in
    let told = subst (λ xs. AreToldAt t xs c.loop-entry.rows.items) (take_all c.loop-entry.entry-index ns c.loop-entry-test.false) c.loop-entry.invariant.read.told in
    record {
      entries = read.entries;
      under = read.under;
      told = told_entries t read.entries c.loop-entry.rows.items (subst (λ xs. AreToldAt t xs c.loop-entry.rows.items) (c.deref-entry-items.ensures.value ∙ read.are) told);
    }
