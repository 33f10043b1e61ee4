use Rattle.std.proofs.Common.{◌∙◌, sym, subst}
use Rattle.std.specs.List.{AllByRecursion}
use Rattle.bdb_keep.specs.Tables.{Tables}
use Rattle.bdb_tables.specs.InUse.{val_codec}
use Rattle.bdb_tables.specs.Spans.{AreUnder}
use Rattle.bdb_val.proofs.ToldLemmas.{entries_stand}
use Rattle.bdb_update.specs.Groups.{AreExplicitRows, HasTupleRow}
use Rattle.bdb_update.proofs.ExplicitLemmas.{have_tuples}
use Rattle.bdb_update.proofs.groups.read_explicit.Goals as goal

pub rows_under-requires : goal.rows_under-requires
rows_under-requires g c = record { grammar = λ k r found. c.requires.grammar 11 k r found }

pub explicit_among-requires-clause-there : goal.explicit_among-requires-clause-there
explicit_among-requires-clause-there g c =
    let old = (g.K.Keeper.seen c.args.keeper.now).kept in
    let es = c.in-Ok-rows_under.entries.items in
    subst (λ (v : Tables). AllByRecursion (HasTupleRow v) c.deref-2.result.now) (sym c.in-Ok-rows_under.ensures.read.kept)
    (subst (AllByRecursion (HasTupleRow old)) (sym c.deref-2.ensures.value) (have_tuples old es c.requires.tuples (entries_stand old c.deref.result.now es c.in-Ok-rows_under.ensures.rows)))

pub returns-in-Ok-explicit_among-clause-rows : goal.returns-in-Ok-explicit_among-clause-rows
returns-in-Ok-explicit_among-clause-rows g c =
    let old = (g.K.Keeper.seen c.args.keeper.now).kept in
    let es = c.in-Ok-rows_under.entries.items in record {
      entries = es;
      under = subst (λ p. AreUnder val_codec old p es) (c.deref.ensures.value ∙ c.in-Ok.ensures) c.in-Ok-rows_under.ensures.rows;
      told = subst (λ xs. AreExplicitRows old xs c.in-Ok-explicit_among.rows.items) c.deref-2.ensures.value
          (subst (λ (v : Tables). AreExplicitRows v c.deref-2.result.now c.in-Ok-explicit_among.rows.items) c.in-Ok-rows_under.ensures.read.kept c.in-Ok-explicit_among.ensures.rows);
    }
