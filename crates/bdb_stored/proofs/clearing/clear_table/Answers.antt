use Rattle.std.proofs.Common.{◌∙◌, ◌∷◌, ap, subst, sym}
use Rattle.std.specs.FinMap as tables
use Rattle.bdb_keep.specs.Tables.{LieInTables}
use Rattle.bdb_tables.proofs.Loops.{goes_then, counts_then}
use Rattle.bdb_stored.proofs.ClearLemmas.{remove_same, same_later}
use Rattle.bdb_stored.proofs.clearing.clear_table.Goals as goal

pub loop-preserved : goal.loop-preserved
loop-preserved g c =
    let t = (g.K.Keeper.seen c.args.keeper.now).kept in
    let u = (g.K.Keeper.seen c.loop.keeper).kept in
    let v = (g.K.Keeper.seen c.remove.new.self).kept in
    let key = c.deref.result.now in
    record {
      same = same_later c.args.tab t u v c.loop.invariant.same
          (remove_same u v c.args.tab key (c.in-Ok.ensures.kept ∙ ap (λ x. tables.remove x (c.args.tab ∷ key)) c.in-Ok-true.ensures.read.kept));
      counts = counts_then _ _ _ c.loop.invariant.counts (counts_then _ _ _ c.in-Ok-true.ensures.read.counts c.in-Ok.ensures.write.counts);
      goes_on = goes_then _ _ _ (goes_then _ _ _ c.loop.invariant.goes_on c.in-Ok-true.ensures.read.steps.ok) c.in-Ok.ensures.write.steps.ok;
    }

pub returns-in-Ok-false-clause-tables : goal.returns-in-Ok-false-clause-tables
returns-in-Ok-false-clause-tables g c = subst LieInTables (sym c.in-Ok-false.ensures.read.kept) c.in-Ok-false.ensures.tables
