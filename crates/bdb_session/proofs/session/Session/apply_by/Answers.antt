use Rattle.std.proofs.Common.{[], subst, sym}
use Rattle.bdb_keep.specs.Tables.{Tables}
use Rattle.bdb_session.specs.Batches.{pieces}
use Rattle.bdb_session.specs.Known.{Known, Agrees, AgreesOnSome}
use Rattle.bdb_session.specs.declared.batch.BatchReply.{BatchReply}
use Rattle.bdb_session.proofs.BatchLemmas.{batch_serves, run_as, unbegun_batch}
use Rattle.bdb_session.proofs.BatchLists.{batch_lists, copy_agrees, copy_altered, copy_some_agrees, taken_run, undone_kept}
use Rattle.bdb_session.proofs.session.Session.apply_by.Goals as goal

pub returns-in-Err-clause-served : goal.returns-in-Err-clause-served
returns-in-Err-clause-served g c =
    unbegun_batch (pieces c.args.lines.now) c.args.self.now (g.K.Keeper.seen c.args.keeper.now) (g.K.Keeper.seen c.begin.new.keeper) c.in-Err.stop c.requires.still c.in-Err.ensures

pub run_lines-requires-clause-agrees : goal.run_lines-requires-clause-agrees
run_lines-requires-clause-agrees g c =
    subst (λ (t : Tables). AgreesOnSome t c.args.copy) (sym c.in-Ok.ensures.kept)
    (subst (λ (k : Known). AgreesOnSome (g.K.Keeper.seen c.args.keeper.now).kept k) (sym c.requires.copy) (copy_some_agrees (g.K.Keeper.seen c.args.keeper.now).kept c.args.self.now c.requires.agrees))

pub returns-in-Ok-run_lines-clause-served : goal.returns-in-Ok-run_lines-clause-served
returns-in-Ok-run_lines-clause-served g c =
    let run = g.K.Keeper.seen c.begin.new.keeper in
    let mid = g.K.Keeper.seen c.run_lines.new.keeper in
    let h = c.in-Ok-run_lines.ensures in
    let ran = c.in-Ok-run_lines.ran in
    batch_serves (pieces c.args.lines.now) c.args.self.now _ (g.K.Keeper.seen c.args.keeper.now) run mid (g.K.Keeper.seen c.close_batch.new.keeper) c.requires.still
    c.in-Ok.ensures (record { accepted = ran.accepted; refused = ran.refused; text = c.from_vec.result }) (record { goes = h.changing.steps.ok; counts = h.changing.counts })
    (λ s a. taken_run s (pieces c.args.lines.now) [] c.from_vec.result ran.accepted ran.refused c.args.self.now c.run_lines.new.self mid
    (run_as s (pieces c.args.lines.now) c.new-text.result.items c.run_lines.new.text.items c.from_vec.result ran.accepted ran.refused c.run_lines.new.self mid c.new-text.ensures.items
    c.from_vec.ensures (h.run s (subst (λ (k : Known). Agrees run.kept k s) (sym c.requires.copy) (copy_agrees run.kept c.args.self.now s a)))))
    c.close_batch.new.self c.close_batch.result c.close_batch.ensures

pub returns-in-Ok-run_lines-clause-lists : goal.returns-in-Ok-run_lines-clause-lists
returns-in-Ok-run_lines-clause-lists g c =
    let run = g.K.Keeper.seen c.begin.new.keeper in
    let mid = g.K.Keeper.seen c.run_lines.new.keeper in
    let new = g.K.Keeper.seen c.close_batch.new.keeper in
    let h = c.in-Ok-run_lines.ensures in
    let ran = c.in-Ok-run_lines.ran in
    let told : BatchReply = record { accepted = ran.accepted; refused = ran.refused; text = c.from_vec.result } in
    batch_lists (pieces c.args.lines.now) c.args.self.now c.run_lines.new.self (g.K.Keeper.seen c.args.keeper.now) run mid new c.in-Ok.ensures told
    (λ s a. taken_run s (pieces c.args.lines.now) [] c.from_vec.result ran.accepted ran.refused c.args.self.now c.run_lines.new.self mid
    (run_as s (pieces c.args.lines.now) c.new-text.result.items c.run_lines.new.text.items c.from_vec.result ran.accepted ran.refused c.run_lines.new.self mid c.new-text.ensures.items
    c.from_vec.ensures (h.run s (subst (λ (k : Known). Agrees run.kept k s) (sym c.requires.copy) (copy_agrees run.kept c.args.self.now s a)))))
    (λ s a. copy_altered (pieces c.args.lines.now) c.args.self.now c.args.copy c.run_lines.new.self run ran c.requires.copy h.altered s a)
    (undone_kept c.args.self.now c.run_lines.new.self (g.K.Keeper.seen c.args.keeper.now) run mid new told c.requires.still c.in-Ok.ensures h.changing.steps.ok c.close_batch.new.self
    c.close_batch.result c.close_batch.ensures)
    c.close_batch.new.self c.close_batch.result c.close_batch.ensures
