use Rattle.std.proofs.Common.{◌≡◌, ◌∙◌, ◌<◌, ap, arith, length, sym}
use Rattle.bdb_render.specs.declared.refusal.Refusal.TheVariants.{NoUndo}
use Rattle.bdb_undo.specs.Timelines.{undone}
use Rattle.bdb_session.specs.Known.{Known}
use Rattle.bdb_session.proofs.UndoLemmas.{no_undo, nowhere, step_unwritten, undo_leads_somewhere, undo_closes}
use Rattle.bdb_session.proofs.session.Session.undo.Goals as goal

pub returns-then-undos-eq0-clause-served : goal.returns-then-undos-eq0-clause-served
returns-then-undos-eq0-clause-served g c =
    let none : length c.args.self.now.history.undos ≡ 0 =
    ap (λ (k : Known). length k.history.undos) (sym c.self.view_is) ∙ sym c.undos.ensures.count ∙ c.if-undos-eq0.true in
    nowhere NoUndo undone c.args.self.now (g.K.Keeper.seen c.args.keeper.now) c.refuse.result (λ t m. no_undo c.args.self.now (g.K.Keeper.seen c.args.keeper.now).kept t none m)
    c.requires.still c.refuse.ensures

pub returns-in-Ok-undo_within-clause-served : goal.returns-in-Ok-undo_within-clause-served
returns-in-Ok-undo_within-clause-served g c =
    let many : 0 < length c.args.self.now.history.undos =
    let count = ap (λ (k : Known). length k.history.undos) (sym c.self.view_is) ∙ sym c.undos.ensures.count in
    let some = c.if-undos-eq0.false in
    omega (arith, some) in
    undo_closes c.args.self.now c.undo_within.new.news (g.K.Keeper.seen c.args.keeper.now) (g.K.Keeper.seen c.begin.new.keeper) (g.K.Keeper.seen c.undo_within.new.keeper)
    (g.K.Keeper.seen c.close_back.new.keeper) c.requires.still c.in-Ok.ensures c.requires.agrees c.in-Ok-undo_within.ensures.unchanged many c.in-Ok-undo_within.told
    c.close_back.new.self c.close_back.result c.in-Ok-undo_within.ensures.told c.close_back.ensures

pub returns-in-Ok-undo_within-clause-unwritten : goal.returns-in-Ok-undo_within-clause-unwritten
returns-in-Ok-undo_within-clause-unwritten g c =
    let many : 0 < length c.args.self.now.history.undos =
    let count = ap (λ (k : Known). length k.history.undos) (sym c.self.view_is) ∙ sym c.undos.ensures.count in
    let some = c.if-undos-eq0.false in
    omega (arith, some) in
    step_unwritten undone NoUndo c.args.self.now c.close_back.new.self (g.K.Keeper.seen c.args.keeper.now) (g.K.Keeper.seen c.close_back.new.keeper) c.close_back.result
    c.requires.agrees (undo_leads_somewhere c.args.self.now (g.K.Keeper.seen c.args.keeper.now).kept many)
    (undo_closes c.args.self.now c.undo_within.new.news (g.K.Keeper.seen c.args.keeper.now) (g.K.Keeper.seen c.begin.new.keeper) (g.K.Keeper.seen c.undo_within.new.keeper)
    (g.K.Keeper.seen c.close_back.new.keeper) c.requires.still c.in-Ok.ensures c.requires.agrees c.in-Ok-undo_within.ensures.unchanged many c.in-Ok-undo_within.told
    c.close_back.new.self c.close_back.result c.in-Ok-undo_within.ensures.told c.close_back.ensures)
