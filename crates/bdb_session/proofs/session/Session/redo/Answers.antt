use Rattle.std.proofs.Common.{◌≡◌, ◌∙◌, ◌<◌, ap, arith, length, sym}
use Rattle.bdb_render.specs.declared.refusal.Refusal.TheVariants.{NoRedo}
use Rattle.bdb_undo.specs.Timelines.{redone}
use Rattle.bdb_session.specs.Known.{Known}
use Rattle.bdb_session.proofs.UndoLemmas.{no_redo, nowhere, step_unwritten, redo_leads_somewhere, redo_closes}
use Rattle.bdb_session.proofs.session.Session.redo.Goals as goal

pub returns-then-redos-eq0-clause-served : goal.returns-then-redos-eq0-clause-served
returns-then-redos-eq0-clause-served g c =
    let none : length c.args.self.now.history.redos ≡ 0 =
    ap (λ (k : Known). length k.history.redos) (sym c.self.view_is) ∙ sym c.redos.ensures.count ∙ c.if-redos-eq0.true in
    nowhere NoRedo redone c.args.self.now (g.K.Keeper.seen c.args.keeper.now) c.refuse.result (λ t m. no_redo c.args.self.now (g.K.Keeper.seen c.args.keeper.now).kept t none m)
    c.requires.still c.refuse.ensures

pub returns-in-Ok-redo_within-clause-served : goal.returns-in-Ok-redo_within-clause-served
returns-in-Ok-redo_within-clause-served g c =
    let many : 0 < length c.args.self.now.history.redos =
    let count = ap (λ (k : Known). length k.history.redos) (sym c.self.view_is) ∙ sym c.redos.ensures.count in
    let some = c.if-redos-eq0.false in
    omega (arith, some) in
    redo_closes c.args.self.now c.redo_within.new.news (g.K.Keeper.seen c.args.keeper.now) (g.K.Keeper.seen c.begin.new.keeper) (g.K.Keeper.seen c.redo_within.new.keeper)
    (g.K.Keeper.seen c.close_forth.new.keeper) c.requires.still c.in-Ok.ensures c.requires.agrees c.in-Ok-redo_within.ensures.unchanged many c.in-Ok-redo_within.told
    c.close_forth.new.self c.close_forth.result c.in-Ok-redo_within.ensures.told c.close_forth.ensures

pub returns-in-Ok-redo_within-clause-unwritten : goal.returns-in-Ok-redo_within-clause-unwritten
returns-in-Ok-redo_within-clause-unwritten g c =
    let many : 0 < length c.args.self.now.history.redos =
    let count = ap (λ (k : Known). length k.history.redos) (sym c.self.view_is) ∙ sym c.redos.ensures.count in
    let some = c.if-redos-eq0.false in
    omega (arith, some) in
    step_unwritten redone NoRedo c.args.self.now c.close_forth.new.self (g.K.Keeper.seen c.args.keeper.now) (g.K.Keeper.seen c.close_forth.new.keeper) c.close_forth.result
    c.requires.agrees (redo_leads_somewhere c.args.self.now (g.K.Keeper.seen c.args.keeper.now).kept many)
    (redo_closes c.args.self.now c.redo_within.new.news (g.K.Keeper.seen c.args.keeper.now) (g.K.Keeper.seen c.begin.new.keeper) (g.K.Keeper.seen c.redo_within.new.keeper)
    (g.K.Keeper.seen c.close_forth.new.keeper) c.requires.still c.in-Ok.ensures c.requires.agrees c.in-Ok-redo_within.ensures.unchanged many c.in-Ok-redo_within.told
    c.close_forth.new.self c.close_forth.result c.in-Ok-redo_within.ensures.told c.close_forth.ensures)
