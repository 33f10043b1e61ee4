use Rattle.std.proofs.Common.{◌≡◌, ◌∙◌, ap, refl, sym, subst}
use Rattle.std.specs.List.{slice_get}
use Rattle.bdb_undo.specs.Changes.{CanName, named_forth}
use Rattle.bdb_undo.specs.Timelines.{redone}
use Rattle.bdb_session.specs.declared.news.News.{News}
use Rattle.bdb_session.specs.Known.{Known}
use Rattle.bdb_session.specs.Within.{catalog_by, learned}
use Rattle.bdb_session.proofs.UndoLemmas.{agrees_forth, can_come_again, said_step, some_go_forth}
use Rattle.bdb_session.proofs.session.Session.redo_within.Goals as goal

pub names_forth-requires : goal.names_forth-requires
names_forth-requires g c =
    let first = ap (λ (k : Known). slice_get k.history.redos 0) (sym c.self.view_is) ∙ sym c.in-Some.ensures in
    let named = c.in-Some.change.now.named in
    record {
      can = subst (λ (k : Known). CanName named k.catalog) (sym c.self.view_is)
          (can_come_again c.args.self.now (g.K.Keeper.seen c.args.keeper.now).kept c.in-Some.change.now c.requires.agrees.timeline first c.requires.agrees.remembers);
    }

pub make_again-requires-clause-base : goal.make_again-requires-clause-base
make_again-requires-clause-base g c =
    let first = ap (λ (k : Known). slice_get k.history.redos 0) (sym c.self.view_is) ∙ sym c.in-Some.ensures in
    some_go_forth c.args.self.now (g.K.Keeper.seen c.args.keeper.now).kept c.in-Some.change.now c.args.news.now.counts (ap (λ (n : News). n.counts) c.requires.nothing) first c.requires.agrees

pub returns-in-Ok-make_again-clause-told : goal.returns-in-Ok-make_again-clause-told
returns-in-Ok-make_again-clause-told g c =
    let first = ap (λ (k : Known). slice_get k.history.redos 0) (sym c.self.view_is) ∙ sym c.in-Some.ensures in
    let k = c.args.self.now in
    let change = c.in-Some.change.now in
    let names = c.in-Ok.names in
    let after = c.make_again.new.counts in
    let old = g.K.Keeper.seen c.args.keeper.now in
    let mid = g.K.Keeper.seen c.make_again.new.keeper in
    let learns = learned k (record { counts = after; names = names; change = c.args.news.now.change }) in
    let catalog = subst (λ (j : Known). catalog_by j.catalog names ≡ named_forth change.named j.catalog) c.self.view_is c.in-Ok.ensures in
    said_step redone k learns old mid (g.K.Keeper.seen c.tell_done.new.keeper) c.tell_done.result c.requires.agrees
    (record { goes = c.in-Ok-make_again.ensures.changing.steps.ok; counts = c.in-Ok-make_again.ensures.changing.counts })
    (λ l u m e. agrees_forth k learns old.kept mid.kept change c.args.news.now.counts after (ap (λ (n : News). n.counts) c.requires.nothing) first c.in-Ok-make_again.ensures.forth catalog refl l u m e)
    c.tell_done.ensures
