use Rattle.std.proofs.Common.{◌≡◌, ◌∙◌, ap, refl, sym, subst}
use Rattle.std.specs.List.{slice_get}
use Rattle.bdb_undo.specs.Changes.{CanName, named_back, named_forth}
use Rattle.bdb_undo.specs.Timelines.{undone}
use Rattle.bdb_session.specs.declared.news.News.{News}
use Rattle.bdb_session.specs.Known.{Known}
use Rattle.bdb_session.specs.Within.{catalog_by, learned}
use Rattle.bdb_session.proofs.UndoLemmas.{agrees_back, came_last, can_come_back, said_step, some_go_back}
use Rattle.bdb_session.proofs.session.Session.undo_within.Goals as goal

pub names_back-requires-clause-can : goal.names_back-requires-clause-can
names_back-requires-clause-can g c =
    let first = ap (λ (k : Known). slice_get k.history.undos 0) (sym c.self.view_is) ∙ sym c.in-Some.ensures in
    let named = c.in-Some.change.now.named in
    subst (λ (k : Known). CanName named (named_back named k.catalog)) (sym c.self.view_is)
    (can_come_back c.args.self.now (g.K.Keeper.seen c.args.keeper.now).kept c.in-Some.change.now first c.requires.agrees.timeline c.requires.agrees.remembers)

pub names_back-requires-clause-last : goal.names_back-requires-clause-last
names_back-requires-clause-last g c =
    let first = ap (λ (k : Known). slice_get k.history.undos 0) (sym c.self.view_is) ∙ sym c.in-Some.ensures in
    let named = c.in-Some.change.now.named in
    subst (λ (k : Known). k.catalog ≡ named_forth named (named_back named k.catalog)) (sym c.self.view_is)
    (came_last c.args.self.now (g.K.Keeper.seen c.args.keeper.now).kept c.in-Some.change.now first c.requires.agrees.timeline c.requires.agrees.remembers)

pub take_back-requires-clause-base : goal.take_back-requires-clause-base
take_back-requires-clause-base g c =
    let first = ap (λ (k : Known). slice_get k.history.undos 0) (sym c.self.view_is) ∙ sym c.in-Some.ensures in
    some_go_back c.args.self.now (g.K.Keeper.seen c.args.keeper.now).kept c.in-Some.change.now c.args.news.now.counts (ap (λ (n : News). n.counts) c.requires.nothing) first c.requires.agrees

pub returns-in-Ok-take_back-clause-told : goal.returns-in-Ok-take_back-clause-told
returns-in-Ok-take_back-clause-told g c =
    let first = ap (λ (k : Known). slice_get k.history.undos 0) (sym c.self.view_is) ∙ sym c.in-Some.ensures in
    let k = c.args.self.now in
    let change = c.in-Some.change.now in
    let names = c.in-Ok.names in
    let after = c.take_back.new.counts in
    let old = g.K.Keeper.seen c.args.keeper.now in
    let mid = g.K.Keeper.seen c.take_back.new.keeper in
    let learns = learned k (record { counts = after; names = names; change = c.args.news.now.change }) in
    let catalog = subst (λ (j : Known). catalog_by j.catalog names ≡ named_back change.named j.catalog) c.self.view_is c.in-Ok.ensures in
    said_step undone k learns old mid (g.K.Keeper.seen c.tell_done.new.keeper) c.tell_done.result c.requires.agrees
    (record { goes = c.in-Ok-take_back.ensures.changing.steps.ok; counts = c.in-Ok-take_back.ensures.changing.counts })
    (λ l u m e. agrees_back k learns old.kept mid.kept change c.args.news.now.counts after (ap (λ (n : News). n.counts) c.requires.nothing) first c.in-Ok-take_back.ensures.back catalog refl l u m e)
    c.tell_done.ensures
