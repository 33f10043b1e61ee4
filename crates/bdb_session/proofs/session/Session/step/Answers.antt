use Rattle.std.proofs.Common.{◌≡◌, ◌∙◌, true, ap, refl, sym, subst}
use Rattle.bdb_bind.specs.Fits.{fits_catalog}
use Rattle.bdb_bind.specs.declared.bound.Bound.{Bound}
use Rattle.bdb_bind.specs.declared.bound.Bound.TheVariants.{Insert, Delete, Update, Select, Explain, ShowWorld, Why, ShowTables, Undo, Redo}
use Rattle.bdb_render.specs.declared.refusal.Refusal.TheVariants.{Syntax}
use Rattle.bdb_session.specs.Known.{AgreesOnSome}
use Rattle.bdb_session.specs.Machine.{bound_outcome}
use Rattle.bdb_session.specs.Within.{sized}
use Rattle.bdb_session.specs.declared.change.Selection.{Selection}
use Rattle.bdb_session.specs.declared.news.News.{News}
use Rattle.bdb_session.proofs.BoundLemmas.{nothing_unwritten, writes_as, writes_from}
use Rattle.bdb_session.proofs.NotingLemmas.{changes_bound, changes_from, read_unchanged}
use Rattle.bdb_session.proofs.OutcomeLemmas.{select_stays, tables_stay}
use Rattle.bdb_session.proofs.TellLemmas.{said_nothing}
use Rattle.bdb_session.proofs.WithinLemmas.{refused_tells, tells_as, tells_from, tells_unlearned}
use Rattle.bdb_session.proofs.session.Session.step.Given.{Over}
use Rattle.bdb_session.proofs.session.Session.step.Goals as goal
use Rattle.bdb_session.proofs.session.Session.step.Goals.{After-new-about, After-new-about-in-Update, Start}

-- the session agrees with the tables by the sizes in the news too
agrees : (g : Over) (c : Start g) → AgreesOnSome (g.K.Keeper.seen c.args.keeper.now).kept (sized c.args.self.now c.args.news.now.counts)
agrees g c = subst (λ (n : News). AgreesOnSome (g.K.Keeper.seen c.args.keeper.now).kept (sized c.args.self.now n.counts)) (sym c.requires.nothing) c.requires.agrees

-- a delete and an update are those of the statements selected
deletes : (g : Over) (c : After-new-about g)
    → c.args.bound ≡ Delete c.new-about.result.path c.new-about.result.sign c.new-about.result.rel c.new-about.result.conds
deletes g c = c.in-Delete.is ∙ ap (λ (x : Selection). Delete x.path x.sign x.rel x.conds) (sym c.new-about.ensures)

updates : (g : Over) (c : After-new-about-in-Update g)
    → c.args.bound ≡ Update c.new-about-in-Update.result.path c.new-about-in-Update.result.sign c.new-about-in-Update.result.rel c.in-Update.sets c.new-about-in-Update.result.conds
updates g c = c.in-Update.is ∙ ap (λ (x : Selection). Update x.path x.sign x.rel c.in-Update.sets x.conds) (sym c.new-about-in-Update.ensures)

pub insert-requires-clause-agrees : goal.insert-requires-clause-agrees
insert-requires-clause-agrees g c = agrees g (goal.at.insert-requires-clause-agrees g c).Start

pub delete-requires-clause-agrees : goal.delete-requires-clause-agrees
delete-requires-clause-agrees g c = agrees g (goal.at.delete-requires-clause-agrees g c).Start

pub update-requires-clause-agrees : goal.update-requires-clause-agrees
update-requires-clause-agrees g c = agrees g (goal.at.update-requires-clause-agrees g c).Start

pub delete-requires-clause-fits : goal.delete-requires-clause-fits
delete-requires-clause-fits g c =
    subst (λ (b : Bound). fits_catalog c.args.self.now.catalog b ≡ true) (deletes g (goal.at.delete-requires-clause-fits g c).After-new-about) c.requires.fits

pub update-requires-clause-fits : goal.update-requires-clause-fits
update-requires-clause-fits g c =
    subst (λ (b : Bound). fits_catalog c.args.self.now.catalog b ≡ true) (updates g (goal.at.update-requires-clause-fits g c).After-new-about-in-Update) c.requires.fits

pub returns-in-CreateUser-clause-told : goal.returns-in-CreateUser-clause-told
returns-in-CreateUser-clause-told g c = tells_as _ _ _ _ _ _ _ _ _ (λ s. ap (bound_outcome s) c.in-CreateUser.is) refl refl c.create_user.ensures.told

pub returns-in-CreateRelation-clause-told : goal.returns-in-CreateRelation-clause-told
returns-in-CreateRelation-clause-told g c =
    tells_as _ _ _ _ _ _ _ _ _ (λ s. ap (bound_outcome s) c.in-CreateRelation.is) refl refl c.create_relation.ensures.told

pub returns-in-Insert-clause-told : goal.returns-in-Insert-clause-told
returns-in-Insert-clause-told g c =
    tells_from _ _ c.args.self.now c.args.news.now c.insert.new.counts c.insert.new.change _ _ _ c.requires.nothing
    c.in-Insert.is c.insert.ensures.told

pub returns-in-Delete-clause-told : goal.returns-in-Delete-clause-told
returns-in-Delete-clause-told g c =
    tells_from _ _ c.args.self.now c.args.news.now c.delete.new.counts c.delete.new.change _ _ _ c.requires.nothing
    (deletes g (goal.at.returns-in-Delete-clause-told g c).After-new-about) c.delete.ensures.told

pub returns-in-Update-clause-told : goal.returns-in-Update-clause-told
returns-in-Update-clause-told g c =
    tells_from _ _ c.args.self.now c.args.news.now c.update.new.counts c.update.new.change _ _ _ c.requires.nothing
    (updates g (goal.at.returns-in-Update-clause-told g c).After-new-about-in-Update) c.update.ensures.told

pub returns-in-Select-clause-told : goal.returns-in-Select-clause-told
returns-in-Select-clause-told g c = tells_unlearned _ _ _ _ _ _ _ c.requires.nothing c.in-Select.is c.select.ensures.told

pub returns-in-Explain-clause-told : goal.returns-in-Explain-clause-told
returns-in-Explain-clause-told g c = tells_unlearned _ _ _ _ _ _ _ c.requires.nothing c.in-Explain.is c.explain.ensures.told

pub returns-in-ShowWorld-clause-told : goal.returns-in-ShowWorld-clause-told
returns-in-ShowWorld-clause-told g c = tells_unlearned _ _ _ _ _ _ _ c.requires.nothing c.in-ShowWorld.is c.show_world.ensures.told

pub returns-in-Why-clause-told : goal.returns-in-Why-clause-told
returns-in-Why-clause-told g c = tells_unlearned _ _ _ _ _ _ _ c.requires.nothing c.in-Why.is c.why.ensures.told

pub returns-in-ShowTables-clause-told : goal.returns-in-ShowTables-clause-told
returns-in-ShowTables-clause-told g c = tells_unlearned _ _ _ _ _ _ _ c.requires.nothing c.in-ShowTables.is c.show_tables.ensures.told

pub returns-in-Insert-clause-writes : goal.returns-in-Insert-clause-writes
returns-in-Insert-clause-writes g c =
    let h = c.insert.ensures in
    writes_from c.args.self.now (g.K.Keeper.seen c.args.keeper.now) (g.K.Keeper.seen c.insert.new.keeper) c.insert.result c.args.bound (Insert c.in-Insert.stmt) c.args.news.now
    c.requires.nothing c.in-Insert.is (record { within = h.writes; refused = h.refused; already = h.already })

pub returns-in-Delete-clause-writes : goal.returns-in-Delete-clause-writes
returns-in-Delete-clause-writes g c =
    writes_from c.args.self.now (g.K.Keeper.seen c.args.keeper.now) (g.K.Keeper.seen c.delete.new.keeper) c.delete.result c.args.bound _ c.args.news.now
    c.requires.nothing (deletes g (goal.at.returns-in-Delete-clause-writes g c).After-new-about) c.delete.ensures.writes

pub returns-in-Update-clause-writes : goal.returns-in-Update-clause-writes
returns-in-Update-clause-writes g c =
    writes_from c.args.self.now (g.K.Keeper.seen c.args.keeper.now) (g.K.Keeper.seen c.update.new.keeper) c.update.result c.args.bound _ c.args.news.now
    c.requires.nothing (updates g (goal.at.returns-in-Update-clause-writes g c).After-new-about-in-Update) c.update.ensures.writes

pub returns-in-Undo-clause-told : goal.returns-in-Undo-clause-told
returns-in-Undo-clause-told g c =
    tells_unlearned _ _ _ _ _ _ _ c.requires.nothing c.in-Undo.is
    (refused_tells (λ s. bound_outcome s Undo) Syntax c.args.self.now _ _ _ c.requires.agrees (λ s a. refl) c.refuse_within.ensures)

pub returns-in-Redo-clause-told : goal.returns-in-Redo-clause-told
returns-in-Redo-clause-told g c =
    tells_unlearned _ _ _ _ _ _ _ c.requires.nothing c.in-Redo.is
    (refused_tells (λ s. bound_outcome s Redo) Syntax c.args.self.now _ _ _ c.requires.agrees (λ s a. refl) c.refuse_within-in-Redo.ensures)

pub returns-in-Undo-clause-writes : goal.returns-in-Undo-clause-writes
returns-in-Undo-clause-writes g c =
    let old = g.K.Keeper.seen c.args.keeper.now in
    let new = g.K.Keeper.seen c.refuse_within.new.keeper in
    writes_as c.args.self.now old new c.refuse_within.result c.args.bound Undo c.in-Undo.is
    (nothing_unwritten old new c.refuse_within.result (said_nothing c.args.self.now.catalog _ old old new c.refuse_within.result refl refl c.refuse_within.ensures).writes)

pub returns-in-Redo-clause-writes : goal.returns-in-Redo-clause-writes
returns-in-Redo-clause-writes g c =
    let old = g.K.Keeper.seen c.args.keeper.now in
    let new = g.K.Keeper.seen c.refuse_within-in-Redo.new.keeper in
    writes_as c.args.self.now old new c.refuse_within-in-Redo.result c.args.bound Redo c.in-Redo.is
    (nothing_unwritten old new c.refuse_within-in-Redo.result
    (said_nothing c.args.self.now.catalog _ old old new c.refuse_within-in-Redo.result refl refl c.refuse_within-in-Redo.ensures).writes)

-- ---- the change

pub insert-requires-clause-nothing : goal.insert-requires-clause-nothing
insert-requires-clause-nothing g c = ap (λ (n : News). n.change) c.requires.nothing

pub delete-requires-clause-nothing : goal.delete-requires-clause-nothing
delete-requires-clause-nothing g c = ap (λ (n : News). n.change) c.requires.nothing

pub update-requires-clause-nothing : goal.update-requires-clause-nothing
update-requires-clause-nothing g c = ap (λ (n : News). n.change) c.requires.nothing

pub returns-in-CreateUser-clause-change : goal.returns-in-CreateUser-clause-change
returns-in-CreateUser-clause-change g c = changes_bound _ _ _ _ (g.K.Keeper.seen c.args.keeper.now) _ c.in-CreateUser.is c.create_user.ensures.change

pub returns-in-CreateRelation-clause-change : goal.returns-in-CreateRelation-clause-change
returns-in-CreateRelation-clause-change g c =
    changes_bound _ _ _ _ (g.K.Keeper.seen c.args.keeper.now) _ c.in-CreateRelation.is c.create_relation.ensures.change

pub returns-in-DropUser-clause-change : goal.returns-in-DropUser-clause-change
returns-in-DropUser-clause-change g c = changes_bound _ _ _ _ (g.K.Keeper.seen c.args.keeper.now) _ c.in-DropUser.is c.drop_user.ensures.change

pub returns-in-Insert-clause-change : goal.returns-in-Insert-clause-change
returns-in-Insert-clause-change g c =
    changes_from _ _ _ _ _ (g.K.Keeper.seen c.args.keeper.now) _ c.requires.nothing c.in-Insert.is c.insert.ensures.change

pub returns-in-Delete-clause-change : goal.returns-in-Delete-clause-change
returns-in-Delete-clause-change g c =
    changes_from _ _ _ _ _ (g.K.Keeper.seen c.args.keeper.now) _ c.requires.nothing (deletes g (goal.at.returns-in-Delete-clause-change g c).After-new-about) c.delete.ensures.change

pub returns-in-Update-clause-change : goal.returns-in-Update-clause-change
returns-in-Update-clause-change g c =
    changes_from _ _ _ _ _ (g.K.Keeper.seen c.args.keeper.now) _ c.requires.nothing (updates g (goal.at.returns-in-Update-clause-change g c).After-new-about-in-Update) c.update.ensures.change

pub returns-in-Select-clause-change : goal.returns-in-Select-clause-change
returns-in-Select-clause-change g c =
    read_unchanged c.args.bound (Select c.in-Select.query) c.args.self.now c.args.news.now (g.K.Keeper.seen c.args.keeper.now) c.select.result c.in-Select.is c.requires.nothing (select_stays c.in-Select.query)

pub returns-in-Explain-clause-change : goal.returns-in-Explain-clause-change
returns-in-Explain-clause-change g c =
    read_unchanged c.args.bound (Explain c.in-Explain.query) c.args.self.now c.args.news.now (g.K.Keeper.seen c.args.keeper.now) c.explain.result c.in-Explain.is c.requires.nothing (λ s. refl)

pub returns-in-ShowWorld-clause-change : goal.returns-in-ShowWorld-clause-change
returns-in-ShowWorld-clause-change g c =
    read_unchanged c.args.bound (ShowWorld c.in-ShowWorld.path) c.args.self.now c.args.news.now (g.K.Keeper.seen c.args.keeper.now) c.show_world.result c.in-ShowWorld.is c.requires.nothing (λ s. refl)

pub returns-in-Why-clause-change : goal.returns-in-Why-clause-change
returns-in-Why-clause-change g c =
    read_unchanged c.args.bound (Why c.in-Why.stmt) c.args.self.now c.args.news.now (g.K.Keeper.seen c.args.keeper.now) c.why.result c.in-Why.is c.requires.nothing (λ s. refl)

pub returns-in-ShowTables-clause-change : goal.returns-in-ShowTables-clause-change
returns-in-ShowTables-clause-change g c =
    read_unchanged c.args.bound ShowTables c.args.self.now c.args.news.now (g.K.Keeper.seen c.args.keeper.now) c.show_tables.result c.in-ShowTables.is c.requires.nothing tables_stay

pub returns-in-Undo-clause-change : goal.returns-in-Undo-clause-change
returns-in-Undo-clause-change g c =
    read_unchanged c.args.bound Undo c.args.self.now c.args.news.now (g.K.Keeper.seen c.args.keeper.now) c.refuse_within.result c.in-Undo.is c.requires.nothing (λ s. refl)

pub returns-in-Redo-clause-change : goal.returns-in-Redo-clause-change
returns-in-Redo-clause-change g c =
    read_unchanged c.args.bound Redo c.args.self.now c.args.news.now (g.K.Keeper.seen c.args.keeper.now) c.refuse_within-in-Redo.result c.in-Redo.is c.requires.nothing (λ s. refl)
