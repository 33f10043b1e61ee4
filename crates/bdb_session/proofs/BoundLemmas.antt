-- How often commands read and write, by what they are bound to.
use Rattle.std.proofs.Common.{◌≡◌, ◌≢◌, ◌∙◌, true, Option, None, Some, Result, Ok, Err, IfOk, List, refl, sym, subst}
use Rattle.std.proofs.lemmas.Bool.{false≢true}
use Rattle.bdb_bind.specs.declared.bound.BindError.{BindError}
use Rattle.bdb_bind.specs.declared.bound.BindError.TheVariants.{Memory}
use Rattle.bdb_bind.specs.declared.bound.Bound.{Bound}
use Rattle.bdb_bind.specs.declared.bound.Bound.TheVariants.{CreateUser, CreateRelation, DropUser, Insert, Delete, Update, Select, Explain, ShowWorld, Why, ShowTables, Undo, Redo}
use Rattle.bdb_base.specs.Bases.{Contents}
use Rattle.bdb_base.specs.declared.kinds.Catalog.{Catalog}
use Rattle.bdb_base.specs.declared.kinds.SetCol.{SetCol}
use Rattle.bdb_base.specs.declared.kinds.Stmt.{Stmt}
use Rattle.bdb_keep.specs.Seen.{Seen}
use Rattle.bdb_render.specs.declared.refusal.Refusal.{Refusal}
use Rattle.bdb_session.specs.Bounds.{ReadsAsTold, RefusedUnwritten, UpdatesThrough, WritesAsTold}
use Rattle.bdb_session.specs.declared.news.News.{News}
use Rattle.bdb_session.specs.declared.reply.Reply.{Reply}
use Rattle.bdb_session.specs.declared.error.StopError.{StopError}
use Rattle.bdb_session.specs.Known.{Known, AgreesOnSome}
use Rattle.bdb_session.specs.Machine.{refusal_from}
use Rattle.bdb_session.specs.Outcome.{Outcome}
use Rattle.bdb_session.specs.Within.{IsSaid, nothing_new, sized}
use Rattle.bdb_session.proofs.OutcomeLemmas.{refused_to_bind}
use Rattle.bdb_session.proofs.TellLemmas.{said_nothing}

-- where it is known what is bound
pub reads_as : (k : Known) (old new : Seen) (result : Result Reply StopError) (b known : Bound) → b ≡ known → ReadsAsTold known k old new result → ReadsAsTold b k old new result
reads_as k old new result b known e h = subst (λ (x : Bound). ReadsAsTold x k old new result) (sym e) h

pub writes_as : (k : Known) (old new : Seen) (result : Result Reply StopError) (b known : Bound) → b ≡ known → WritesAsTold known k old new result → WritesAsTold b k old new result
writes_as k old new result b known e h = subst (λ (x : Bound). WritesAsTold x k old new result) (sym e) h

-- where nothing was learned before
pub writes_from : (k : Known) (old new : Seen) (result : Result Reply StopError) (b known : Bound) (news : News) → news ≡ nothing_new k → b ≡ known
    → WritesAsTold known (sized k news.counts) old new result → WritesAsTold b k old new result
writes_from k old new result b known news e is h = writes_as k old new result b known is (subst (λ (m : News). WritesAsTold known (sized k m.counts) old new result) e h)

-- what is refused to bind is not bound
pub not_bound : (o : Option BindError) (e : BindError) (x : Refusal) → Some x ≡ refusal_from e → (e ≢ Memory → o ≡ Some e) → o ≡ None → ⊥
not_bound None e x is h fine = let bad = refused_to_bind None e x is h in cc
not_bound (Some y) e x is h fine = cc

-- ---- what is refused writes nothing

pub nothing_unwritten : (old new : Seen) (result : Result Reply StopError) → new.writes ≡ old.writes → RefusedUnwritten old new result
nothing_unwritten old new (Ok r) e = λ refused. e
nothing_unwritten old new (Err stop) e = tt

-- and so does what is said alone
pub said_unwritten : (c : Catalog) (o : Outcome) (old new : Seen) (result : Result Reply StopError) → IsSaid c o old new result → RefusedUnwritten old new result
said_unwritten c o old new result said = nothing_unwritten old new result (said_nothing c o old old new result refl refl said).writes

never_refused : (old new : Seen) (result : Result Reply StopError) → IfOk result (λ r. r.accepted ≡ true) → RefusedUnwritten old new result
never_refused old new (Ok r) e = λ refused. absurd (false≢true (sym refused ∙ e))
never_refused old new (Err stop) e = tt

update_unwritten : (b : Contents) (gone : List Stmt) (sets : List SetCol) (old new : Seen) (result : Result Reply StopError) → UpdatesThrough b gone sets old new result
    → RefusedUnwritten old new result
update_unwritten b gone sets old new (Ok r) h = λ refused. (h.refused refused).writes
update_unwritten b gone sets old new (Err stop) h = tt

-- whatever is bound
pub told_unwritten : (b : Bound) (k : Known) (old new : Seen) (result : Result Reply StopError) → AgreesOnSome old.kept k → WritesAsTold b k old new result → RefusedUnwritten old new result
told_unwritten (CreateUser name) k old new result some h = h
told_unwritten (CreateRelation def) k old new result some h = h
told_unwritten (DropUser uid) k old new result some h = never_refused old new result (h some.state some.agrees).accepted
told_unwritten (Insert x) k old new result some h = h.refused
told_unwritten (Delete path sign rel conds) k old new result some h = never_refused old new result (h some.state some.agrees).accepted
told_unwritten (Update path sign rel sets conds) k old new result some h = update_unwritten _ _ sets old new result (h some.state some.agrees)
told_unwritten (Select q) k old new result some h = nothing_unwritten old new result h.writes
told_unwritten (Explain q) k old new result some h = nothing_unwritten old new result h.writes
told_unwritten (ShowWorld path) k old new result some h = nothing_unwritten old new result h.writes
told_unwritten (Why x) k old new result some h = nothing_unwritten old new result h.writes
told_unwritten ShowTables k old new result some h = nothing_unwritten old new result h.writes
told_unwritten Undo k old new result some h = h
told_unwritten Redo k old new result some h = h
