-- How often a command reads and writes that is a transaction of its own, by how often its step does.
use Rattle.std.proofs.Common.{◌≡◌, ◌∙◌, ℕ, ◌+◌, ◌≤◌, length, Result, Ok, Err, refl, sym, subst, inl, inr, arith}
use Rattle.std.proofs.lemmas.Bool.{cases_Bool, MatchBool-at_true, MatchBool-at_false}
use Rattle.bdb_base.specs.declared.kinds.Query.{Query}
use Rattle.bdb_bind.specs.declared.bound.Bound.{Bound}
use Rattle.bdb_bind.specs.declared.bound.Bound.TheVariants.{CreateUser, CreateRelation, DropUser, Insert, Delete, Update, Select, Explain, ShowWorld, Why, ShowTables, Undo, Redo}
use Rattle.bdb_keep.specs.Calls.{IsBegin}
use Rattle.bdb_keep.specs.Seen.{Seen}
use Rattle.bdb_session.specs.Bounds.{ReadsAsTold, WritesAsTold}
use Rattle.bdb_session.specs.Known.{Known, Agrees}
use Rattle.bdb_session.specs.Outcome.{State}
use Rattle.bdb_session.specs.QueryReads.{ReadsAsBounded}
use Rattle.bdb_session.specs.Telling.{ReadsWithin, WritesNothing, world_reads, why_reads}
use Rattle.bdb_session.specs.Within.{IsKept, IsUndone, Closes}
use Rattle.bdb_session.specs.declared.reply.Reply.{Reply}
use Rattle.bdb_session.specs.declared.error.StopError.{StopError}
use Rattle.bdb_session.specs.declared.error.StopError.TheVariants.{Fault}
use Rattle.bdb_session.proofs.ServedLemmas.{still_agrees}
use Rattle.bdb_session.proofs.StepLemmas.{delete_closes, leave_closes, update_closes}
use Rattle.bdb_session.proofs.TellLemmas.{always_ok}
use Rattle.bdb_session.proofs.WriteLemmas.{insert_closes, closed_unwritten}
use Rattle.bdb_trans.specs.Bounds.{product_of}
use Rattle.bdb_worlds.specs.Bounds.{EndsWithin}

-- ---- a transaction that was begun and closed

module _ (learns : Known) (r : Reply) (before now : Known) (old run mid new : Seen) (began : IsBegin {T = Unit {0}} {E = StopError} old run (Ok tt) Fault) (last : mid.last ≡ run.last)
    (result : Result Reply StopError) (ended : Closes learns r before now mid new result) where
  begun : (s : State) → Agrees old.kept before s → Agrees run.kept before s
  begun s a = still_agrees old.kept run.kept before s began.kept a

  -- nothing is read at its end
  same_reads : new.reads ≡ mid.reads
  same_reads = elim (cases_Bool r.accepted) [
    | inl done ↦ (MatchBool-at_true (IsKept learns r before now mid new result) (IsUndone r before now mid new result) done ended).commit.reads
    | inr undone ↦ (MatchBool-at_false (IsKept learns r before now mid new result) (IsUndone r before now mid new result) undone ended).undo.reads
  ]

  read_closes : (most : State → ℕ) → ReadsWithin most before run mid (Ok r) → ReadsWithin most before old new result
  read_closes most h = λ s a.
      let there = subst (λ n. EndsWithin (most s) run.reads n) (sym same_reads) (h s (begun s a)) in
      always_ok result (subst (λ n. EndsWithin (most s) n new.reads) began.reads there)

  query_closes : (q : Query) → ReadsAsBounded q before run mid (Ok r) → ReadsAsBounded q before old new result
  query_closes q h = λ s rows a few.
      let most : mid.reads ≤ run.reads + product_of (length s.base.catalog.users) rows 0 q.items = h s rows (begun s a) few in
      let start = began.reads in
      let end = same_reads in
      always_ok result (omega arith)

  kept_nothing : (x : Result Reply StopError) → IsKept learns r before now mid new x → WritesNothing run mid (Ok r) → WritesNothing old new x
  kept_nothing (Ok q) k h = record { kept = k.commit.kept ∙ h.kept ∙ began.kept; writes = k.commit.writes ∙ h.writes ∙ began.writes }
  kept_nothing (Err stop) k h = record { kept = tt; writes = k.commit.writes ∙ h.writes ∙ began.writes }

  nothing_closes : WritesNothing run mid (Ok r) → WritesNothing old new result
  nothing_closes h = elim (cases_Bool r.accepted) [
    | inl done ↦ kept_nothing result (MatchBool-at_true (IsKept learns r before now mid new result) (IsUndone r before now mid new result) done ended) h
    | inr undone ↦
        let k = MatchBool-at_false (IsKept learns r before now mid new result) (IsUndone r before now mid new result) undone ended in
        record { kept = always_ok result (k.undo.dropped.undone ∙ last ∙ began.last ∙ sym began.rest); writes = k.undo.writes ∙ h.writes ∙ began.writes }
  ]

  pub reads_close : (b : Bound) → ReadsAsTold b before run mid (Ok r) → ReadsAsTold b before old new result
  reads_close (CreateUser name) h = tt
  reads_close (CreateRelation def) h = tt
  reads_close (DropUser uid) h = tt
  reads_close (Insert x) h = tt
  reads_close (Delete path sign rel conds) h = tt
  reads_close (Update path sign rel sets conds) h = tt
  reads_close (Select q) h = query_closes q h
  reads_close (Explain q) h = read_closes (λ s. 0) h
  reads_close (ShowWorld path) h = read_closes (λ s. world_reads s.base path) h
  reads_close (Why x) h = read_closes (λ s. why_reads s.base x) h
  reads_close ShowTables h = tt
  reads_close Undo h = tt
  reads_close Redo h = tt

  pub writes_close : (b : Bound) → WritesAsTold b before run mid (Ok r) → WritesAsTold b before old new result
  writes_close (CreateUser name) h = closed_unwritten learns r before now old run mid new began h result ended
  writes_close (CreateRelation def) h = closed_unwritten learns r before now old run mid new began h result ended
  writes_close (DropUser uid) h = leave_closes learns r before now old run mid new result began uid h ended
  writes_close (Insert x) h =
      insert_closes (length x.path + 2) 8 learns r before now old run mid new began h.within h.refused x refl refl h.already result ended
  writes_close (Delete path sign rel conds) h = delete_closes learns r before now old run mid new result began path sign rel conds h ended
  writes_close (Update path sign rel sets conds) h = update_closes learns r before now old run mid new result began path sign rel sets conds h last ended
  writes_close (Select q) h = nothing_closes h
  writes_close (Explain q) h = nothing_closes h
  writes_close (ShowWorld path) h = nothing_closes h
  writes_close (Why x) h = nothing_closes h
  writes_close ShowTables h = nothing_closes h
  writes_close Undo h = closed_unwritten learns r before now old run mid new began h result ended
  writes_close Redo h = closed_unwritten learns r before now old run mid new began h result ended

-- ---- one that stopped

pub reads_stop : (b : Bound) (k : Known) (old new : Seen) (stop : StopError) → ReadsAsTold b k old new (Err stop)
reads_stop (CreateUser name) k old new stop = tt
reads_stop (CreateRelation def) k old new stop = tt
reads_stop (DropUser uid) k old new stop = tt
reads_stop (Insert x) k old new stop = tt
reads_stop (Delete path sign rel conds) k old new stop = tt
reads_stop (Update path sign rel sets conds) k old new stop = tt
reads_stop (Select q) k old new stop = λ s rows a few. tt
reads_stop (Explain q) k old new stop = λ s a. tt
reads_stop (ShowWorld path) k old new stop = λ s a. tt
reads_stop (Why x) k old new stop = λ s a. tt
reads_stop ShowTables k old new stop = tt
reads_stop Undo k old new stop = tt
reads_stop Redo k old new stop = tt

-- a step that stopped, after a begin that wrote nothing
pub writes_stop : (b : Bound) (k : Known) (old run new : Seen) (stop : StopError) → run.writes ≡ old.writes → WritesAsTold b k run new (Err stop) → WritesAsTold b k old new (Err stop)
writes_stop (CreateUser name) k old run new stop e h = tt
writes_stop (CreateRelation def) k old run new stop e h = tt
writes_stop (DropUser uid) k old run new stop e h = λ s a. record { steps = tt; accepted = tt }
writes_stop (Insert x) k old run new stop e h = record { within = tt; refused = tt; already = λ s a there. tt }
writes_stop (Delete path sign rel conds) k old run new stop e h = λ s a. record { one = λ single. tt; steps = tt; accepted = tt }
writes_stop (Update path sign rel sets conds) k old run new stop e h = λ s a. record { steps = tt; refused = tt }
writes_stop (Select q) k old run new stop e h = record { kept = tt; writes = h.writes ∙ e }
writes_stop (Explain q) k old run new stop e h = record { kept = tt; writes = h.writes ∙ e }
writes_stop (ShowWorld path) k old run new stop e h = record { kept = tt; writes = h.writes ∙ e }
writes_stop (Why x) k old run new stop e h = record { kept = tt; writes = h.writes ∙ e }
writes_stop ShowTables k old run new stop e h = record { kept = tt; writes = h.writes ∙ e }
writes_stop Undo k old run new stop e h = tt
writes_stop Redo k old run new stop e h = tt

-- a transaction that didn't begin
pub writes_unbegun : (b : Bound) (k : Known) (old new : Seen) (stop : StopError) → new.writes ≡ old.writes → WritesAsTold b k old new (Err stop)
writes_unbegun (CreateUser name) k old new stop e = tt
writes_unbegun (CreateRelation def) k old new stop e = tt
writes_unbegun (DropUser uid) k old new stop e = λ s a. record { steps = tt; accepted = tt }
writes_unbegun (Insert x) k old new stop e = record { within = tt; refused = tt; already = λ s a there. tt }
writes_unbegun (Delete path sign rel conds) k old new stop e = λ s a. record { one = λ single. tt; steps = tt; accepted = tt }
writes_unbegun (Update path sign rel sets conds) k old new stop e = λ s a. record { steps = tt; refused = tt }
writes_unbegun (Select q) k old new stop e = record { kept = tt; writes = e }
writes_unbegun (Explain q) k old new stop e = record { kept = tt; writes = e }
writes_unbegun (ShowWorld path) k old new stop e = record { kept = tt; writes = e }
writes_unbegun (Why x) k old new stop e = record { kept = tt; writes = e }
writes_unbegun ShowTables k old new stop e = record { kept = tt; writes = e }
writes_unbegun Undo k old new stop e = tt
writes_unbegun Redo k old new stop e = tt
