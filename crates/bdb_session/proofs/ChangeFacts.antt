-- What changes of statements in tables leave of what a session agrees on with them, and which limits they can pass.
use Rattle.std.proofs.Common.{◌≡◌, ◌∙◌, List, length, Result, Err, refl, sym, subst}
use Rattle.bdb_base.specs.Bases.{Contents, IsValid}
use Rattle.bdb_base.specs.Causes.{Rose}
use Rattle.bdb_base.specs.Limits.{most_users, most_relations}
use Rattle.bdb_base.specs.declared.kinds.Stmt.{Stmt}
use Rattle.bdb_canon.specs.Sizes.{counts_of}
use Rattle.bdb_canon.specs.declared.sizes.Counts.{Counts}
use Rattle.bdb_keep.specs.Seen.{Seen, IsDropped, NeverFall}
use Rattle.bdb_keep.specs.Tables.{Tables}
use Rattle.bdb_tables.specs.Stored.{Stores}
use Rattle.bdb_update.specs.Calls.{IsUnwritten, HasStopped, HasFailed, size_passed, with_stmts}
use Rattle.bdb_val.proofs.Calls.{HasGone, changing_err}
use Rattle.bdb_session.specs.declared.reply.Reply.{Reply}
use Rattle.bdb_session.specs.declared.error.StopError.{StopError}
use Rattle.bdb_session.specs.declared.error.StopError.TheVariants.{Fault, Memory}
use Rattle.bdb_session.specs.Known.{Known, Agrees}
use Rattle.bdb_session.specs.Outcome.{State, Outcome}
use Rattle.bdb_session.specs.Sizes.{passed_limit}
use Rattle.bdb_session.specs.Within.{TellsWithin, IsStopped, sized}
use Rattle.bdb_session.proofs.WithinLemmas.{stop_tells}
use Rattle.bdb_session.proofs.LimitLemmas.{above_false}

-- with other statements a valid base passes no limit but of sizes
pub size_limit : (b : Contents) (xs : List Stmt) → IsValid b.catalog b.stmts → passed_limit (with_stmts b xs) ≡ size_passed (counts_of (with_stmts b xs))
size_limit b xs valid =
    let users = above_false most_users (length b.catalog.users) valid.catalog.few_users in
    let rels = above_false most_relations (length b.catalog.rels) valid.catalog.few_rels in
    rw (users, rels) refl

-- where nothing was written, a session agrees with the tables as before
pub untouched_agrees : (k : Known) (before after : Counts) (old new : Seen) (s : State) → IsUnwritten old new before after → Agrees old.kept (sized k before) s → Agrees new.kept (sized k after) s
untouched_agrees k before after old new s u a = record {
  base = record { stored = subst (λ (t : Tables). Stores t s.base) (sym u.kept) a.base.stored; valid = a.base.valid };
  catalog = a.catalog;
  counts = u.counts ∙ a.counts;
}

-- a change that stopped, after a call that went on
module _ (outcome : State → Outcome) (before now : Known) (c d : Counts) (old mid fin new : Seen) (result : Result Reply StopError) (gone : HasGone old mid) (fall : NeverFall mid fin) where
  dropped_tells : (stop : StopError) → IsDropped mid fin → (stop ≡ Fault → Rose mid.faults fin.faults) → IsStopped stop fin new result → TellsWithin outcome before now old new result
  dropped_tells stop dropped rose said =
      subst (λ (r : Result Reply StopError). TellsWithin outcome before now old new r) (sym said.error)
      (subst (λ (x : Seen). TellsWithin outcome before now old x (Err stop)) (sym said.alone)
      (stop_tells outcome before now old fin stop (changing_err {T = Reply} {U = Reply} old mid fin stop Fault gone (record {
        counts = fall;
        steps = record { cause = record { later = fall.faults; rose = λ is. rose (let same : stop ≡ Fault = cc in same) }; ok = tt; err = dropped };
      }))))

  pub change_failed : HasFailed mid fin c d → IsStopped Fault fin new result → TellsWithin outcome before now old new result
  change_failed h said = dropped_tells Fault h.stopped.dropped (λ _. h.rose) said

  pub change_stopped : HasStopped mid fin c d → IsStopped Memory fin new result → TellsWithin outcome before now old new result
  change_stopped h said = dropped_tells Memory h.dropped (λ e. absurd cc) said
