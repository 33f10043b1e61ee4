use Rattle.std.proofs.Common.{List, OnOk, ℕ, subst}
use Rattle.bdb_session.specs.Batches.{ServesBatch, batch_timeline, pieces}
use Rattle.bdb_session.specs.Known.{Remembers}
use Rattle.bdb_session.proofs.BatchLemmas.{told_accepted, told_refused, told_text}
use Rattle.bdb_session.proofs.BatchLists.{remembers_after_batch}
use Rattle.bdb_session.proofs.session.Session.apply_batch.Goals as goal

pub returns-in-Ok-clause-refused : goal.returns-in-Ok-clause-refused
returns-in-Ok-clause-refused g c =
    let h = subst (λ (ls : List (List ℕ)). ServesBatch (pieces ls) c.args.self.now c.apply_by.new.self (g.K.Keeper.seen c.args.keeper.now) (g.K.Keeper.seen c.apply_by.new.keeper) c.apply_by.result)
    c.as_slice.ensures c.apply_by.ensures.served in
    λ s a. told_refused s (pieces c.args.lines.now) c.apply_by.result (h.served s a).reply

pub returns-in-Ok-clause-accepted : goal.returns-in-Ok-clause-accepted
returns-in-Ok-clause-accepted g c =
    let h = subst (λ (ls : List (List ℕ)). ServesBatch (pieces ls) c.args.self.now c.apply_by.new.self (g.K.Keeper.seen c.args.keeper.now) (g.K.Keeper.seen c.apply_by.new.keeper) c.apply_by.result)
    c.as_slice.ensures c.apply_by.ensures.served in
    λ s a. told_accepted s (pieces c.args.lines.now) c.apply_by.result (h.served s a).reply

pub returns-in-Ok-clause-text : goal.returns-in-Ok-clause-text
returns-in-Ok-clause-text g c =
    let h = subst (λ (ls : List (List ℕ)). ServesBatch (pieces ls) c.args.self.now c.apply_by.new.self (g.K.Keeper.seen c.args.keeper.now) (g.K.Keeper.seen c.apply_by.new.keeper) c.apply_by.result)
    c.as_slice.ensures c.apply_by.ensures.served in
    λ s a. told_text s (pieces c.args.lines.now) c.apply_by.result (h.served s a).reply

pub returns-in-Ok-clause-next : goal.returns-in-Ok-clause-next
returns-in-Ok-clause-next g c =
    let h = subst (λ (ls : List (List ℕ)). ServesBatch (pieces ls) c.args.self.now c.apply_by.new.self (g.K.Keeper.seen c.args.keeper.now) (g.K.Keeper.seen c.apply_by.new.keeper) c.apply_by.result)
    c.as_slice.ensures c.apply_by.ensures.served in
    λ s a. (h.served s a).next

pub returns-in-Ok-clause-commits : goal.returns-in-Ok-clause-commits
returns-in-Ok-clause-commits g c =
    let h = subst (λ (ls : List (List ℕ)). ServesBatch (pieces ls) c.args.self.now c.apply_by.new.self (g.K.Keeper.seen c.args.keeper.now) (g.K.Keeper.seen c.apply_by.new.keeper) c.apply_by.result)
    c.as_slice.ensures c.apply_by.ensures.served in
    λ s a. (h.served s a).commits

pub returns-in-Ok-clause-alone : goal.returns-in-Ok-clause-alone
returns-in-Ok-clause-alone g c =
    let h = subst (λ (ls : List (List ℕ)). ServesBatch (pieces ls) c.args.self.now c.apply_by.new.self (g.K.Keeper.seen c.args.keeper.now) (g.K.Keeper.seen c.apply_by.new.keeper) c.apply_by.result)
    c.as_slice.ensures c.apply_by.ensures.served in
    λ s a. (h.served s a).alone

pub returns-in-Ok-clause-known : goal.returns-in-Ok-clause-known
returns-in-Ok-clause-known g c =
    let h = subst (λ (ls : List (List ℕ)). ServesBatch (pieces ls) c.args.self.now c.apply_by.new.self (g.K.Keeper.seen c.args.keeper.now) (g.K.Keeper.seen c.apply_by.new.keeper) c.apply_by.result)
    c.as_slice.ensures c.apply_by.ensures.served in
    λ s a. (h.served s a).known

pub returns-in-Ok-clause-lists : goal.returns-in-Ok-clause-lists
returns-in-Ok-clause-lists g c = λ t m.
    subst (λ (ls : List (List ℕ)). OnOk c.apply_by.result (Remembers (g.K.Keeper.seen c.apply_by.new.keeper).kept c.apply_by.new.self (batch_timeline t (pieces ls))))
    c.as_slice.ensures (c.apply_by.ensures.lists t m)

pub returns-in-Ok-clause-agrees : goal.returns-in-Ok-clause-agrees
returns-in-Ok-clause-agrees g c =
    remembers_after_batch (pieces c.as_slice.result.now) c.args.self.now c.apply_by.new.self (g.K.Keeper.seen c.args.keeper.now) (g.K.Keeper.seen c.apply_by.new.keeper) c.apply_by.result
    c.requires.agrees c.apply_by.ensures.served c.apply_by.ensures.lists
