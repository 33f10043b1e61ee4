-- Where a stream of sessions leads.
use Rattle.std.proofs.Common.{◌≡◌, ◌∙◌, ℕ, suc, List, [], ◌∷◌, ◌++◌, refl, ap, sym}
use Rattle.std.proofs.lemmas.List.{append-nil}
use Rattle.bdb_multi.specs.declared.kinds.Event.{Event}
use Rattle.bdb_multi.specs.declared.kinds.Act.{Act}
use Rattle.bdb_multi.specs.declared.kinds.Act.TheVariants.{Begun, Queued, Aborted, ErrBegun, ErrNotBegun, ErrBatch, One, Batch}
use Rattle.bdb_multi.specs.Sessions.{act_after, acts_from}
use Rattle.bdb_multi.specs.Batches.{RanBatch, ran_at, run_of, ran_from}
use Rattle.bdb_events.specs.declared.read.Read.{Read}
use Rattle.bdb_many.specs.Many.{Batches, act_next, events_in, reads_of, after_from, after_batches, LeadsAsBatches}

two_parts : {S : Type 0} (m : Batches S) (a b : List RanBatch) (s : S) → after_batches m s (a ++ b) ≡ after_batches m (after_batches m s a) b
two_parts m [] b s = refl
two_parts m (r ∷ a) b s = two_parts m a b (m.next s r.commands)

act_leads : {S : Type 0} (m : Batches S) (s : S) (place n : ℕ) (a : Act) → act_next m s a ≡ after_batches m s (ran_at place n (run_of a))
act_leads m s place n Begun = refl
act_leads m s place n Queued = refl
act_leads m s place n Aborted = refl
act_leads m s place n ErrBegun = refl
act_leads m s place n ErrNotBegun = refl
act_leads m s place n ErrBatch = refl
act_leads m s place n (One c) = refl
act_leads m s place n (Batch q) = refl

leads : {S : Type 0} (m : Batches S) (rs : List Read) (s : S) (place : ℕ) (before : List Event)
    → after_from m s before rs ≡ after_batches m s (ran_from place (events_in rs) (acts_from before (events_in rs)))
leads m [] s place before = refl
leads m (Read.Nothing ∷ rs) s place before = ap (λ es. after_from m s es rs) (append-nil before) ∙ leads m rs s place before
leads m (Read.Long ∷ rs) s place before = ap (λ es. after_from m s es rs) (append-nil before) ∙ leads m rs s place before
leads m (Read.NoSession ∷ rs) s place before = ap (λ es. after_from m s es rs) (append-nil before) ∙ leads m rs s place before
leads m (Read.NoLine n ∷ rs) s place before = ap (λ es. after_from m s es rs) (append-nil before) ∙ leads m rs s place before
leads m (Read.Event e ∷ rs) s place before =
    let a = act_after before e in
    let ran = ran_at place e.session (run_of a) in
    let rest = ran_from (suc place) (events_in rs) (acts_from (before ++ e ∷ []) (events_in rs)) in
    leads m rs (act_next m s a) (suc place) (before ++ e ∷ [])
    ∙ (ap (λ t. after_batches m t rest) (act_leads m s place e.session a) ∙ sym (two_parts m ran rest s))

pub leads_as_batches : {S : Type 0} → LeadsAsBatches S
leads_as_batches m s script = leads m (reads_of script) s 0 []
