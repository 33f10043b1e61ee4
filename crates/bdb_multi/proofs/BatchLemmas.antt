-- The batches that acts run.
use Rattle.std.proofs.Common.{◌≡◌, ◌∙◌, ℕ, suc, ◌≤◌, true, false, nat_eq, nat_lt, nat_le, Option, Some, None, List, [], ◌∷◌, ◌++◌, length, filter, refl, ap, sym, arith, inl, inr}
use Rattle.std.proofs.lemmas.Bool.{cases_Bool, cond-true, cond-false, and_from, and_parts, le-leb, leb-true, eqb-true}
use Rattle.std.proofs.lemmas.List.Elements.{filter-append}
use Rattle.bdb_base.proofs.ListLemmas.{filter_kept_one, filter_dropped_one}
use Rattle.bdb_multi.specs.declared.kinds.Line.{Line}
use Rattle.bdb_multi.specs.declared.kinds.Line.TheVariants.{Begin, Commit, Abort, Cmd}
use Rattle.bdb_multi.specs.declared.kinds.Event.{Event}
use Rattle.bdb_multi.specs.declared.kinds.Act.{Act}
use Rattle.bdb_multi.specs.declared.kinds.Act.TheVariants.{Begun, Queued, Aborted, ErrBegun, ErrNotBegun, ErrBatch, One, Batch}
use Rattle.bdb_multi.specs.Sessions.{Commands, most_queued, mine, open_batch, act_by, act_after, acts_from, acts_of}
use Rattle.bdb_multi.specs.Batches.{RanBatch, mine_from, ran_at, closed_by, open_by, batches_in, run_of, ran_from, ascends_from, BatchesAreRun}
use Rattle.bdb_multi.proofs.SessionLemmas.{open_more, none_open, mine_more, mine_same}

-- what an act runs is what the line closes
runs_closed : (o : Option Commands) (l : Line) → run_of (act_by o l) ≡ closed_by o l
runs_closed None Begin = refl
runs_closed None Commit = refl
runs_closed None Abort = refl
runs_closed None (Cmd c) = refl
runs_closed (Some q) Begin = refl
runs_closed (Some q) Commit = refl
runs_closed (Some q) Abort = refl
runs_closed (Some q) (Cmd c) = elim (cases_Bool (nat_lt (length q) most_queued)) [
  | inl e ↦ ap run_of (cond-true (nat_lt (length q) most_queued) Queued ErrBatch e)
  | inr e ↦ ap run_of (cond-false (nat_lt (length q) most_queued) Queued ErrBatch e)
]

all_own : (place m n : ℕ) (batches : List Commands) → nat_eq m n ≡ true → filter (λ r. nat_eq r.session n) (ran_at place m batches) ≡ ran_at place m batches
all_own place m n [] h = refl
all_own place m n (q ∷ batches) h =
    filter_kept_one (λ r. nat_eq r.session n) (record { place = place; session = m; commands = q }) (ran_at place m batches) h
    ∙ ap (λ rs. record { place = place; session = m; commands = q } ∷ rs) (all_own place m n batches h)

none_own : (place m n : ℕ) (batches : List Commands) → nat_eq m n ≡ false → filter (λ r. nat_eq r.session n) (ran_at place m batches) ≡ []
none_own place m n [] h = refl
none_own place m n (q ∷ batches) h =
    filter_dropped_one (λ r. nat_eq r.session n) (record { place = place; session = m; commands = q }) (ran_at place m batches) h
    ∙ none_own place m n batches h

own_batches : (n place : ℕ) (before es : List Event)
    → filter (λ r. nat_eq r.session n) (ran_from place es (acts_from before es)) ≡ batches_in n (open_batch (mine n before)) (mine_from n place es)
own_batches n place before [] = refl
own_batches n place before (e ∷ es) =
    let ran = ran_at place e.session (run_of (act_after before e)) in
    let rest = ran_from (suc place) es (acts_from (before ++ e ∷ []) es) in
    let parts = filter-append (λ r. nat_eq r.session n) ran rest in
    let later = own_batches n (suc place) (before ++ e ∷ []) es in
    elim (cases_Bool (nat_eq e.session n)) [
      | inl h ↦
          let same : e.session ≡ n = eqb-true e.session n h in
          let front : ran ≡ ran_at place n (closed_by (open_batch (mine n before)) e.line) =
          ap (λ m. ran_at place m (run_of (act_by (open_batch (mine m before)) e.line))) same
          ∙ ap (ran_at place n) (runs_closed (open_batch (mine n before)) e.line) in
          let goes : open_batch (mine n (before ++ e ∷ [])) ≡ open_by (open_batch (mine n before)) e.line =
          ap open_batch (mine_more n before e h) ∙ open_more (mine n before) e.line in
          let own : mine_from n place (e ∷ es) ≡ record { place = place; line = e.line } ∷ mine_from n (suc place) es =
          cond-true (nat_eq e.session n) (record { place = place; line = e.line } ∷ mine_from n (suc place) es) (mine_from n (suc place) es) h in
          parts ∙ (ap (λ rs. rs ++ filter (λ r. nat_eq r.session n) rest) (all_own place e.session n (run_of (act_after before e)) h ∙ front)
          ∙ (ap (λ rs. ran_at place n (closed_by (open_batch (mine n before)) e.line) ++ rs)
          (later ∙ ap (λ o. batches_in n o (mine_from n (suc place) es)) goes)
          ∙ ap (batches_in n (open_batch (mine n before))) (sym own)))
      | inr h ↦
          let goes : open_batch (mine n (before ++ e ∷ [])) ≡ open_batch (mine n before) = ap open_batch (mine_same n before e h) in
          let own : mine_from n place (e ∷ es) ≡ mine_from n (suc place) es =
          cond-false (nat_eq e.session n) (record { place = place; line = e.line } ∷ mine_from n (suc place) es) (mine_from n (suc place) es) h in
          parts ∙ (ap (λ rs. rs ++ filter (λ r. nat_eq r.session n) rest) (none_own place e.session n (run_of (act_after before e)) h)
          ∙ (later ∙ (ap (λ o. batches_in n o (mine_from n (suc place) es)) goes
          ∙ ap (batches_in n (open_batch (mine n before))) (sym own))))
    ]

-- batches from a later place on
ascends_later : (low high : ℕ) (rs : List RanBatch) → low ≤ high → ascends_from high rs ≡ true → ascends_from low rs ≡ true
ascends_later low high [] le h = refl
ascends_later low high (r ∷ rs) le h =
    let parts = and_parts (nat_le high r.place) (ascends_from (suc r.place) rs) h in
    and_from (nat_le low r.place) (ascends_from (suc r.place) rs) (le-leb low r.place (omega (arith, le, leb-true high r.place parts.0))) parts.1

one_more : (place n : ℕ) (q : Commands) (rs : List RanBatch) → ascends_from (suc place) rs ≡ true → ascends_from place (ran_at place n (q ∷ []) ++ rs) ≡ true
one_more place n q rs h = and_from (nat_le place place) (ascends_from (suc place) rs) (le-leb place place (omega arith)) h

act_ascends : (place n : ℕ) (a : Act) (rs : List RanBatch) → ascends_from (suc place) rs ≡ true → ascends_from place (ran_at place n (run_of a) ++ rs) ≡ true
act_ascends place n Begun rs h = ascends_later place (suc place) rs (omega arith) h
act_ascends place n Queued rs h = ascends_later place (suc place) rs (omega arith) h
act_ascends place n Aborted rs h = ascends_later place (suc place) rs (omega arith) h
act_ascends place n ErrBegun rs h = ascends_later place (suc place) rs (omega arith) h
act_ascends place n ErrNotBegun rs h = ascends_later place (suc place) rs (omega arith) h
act_ascends place n ErrBatch rs h = ascends_later place (suc place) rs (omega arith) h
act_ascends place n (One c) rs h = one_more place n (c ∷ []) rs h
act_ascends place n (Batch q) rs h = one_more place n q rs h

ran_ascends : (place : ℕ) (es : List Event) (acts : List Act) → ascends_from place (ran_from place es acts) ≡ true
ran_ascends place [] acts = refl
ran_ascends place (e ∷ es) [] = refl
ran_ascends place (e ∷ es) (a ∷ acts) = act_ascends place e.session a (ran_from (suc place) es acts) (ran_ascends (suc place) es acts)

pub batches_are_run : BatchesAreRun
batches_are_run events = record {
  own = λ n. own_batches n 0 [] events ∙ ap (λ o. batches_in n o (mine_from n 0 events)) none_open;
  in_order = ran_ascends 0 events (acts_of events);
}
