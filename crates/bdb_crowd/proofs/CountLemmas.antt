-- What the batches that are committed tell of a stream.
use Rattle.std.proofs.Common.{◌≡◌, ◌∙◌, ℕ, zero, suc, ◌+◌, ◌-◌, Bool, true, false, nat_lt, List, [], ◌∷◌, ◌++◌, map, take, inl, inr, refl, ap, sym, subst, append-nil, arith}
use Rattle.std.proofs.lemmas.Bool.{cases_Bool, cond-true, cond-false, le-ltb, lt-ltb}
use Rattle.bdb_events.specs.Pieces.{read_of}
use Rattle.bdb_events.specs.declared.read.Read.{Read}
use Rattle.bdb_lex.specs.Cut.{pieces_of, has_rest, rest_of}
use Rattle.bdb_many.specs.Many.{act_next, after_batches, events_in}
use Rattle.bdb_multi.specs.Batches.{RanBatch, ran_at, ran_from, run_of}
use Rattle.bdb_multi.specs.Sessions.{Commands, act_after, acts_from}
use Rattle.bdb_multi.specs.declared.kinds.Act.{Act}
use Rattle.bdb_multi.specs.declared.kinds.Act.TheVariants.{Begun, Queued, Aborted, ErrBegun, ErrNotBegun, ErrBatch, One, Batch}
use Rattle.bdb_multi.specs.declared.kinds.Event.{Event}
use Rattle.bdb_session.specs.Batches.{pieces, batch_state}
use Rattle.bdb_session.specs.Outcome.{State}
use Rattle.bdb_session.specs.Runs.{accepts_all, after as after_events}
use Rattle.bdb_crowd.specs.Asked.{Asked, Point, after, commits_by, committed, next_point, piece, rest_asks, start_at, unfinished}
use Rattle.bdb_crowd.specs.Carried.{by_crowd, crowd_in_order}
use Rattle.bdb_crowd.specs.Counted.{before_commit, committed_among, first_committed}
use Rattle.bdb_crowd.specs.Due.{act_commits, commits_of, session_batches}
use Rattle.bdb_crowd.specs.Laws.{CommitsTellTheState, FirstBatchesLead, IsToldByCommits}
use Rattle.bdb_stream.proofs.CommitLemmas.{all_told, no_more_told, state_told}
use Rattle.bdb_crowd.proofs.LawLemmas.{asks_of}

-- ---- what commits nothing leaves the state

not_both : {n : ℕ} → n ≡ 1 → n ≡ 0 → ⊥
not_both a b = omega (arith, a, b)

-- a batch that is not whole leaves the state
broken : (s : State) (q : Commands) → accepts_all s (pieces q) ≡ false → batch_state s (pieces q) ≡ s
broken s q f = cond-false (accepts_all s (pieces q)) (after_events s (pieces q)) s f

idle_batch : (s : State) (q : Commands) → commits_of session_batches s q ≡ 0 → batch_state s (pieces q) ≡ s
idle_batch s q h = elim (cases_Bool (accepts_all s (pieces q))) [
  | inl t ↦ absurd (not_both (cond-true (accepts_all s (pieces q)) 1 0 t) h)
  | inr f ↦ broken s q f
]

idle_act : (s : State) (a : Act) → act_commits session_batches s a ≡ 0 → act_next session_batches s a ≡ s
idle_act s Begun h = refl
idle_act s Queued h = refl
idle_act s Aborted h = refl
idle_act s ErrBegun h = refl
idle_act s ErrNotBegun h = refl
idle_act s ErrBatch h = refl
idle_act s (One c) h = idle_batch s (c ∷ []) h
idle_act s (Batch q) h = idle_batch s q h

idle : (p : Point) (a : Asked) → commits_by p a ≡ 0 → (next_point p a).state ≡ p.state
idle p (piece Read.Nothing) h = refl
idle p (piece Read.Long) h = refl
idle p (piece Read.NoSession) h = refl
idle p (piece (Read.NoLine n)) h = refl
idle p (piece (Read.Event e)) h = idle_act p.state (act_after p.before e) h
idle p unfinished h = refl

-- ---- what is done, by how often it has committed

told : (p : Point) (done rest : List Asked) → IsToldByCommits p (done ++ rest) done (committed p done)
told p done rest = record {
  state = (state_told by_crowd crowd_in_order (λ q. q.state) idle) p done rest;
  all_of = (all_told by_crowd crowd_in_order) p done rest;
  no_more = (no_more_told by_crowd crowd_in_order) p done rest;
}

pub commits_tell_the_state : CommitsTellTheState
commits_tell_the_state p asked done is = subst (λ (l : List Asked). IsToldByCommits p l done (committed p done)) (sym is.1) (told p done is.0)

-- ---- the first batches that are committed

-- the state behind what comes before the batch that is number k + 1 of those committed
abbrev leads : ℕ → Point → List Asked → State
leads k p asked = (after p (before_commit k p asked)).state

-- the state after the first k of these batches that are committed
abbrev leads_by : ℕ → State → List RanBatch → State
leads_by k s batches = after_batches session_batches s (first_committed session_batches k s batches)

not_below : (k c : ℕ) → c ≡ 0 → nat_lt k c ≡ false
not_below k c e = le-ltb k c (omega (arith, e))

less_nothing : (k c : ℕ) → c ≡ 0 → k - c ≡ k
less_nothing k c e = omega (arith, e)

below_one : (c : ℕ) → c ≡ 1 → nat_lt 0 c ≡ true
below_one c e = lt-ltb 0 c (omega (arith, e))

not_below_one : (k c : ℕ) → c ≡ 1 → nat_lt (suc k) c ≡ false
not_below_one k c e = le-ltb (suc k) c (omega (arith, e))

less_one : (k c : ℕ) → c ≡ 1 → suc k - c ≡ k
less_one k c e = omega (arith, e)

-- behind what commits nothing
leads_on : (k j : ℕ) (p : Point) (a : Asked) (asked : List Asked) → nat_lt k (commits_by p a) ≡ false → k - commits_by p a ≡ j → leads k p (a ∷ asked) ≡ leads j (next_point p a) asked
leads_on k j p a asked f e =
    ap (λ (l : List Asked). (after p l).state) (cond-false (nat_lt k (commits_by p a)) [] (a ∷ before_commit (k - commits_by p a) (next_point p a) asked) f)
    ∙ ap (λ (n : ℕ). leads n (next_point p a) asked) e

leads_past : (k : ℕ) (p : Point) (a : Asked) (asked : List Asked) → commits_by p a ≡ 0 → leads k p (a ∷ asked) ≡ leads k (next_point p a) asked
leads_past k p a asked e = leads_on k k p a asked (not_below k (commits_by p a) e) (less_nothing k (commits_by p a) e)

-- the first batches are those that the rest leads by, where this commits nothing and leaves the state
idle_step : (k : ℕ) (p : Point) (a : Asked) (asked : List Asked) (rest : List RanBatch) → commits_by p a ≡ 0 → (next_point p a).state ≡ p.state
    → ((j : ℕ) → leads j (next_point p a) asked ≡ leads_by j (next_point p a).state rest) → leads k p (a ∷ asked) ≡ leads_by k p.state rest
idle_step k p a asked rest none same h = leads_past k p a asked none ∙ h k ∙ ap (λ (t : State). leads_by k t rest) same

-- and where it runs a batch
whole_step : (k : ℕ) (p : Point) (a : Asked) (asked : List Asked) (b : RanBatch) (rest : List RanBatch) → commits_by p a ≡ 1 → (next_point p a).state ≡ batch_state p.state (pieces b.commands)
    → accepts_all p.state (pieces b.commands) ≡ true
    → ((j : ℕ) → leads j (next_point p a) asked ≡ leads_by j (next_point p a).state rest) → leads k p (a ∷ asked) ≡ leads_by k p.state (b ∷ rest)
whole_step zero p a asked b rest one next t h =
    ap (λ (l : List Asked). (after p l).state) (cond-true (nat_lt 0 (commits_by p a)) [] (a ∷ before_commit (0 - commits_by p a) (next_point p a) asked) (below_one (commits_by p a) one))
whole_step (suc k) p a asked b rest one next t h =
    let s = p.state in
    let others = committed_among session_batches (batch_state s (pieces b.commands)) rest in
    leads_on (suc k) k p a asked (not_below_one k (commits_by p a) one) (less_one k (commits_by p a) one) ∙ h k ∙ ap (λ (x : State). leads_by k x rest) next
    ∙ sym (ap (λ (l : List RanBatch). after_batches session_batches s (take (suc k) l)) (cond-true (accepts_all s (pieces b.commands)) (b ∷ others) (committed_among session_batches s rest) t))

batch_step : (k : ℕ) (p : Point) (a : Asked) (asked : List Asked) (b : RanBatch) (rest : List RanBatch) → commits_by p a ≡ commits_of session_batches p.state b.commands
    → (next_point p a).state ≡ batch_state p.state (pieces b.commands)
    → ((j : ℕ) → leads j (next_point p a) asked ≡ leads_by j (next_point p a).state rest) → leads k p (a ∷ asked) ≡ leads_by k p.state (b ∷ rest)
batch_step k p a asked b rest commits next h =
    let s = p.state in
    let whole = accepts_all s (pieces b.commands) in
    let others = committed_among session_batches (batch_state s (pieces b.commands)) rest in
    elim (cases_Bool whole) [
      | inl t ↦ whole_step k p a asked b rest (commits ∙ cond-true whole 1 0 t) next t h
      | inr f ↦ idle_step k p a asked rest (commits ∙ cond-false whole 1 0 f) (next ∙ broken s b.commands f) h
          ∙ sym (ap (λ (l : List RanBatch). after_batches session_batches s (take k l)) (cond-false whole (b ∷ others) (committed_among session_batches s rest) f))
    ]

act_step : (act : Act) (k place n : ℕ) (p : Point) (a : Asked) (asked : List Asked) (rest : List RanBatch) → commits_by p a ≡ act_commits session_batches p.state act
    → (next_point p a).state ≡ act_next session_batches p.state act
    → ((j : ℕ) → leads j (next_point p a) asked ≡ leads_by j (next_point p a).state rest) → leads k p (a ∷ asked) ≡ leads_by k p.state (ran_at place n (run_of act) ++ rest)
act_step Begun k place n p a asked rest commits next h = idle_step k p a asked rest commits next h
act_step Queued k place n p a asked rest commits next h = idle_step k p a asked rest commits next h
act_step Aborted k place n p a asked rest commits next h = idle_step k p a asked rest commits next h
act_step ErrBegun k place n p a asked rest commits next h = idle_step k p a asked rest commits next h
act_step ErrNotBegun k place n p a asked rest commits next h = idle_step k p a asked rest commits next h
act_step ErrBatch k place n p a asked rest commits next h = idle_step k p a asked rest commits next h
act_step (One c) k place n p a asked rest commits next h = batch_step k p a asked (record { place = place; session = n; commands = c ∷ [] }) rest commits next h
act_step (Batch q) k place n p a asked rest commits next h = batch_step k p a asked (record { place = place; session = n; commands = q }) rest commits next h

-- a point of a state, behind events
abbrev point_of : State → List Event → Point
point_of s before = record { state = s; before = before }

rest_leads : (k : ℕ) (p : Point) (holds : Bool) → leads k p (rest_asks (rest_of holds)) ≡ p.state
rest_leads k p true = leads_past k p unfinished [] refl
rest_leads k p false = refl

no_batches : (k : ℕ) (s : State) → leads_by k s [] ≡ s
no_batches zero s = refl
no_batches (suc k) s = refl

-- behind what is no event
no_event : (r : Read) (rs : List Read) (s : State) (place : ℕ) (before : List Event) (holds : Bool) (k : ℕ) → commits_by (point_of s before) (piece r) ≡ 0
    → next_point (point_of s before) (piece r) ≡ point_of s (before ++ [])
    → leads k (point_of s before) (map piece rs ++ rest_asks (rest_of holds)) ≡ leads_by k s (ran_from place (events_in rs) (acts_from before (events_in rs)))
    → leads k (point_of s before) (piece r ∷ (map piece rs ++ rest_asks (rest_of holds))) ≡ leads_by k s (ran_from place (events_in rs) (acts_from before (events_in rs)))
no_event r rs s place before holds k none next h =
    leads_past k (point_of s before) (piece r) (map piece rs ++ rest_asks (rest_of holds)) none
    ∙ ap (λ (q : Point). leads k q (map piece rs ++ rest_asks (rest_of holds))) next
    ∙ ap (λ (es : List Event). leads k (point_of s es) (map piece rs ++ rest_asks (rest_of holds))) (append-nil before)
    ∙ h

reads_lead : (rs : List Read) (s : State) (place : ℕ) (before : List Event) (holds : Bool) (k : ℕ)
    → leads k (point_of s before) (map piece rs ++ rest_asks (rest_of holds)) ≡ leads_by k s (ran_from place (events_in rs) (acts_from before (events_in rs)))
reads_lead [] s place before holds k = rest_leads k (point_of s before) holds ∙ sym (no_batches k s)
reads_lead (Read.Nothing ∷ rs) s place before holds k = no_event Read.Nothing rs s place before holds k refl refl (reads_lead rs s place before holds k)
reads_lead (Read.Long ∷ rs) s place before holds k = no_event Read.Long rs s place before holds k refl refl (reads_lead rs s place before holds k)
reads_lead (Read.NoSession ∷ rs) s place before holds k = no_event Read.NoSession rs s place before holds k refl refl (reads_lead rs s place before holds k)
reads_lead (Read.NoLine n ∷ rs) s place before holds k = no_event (Read.NoLine n) rs s place before holds k refl refl (reads_lead rs s place before holds k)
reads_lead (Read.Event e ∷ rs) s place before holds k =
    let act = act_after before e in
    let rest = ran_from (suc place) (events_in rs) (acts_from (before ++ e ∷ []) (events_in rs)) in
    act_step act k place e.session (point_of s before) (piece (Read.Event e)) (map piece rs ++ rest_asks (rest_of holds)) rest refl refl
    (λ j. reads_lead rs (act_next session_batches s act) (suc place) (before ++ e ∷ []) holds j)

pub first_batches_lead : FirstBatchesLead
first_batches_lead k s script =
    let holds = has_rest script in
    ap (λ (l : List Asked). leads k (start_at s) (l ++ rest_asks (rest_of holds))) (asks_of (pieces_of script))
    ∙ reads_lead (map read_of (pieces_of script)) s 0 [] holds k
