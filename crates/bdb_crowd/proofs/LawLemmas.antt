-- What a stream comes to.
use Rattle.std.proofs.Common.{◌≡◌, ◌∙◌, ℕ, ◌+◌, suc, Bool, true, false, List, [], ◌∷◌, ◌++◌, map, refl, ap, sym, arith}
use Rattle.std.specs.List.{concat}
use Rattle.std.proofs.lemmas.List.{append-nil}
use Rattle.bdb_lex.specs.Cut.{pieces_of, has_rest, rest_of}
use Rattle.bdb_lex.specs.declared.token.Piece.{Piece}
use Rattle.bdb_events.specs.Pieces.{read_of}
use Rattle.bdb_events.specs.declared.read.Read.{Read}
use Rattle.bdb_many.specs.Many.{act_next, after_from, events_in, replies_from, rest_reply}
use Rattle.bdb_multi.specs.Batches.{RanBatch, ran_at, ran_from, run_of}
use Rattle.bdb_multi.specs.Sessions.{act_after, acts_from}
use Rattle.bdb_multi.specs.declared.kinds.Act.{Act}
use Rattle.bdb_multi.specs.declared.kinds.Act.TheVariants.{Begun, Queued, Aborted, ErrBegun, ErrNotBegun, ErrBatch, One, Batch}
use Rattle.bdb_multi.specs.declared.kinds.Event.{Event}
use Rattle.bdb_session.specs.Outcome.{State}
use Rattle.bdb_crowd.specs.Asked.{Asked, Point, after, asked_by, commits_by, committed, next_point, piece, replies, reply_of, rest_asks, start_at}
use Rattle.bdb_crowd.specs.Due.{act_commits, session_batches}
use Rattle.bdb_crowd.specs.Laws.{StreamsComeTo, committed_of}

pub asks_of : (ps : List Piece) → map asked_by ps ≡ map piece (map read_of ps)
asks_of [] = refl
asks_of (p ∷ ps) = ap (λ l. piece (read_of p) ∷ l) (asks_of ps)

-- ---- what is told

told_from : (ps : List Piece) (p : Point) (more : List Asked) (tail : List (List ℕ)) → replies (after p (map asked_by ps)) more ≡ concat tail
    → replies p (map asked_by ps ++ more) ≡ concat (replies_from session_batches p.state p.before (map read_of ps) ++ tail)
told_from [] p more tail h = h
told_from (q ∷ ps) p more tail h = ap (λ l. reply_of p (asked_by q) ++ l) (told_from ps (next_point p (asked_by q)) more tail h)

rest_told : (p : Point) (holds : Bool) → replies p (rest_asks (rest_of holds)) ≡ concat (rest_reply holds ∷ [])
rest_told p true = refl
rest_told p false = refl

-- ---- where it leads

leads_from : (ps : List Piece) (p : Point) (more : List Asked) → (after p (map asked_by ps ++ more)).state ≡ (after (after p (map asked_by ps)) more).state
leads_from [] p more = refl
leads_from (q ∷ ps) p more = leads_from ps (next_point p (asked_by q)) more

pieces_lead : (ps : List Piece) (p : Point) → (after p (map asked_by ps)).state ≡ after_from session_batches p.state p.before (map read_of ps)
pieces_lead [] p = refl
pieces_lead (q ∷ ps) p = pieces_lead ps (next_point p (asked_by q))

rest_leads : (p : Point) (holds : Bool) → (after p (rest_asks (rest_of holds))).state ≡ p.state
rest_leads p true = refl
rest_leads p false = refl

-- ---- how often it commits

nothing_more : (n : ℕ) → 0 + n ≡ n
nothing_more n = omega arith

and_nothing : (n m : ℕ) → m ≡ 0 → n + m ≡ n
and_nothing n m e = omega (arith, e)

three : (k m n : ℕ) → k + (m + n) ≡ k + m + n
three k m n = omega arith

act_commits_as : (s : State) (a : Act) (place n : ℕ) (rest : List RanBatch)
    → act_commits session_batches s a + committed_of session_batches (act_next session_batches s a) rest ≡ committed_of session_batches s (ran_at place n (run_of a) ++ rest)
act_commits_as s Begun place n rest = nothing_more (committed_of session_batches s rest)
act_commits_as s Queued place n rest = nothing_more (committed_of session_batches s rest)
act_commits_as s Aborted place n rest = nothing_more (committed_of session_batches s rest)
act_commits_as s ErrBegun place n rest = nothing_more (committed_of session_batches s rest)
act_commits_as s ErrNotBegun place n rest = nothing_more (committed_of session_batches s rest)
act_commits_as s ErrBatch place n rest = nothing_more (committed_of session_batches s rest)
act_commits_as s (One c) place n rest = refl
act_commits_as s (Batch q) place n rest = refl

-- the commits of pieces, behind events
abbrev commits_from : State → List Event → List Read → ℕ
commits_from s before rs = committed (record { state = s; before = before }) (map piece rs)

no_event : (s : State) (before : List Event) (rs : List Read) → 0 + commits_from s (before ++ []) rs ≡ commits_from s before rs
no_event s before rs = nothing_more (commits_from s (before ++ []) rs) ∙ ap (λ es. commits_from s es rs) (append-nil before)

pieces_commit : (rs : List Read) (s : State) (place : ℕ) (before : List Event)
    → commits_from s before rs ≡ committed_of session_batches s (ran_from place (events_in rs) (acts_from before (events_in rs)))
pieces_commit [] s place before = refl
pieces_commit (Read.Nothing ∷ rs) s place before = no_event s before rs ∙ pieces_commit rs s place before
pieces_commit (Read.Long ∷ rs) s place before = no_event s before rs ∙ pieces_commit rs s place before
pieces_commit (Read.NoSession ∷ rs) s place before = no_event s before rs ∙ pieces_commit rs s place before
pieces_commit (Read.NoLine n ∷ rs) s place before = no_event s before rs ∙ pieces_commit rs s place before
pieces_commit (Read.Event e ∷ rs) s place before =
    let a = act_after before e in
    let rest = ran_from (suc place) (events_in rs) (acts_from (before ++ e ∷ []) (events_in rs)) in
    ap (λ n. act_commits session_batches s a + n) (pieces_commit rs (act_next session_batches s a) (suc place) (before ++ e ∷ []))
    ∙ act_commits_as s a place e.session rest

committed-append : (xs ys : List Asked) (p : Point) → committed p (xs ++ ys) ≡ committed p xs + committed (after p xs) ys
committed-append [] ys p = sym (nothing_more (committed p ys))
committed-append (x ∷ xs) ys p = ap (λ n. commits_by p x + n) (committed-append xs ys (next_point p x)) ∙ three (commits_by p x) (committed (next_point p x) xs) (committed (after (next_point p x) xs) ys)

rest_commits : (p : Point) (holds : Bool) → committed p (rest_asks (rest_of holds)) ≡ 0
rest_commits p true = refl
rest_commits p false = refl

pub streams_come_to : StreamsComeTo
streams_come_to s script =
    let p = start_at s in
    let ps = pieces_of script in
    let holds = has_rest script in
    let there = after p (map asked_by ps) in
    record {
      told = told_from ps p (rest_asks (rest_of holds)) (rest_reply holds ∷ []) (rest_told there holds);
      leads = leads_from ps p (rest_asks (rest_of holds)) ∙ rest_leads there holds ∙ pieces_lead ps p;
      commits = committed-append (map asked_by ps) (rest_asks (rest_of holds)) p
          ∙ and_nothing (committed p (map asked_by ps)) (committed there (rest_asks (rest_of holds))) (rest_commits there holds)
          ∙ ap (committed p) (asks_of ps) ∙ pieces_commit (map read_of ps) s 0 [];
    }
