-- How a run ends, by its status.
use Rattle.std.proofs.Common.{◌≡◌, ◌≢◌, ◌∙◌, ℕ, ◌-◌, ◌^◌, ◌<◌, ◌≤◌, ◌⊎◌, inl, inr, zero, suc, Bool, true, false, List, [], Option, Some, None, Result, Ok, Err, IfOk, IfSome, IsErrOf, OnOk, length, nat_eq, refl, ap, sym, subst, arith}
use Rattle.std.specs.Prelude.{if◌then◌else◌}
use Rattle.std.specs.Io.KnownBytes.{Appends}
use Rattle.std.proofs.lemmas.List.{append-nil}
use Rattle.std.proofs.lemmas.Result.{IfOk-at_ok}
use Rattle.std.proofs.KnownBytes.{Appends-nil}
use Rattle.bdb_base.specs.Bases.{Contents}
use Rattle.bdb_base.specs.Causes.{Rises}
use Rattle.bdb_base.specs.Limits.{longest_script}
use Rattle.bdb_catalog.specs.Bases.{StoresValid}
use Rattle.bdb_catalog.specs.Opening.{StandFor, StandForSome}
use Rattle.bdb_keep.specs.Seen.{Seen, IsStill, Unchanged}
use Rattle.bdb_keep.specs.Tables.{Tables}
use Rattle.bdb_session.specs.Known.{Known}
use Rattle.bdb_session.specs.Opening.{opening}
use Rattle.bdb_stream.specs.Handling.{Handling, IsInOrder, asked_of}
use Rattle.bdb_stream.specs.Reads.{Streams, WritesBy, status_of}
use Rattle.bdb_stream.specs.declared.error.RunError.{RunError}
use Rattle.bdb_stream.specs.declared.error.RunError.TheVariants.{Source, Sink, Keeper, Memory, Large}
use Rattle.bdb_top.specs.Checked.{IsUntouched}
use Rattle.bdb_top.specs.Ran.{EachBase, RanBy, StandsForNone}

-- ---- what a status tells of the result

-- the result of a run by its status
abbrev result_by : ℕ → Result Bool RunError
result_by n =
    if nat_eq n 0 then Ok true else (if nat_eq n 1 then Ok false else (if nat_eq n 3 then Err Source else (if nat_eq n 4 then Err Sink
    else (if nat_eq n 5 then Err Keeper else (if nat_eq n 6 then Err Memory else Err Large)))))

same_result : (r : Result Bool RunError) → result_by (status_of r) ≡ r
same_result (Ok true) = refl
same_result (Ok false) = refl
same_result (Err Source) = refl
same_result (Err Sink) = refl
same_result (Err Keeper) = refl
same_result (Err Memory) = refl
same_result (Err Large) = refl

-- a status is that of one result
one_result : (r s : Result Bool RunError) → status_of r ≡ status_of s → r ≡ s
one_result r s e = sym (same_result r) ∙ ap result_by e ∙ same_result s

-- the status of a run that was begun
pub run_status : (n : ℕ) (r : Result Bool RunError) → n ≡ status_of r → (n ≤ 8) × (n ≢ 2) × (n ≢ 7)
run_status n (Ok true) is = (omega arith, (λ e. omega arith), (λ e. omega arith))
run_status n (Ok false) is = (omega arith, (λ e. omega arith), (λ e. omega arith))
run_status n (Err Source) is = (omega arith, (λ e. omega arith), (λ e. omega arith))
run_status n (Err Sink) is = (omega arith, (λ e. omega arith), (λ e. omega arith))
run_status n (Err Keeper) is = (omega arith, (λ e. omega arith), (λ e. omega arith))
run_status n (Err Memory) is = (omega arith, (λ e. omega arith), (λ e. omega arith))
run_status n (Err Large) is = (omega arith, (λ e. omega arith), (λ e. omega arith))

pub not_seven : (n : ℕ) (r : Result Bool RunError) → n ≡ status_of r → n ≡ 7 → ⊥
not_seven n r is = (run_status n r is).2

-- 0 and 1 come of an Ok alone
pub low_is_ok : {X : Type 0} (n : ℕ) (r : Result Bool RunError) → n ≡ status_of r → n ≤ 1 → OnOk r X → X
low_is_ok n (Ok accepted) is low h = h
low_is_ok n (Err Source) is low h = absurd (omega arith)
low_is_ok n (Err Sink) is low h = absurd (omega arith)
low_is_ok n (Err Keeper) is low h = absurd (omega arith)
low_is_ok n (Err Memory) is low h = absurd (omega arith)
low_is_ok n (Err Large) is low h = absurd (omega arith)

-- and 8 of a script that is too large
large_by : (n : ℕ) (r : Result Bool RunError) → n ≡ status_of r → n ≡ 8 → r ≡ Err Large
large_by n r is e = one_result r (Err Large) (sym is ∙ e)

-- but for 4 the replies are written whole
whole_replies : {H : Type 0} (m : Handling H) (p : m.Point) (done : List m.Asked) (old new : Option (List ℕ)) (r : Result Bool RunError)
    → WritesBy m r p done old new → status_of r ≢ 4 → Appends old new (m.replies p done)
whole_replies m p done old new (Ok fine) w other = w
whole_replies m p done old new (Err Source) w other = w
whole_replies m p done old new (Err Sink) w other = absurd (other refl)
whole_replies m p done old new (Err Keeper) w other = w
whole_replies m p done old new (Err Memory) w other = w
whole_replies m p done old new (Err Large) w other = w

-- an Ok comes through all that is asked for, and tells whether all of it is fine
told_fine : {H : Type 0} (m : Handling H) (p : m.Point) (done asked : List m.Asked) (fine : Bool) (r : Result Bool RunError)
    → r ≡ Ok fine → OnOk r (done ≡ asked) → IfOk r (λ b. b ≡ m.all_fine p done) → m.all_fine p asked ≡ fine
told_fine m p done asked fine r is all told =
    sym (IfOk-at_ok (λ b. b ≡ m.all_fine p done) is told ∙ ap (m.all_fine p) (IfOk-at_ok (λ _. done ≡ asked) is all))

-- the commits of events, behind that of opening
commits_on : (k n a m z : ℕ) → Rises n a m → Rises k m z → z < 2 ^ 64 - 1 → k ≡ z - a - n
commits_on k n a m z h i below =
    let last = i below in
    let first = h (omega arith) in
    omega arith

-- A run from a point by a handler: it handles several things one after the other, and where its session agrees with tables on a
-- point, they store the base of that point.
module _ {H : Type 0} (m : Handling H) (o : IsInOrder m) (base_at : m.Point → Contents)
    (agreed : (t : Tables) (k : Known) (p : m.Point) → m.Agrees t k p → StoresValid t (base_at p)) where
  -- nothing is written of nothing that is done
  nothing_written : (p : m.Point) (old : Option (List ℕ)) → Appends old old (m.replies p [])
  nothing_written p old = subst (λ (l : List ℕ). Appends old old l) (sym (o.no_reply p)) (Appends-nil old)

  -- a run whose keeper was not opened
  closed : (p : m.Point) (text : List ℕ) (first now : Seen) (old : Option (List ℕ)) (status : ℕ)
      → StandFor first.kept (base_at p) → IsStill now → Unchanged first now → (status ≡ 5) ⊎ (status ≡ 6)
      → RanBy m base_at p text (Some text) first now old old status
  closed p text first now old status stands still same is =
      let above : 4 < status = elim is [ inl e ↦ omega arith | inr e ↦ omega arith ] in
      let below : status < 8 = elim is [ inl e ↦ omega arith | inr e ↦ omega arith ] in
      record {
        done = [];
        front = (asked_of m text, refl);
        stands = subst (λ (q : m.Point). StandFor now.last (base_at q)) (sym (o.stays p))
            (subst (λ (t : Tables). StandFor t (base_at p)) (sym same.kept ∙ still.rest) stands);
        stores = λ not_five not_six. absurd (elim is [ inl e ↦ not_five e | inr e ↦ not_six e ]);
        committed = λ more. absurd (more same.commits);
        commits = λ _. o.no_commit p ∙ none now.commits first.commits (opening first.kept) same.commits;
        written = λ _. nothing_written p old;
        part = λ e. absurd (omega arith);
        all = λ low. absurd (omega arith);
        fine = λ e. absurd (omega arith);
        refused = λ e. absurd (omega arith);
        keeps_up = record {
          taken = [];
          consumed = refl;
          caught = record {
            first = ([], refl);
            replied = ([], subst (λ (l : List ℕ). Appends old old l) (sym (append-nil (m.replies p []))) (nothing_written p old));
          };
          source = λ e. absurd (omega arith);
          large = λ e. absurd (omega arith);
        };
      }
    where
      none : (a m n : ℕ) → a ≡ m → 0 ≡ a - m - n
      none a m n e = omega arith

  -- a run over an opened keeper
  ran_from : (p : m.Point) (text : List ℕ) (left : Option (List ℕ)) (session : Known) (first mid now : Seen) (old new : Option (List ℕ))
      (result : Result Bool RunError) → Rises (opening first.kept) first.commits mid.commits → IsStill now
      → Streams m p (Some text) left session mid now old new result → RanBy m base_at p text left first now old new (status_of result)
  ran_from p text left session first mid now old new result opened still run =
      let end = m.after p run.done in
      let stores = subst (λ (t : Tables). StoresValid t (base_at end)) still.rest (agreed now.kept session end run.carried.agrees) in
      record {
        done = run.done;
        front = run.front;
        stands = inl stores;
        stores = λ _ _. stores;
        committed = λ _. stores;
        commits = commits_on (m.committed p run.done) (opening first.kept) first.commits mid.commits now.commits opened run.carried.commits;
        written = whole_replies m p run.done old new result run.written;
        part = λ e. subst (λ r. WritesBy m r p run.done old new) (one_result result (Err Sink) e) run.written;
        all = λ low. low_is_ok (status_of result) result refl low run.all;
        fine = λ e. told_fine m p run.done (asked_of m text) true result (one_result result (Ok true) e) run.all run.fine;
        refused = λ e. told_fine m p run.done (asked_of m text) false result (one_result result (Ok false) e) run.all run.fine;
        keeps_up = run.keeps_up;
      }

  -- ---- for each base, from the point at which a run over it starts

  module _ (start : Contents → m.Point) (over : (b : Contents) → base_at (start b) ≡ b) where
    -- a run whose keeper was not opened
    pub each_closed : (before : Option (List ℕ)) (first now : Seen) (old : Option (List ℕ)) (status : ℕ) → IsStill now → Unchanged first now → (status ≡ 5) ⊎ (status ≡ 6)
        → IfSome before (λ text. EachBase first.kept (λ b. RanBy m base_at (start b) text before first now old old status))
    each_closed None first now old status still same is = tt
    each_closed (Some text) first now old status still same is = λ b stands.
        closed (start b) text first now old status (subst (StandFor first.kept) (sym (over b)) stands) still same is

    -- a run over what the source gives, by what its status is
    pub each_run : (before left : Option (List ℕ)) (session : Known) (first mid now : Seen) (old new : Option (List ℕ)) (result : Result Bool RunError) (status : ℕ)
        → status ≡ status_of result → Rises (opening first.kept) first.commits mid.commits → IsStill now
        → ((b : Contents) → StandFor first.kept b → Streams m (start b) before left session mid now old new result)
        → IfSome before (λ text. EachBase first.kept (λ b. RanBy m base_at (start b) text left first now old new status))
    each_run None left session first mid now old new result status is opened still run = tt
    each_run (Some text) left session first mid now old new result status is opened still run = λ b stands.
        subst (λ (n : ℕ). RanBy m base_at (start b) text left first now old new n) (sym is)
        (ran_from (start b) text left session first mid now old new result opened still (run b stands))

-- ---- where the tables stand for no base

-- there is nothing to tell of a run
pub each_refused : (P : List ℕ → Contents → Type 0) (before : Option (List ℕ)) (t : Tables) → StandsForNone t → IfSome before (λ text. EachBase t (P text))
each_refused P None t none = tt
each_refused P (Some text) t none = λ b stands. absurd (none b stands)

-- tables that stand for some base don't
pub stands_after_all : {X : Type 0} {t : Tables} → StandForSome t → StandsForNone t → X
stands_after_all some none = absurd (none some.base some.stand)

-- a keeper that is as it was, and to which nothing was written where they do, is untouched there
pub untouched_there : {X : Type 0} {old new : Seen} → Unchanged old new → (X → new.writes ≡ old.writes) → X → IsUntouched old new
untouched_there same unwritten there = record { unchanged = same; unwritten = unwritten there }

-- ---- how it ends, by the status

too_long : {n : ℕ} → longest_script < n → n ≤ longest_script → ⊥
too_long h k = omega (arith, h, k)

-- what holds where a run was stopped by a script that is too large, and what where it wasn't, by its status
pub but_for_large : {X : Type 0} (n : ℕ) (r : Result Bool RunError) → n ≡ status_of r → ((IsErrOf r Large → ⊥) → X) → n ≢ 8 → X
but_for_large n r is h low = h (λ e. low (is ∙ ap status_of e))

pub of_large : {X : Type 0} (n : ℕ) (r : Result Bool RunError) → n ≡ status_of r → (IsErrOf r Large → X) → n ≡ 8 → X
of_large n r is h e = h (large_by n r is e)

-- a run over a base and a script that fit, with no fault, comes to its end, or its memory runs out
pub finishes_by : (n : ℕ) (before : Option (List ℕ)) (text : List ℕ) → n ≤ 8 → n ≢ 2 → n ≢ 3 → n ≢ 4 → n ≢ 5 → n ≢ 7
    → (n ≡ 8 → IfSome before (λ t. longest_script < length t)) → before ≡ Some text → length text ≤ longest_script → (n ≤ 1) ⊎ (n ≡ 6)
finishes_by zero before text few a b c d e many is short = inl (omega arith)
finishes_by (suc zero) before text few a b c d e many is short = inl (omega arith)
finishes_by (suc (suc zero)) before text few a b c d e many is short = absurd (a refl)
finishes_by (suc (suc (suc zero))) before text few a b c d e many is short = absurd (b refl)
finishes_by (suc (suc (suc (suc zero)))) before text few a b c d e many is short = absurd (c refl)
finishes_by (suc (suc (suc (suc (suc zero))))) before text few a b c d e many is short = absurd (d refl)
finishes_by (suc (suc (suc (suc (suc (suc zero)))))) before text few a b c d e many is short = inr refl
finishes_by (suc (suc (suc (suc (suc (suc (suc zero))))))) before text few a b c d e many is short = absurd (e refl)
finishes_by (suc (suc (suc (suc (suc (suc (suc (suc zero)))))))) before text few a b c d e many is short = absurd (too_long (subst (λ (o : Option (List ℕ)). IfSome o (λ t. longest_script < length t)) is (many refl)) short)
finishes_by (suc (suc (suc (suc (suc (suc (suc (suc (suc n))))))))) before text few a b c d e many is short = absurd (omega (arith, few))

pub many_if : (n : ℕ) (r : Result Bool RunError) (before : Option (List ℕ)) → n ≡ status_of r → (IsErrOf r Large → IfSome before (λ text. longest_script < length text))
    → n ≡ 8 → IfSome before (λ text. longest_script < length text)
many_if n r before is many = of_large n r is many
