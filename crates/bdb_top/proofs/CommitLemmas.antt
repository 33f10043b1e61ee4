-- What the batches that are committed tell of a run over a stream of sessions.
use Rattle.std.proofs.Common.{◌∙◌, ℕ, ◌-◌, nat_eq, List, ◌++◌, take, Option, Some, None, IfSome, inl, inr, ap, sym, subst}
use Rattle.std.proofs.lemmas.Bool.{cases_Bool}
use Rattle.bdb_catalog.specs.Opening.{StandFor}
use Rattle.bdb_crowd.specs.Asked.{after, asked_of, committed, replies, reply_of, start_at}
use Rattle.bdb_crowd.specs.Carried.{by_crowd, crowd_in_order}
use Rattle.bdb_crowd.specs.Counted.{before_commit, up_to_commit}
use Rattle.bdb_crowd.proofs.CountLemmas.{commits_tell_the_state, first_batches_lead}
use Rattle.bdb_stream.proofs.CommitLemmas.{before_part, before_whole, replies-push, replies_begin}
use Rattle.bdb_keep.specs.Seen.{Seen}
use Rattle.bdb_session.specs.Outcome.{State, start_from}
use Rattle.bdb_top.specs.ByCommits.{CommitsTellMany, EndsByCommits, IsWrittenBy}
use Rattle.bdb_top.specs.ByCount.{BeginsWith}
use Rattle.bdb_top.specs.Ran.{EachBase}
use Rattle.bdb_top.specs.RanMany.{RanMany}
use Rattle.bdb_top.proofs.CountLemmas.{begins_more, begins_on, is_four, not_four, part_begins}

-- what was written, by what is done
written_by : (s : State) (script : List ℕ) (left : Option (List ℕ)) (first now : Seen) (old new : Option (List ℕ)) (status : ℕ) (ran : RanMany s script left first now old new status)
    → IsWrittenBy (start_at s) (asked_of script) old new status (committed (start_at s) ran.done)
written_by s script left first now old new status ran =
    let p = start_at s in
    let asked = asked_of script in
    let done = ran.done in
    let k = committed p done in
    let is = commits_tell_the_state p asked done ran.front in
    let more = (replies_begin by_crowd crowd_in_order) p done (before_commit k p asked) is.no_more in
    elim (cases_Bool (nat_eq status 4)) [
      | inl t ↦
          let w = ran.part (is_four status t) in
          let reply = reply_of (after p w.front) w.last in
          let all = subst (λ (l : List ℕ). BeginsWith l (replies p w.front ++ take w.part reply)) (sym (ap (replies p) w.is ∙ (replies-push by_crowd crowd_in_order) p w.front w.last)) (part_begins (replies p w.front) reply w.part) in
          record {
            text = replies p w.front ++ take w.part reply;
            written = w.written;
            no_more = begins_on (replies p (before_commit k p asked)) (replies p done) (replies p w.front ++ take w.part reply) more all;
            before = λ some. begins_more (replies p w.front) (take w.part reply) (replies p (before_commit (k - 1) p asked))
                ((replies_begin by_crowd crowd_in_order) p (before_commit (k - 1) p asked) w.front ((before_part by_crowd crowd_in_order) p asked done w.front w.last w.is ran.front some));
            whole = λ other. absurd (other (is_four status t));
          }
      | inr f ↦ record {
        text = replies p done;
        written = ran.written (not_four status f);
        no_more = more;
        before = λ some. (replies_begin by_crowd crowd_in_order) p (before_commit (k - 1) p asked) done ((before_whole by_crowd crowd_in_order) p asked done ran.front some);
        whole = λ _. (replies_begin by_crowd crowd_in_order) p (up_to_commit k p asked) done is.all_of;
      }
    ]

by_done : (s : State) (script : List ℕ) (left : Option (List ℕ)) (first now : Seen) (old new : Option (List ℕ)) (status : ℕ) (ran : RanMany s script left first now old new status)
    → EndsByCommits s script now old new status (committed (start_at s) ran.done)
by_done s script left first now old new status ran =
    let p = start_at s in
    record {
      stands = subst (λ (x : State). StandFor now.last x.base)
          ((commits_tell_the_state p (asked_of script) ran.done ran.front).state ∙ first_batches_lead (committed p ran.done) s script) ran.stands;
      replied = written_by s script left first now old new status ran;
    }

commits_tell : (s : State) (script : List ℕ) (left : Option (List ℕ)) (first now : Seen) (old new : Option (List ℕ)) (status : ℕ) → RanMany s script left first now old new status → CommitsTellMany s script first now old new status
commits_tell s script left first now old new status ran below =
    subst (λ (k : ℕ). EndsByCommits s script now old new status k) (ran.commits below) (by_done s script left first now old new status ran)

-- the same for each base and stream
pub each_by_commits : (before left : Option (List ℕ)) (first now : Seen) (old new : Option (List ℕ)) (status : ℕ)
    → IfSome before (λ text. EachBase first.kept (λ b. RanMany (start_from b) text left first now old new status))
    → IfSome before (λ text. EachBase first.kept (λ b. CommitsTellMany (start_from b) text first now old new status))
each_by_commits None left first now old new status h = tt
each_by_commits (Some text) left first now old new status h = λ b stands. commits_tell (start_from b) text left first now old new status (h b stands)
