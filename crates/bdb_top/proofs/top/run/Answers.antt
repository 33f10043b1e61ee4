use Rattle.bdb_top.proofs.CommitLemmas.{each_by_commits}
use Rattle.bdb_top.proofs.CountLemmas.{each_by_count}
use Rattle.bdb_top.proofs.ErrorLemmas.{each_tells_errors, each_tells_refusals}
use Rattle.bdb_top.proofs.RanLemmas.{finishes_by}
use Rattle.bdb_top.proofs.WordLemmas.{many_alone, runs_alone, streams_alone}
use Rattle.bdb_top.proofs.top.run.Goals as goal

pub returns-in-Some-clause-by_count : goal.returns-in-Some-clause-by_count
returns-in-Some-clause-by_count g c = λ _. each_by_count _ _ _ _ _ _ _ c.run_script.ensures.ran

pub returns-in-Some-clause-finishes : goal.returns-in-Some-clause-finishes
returns-in-Some-clause-finishes g c = λ text asked stand told short source sink keeper.
    let h = c.run_script.ensures in
    finishes_by _ _ text h.statuses h.worded (λ e. source (h.source e)) (λ e. sink (h.sink e)) (λ e. keeper (h.keeper e)) (λ e. h.refused e stand.base stand.stand) h.many told short

pub returns-in-Some-clause-checked : goal.returns-in-Some-clause-checked
returns-in-Some-clause-checked g c = λ asked. absurd (asked (runs_alone c.args.words.now _ c.in-Some.ensures))

pub returns-in-Some-clause-checked_source : goal.returns-in-Some-clause-checked_source
returns-in-Some-clause-checked_source g c = λ asked. absurd (asked (runs_alone c.args.words.now _ c.in-Some.ensures))

pub returns-in-Some-clause-checked_keeper : goal.returns-in-Some-clause-checked_keeper
returns-in-Some-clause-checked_keeper g c = λ asked. absurd (asked (runs_alone c.args.words.now _ c.in-Some.ensures))

pub returns-in-Some-clause-checked_still : goal.returns-in-Some-clause-checked_still
returns-in-Some-clause-checked_still g c = λ asked. absurd (asked (runs_alone c.args.words.now _ c.in-Some.ensures))

pub returns-in-Some-clause-headline_many : goal.returns-in-Some-clause-headline_many
returns-in-Some-clause-headline_many g c = λ asked. absurd (asked (many_alone c.args.words.now _ c.in-Some.ensures))

pub returns-in-Some-clause-by_commits : goal.returns-in-Some-clause-by_commits
returns-in-Some-clause-by_commits g c = λ asked. absurd (asked (many_alone c.args.words.now _ c.in-Some.ensures))

pub returns-in-Some-clause-refused_many : goal.returns-in-Some-clause-refused_many
returns-in-Some-clause-refused_many g c = λ asked. absurd (asked (many_alone c.args.words.now _ c.in-Some.ensures))

pub returns-in-Some-clause-none_many : goal.returns-in-Some-clause-none_many
returns-in-Some-clause-none_many g c = λ asked. absurd (asked (many_alone c.args.words.now _ c.in-Some.ensures))

pub returns-in-Some-clause-silent_source_many : goal.returns-in-Some-clause-silent_source_many
returns-in-Some-clause-silent_source_many g c = λ asked. absurd (asked (many_alone c.args.words.now _ c.in-Some.ensures))

pub returns-in-Some-clause-silent_sink_many : goal.returns-in-Some-clause-silent_sink_many
returns-in-Some-clause-silent_sink_many g c = λ asked. absurd (asked (many_alone c.args.words.now _ c.in-Some.ensures))

pub returns-in-Some-clause-silent_keeper_many : goal.returns-in-Some-clause-silent_keeper_many
returns-in-Some-clause-silent_keeper_many g c = λ asked. absurd (asked (many_alone c.args.words.now _ c.in-Some.ensures))

pub returns-in-Some-clause-still_many : goal.returns-in-Some-clause-still_many
returns-in-Some-clause-still_many g c = λ asked. absurd (asked (many_alone c.args.words.now _ c.in-Some.ensures))

pub returns-in-Some-clause-ended_many : goal.returns-in-Some-clause-ended_many
returns-in-Some-clause-ended_many g c = λ asked. absurd (asked (many_alone c.args.words.now _ c.in-Some.ensures))

pub returns-in-Some-clause-short_many : goal.returns-in-Some-clause-short_many
returns-in-Some-clause-short_many g c = λ asked. absurd (asked (many_alone c.args.words.now _ c.in-Some.ensures))

pub returns-in-Some-clause-finishes_many : goal.returns-in-Some-clause-finishes_many
returns-in-Some-clause-finishes_many g c = λ text asked. absurd (asked (many_alone c.args.words.now _ c.in-Some.ensures))

pub returns-in-Some-many_files-clause-checked : goal.returns-in-Some-many_files-clause-checked
returns-in-Some-many_files-clause-checked g c = λ asked. absurd (asked (streams_alone c.args.words.now _ c.in-Some-many_files.ensures))

pub returns-in-Some-many_files-clause-checked_source : goal.returns-in-Some-many_files-clause-checked_source
returns-in-Some-many_files-clause-checked_source g c = λ asked. absurd (asked (streams_alone c.args.words.now _ c.in-Some-many_files.ensures))

pub returns-in-Some-many_files-clause-checked_keeper : goal.returns-in-Some-many_files-clause-checked_keeper
returns-in-Some-many_files-clause-checked_keeper g c = λ asked. absurd (asked (streams_alone c.args.words.now _ c.in-Some-many_files.ensures))

pub returns-in-Some-many_files-clause-checked_still : goal.returns-in-Some-many_files-clause-checked_still
returns-in-Some-many_files-clause-checked_still g c = λ asked. absurd (asked (streams_alone c.args.words.now _ c.in-Some-many_files.ensures))

pub returns-in-Some-many_files-clause-by_commits : goal.returns-in-Some-many_files-clause-by_commits
returns-in-Some-many_files-clause-by_commits g c = λ _. each_by_commits _ _ _ _ _ _ _ c.run_stream.ensures.ran

pub returns-in-Some-many_files-clause-finishes_many : goal.returns-in-Some-many_files-clause-finishes_many
returns-in-Some-many_files-clause-finishes_many g c = λ text asked stand told short source sink keeper.
    let h = c.run_stream.ensures in
    finishes_by _ _ text h.statuses h.worded (λ e. source (h.source e)) (λ e. sink (h.sink e)) (λ e. keeper (h.keeper e)) (λ e. h.refused e stand.base stand.stand) h.many told short

pub returns-in-Some-clause-errors_many : goal.returns-in-Some-clause-errors_many
returns-in-Some-clause-errors_many g c = λ asked. absurd (asked (many_alone c.args.words.now _ c.in-Some.ensures))

pub returns-in-Some-many_files-clause-errors_many : goal.returns-in-Some-many_files-clause-errors_many
returns-in-Some-many_files-clause-errors_many g c = λ _. each_tells_errors _ _ _ _ _ _ _ c.run_stream.ensures.ran

pub returns-in-Some-clause-errors : goal.returns-in-Some-clause-errors
returns-in-Some-clause-errors g c = λ _. each_tells_refusals _ _ _ _ _ _ _ c.run_script.ensures.ran
