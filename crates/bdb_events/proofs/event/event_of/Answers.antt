use Rattle.std.proofs.Common.{◌∙◌, ap}
use Rattle.bdb_events.specs.Pieces.{read_behind}
use Rattle.bdb_events.proofs.ReadLemmas.{names_session}
use Rattle.bdb_events.proofs.event.event_of.Goals as goal

pub returns-in_ok-read-in-Cmd-clause-session : goal.returns-in_ok-read-in-Cmd-clause-session
returns-in_ok-read-in-Cmd-clause-session c =
    names_session c.as_slice.result.now c.in_ok-read-in-Cmd.read (c.in_ok-read-in-Cmd.ensures ∙ ap read_behind c.behind_gaps.ensures.rest)
