use Rattle.std.proofs.Common.{◌∙◌, ap, rules}
use Rattle.bdb_undo.specs.Histories.{noted}
use Rattle.bdb_undo.proofs.HistoryLemmas.{noted_of}
use Rattle.bdb_undo.proofs.history.History.note.Goals as goal

pub returns : goal.returns
returns c =
    noted_of c.self.inside.changes.items c.self.inside.done c.args.change c.self.inside.changes.capacity c.push_back-oldest.new.self.items c.len-self-inside.result
    c.self.invariant.room (search rules) c.len-self-inside.ensures.len
    ∙ ap (noted c.args.change) c.self.view_is
