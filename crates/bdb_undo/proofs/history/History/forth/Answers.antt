use Rattle.std.proofs.Common.{◌∙◌, ◌<◌, ap, sym, subst, length}
use Rattle.bdb_undo.specs.Histories.{Kept, stepped_forth}
use Rattle.bdb_undo.proofs.HistoryLemmas.{forth_of}
use Rattle.bdb_undo.proofs.history.History.forth.Goals as goal

pub returns : goal.returns
returns c =
    forth_of c.self.inside.changes.items c.self.inside.done (subst (λ (h : Kept). 0 < length h.redos) (sym c.self.view_is) c.requires)
    ∙ ap stepped_forth c.self.view_is
