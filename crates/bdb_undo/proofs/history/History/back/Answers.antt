use Rattle.std.proofs.Common.{◌∙◌, ◌<◌, ap, sym, subst, length}
use Rattle.bdb_undo.specs.Histories.{Kept, stepped_back}
use Rattle.bdb_undo.proofs.HistoryLemmas.{back_of}
use Rattle.bdb_undo.proofs.history.History.back.Goals as goal

pub returns : goal.returns
returns c =
    back_of c.self.inside.changes.items c.self.inside.done c.self.invariant.within (subst (λ (h : Kept). 0 < length h.undos) (sym c.self.view_is) c.requires)
    ∙ ap stepped_back c.self.view_is
