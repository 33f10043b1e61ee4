use Rattle.std.proofs.Common.{◌∙◌, sym, ap, refl}
use Rattle.bdb_memory.specs.Entries.{rows_of}
use Rattle.bdb_memory.proofs.WithinLemmas.{same_within, within_itself}
use Rattle.bdb_memory.proofs.store.Store.same_rows.Goals as goal

pub returns-then-lies_within : goal.returns-then-lies_within
returns-then-lies_within c = (
  λ t. ap (λ h. h.kept) (sym c.self.view_is)
      ∙ same_within (rows_of c.self.inside.rows) (rows_of c.other.inside.rows) (c.if-lies_within.ensures.0 refl) (c.lies_within-then-lies_within.ensures.0 t)
      ∙ ap (λ h. h.kept) c.other.view_is,
  λ e. c.lies_within-then-lies_within.ensures.1
      (within_itself (rows_of c.self.inside.rows) (rows_of c.other.inside.rows) (ap (λ h. h.kept) c.self.view_is ∙ e ∙ ap (λ h. h.kept) (sym c.other.view_is))).1,
)
