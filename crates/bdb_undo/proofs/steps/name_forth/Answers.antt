use Rattle.bdb_undo.proofs.ChangeLemmas.{he_leaves}
use Rattle.bdb_undo.proofs.steps.name_forth.Goals as goal

pub returns-in-UserDropped : goal.returns-in-UserDropped
returns-in-UserDropped c = he_leaves c.args.named.now c.args.base.now c.drop_user-count.new.self _ _ c.in-UserDropped.is c.requires.can c.requires.valid c.drop_user-count.ensures.left
