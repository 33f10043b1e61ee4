use Rattle.std.proofs.Common.{◌∙◌}
use Rattle.bdb_exec.proofs.LookingLemmas.{user_more, no_user_more}
use Rattle.bdb_exec.proofs.looking.users_of.Goals as goal

pub loop-entry-preserved-in_ok-push-in-Live : goal.loop-entry-preserved-in_ok-push-in-Live
loop-entry-preserved-in_ok-push-in-Live c =
    c.in_ok-push-in-Live.ensures.ok
    ∙ user_more c.loop-entry.users c.loop-entry.yielded c.in-Some.entry c.in-Live.name c.in_ok-new-in-Live.field-0 c.loop-entry.invariant c.in-Live.is (c.in_ok-new-in-Live.ensures ∙ c.in_ok-tuple-in-Live.ensures)

pub loop-entry-preserved : goal.loop-entry-preserved
loop-entry-preserved c = no_user_more c.loop-entry.users c.loop-entry.yielded c.in-Some.entry c.loop-entry.invariant c.in-Gone.is
