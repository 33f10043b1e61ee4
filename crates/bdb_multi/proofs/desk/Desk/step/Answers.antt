use Rattle.std.proofs.Common.{◌≡◌, ◌∙◌, get_or}
use Rattle.std.proofs.lemmas.Result.{IfOk-weaker, on_ok_weaker}
use Rattle.bdb_multi.specs.Sessions.{act_after}
use Rattle.bdb_multi.specs.Slots.{slot_act}
use Rattle.bdb_multi.proofs.DeskLemmas.{act_at, stands_at}
use Rattle.bdb_multi.proofs.desk.Desk.step.Goals as goal

pub returns-clause-act : goal.returns-clause-act
returns-clause-act c = λ es stands. IfOk-weaker c.step_slot.result
    (λ act. act ≡ slot_act (get_or c.self.inside.slots c.args.session c.index-self-session.result) c.args.line)
    (λ act. act ≡ act_after es (record { session = c.args.session; line = c.args.line }))
    (λ act is. is ∙ act_at c.self.inside.slots c.args.self.now es c.args.session c.args.line c.index-self-session.result
    c.requires c.self.invariant c.self.view_is stands)
    c.step_slot.ensures.act

pub returns-clause-stands : goal.returns-clause-stands
returns-clause-stands c = on_ok_weaker c.step_slot.result
    (λ after es stands. stands_at c.self.inside.slots c.args.self.now es c.args.session c.args.line c.index-self-session.result _
    c.requires c.self.invariant c.self.view_is stands after)
    c.step_slot.ensures.after
