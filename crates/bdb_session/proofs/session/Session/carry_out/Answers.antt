use Rattle.std.proofs.Common.{◌≡◌, ◌∙◌, None, ap, refl, sym}
use Rattle.std.specs.Prelude.{is_none}
use Rattle.std.proofs.lemmas.Bool.{false≢true}
use Rattle.bdb_bind.specs.Binding.{bound_of}
use Rattle.bdb_bind.specs.Refusal.{refusal_of}
use Rattle.bdb_session.specs.Known.{Known, Agrees}
use Rattle.bdb_session.specs.Machine.{bound_outcome, command_outcome}
use Rattle.bdb_session.specs.Outcome.{State, Refused}
use Rattle.bdb_session.proofs.BindLemmas.{accepts_so, binds_fitting, binds_outcome, binds_so, refuses_outcome}
use Rattle.bdb_session.proofs.BoundLemmas.{reads_as, writes_as, not_bound, told_unwritten, nothing_unwritten}
use Rattle.bdb_session.proofs.FollowLemmas.{moves_as, refused_moves}
use Rattle.bdb_session.proofs.ServedLemmas.{refused_serves}
use Rattle.bdb_session.proofs.session.Session.carry_out.Given.{Over}
use Rattle.bdb_session.proofs.session.Session.carry_out.Goals as goal
use Rattle.bdb_session.proofs.session.Session.carry_out.Goals.{In-Ok, In-Some}

-- the session holds the catalog that it knows, and binds by it
accepted : (g : Over) (c : In-Ok g) → refusal_of c.args.self.now.catalog c.args.command ≡ None
accepted g c = accepts_so c.args.self.now _ (ap (λ (k : Known). k.catalog) c.self.view_is) c.args.command c.in-Ok.ensures.accepted

bound : (g : Over) (c : In-Ok g) → c.in-Ok.bound ≡ bound_of c.args.self.now.catalog c.args.command
bound g c = binds_so c.args.self.now _ (ap (λ (k : Known). k.catalog) c.self.view_is) c.args.command c.in-Ok.bound c.in-Ok.ensures.bound

-- what is refused as it is bound is refused as a command
refused : (g : Over) (c : In-Some g) (s : State) → Agrees (g.K.Keeper.seen c.args.keeper.now).kept c.args.self.now s → command_outcome s c.args.command ≡ Refused c.in-Some.refusal
refused g c =
    refuses_outcome c.args.self.now _ (ap (λ (k : Known). k.catalog) c.self.view_is) c.args.command _ c.in-Err.error c.in-Some.refusal c.in-Some.ensures c.in-Err.ensures.refused

-- and no command is bound that is refused
unbound : (g : Over) (c : In-Some g) → refusal_of c.args.self.now.catalog c.args.command ≡ None → ⊥
unbound g c fine =
    not_bound _ c.in-Err.error c.in-Some.refusal c.in-Some.ensures c.in-Err.ensures.refused (ap (λ (k : Known). refusal_of k.catalog c.args.command) c.self.view_is ∙ fine)

pub execute-requires-clause-fits : goal.execute-requires-clause-fits
execute-requires-clause-fits g c =
    binds_fitting c.args.self.now _ (ap (λ (k : Known). k.catalog) c.self.view_is) c.args.command _ c.in-Ok.bound c.requires.agrees c.requires.allowed
    c.in-Ok.ensures.accepted c.in-Ok.ensures.bound

pub returns-in-Some-clause-served : goal.returns-in-Some-clause-served
returns-in-Some-clause-served g c =
    refused_serves (λ s. command_outcome s c.args.command) c.in-Some.refusal c.args.self.now _ c.refuse.result (refused g (goal.at.returns-in-Some-clause-served g c).In-Some)
    c.requires.still c.refuse.ensures

pub returns-in-Ok-clause-remembers : goal.returns-in-Ok-clause-remembers
returns-in-Ok-clause-remembers g c =
    moves_as (λ s. command_outcome s c.args.command) (λ s. bound_outcome s c.in-Ok.bound) c.args.self.now c.execute.new.self (g.K.Keeper.seen c.args.keeper.now)
    (g.K.Keeper.seen c.execute.new.keeper) c.execute.result
    (binds_outcome c.args.self.now _ (ap (λ (k : Known). k.catalog) c.self.view_is) c.args.command _ c.in-Ok.bound c.in-Ok.ensures.accepted
    c.in-Ok.ensures.bound) c.execute.ensures.remembers

pub returns-in-Some-clause-remembers : goal.returns-in-Some-clause-remembers
returns-in-Some-clause-remembers g c =
    let old = g.K.Keeper.seen c.args.keeper.now in
    refused_moves (λ s. command_outcome s c.args.command) c.in-Some.refusal c.args.self.now old old c.refuse.result refl (refused g (goal.at.returns-in-Some-clause-remembers g c).In-Some)

pub returns-in-Ok-clause-reads : goal.returns-in-Ok-clause-reads
returns-in-Ok-clause-reads g c = λ fine. reads_as _ _ _ _ _ _ (sym (bound g (goal.at.returns-in-Ok-clause-reads g c).In-Ok)) c.execute.ensures.reads

pub returns-in-Some-clause-reads : goal.returns-in-Some-clause-reads
returns-in-Some-clause-reads g c = λ fine. absurd (unbound g (goal.at.returns-in-Some-clause-reads g c).In-Some fine)

pub returns-in-Ok-clause-writes : goal.returns-in-Ok-clause-writes
returns-in-Ok-clause-writes g c = λ fine. writes_as _ _ _ _ _ _ (sym (bound g (goal.at.returns-in-Ok-clause-writes g c).In-Ok)) c.execute.ensures.writes

pub returns-in-Some-clause-writes : goal.returns-in-Some-clause-writes
returns-in-Some-clause-writes g c = λ fine. absurd (unbound g (goal.at.returns-in-Some-clause-writes g c).In-Some fine)

pub returns-in-Ok-clause-unwritten : goal.returns-in-Ok-clause-unwritten
returns-in-Ok-clause-unwritten g c = told_unwritten c.in-Ok.bound c.args.self.now (g.K.Keeper.seen c.args.keeper.now) (g.K.Keeper.seen c.execute.new.keeper) c.execute.result c.requires.agrees c.execute.ensures.writes

pub returns-in-Some-clause-unwritten : goal.returns-in-Some-clause-unwritten
returns-in-Some-clause-unwritten g c = nothing_unwritten (g.K.Keeper.seen c.args.keeper.now) (g.K.Keeper.seen c.args.keeper.now) c.refuse.result refl

pub returns-in-Ok-clause-spared : goal.returns-in-Ok-clause-spared
returns-in-Ok-clause-spared g c = λ spared. absurd (false≢true (sym spared ∙ ap is_none (accepted g (goal.at.returns-in-Ok-clause-spared g c).In-Ok)))
