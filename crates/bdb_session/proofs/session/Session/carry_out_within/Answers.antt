use Rattle.std.proofs.Common.{◌≡◌, ap}
use Rattle.bdb_session.specs.Known.{Known, Agrees}
use Rattle.bdb_session.specs.Machine.{bound_outcome, command_outcome}
use Rattle.bdb_session.specs.Outcome.{Outcome, Refused, State, state_after}
use Rattle.bdb_session.proofs.BatchLists.{alters_where, nothing_alters}
use Rattle.bdb_session.proofs.BindLemmas.{binds_fitting, binds_outcome, refuses_outcome}
use Rattle.bdb_session.proofs.WithinLemmas.{memory_tells, refused_tells, tells_where}
use Rattle.bdb_update.proofs.CallLemmas.{gone_itself}
use Rattle.bdb_session.proofs.session.Session.carry_out_within.Given.{Over}
use Rattle.bdb_session.proofs.session.Session.carry_out_within.Goals as goal
use Rattle.bdb_session.proofs.session.Session.carry_out_within.Goals.{In-Ok, In-Some}

-- what comes of the command is what comes of what is bound
bound : (g : Over) (c : In-Ok g) (s : State) → Agrees (g.K.Keeper.seen c.args.keeper.now).kept c.args.self.now s → command_outcome s c.args.command ≡ bound_outcome s c.in-Ok.bound
bound g c = binds_outcome c.args.self.now _ (ap (λ (k : Known). k.catalog) c.self.view_is) c.args.command _ c.in-Ok.bound c.in-Ok.ensures.accepted c.in-Ok.ensures.bound

-- what is refused as it is bound is refused as a command
refused : (g : Over) (c : In-Some g) (s : State) → Agrees (g.K.Keeper.seen c.args.keeper.now).kept c.args.self.now s → command_outcome s c.args.command ≡ Refused c.in-Some.refusal
refused g c =
    refuses_outcome c.args.self.now _ (ap (λ (k : Known). k.catalog) c.self.view_is) c.args.command _ c.in-Err.error c.in-Some.refusal c.in-Some.ensures c.in-Err.ensures.refused

pub execute_within-requires-clause-fits : goal.execute_within-requires-clause-fits
execute_within-requires-clause-fits g c =
    binds_fitting c.args.self.now _ (ap (λ (k : Known). k.catalog) c.self.view_is) c.args.command _ c.in-Ok.bound c.requires.agrees c.requires.allowed
    c.in-Ok.ensures.accepted c.in-Ok.ensures.bound

pub returns-in-Ok-clause-told : goal.returns-in-Ok-clause-told
returns-in-Ok-clause-told g c =
    tells_where (λ s. command_outcome s c.args.command) (λ s. bound_outcome s c.in-Ok.bound) c.args.self.now c.execute_within.new.self (g.K.Keeper.seen c.args.keeper.now)
    (g.K.Keeper.seen c.execute_within.new.keeper) c.execute_within.result (bound g (goal.at.returns-in-Ok-clause-told g c).In-Ok) c.execute_within.ensures.told

pub returns-in-Some-clause-told : goal.returns-in-Some-clause-told
returns-in-Some-clause-told g c =
    refused_tells (λ s. command_outcome s c.args.command) c.in-Some.refusal c.args.self.now (g.K.Keeper.seen c.args.keeper.now) (g.K.Keeper.seen c.refuse_within.new.keeper)
    c.refuse_within.result c.requires.agrees (refused g (goal.at.returns-in-Some-clause-told g c).In-Some) c.refuse_within.ensures

pub returns-in-None-clause-told : goal.returns-in-None-clause-told
returns-in-None-clause-told g c =
    let old = g.K.Keeper.seen c.args.keeper.now in
    memory_tells _ c.args.self.now c.args.self.now old old (g.K.Keeper.seen c.undo.new.self) (gone_itself old) c.undo.ensures.undone

pub returns-in-Ok-clause-altered : goal.returns-in-Ok-clause-altered
returns-in-Ok-clause-altered g c =
    alters_where (λ s. command_outcome s c.args.command) (λ s. bound_outcome s c.in-Ok.bound) c.args.self.now c.execute_within.new.self (g.K.Keeper.seen c.args.keeper.now)
    c.execute_within.result (bound g (goal.at.returns-in-Ok-clause-altered g c).In-Ok) c.execute_within.ensures.altered

pub returns-in-Some-clause-altered : goal.returns-in-Some-clause-altered
returns-in-Some-clause-altered g c =
    nothing_alters (λ s. command_outcome s c.args.command) c.args.self.now (g.K.Keeper.seen c.args.keeper.now) c.refuse_within.result
    (λ s a. ap (λ (o : Outcome). (state_after s o).base) (refused g (goal.at.returns-in-Some-clause-altered g c).In-Some s a))
