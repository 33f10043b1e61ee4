use Rattle.bdb_session.specs.Machine.{bound_outcome}
use Rattle.bdb_session.specs.Within.{learned}
use Rattle.bdb_session.proofs.EndLemmas.{reads_close, reads_stop, writes_close, writes_stop, writes_unbegun}
use Rattle.bdb_session.proofs.MovesLemmas.{moves_close}
use Rattle.bdb_session.proofs.OutcomeLemmas.{bound_counts}
use Rattle.bdb_session.proofs.WithinLemmas.{begin_stops, step_stops, step_serves}
use Rattle.bdb_session.proofs.session.Session.execute.Goals as goal

pub returns-in-Err-clause-served : goal.returns-in-Err-clause-served
returns-in-Err-clause-served g c =
    begin_stops (λ s. bound_outcome s c.args.bound) c.args.self.now (g.K.Keeper.seen c.args.keeper.now) (g.K.Keeper.seen c.begin.new.keeper) c.in-Err.stop c.requires.still c.in-Err.ensures

pub returns-in-Err-clause-reads : goal.returns-in-Err-clause-reads
returns-in-Err-clause-reads g c = reads_stop c.args.bound c.args.self.now (g.K.Keeper.seen c.args.keeper.now) (g.K.Keeper.seen c.begin.new.keeper) c.in-Err.stop

pub returns-in-Err-clause-writes : goal.returns-in-Err-clause-writes
returns-in-Err-clause-writes g c =
    writes_unbegun c.args.bound c.args.self.now (g.K.Keeper.seen c.args.keeper.now) (g.K.Keeper.seen c.begin.new.keeper) c.in-Err.stop c.in-Err.ensures.writes

pub returns-in-Ok-step-clause-served : goal.returns-in-Ok-step-clause-served
returns-in-Ok-step-clause-served g c =
    step_serves (λ s. bound_outcome s c.args.bound) (bound_counts c.args.bound) c.args.self.now (learned c.args.self.now c.step.new.news) (g.K.Keeper.seen c.args.keeper.now)
    (g.K.Keeper.seen c.begin.new.keeper) (g.K.Keeper.seen c.step.new.keeper) (g.K.Keeper.seen c.close.new.keeper) c.requires.still c.in-Ok.ensures c.in-Ok-step.told c.close.new.self
    c.close.result c.in-Ok-step.ensures.told c.close.ensures

pub returns-in-Ok-step-clause-reads : goal.returns-in-Ok-step-clause-reads
returns-in-Ok-step-clause-reads g c =
    reads_close (learned c.args.self.now c.step.new.news) c.in-Ok-step.told c.args.self.now c.close.new.self (g.K.Keeper.seen c.args.keeper.now) (g.K.Keeper.seen c.begin.new.keeper)
    (g.K.Keeper.seen c.step.new.keeper) (g.K.Keeper.seen c.close.new.keeper) c.in-Ok.ensures c.in-Ok-step.ensures.told.changing.steps.ok.last c.close.result c.close.ensures c.args.bound
    c.in-Ok-step.ensures.reads

pub returns-in-Ok-step-clause-writes : goal.returns-in-Ok-step-clause-writes
returns-in-Ok-step-clause-writes g c =
    writes_close (learned c.args.self.now c.step.new.news) c.in-Ok-step.told c.args.self.now c.close.new.self (g.K.Keeper.seen c.args.keeper.now) (g.K.Keeper.seen c.begin.new.keeper)
    (g.K.Keeper.seen c.step.new.keeper) (g.K.Keeper.seen c.close.new.keeper) c.in-Ok.ensures c.in-Ok-step.ensures.told.changing.steps.ok.last c.close.result c.close.ensures c.args.bound
    c.in-Ok-step.ensures.writes

pub returns-in-Err-step-clause-served : goal.returns-in-Err-step-clause-served
returns-in-Err-step-clause-served g c =
    let mid = g.K.Keeper.seen c.step.new.keeper in
    step_stops (λ s. bound_outcome s c.args.bound) (bound_counts c.args.bound) c.args.self.now (learned c.args.self.now c.step.new.news) (g.K.Keeper.seen c.args.keeper.now)
    (g.K.Keeper.seen c.begin.new.keeper) mid mid c.requires.still c.in-Ok.ensures c.in-Err-step.stop c.in-Err-step.ensures.told

pub returns-in-Err-step-clause-reads : goal.returns-in-Err-step-clause-reads
returns-in-Err-step-clause-reads g c = reads_stop c.args.bound c.args.self.now (g.K.Keeper.seen c.args.keeper.now) (g.K.Keeper.seen c.step.new.keeper) c.in-Err-step.stop

pub returns-in-Err-step-clause-writes : goal.returns-in-Err-step-clause-writes
returns-in-Err-step-clause-writes g c =
    writes_stop c.args.bound c.args.self.now (g.K.Keeper.seen c.args.keeper.now) (g.K.Keeper.seen c.begin.new.keeper) (g.K.Keeper.seen c.step.new.keeper) c.in-Err-step.stop c.in-Ok.ensures.writes
    c.in-Err-step.ensures.writes

pub returns-in-Err-clause-remembers : goal.returns-in-Err-clause-remembers
returns-in-Err-clause-remembers g c = λ t m. tt

pub returns-in-Err-step-clause-remembers : goal.returns-in-Err-step-clause-remembers
returns-in-Err-step-clause-remembers g c = λ t m. tt

pub returns-in-Ok-step-clause-remembers : goal.returns-in-Ok-step-clause-remembers
returns-in-Ok-step-clause-remembers g c =
    moves_close (λ s. bound_outcome s c.args.bound) c.args.self.now c.step.new.news (g.K.Keeper.seen c.args.keeper.now) (g.K.Keeper.seen c.begin.new.keeper) (g.K.Keeper.seen c.step.new.keeper)
    (g.K.Keeper.seen c.close.new.keeper) c.requires.still c.in-Ok.ensures c.in-Ok-step.told c.in-Ok-step.ensures.told c.in-Ok-step.ensures.change c.close.new.self c.close.result c.close.ensures
