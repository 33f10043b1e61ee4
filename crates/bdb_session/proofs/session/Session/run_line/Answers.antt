use Rattle.bdb_session.proofs.BatchLemmas.{line_agrees}
use Rattle.bdb_session.proofs.session.Session.run_line.Goals as goal

pub returns-in-Ok-extend_from_slice-clause-agrees : goal.returns-in-Ok-extend_from_slice-clause-agrees
returns-in-Ok-extend_from_slice-clause-agrees g c =
    line_agrees c.args.line.now c.args.self.now c.apply_within.new.self (g.K.Keeper.seen c.args.keeper.now) (g.K.Keeper.seen c.apply_within.new.keeper) c.in-Ok.reply c.in-Ok.ensures.told c.requires.agrees
