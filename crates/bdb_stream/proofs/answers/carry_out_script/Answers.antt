use Rattle.bdb_stream.proofs.AnswerLemmas.{at_some, at_timeline}
use Rattle.bdb_stream.proofs.answers.carry_out_script.Goals as goal

pub carry_out-requires-clause-at : goal.carry_out-requires-clause-at
carry_out-requires-clause-at g c = at_some (g.K.Keeper.seen c.args.keeper.now).kept c.args.session.now c.requires.agrees

pub returns-in-Ok-clause-streams : goal.returns-in-Ok-clause-streams
returns-in-Ok-clause-streams g c = λ s a. c.in-Ok.ensures.streams s (at_timeline (g.K.Keeper.seen c.args.keeper.now).kept c.args.session.now s a)

pub returns-in-Err-clause-streams : goal.returns-in-Err-clause-streams
returns-in-Err-clause-streams g c = λ s a. c.in-Err.ensures.streams s (at_timeline (g.K.Keeper.seen c.args.keeper.now).kept c.args.session.now s a)
