use Rattle.bdb_entries.proofs.TupleLemmas.{holding}
use Rattle.bdb_decode.proofs.JudgeLemmas.{formed_now}
use Rattle.bdb_decode.proofs.judging.are_formed.Goals as goal

pub returns-in-Ok-clause-formed : goal.returns-in-Ok-clause-formed
returns-in-Ok-clause-formed g c =
    let w = c.in-Ok-true in
    formed_now (g.K.Keeper.seen c.args.keeper.now).kept (g.K.Keeper.seen c.others_are_bare.new.keeper).kept c.in-Ok.fits w.ensures.reading.kept c.requires.format
    (holding _ _ w.field-0 w.field-0-test w.ensures.bare) c.in-Ok.ensures.grammar
