use Rattle.bdb_worlds.proofs.LeaveLemmas.{dropped_is}
use Rattle.bdb_worlds.proofs.leaving.drop_state.Goals as goal

pub returns-in-Ok-write_gone-clause-dropped : goal.returns-in-Ok-write_gone-clause-dropped
returns-in-Ok-write_gone-clause-dropped g c =
    dropped_is _ _ _ c.args.wid _ _ _ c.in-Ok.rows.link c.in-Ok.rows.led.items c.in-Ok.rows.linked.items c.in-Ok.rows.own.items
    c.in-Ok.ensures.kept c.in-Ok.ensures.writes c.in-Ok.ensures.rows c.in-Ok-write_gone.ensures.kept c.in-Ok-write_gone.ensures.writes
