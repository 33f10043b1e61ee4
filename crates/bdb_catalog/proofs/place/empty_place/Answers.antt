use Rattle.bdb_catalog.proofs.PlaceLemmas.{numbers_kept, place_grammar, place_written, user_lost}
use Rattle.bdb_catalog.proofs.place.empty_place.Goals as goal

pub drop_user_edges-requires-clause-grammar : goal.drop_user_edges-requires-clause-grammar
drop_user_edges-requires-clause-grammar g c = c.in-Ok.ensures.grammar (place_grammar (g.K.Keeper.seen c.args.keeper.now).kept c.args.uid c.requires.base)

pub returns-in-Ok-drop_user_edges-clause-lost : goal.returns-in-Ok-drop_user_edges-clause-lost
returns-in-Ok-drop_user_edges-clause-lost g c =
    user_lost (g.K.Keeper.seen c.args.keeper.now).kept (g.K.Keeper.seen c.put.new.keeper).kept c.args.uid c.in-Ok.ensures.kept (g.K.Keeper.seen c.drop_user_edges.new.keeper).kept
    c.in-Ok-drop_user_edges.ensures.dropped c.in-Ok-drop_user_edges.ensures.others

pub returns-in-Ok-drop_user_edges-clause-writes : goal.returns-in-Ok-drop_user_edges-clause-writes
returns-in-Ok-drop_user_edges-clause-writes g c =
    place_written (g.K.Keeper.seen c.args.keeper.now) (g.K.Keeper.seen c.put.new.keeper) (g.K.Keeper.seen c.drop_user_edges.new.keeper) c.args.uid
    c.in-Ok.ensures.kept c.in-Ok-drop_user_edges.ensures.counts.writes c.in-Ok.ensures.writes c.in-Ok-drop_user_edges.ensures.writes

pub returns-in-Ok-drop_user_edges-clause-keeps : goal.returns-in-Ok-drop_user_edges-clause-keeps
returns-in-Ok-drop_user_edges-clause-keeps g c =
    numbers_kept (g.K.Keeper.seen c.args.keeper.now).kept (g.K.Keeper.seen c.put.new.keeper).kept c.args.uid c.in-Ok.ensures.kept (g.K.Keeper.seen c.drop_user_edges.new.keeper).kept
    c.in-Ok-drop_user_edges.ensures.dropped c.in-Ok-drop_user_edges.ensures.others c.requires.base
