use Rattle.bdb_return.proofs.PlaceLemmas.{any_grammar, place_keeps, place_lost, place_written}
use Rattle.bdb_return.proofs.places.drop_place.Goals as goal

pub drop_user_edges-requires-clause-grammar : goal.drop_user_edges-requires-clause-grammar
drop_user_edges-requires-clause-grammar g c = c.in-Ok.ensures.grammar (any_grammar (g.K.Keeper.seen c.args.keeper.now).kept c.requires.base)

pub returns-in-Ok-drop_user_edges-clause-lost : goal.returns-in-Ok-drop_user_edges-clause-lost
returns-in-Ok-drop_user_edges-clause-lost g c =
    place_lost (g.K.Keeper.seen c.args.keeper.now).kept _ (g.K.Keeper.seen c.drop_user_edges.new.keeper).kept c.args.last
    c.in-Ok.ensures.key_fits c.in-Ok.ensures.kept c.in-Ok-drop_user_edges.ensures.dropped c.in-Ok-drop_user_edges.ensures.others

pub returns-in-Ok-drop_user_edges-clause-writes : goal.returns-in-Ok-drop_user_edges-clause-writes
returns-in-Ok-drop_user_edges-clause-writes g c =
    place_written (g.K.Keeper.seen c.args.keeper.now) (g.K.Keeper.seen c.drop_row.new.keeper) (g.K.Keeper.seen c.drop_user_edges.new.keeper) c.args.last
    c.in-Ok.ensures.kept c.in-Ok-drop_user_edges.ensures.counts.writes c.in-Ok.ensures.writes c.in-Ok-drop_user_edges.ensures.writes

pub returns-in-Ok-drop_user_edges-clause-keeps : goal.returns-in-Ok-drop_user_edges-clause-keeps
returns-in-Ok-drop_user_edges-clause-keeps g c =
    place_keeps (g.K.Keeper.seen c.args.keeper.now).kept _ (g.K.Keeper.seen c.drop_user_edges.new.keeper).kept c.args.last
    c.in-Ok.ensures.kept c.in-Ok-drop_user_edges.ensures.dropped c.in-Ok-drop_user_edges.ensures.others
