use Rattle.std.proofs.Common.{rules}
use Rattle.bdb_key.specs.Grammar.{IsNum}
use Rattle.bdb_catalog.proofs.UserLemmas.{name_may_be, user_grammar, user_added, user_keeps, user_written}
use Rattle.bdb_catalog.proofs.users.add_user.Goals as goal

pub put_live-requires-clause-plain : goal.put_live-requires-clause-plain
put_live-requires-clause-plain g c = name_may_be (g.K.Keeper.seen c.args.keeper.now).kept c.args.uid c.args.name.now c.requires.base

pub add_user_edges-requires-clause-grammar : goal.add_user_edges-requires-clause-grammar
add_user_edges-requires-clause-grammar g c = c.in-Ok.ensures.grammar (user_grammar (g.K.Keeper.seen c.args.keeper.now).kept c.args.uid c.args.name.now c.requires.base)

pub returns-in-Ok-add_user_edges-clause-added : goal.returns-in-Ok-add_user_edges-clause-added
returns-in-Ok-add_user_edges-clause-added g c =
    let old = (g.K.Keeper.seen c.args.keeper.now).kept in
    let num : IsNum c.args.uid = search rules in
    user_added old (g.K.Keeper.seen c.put_live.new.keeper).kept (g.K.Keeper.seen c.add_user_edges.new.keeper).kept c.args.uid c.args.name.now
    num (name_may_be old c.args.uid c.args.name.now c.requires.base) c.in-Ok.ensures.kept c.in-Ok-add_user_edges.ensures.added c.in-Ok-add_user_edges.ensures.others

pub returns-in-Ok-add_user_edges-clause-writes : goal.returns-in-Ok-add_user_edges-clause-writes
returns-in-Ok-add_user_edges-clause-writes g c =
    user_written (g.K.Keeper.seen c.args.keeper.now) (g.K.Keeper.seen c.put_live.new.keeper) (g.K.Keeper.seen c.add_user_edges.new.keeper) c.args.uid c.args.name.now
    c.in-Ok.ensures.kept c.in-Ok-add_user_edges.ensures.counts.writes c.in-Ok.ensures.writes c.in-Ok-add_user_edges.ensures.writes

pub returns-in-Ok-add_user_edges-clause-keeps : goal.returns-in-Ok-add_user_edges-clause-keeps
returns-in-Ok-add_user_edges-clause-keeps g c =
    user_keeps (g.K.Keeper.seen c.args.keeper.now).kept (g.K.Keeper.seen c.put_live.new.keeper).kept (g.K.Keeper.seen c.add_user_edges.new.keeper).kept c.args.uid c.args.name.now
    c.in-Ok.ensures.kept c.in-Ok-add_user_edges.ensures.added c.in-Ok-add_user_edges.ensures.others c.requires.base
