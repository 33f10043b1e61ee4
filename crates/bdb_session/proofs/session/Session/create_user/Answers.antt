use Rattle.std.proofs.Common.{◌∙◌}
use Rattle.bdb_bind.specs.declared.bound.Bound.TheVariants.{CreateUser}
use Rattle.bdb_session.proofs.BoundLemmas.{said_unwritten}
use Rattle.bdb_session.proofs.CreateLemmas.{full_tells, full_unchanged, user_full, user_limit_found}
use Rattle.bdb_session.proofs.session.Session.create_user.Goals as goal

pub add_user-requires-clause-room : goal.add_user-requires-clause-room
add_user-requires-clause-room g c =
    user_limit_found _ c.args.self.now _ _ _ c.self.view_is c.len-users.ensures c.len-rels.ensures c.limit_passed.ensures ∙ c.in-None.is

pub returns-in-Some-clause-told : goal.returns-in-Some-clause-told
returns-in-Some-clause-told g c =
    let k = c.args.self.now in
    let limit = user_limit_found _ k _ _ _ c.self.view_is c.len-users.ensures c.len-rels.ensures c.limit_passed.ensures ∙ c.in-Some.is in
    full_tells (CreateUser c.args.name) k c.args.news.now c.in-Some.what _ _ _ c.requires.nothing (user_full k c.args.name c.in-Some.what limit) c.requires.agrees c.refuse_within.ensures

pub returns-in-Some-clause-unwritten : goal.returns-in-Some-clause-unwritten
returns-in-Some-clause-unwritten g c =
    said_unwritten c.args.self.now.catalog _ (g.K.Keeper.seen c.args.keeper.now) (g.K.Keeper.seen c.refuse_within.new.keeper) c.refuse_within.result c.refuse_within.ensures

pub returns-in-Some-clause-change : goal.returns-in-Some-clause-change
returns-in-Some-clause-change g c =
    let k = c.args.self.now in
    let limit = user_limit_found _ k _ _ _ c.self.view_is c.len-users.ensures c.len-rels.ensures c.limit_passed.ensures ∙ c.in-Some.is in
    full_unchanged (CreateUser c.args.name) k c.args.news.now c.in-Some.what (g.K.Keeper.seen c.args.keeper.now) _ c.requires.nothing (user_full k c.args.name c.in-Some.what limit)
