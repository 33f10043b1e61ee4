use Rattle.std.proofs.Common.{◌∙◌}
use Rattle.bdb_bind.specs.declared.bound.Bound.TheVariants.{CreateRelation}
use Rattle.bdb_session.proofs.BoundLemmas.{said_unwritten}
use Rattle.bdb_session.proofs.CreateLemmas.{full_tells, full_unchanged, relation_full, relation_limit_found}
use Rattle.bdb_session.proofs.session.Session.create_relation.Goals as goal

pub add_relation-requires-clause-room : goal.add_relation-requires-clause-room
add_relation-requires-clause-room g c =
    relation_limit_found _ c.args.self.now _ _ _ c.self.view_is c.len-users.ensures c.len-rels.ensures c.limit_passed.ensures ∙ c.in-None.is

pub returns-in-Some-clause-told : goal.returns-in-Some-clause-told
returns-in-Some-clause-told g c =
    let k = c.args.self.now in
    let limit = relation_limit_found _ k _ _ _ c.self.view_is c.len-users.ensures c.len-rels.ensures c.limit_passed.ensures ∙ c.in-Some.is in
    full_tells (CreateRelation c.args.def) k c.args.news.now c.in-Some.what _ _ _ c.requires.nothing (relation_full k c.args.def c.in-Some.what limit) c.requires.agrees c.refuse_within.ensures

pub returns-in-Some-clause-unwritten : goal.returns-in-Some-clause-unwritten
returns-in-Some-clause-unwritten g c =
    said_unwritten c.args.self.now.catalog _ (g.K.Keeper.seen c.args.keeper.now) (g.K.Keeper.seen c.refuse_within.new.keeper) c.refuse_within.result c.refuse_within.ensures

pub returns-in-Some-clause-change : goal.returns-in-Some-clause-change
returns-in-Some-clause-change g c =
    let k = c.args.self.now in
    let limit = relation_limit_found _ k _ _ _ c.self.view_is c.len-users.ensures c.len-rels.ensures c.limit_passed.ensures ∙ c.in-Some.is in
    full_unchanged (CreateRelation c.args.def) k c.args.news.now c.in-Some.what (g.K.Keeper.seen c.args.keeper.now) _ c.requires.nothing (relation_full k c.args.def c.in-Some.what limit)
