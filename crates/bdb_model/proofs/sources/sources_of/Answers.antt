use Rattle.std.proofs.Common.{◌≡◌, ◌∙◌, ◌<◌, ap, sym, subst, rules, Some, None, length}
use Rattle.std.specs.List.{list_all}
use Rattle.bdb_queries.specs.Slots.{must_all_hold}
use Rattle.bdb_model.specs.Sources.{next_source, is_source, missing}
use Rattle.bdb_model.proofs.SourceLemmas.{are_sources, simple_grows, follow_grows, fewer_missing}
use Rattle.bdb_model.proofs.sources.sources_of.Goals as goal

pub returns-in-None : goal.returns-in-None
returns-in-None c =
    let none : next_source c.args.q.now.items c.loop-sources.sources c.args.q.now.conds ≡ None = search rules in
    are_sources c.args.q.now c.loop-sources.sources c.loop-sources.invariant.simple c.loop-sources.invariant.follow none

pub loop-sources-smaller : goal.loop-sources-smaller
loop-sources-smaller c =
    let next : next_source c.args.q.now.items c.loop-sources.sources c.args.q.now.conds ≡ Some c.in-Some.source = search rules in
    let less = fewer_missing c.args.q.now.items c.loop-sources.sources c.args.q.now.conds c.in-Some.source c.loop-sources.invariant.simple next in
    subst (λ new. length (missing c.args.q.now.items new c.args.q.now.conds) < length (missing c.args.q.now.items c.loop-sources.sources c.args.q.now.conds))
    (sym c.in_ok-push-in-Some.ensures.ok) less

pub loop-sources-preserved : goal.loop-sources-preserved
loop-sources-preserved c =
    let next : next_source c.args.q.now.items c.loop-sources.sources c.args.q.now.conds ≡ Some c.in-Some.source = search rules in
    record {
      simple = ap (list_all (is_source c.args.q.now.items)) c.in_ok-push-in-Some.ensures.ok
          ∙ simple_grows c.args.q.now.items c.loop-sources.sources c.args.q.now.conds c.in-Some.source c.loop-sources.invariant.simple next;
      follow = λ slots h. ap (must_all_hold slots) c.in_ok-push-in-Some.ensures.ok
          ∙ follow_grows c.args.q.now.items c.loop-sources.sources c.args.q.now.conds c.in-Some.source c.loop-sources.invariant.simple next c.loop-sources.invariant.follow slots h;
    }
